-- How calls with messages end, besides as those with formatters.
use Rattle.std.specs.Prelude.{ℕ}
use Rattle.icu_message.specs.declared.piece.Word.{Word}
use Rattle.icu_message.specs.declared.error.WriteError.{WriteError}
use Rattle.icu_message.specs.declared.error.WriteError.TheVariants as write
use Rattle.kept_messages.specs.declared.error.OpenError.{OpenError}
use Rattle.kept_messages.specs.declared.error.OpenError.TheVariants as open_error
use Rattle.talmuiga_c.specs.Endings.{no_data, out_of_memory, tables_refused}
use Rattle.talmuiga_c.specs.declared.message_status.WordAt.{WordAt}

-- a text isn't a message
abbrev pub message_refused : ℕ
message_refused = 15

-- an argument isn't given, or not in the form of its place
abbrev pub missing_argument : ℕ
missing_argument = 16

-- an argument is of the other kind
abbrev pub not_a_number : ℕ
not_a_number = 17

abbrev pub not_a_text : ℕ
not_a_text = 18

-- a name, a text or a skeleton isn't UTF-8
abbrev pub not_utf8 : ℕ
not_utf8 = 19

-- a formatter was opened without a skeleton
abbrev pub no_form : ℕ
no_form = 20

-- there are fewer places or names
abbrev pub no_such_place : ℕ
no_such_place = 21

-- that of a message that isn't opened
abbrev pub open_status : OpenError → ℕ
open_status (open_error.Message e) = message_refused
open_status (open_error.Refused e) = tables_refused
open_status open_error.NoCardinalRules = no_data
open_status open_error.NoOrdinalRules = no_data
open_status open_error.OutOfMemory = out_of_memory

-- that of a message that isn't written
abbrev pub write_status : WriteError → ℕ
write_status (write.MissingArgument w) = missing_argument
write_status (write.NotANumber w) = not_a_number
write_status (write.NotAText w) = not_a_text
write_status write.OutOfMemory = out_of_memory

-- where a word stands
abbrev pub word_at : Word → WordAt
word_at w = record { start = w.start; end = w.end }

-- there is none
abbrev pub no_word : WordAt
no_word = record { start = 0; end = 0 }

-- the name of the argument by which a message isn't written
abbrev pub word_of : WriteError → WordAt
word_of (write.MissingArgument w) = word_at w
word_of (write.NotANumber w) = word_at w
word_of (write.NotAText w) = word_at w
word_of write.OutOfMemory = no_word
