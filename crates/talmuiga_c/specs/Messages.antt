-- What calls with a message leave, by their status: a message that is opened, or the text of a message.
use Rattle.std.specs.Prelude.{◌≡◌, ℕ, ◌⊎◌, List, Option, Some, None, Result, Ok, Err, if◌then◌else◌}
use Rattle.std.specs.Borrow.{Bor}
use Rattle.std.specs.Str.{is_utf8}
use Rattle.std.specs.Str.Lossy.{utf8_valid_len}
use Rattle.decimal_lines.specs.SingleText.{HoldsIfRoom}
use Rattle.icu_message.specs.declared.error.WriteError.{WriteError}
use Rattle.kept_messages.specs.Arguments.{GivenData}
use Rattle.kept_messages.specs.Messages.{MessageData}
use Rattle.kept_messages.specs.Opening.{message_of}
use Rattle.kept_messages.specs.Writing.{IsFault, IsWritten}
use Rattle.kept_messages.specs.declared.error.OpenError.{OpenError}
use Rattle.talmuiga_c.specs.Asked.{text_in}
use Rattle.talmuiga_c.specs.Endings.{IsUntouched, done, out_of_memory, tables_refused, words_refused}
use Rattle.talmuiga_c.specs.Handle.{empty, holding_message}
use Rattle.talmuiga_c.specs.MessageFaults.{open_fault}
use Rattle.talmuiga_c.specs.MessageStatuses.{message_refused, no_word, open_status, word_of, write_status}
use Rattle.talmuiga_c.specs.SkeletonFaults.{no_fault, not_utf8_at}
use Rattle.talmuiga_c.specs.Skeletons.{IsPut, locale_asked}
use Rattle.talmuiga_c.specs.declared.fault.Fault.{Fault}
use Rattle.talmuiga_c.specs.declared.message_status.WordAt.{WordAt}
use Rattle.talmuiga_c.specs.declared.skeletons.Rejected.{Rejected}
use Rattle.talmuiga_c.specs.declared.held.Held.{Held}

-- a text that was read
abbrev pub read_text : Result (Bor (List ℕ)) Fault → Result (List ℕ) Fault
read_text (Ok text) = Ok text.now
read_text (Err fault) = Err fault

-- the text of some bytes, or the first byte that isn't UTF-8
unfoldable pub text_asked : List ℕ → Result (List ℕ) Fault
text_asked bytes = if is_utf8 bytes then Ok bytes else Err (not_utf8_at (utf8_valid_len bytes))

-- nothing is asked for, with this status and this fault
abbrev pub rejected : ℕ → Fault → Result MessageData Rejected
rejected status fault = Err (record { status = status; fault = fault })

-- a message, or in numbers why there is none
abbrev pub numbered : Result MessageData OpenError → Result MessageData Rejected
numbered (Ok message) = Ok message
numbered (Err error) = rejected (open_status error) (open_fault error)

-- the message of a text with the rules of tables, or in numbers why there is none
abbrev pub message_numbered : List ℕ → List ℕ → List ℕ → Result MessageData Rejected
message_numbered tables locale text = numbered (message_of tables locale text)

-- the message that is asked for: the locale is judged first, then whether text and tables are UTF-8, then the text, and then the tables
abbrev pub message_from : Option (List ℕ) → Result (List ℕ) Fault → Option (List ℕ) → Result MessageData Rejected
message_from None text tables = rejected words_refused no_fault
message_from (Some locale) (Err fault) tables = rejected message_refused fault
message_from (Some locale) (Ok text) None = rejected tables_refused no_fault
message_from (Some locale) (Ok text) (Some tables) = message_numbered tables locale text

-- the same of bytes
abbrev pub message_asked : List ℕ → List ℕ → List ℕ → Result MessageData Rejected
message_asked tables locale text = message_from (locale_asked locale) (text_asked text) (text_in tables)

-- memory ran out
abbrev pub no_memory : Rejected
no_memory = record { status = out_of_memory; fault = no_fault }

-- the result of a call is what is asked for; out of memory may come in place of it
abbrev pub AsksFor : Result MessageData Rejected → Result MessageData Rejected → Type 0
AsksFor (Ok message) asked = asked ≡ Ok message
AsksFor (Err why) asked = (why ≡ no_memory) ⊎ (asked ≡ Err why)

-- Nothing is opened, and status and fault say why.
pub record StaysClosed (why : Rejected) (held : Option (Option Held)) (fault : Fault) (status : ℕ) : Type 0 where
  pub closed : held ≡ empty
  pub fault_is : fault ≡ why.fault
  pub status_is : status ≡ why.status

-- a message is opened, and there is no fault
pub record IsOpened (message : MessageData) (held : Option (Option Held)) (fault : Fault) (status : ℕ) : Type 0 where
  pub opened : held ≡ holding_message message
  pub no_fault : fault ≡ no_fault
  pub status_is : status ≡ done

-- the message that is asked for is opened, or nothing is; out of memory may come in place of both
abbrev pub OpensMessage : Result MessageData Rejected → Option (Option Held) → Fault → ℕ → Type 0
OpensMessage (Ok message) held fault status = IsOpened message held fault status ⊎ StaysClosed no_memory held fault status
OpensMessage (Err why) held fault status = StaysClosed no_memory held fault status ⊎ StaysClosed why held fault status

-- an output holds the text of a message of n bytes at its front if it fits, and else what it held before
pub record HoldsMessage (message : MessageData) (given : List GivenData) (old new : List ℕ) (n : ℕ) : Type 0 where
  pub text : List ℕ
  pub is_written : IsWritten message given text
  pub holds : HoldsIfRoom old new text n

-- The text of a message is written if it has room, and its length is returned.
pub record IsPutMessage (message : MessageData) (given : List GivenData) (old new : List ℕ) (n : ℕ) (name : WordAt) (status : ℕ) : Type 0 where
  pub text : List ℕ
  pub is_written : IsWritten message given text
  pub put : IsPut text old new n status
  pub no_name : name ≡ no_word

-- A message isn't written: nothing is, and the status says why, and the name of which argument.
pub record IsNoMessage (message : MessageData) (given : List GivenData) (old new : List ℕ) (n : ℕ) (name : WordAt) (status : ℕ) : Type 0 where
  pub error : WriteError
  pub why : IsFault message given error
  pub untouched : IsUntouched old new n
  pub name_is : name ≡ word_of error
  pub status_is : status ≡ write_status error

-- the text of a message, or why there is none
abbrev pub IsWrittenMessage : MessageData → List GivenData → List ℕ → List ℕ → ℕ → WordAt → ℕ → Type 0
IsWrittenMessage message given old new n name status =
    IsPutMessage message given old new n name status ⊎ IsNoMessage message given old new n name status
