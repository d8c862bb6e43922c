-- The message that a text, tables and a locale open, or why there is none.
use Rattle.std.specs.Prelude.{◌≡◌, ℕ, Bool, true, false, List, [], Result, Ok, Err, if◌then◌else◌}
use Rattle.icu_decimal_options.specs.Preferences.{locale_id}
use Rattle.icu_message.specs.Reading.{pieces_of}
use Rattle.icu_message.specs.declared.error.ParseError.{ParseError}
use Rattle.icu_message.specs.declared.error.ParseError.TheVariants as parse
use Rattle.icu_message.specs.declared.piece.Piece.{Piece}
use Rattle.icu_plurals.specs.Rules.{Rule}
use Rattle.icu_provider.specs.Answer.{Refusal}
use Rattle.icu_table_entries.specs.Answering.{optional_answer}
use Rattle.icu_table_entries.specs.declared.error.TableError.{TableError}
use Rattle.icu_table_entries.specs.declared.error.TableError.TheVariants as table
use Rattle.icu_tables.specs.Tables.{TablesData, tables_of}
use Rattle.kept_messages.specs.Picking.{picks_by_ordinals, picks_by_plurals}
use Rattle.kept_messages.specs.declared.error.OpenError.{OpenError}
use Rattle.kept_messages.specs.declared.error.OpenError.TheVariants.{Message, Refused, NoCardinalRules, NoOrdinalRules, OutOfMemory}
use Rattle.kept_messages.specs.Messages.{MessageData}

-- There is nothing for this reason; `OutOfMemory` may be reported in place of any result.
abbrev pub Stops : {X : Type 0} → OpenError → Result X OpenError → Type 0
Stops (Message e) opened = opened ≡ Err (Message e)
Stops (Refused e) opened = opened ≡ Err (Refused e)
Stops NoCardinalRules opened = opened ≡ Err NoCardinalRules
Stops NoOrdinalRules opened = opened ≡ Err NoOrdinalRules
Stops OutOfMemory opened = Unit {0}

-- The result of a call is this; `OutOfMemory` may be reported in place of any result.
abbrev pub Opens : {X : Type 0} → Result X OpenError → Result X OpenError → Type 0
Opens (Ok x) opened = opened ≡ Ok x
Opens (Err e) opened = Stops e opened

-- why there is no message if a text isn't one
abbrev pub message_error : ParseError → OpenError
message_error parse.OutOfMemory = OutOfMemory
message_error e = Message e

-- why there is no message if the text of tables is rejected
abbrev pub table_error : TableError → OpenError
table_error table.OutOfMemory = OutOfMemory
table_error e = Refused e

-- what is made of the pieces of a text, or its fault
abbrev pub parsed_then : {X : Type 0} → Result (List Piece) ParseError → (List Piece → Result X OpenError) → Result X OpenError
parsed_then (Ok ps) next = next ps
parsed_then (Err e) next = Err (Message e)

-- what is made of tables that were read, or what rejects them
abbrev pub read_then : {X : Type 0} → Result TablesData TableError → (TablesData → Result X OpenError) → Result X OpenError
read_then (Ok tables) next = next tables
read_then (Err e) next = Err (Refused e)

-- what is made of rules, if there are some
abbrev pub rules_then : {X : Type 0} → Result (List Rule) OpenError → (List Rule → Result X OpenError) → Result X OpenError
rules_then (Ok rules) next = next rules
rules_then (Err e) next = Err e

-- the rules that tables answer, or that there are none
abbrev pub answered : OpenError → Result (List Rule) Refusal → Result (List Rule) OpenError
answered lacking (Ok rules) = Ok rules
answered lacking (Err refusal) = Err lacking

-- the cardinal rules of a locale, if pieces pick by them; else none are needed, and each number is `other`
abbrev pub cardinal_in : TablesData → List ℕ → List Piece → Result (List Rule) OpenError
cardinal_in tables locale ps =
    if picks_by_plurals ps then answered NoCardinalRules (optional_answer tables.rules (locale_id locale)) else Ok []

-- the same of ordinal rules
abbrev pub ordinal_in : TablesData → List ℕ → List Piece → Result (List Rule) OpenError
ordinal_in tables locale ps =
    if picks_by_ordinals ps then answered NoOrdinalRules (optional_answer tables.ordinals (locale_id locale)) else Ok []

-- the message of pieces with the rules of tables
abbrev pub with_rules : List ℕ → List ℕ → List Piece → TablesData → Result MessageData OpenError
with_rules locale text ps tables =
    rules_then (cardinal_in tables locale ps) (λ cardinal.
    rules_then (ordinal_in tables locale ps) (λ ordinal.
    Ok (record { message = record { text = text; pieces = ps }; cardinal = cardinal; ordinal = ordinal })))

-- the message of pieces with the rules of a text of tables
abbrev pub with_tables : List ℕ → List ℕ → List ℕ → List Piece → Result MessageData OpenError
with_tables tables locale text ps = read_then (tables_of tables) (with_rules locale text ps)

-- The message of a text with the rules of its locale: the text is judged first, then the tables, then whether these have the cardinal
-- rules, and then the ordinal rules, each only if the message picks by them.
abbrev pub message_of : List ℕ → List ℕ → List ℕ → Result MessageData OpenError
message_of tables locale text = parsed_then (pieces_of text) (with_tables tables locale text)
