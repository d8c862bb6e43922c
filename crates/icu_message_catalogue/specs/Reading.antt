-- Faults of catalogues, and what a call gives that reads one.
use Rattle.std.specs.Prelude.{◌≡◌, ℕ, List, Option, Some, None, Result, Ok, Err, string_bytes}
use Rattle.icu_message.specs.declared.error.ParseError.{ParseError}
use Rattle.icu_message_catalogue.specs.declared.error.CatalogueError.{CatalogueError}
use Rattle.icu_message_catalogue.specs.declared.error.CatalogueError.TheVariants.{NotJson, NotAnObject, WrongKind, Message, OutOfMemory}

-- what is wrong with a text that isn't a catalogue
pub data Fault : Type 0 where
  not_json : Fault
  not_an_object : Fault
  wrong_kind : List ℕ → Fault
  bad_message : List ℕ → ParseError → Fault

-- goes on with what was read, unless it was rejected
infixl 10 ◌>>=◌
abbrev pub ◌>>=◌ : {A B : Type 0} → Result A Fault → (A → Result B Fault) → Result B Fault
(Ok x) >>= f = f x
(Err e) >>= f = Err e

-- what was found, or this fault
abbrev pub ok_or : {A : Type 0} → Option A → Fault → Result A Fault
ok_or None e = Err e
ok_or (Some x) e = Ok x

-- The error is the fault of the reading; `OutOfMemory` may be reported in any case.
abbrev pub Fails : {Y : Type 0} → CatalogueError → Result Y Fault → Type 0
Fails NotJson read = read ≡ Err not_json
Fails NotAnObject read = read ≡ Err not_an_object
Fails (WrongKind id) read = read ≡ Err (wrong_kind (string_bytes id))
Fails (Message id fault) read = read ≡ Err (bad_message (string_bytes id) fault)
Fails OutOfMemory read = Unit {0}

-- The result of a call, seen by view, is that of the reading; `OutOfMemory` may be reported in any case.
abbrev pub Gives : {X Y : Type 0} → (X → Y) → Result X CatalogueError → Result Y Fault → Type 0
Gives view (Ok x) read = read ≡ Ok (view x)
Gives view (Err e) read = Fails e read
