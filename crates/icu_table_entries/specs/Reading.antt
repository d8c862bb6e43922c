-- Reading a JSON value, or its first fault.
use Rattle.std.specs.Prelude.{◌≡◌, ℕ, ◌+◌, List, [], ◌∷◌, Option, Some, None, option_map, option_and_then, Result, Ok, Err, nat_lt}
use Rattle.std.specs.Prelude.{if◌then◌else◌}
use Rattle.serde_json.specs.Data.{Data, Items, no_items, item}
use Rattle.serde_json.specs.Find.{get, as_str, as_array, as_object, as_number, as_u64}
use Rattle.serde_json.specs.Read.{read}
use Rattle.serde_json.specs.Written.{has_float}
use Rattle.icu_table_entries.specs.Keys.{name_of}
use Rattle.icu_table_entries.specs.declared.error.Key.{Key}
use Rattle.icu_table_entries.specs.declared.error.Position.{Position}
use Rattle.icu_table_entries.specs.declared.error.TableError.{TableError}
use Rattle.icu_table_entries.specs.declared.error.TableError.TheVariants.{NotJson, Float, Missing, WrongKind, Entry, OutOfMemory}

-- goes on with what was read, unless it was rejected
infixl 10 ◌>>=◌
abbrev pub ◌>>=◌ : {A B : Type 0} → Result A TableError → (A → Result B TableError) → Result B TableError
(Ok x) >>= f = f x
(Err e) >>= f = Err e

-- The error is that of the reading; `OutOfMemory` may be reported in any case.
abbrev pub Fails : {Y : Type 0} → TableError → Result Y TableError → Type 0
Fails NotJson read = read ≡ Err NotJson
Fails Float read = read ≡ Err Float
Fails (Missing key) read = read ≡ Err (Missing key)
Fails (WrongKind key) read = read ≡ Err (WrongKind key)
Fails (Entry key index fault) read = read ≡ Err (Entry key index fault)
Fails OutOfMemory read = Unit {0}

-- The result of a call, seen by view, is that of the reading; `OutOfMemory` may be reported in any case.
abbrev pub Gives : {X Y : Type 0} → (X → Y) → Result X TableError → Result Y TableError → Type 0
Gives view (Ok x) read = read ≡ Ok (view x)
Gives view (Err e) read = Fails e read

-- what was found, or this error
abbrev pub ok_or : {A : Type 0} → Option A → TableError → Result A TableError
ok_or None e = Err e
ok_or (Some x) e = Ok x

-- the items of an array
abbrev pub list_of : Items → List Data
list_of no_items = []
list_of (item d ds) = d ∷ list_of ds

-- the value under a required key
unfoldable pub member_at : Key → Data → Result Data TableError
member_at key d = ok_or (get (name_of key) d) (Missing key)

-- a member that may be absent
abbrev pub optional : {A : Type 0} → (Data → Result A TableError) → Option Data → Result (Option A) TableError
optional read None = Ok None
optional read (Some d) = do
  x ← read d
  Ok (Some x)

-- what is read under a key that may be absent
unfoldable pub optional_at : {A : Type 0} → (Data → Result A TableError) → Key → Data → Result (Option A) TableError
optional_at read key d = optional read (get (name_of key) d)

-- the value of a text: JSON, none of whose numbers is one that isn't a 64-bit whole number
unfoldable pub value_of : List ℕ → Result Data TableError
value_of text = do
  d ← ok_or (read text) NotJson
  if has_float d then Err Float else Ok d

-- an object under a key
unfoldable pub object_in : Key → Data → Result Data TableError
object_in key d = do
  members ← ok_or (as_object d) (WrongKind key)
  Ok d

-- a text
unfoldable pub text_in : Key → Data → Result (List ℕ) TableError
text_in key d = ok_or (as_str d) (WrongKind key)

-- a list
unfoldable pub list_in : Key → Data → Result (List Data) TableError
list_in key d = ok_or (option_map list_of (as_array d)) (WrongKind key)

-- a number, if it is below 256
abbrev pub as_byte : ℕ → Option ℕ
as_byte n = if nat_lt n 256 then Some n else None

-- a whole number below 256
unfoldable pub byte_in : Key → Data → Result ℕ TableError
byte_in key d = ok_or (option_and_then as_byte (option_and_then as_u64 (as_number d))) (WrongKind key)

-- the text under a required key
unfoldable pub text_at : Key → Data → Result (List ℕ) TableError
text_at key d = do
  x ← member_at key d
  text_in key x

-- the list under a required key
unfoldable pub list_at : Key → Data → Result (List Data) TableError
list_at key d = do
  x ← member_at key d
  list_in key x

-- exactly two members
unfoldable pub two_of : Key → List Data → Result (Data × Data) TableError
two_of key [] = Err (WrongKind key)
two_of key (a ∷ []) = Err (WrongKind key)
two_of key (a ∷ b ∷ []) = Ok (a, b)
two_of key (a ∷ b ∷ (c ∷ cs)) = Err (WrongKind key)

-- exactly three members
unfoldable pub three_of : Key → List Data → Result (Data × (Data × Data)) TableError
three_of key [] = Err (WrongKind key)
three_of key (a ∷ []) = Err (WrongKind key)
three_of key (a ∷ b ∷ []) = Err (WrongKind key)
three_of key (a ∷ b ∷ c ∷ []) = Ok (a, (b, c))
three_of key (a ∷ b ∷ c ∷ (d ∷ ds)) = Err (WrongKind key)

-- exactly four members
unfoldable pub four_of : Key → List Data → Result (Data × (Data × (Data × Data))) TableError
four_of key [] = Err (WrongKind key)
four_of key (a ∷ []) = Err (WrongKind key)
four_of key (a ∷ b ∷ []) = Err (WrongKind key)
four_of key (a ∷ b ∷ c ∷ []) = Err (WrongKind key)
four_of key (a ∷ b ∷ c ∷ d ∷ []) = Ok (a, (b, (c, d)))
four_of key (a ∷ b ∷ c ∷ d ∷ (e ∷ es)) = Err (WrongKind key)

-- a list of exactly two values
unfoldable pub pair_in : Key → Data → Result (Data × Data) TableError
pair_in key d = do
  values ← list_in key d
  two_of key values

-- a list of exactly three values
unfoldable pub triple_in : Key → Data → Result (Data × (Data × Data)) TableError
triple_in key d = do
  values ← list_in key d
  three_of key values

-- a list of exactly four values
unfoldable pub four_in : Key → Data → Result (Data × (Data × (Data × Data))) TableError
four_in key d = do
  values ← list_in key d
  four_of key values

-- a list of two texts
unfoldable pub texts_in : Key → Data → Result (List ℕ × List ℕ) TableError
texts_in key d = do
  pair ← pair_in key d
  first ← text_in key pair.0
  second ← text_in key pair.1
  Ok (first, second)

-- the list of two texts under a required key
unfoldable pub texts_at : Key → Data → Result (List ℕ × List ℕ) TableError
texts_at key d = do
  x ← member_at key d
  texts_in key x

-- each entry in turn, with its place
unfoldable pub entries_at : {A : Type 0} → (Position → Data → Result A TableError) → Key → ℕ → List Data → Result (List A) TableError
entries_at read key i [] = Ok []
entries_at read key i (d ∷ ds) = do
  x ← read (record { key = key; index = i }) d
  xs ← entries_at read key (i + 1) ds
  Ok (x ∷ xs)

-- the entries of a list
unfoldable pub entries_in : {A : Type 0} → (Position → Data → Result A TableError) → Key → Data → Result (List A) TableError
entries_in read key d = do
  values ← list_in key d
  entries_at read key 0 values

-- the entries under a required key
unfoldable pub entries_under : {A : Type 0} → (Position → Data → Result A TableError) → Key → Data → Result (List A) TableError
entries_under read key d = do
  x ← member_at key d
  entries_in read key x
