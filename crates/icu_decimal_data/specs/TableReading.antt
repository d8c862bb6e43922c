-- Reading a table from its bytes, and the first damage.
use Rattle.std.specs.Prelude.{◌≡◌, ℕ, zero, suc, ◌+◌, ◌-◌, ◌*◌, min, Bool, false, true, not, ◌&&◌, ◌||◌, nat_lt, nat_le, ◌==◌}
use Rattle.std.specs.Prelude.{if◌then◌else◌, List, [], ◌∷◌, length, take, drop, slice_index, slice_range, Option, Some, None, Result, Ok, Err, IsOk}
use Rattle.std.specs.Prelude.{◌≤◌, ◌<◌}
use Rattle.std.specs.List.{list_all}
use Rattle.std.specs.Option.{option_eq}
use Rattle.std.specs.Cmp.Lexicographic.{pointwise}
use Rattle.fixed_decimal.specs.Size.{finest}
use Rattle.icu_pattern.specs.Patterns.{PatternText, placeholder_alone, same_pattern}
use Rattle.icu_decimal_data.specs.PackedTable.{is_pattern}
use Rattle.icu_decimal_data.specs.CompactTable.{TableEntry, PatternElements}
use Rattle.icu_decimal_data.specs.TableBytes.{head_len, slots_start, slot_len, record_len}

-- a number in two bytes, the low one first
abbrev pub two_byte_number : List ℕ → ℕ → ℕ
two_byte_number bytes i = slice_index bytes i + 256 * slice_index bytes (i + 1)

-- ---- what stands in the bytes

-- the place in a slot's seven bytes
abbrev pub placeholder_in : List ℕ → Option ℕ
placeholder_in slot = if slice_index slot 0 == 2 then Some (two_byte_number slot 5) else None

-- the pattern of a slot's seven bytes
abbrev pub pattern_in : List ℕ → List ℕ → PatternText
pattern_in pool slot = record {
  placeholder = placeholder_in slot;
  literal = slice_range pool (two_byte_number slot 1) (two_byte_number slot 1 + two_byte_number slot 3);
}

-- what a slot's seven bytes hold: a pattern, or nothing
abbrev pub slot_in : List ℕ → List ℕ → Option PatternText
slot_in pool slot = if slice_index slot 0 == 0 then None else Some (pattern_in pool slot)

-- n slots
abbrev pub slots_in : List ℕ → ℕ → List ℕ → List (Option PatternText)
slots_in pool zero bytes = []
slots_in pool (suc n) bytes = slot_in pool (take slot_len bytes) ∷ slots_in pool n (drop slot_len bytes)

-- the slot of a number below 8 in the 56 bytes of a record's slots
abbrev pub slot_at : List ℕ → ℕ → List ℕ
slot_at bytes j = slice_range bytes (slot_len * j) (slot_len * j + slot_len)

-- the patterns in the 56 bytes of a record's slots
abbrev pub elements_in : List ℕ → List ℕ → PatternElements
elements_in pool bytes = record {
  explicit_zero = slot_in pool (slot_at bytes 0);
  explicit_one = slot_in pool (slot_at bytes 1);
  zero = slot_in pool (slot_at bytes 2);
  one = slot_in pool (slot_at bytes 3);
  two = slot_in pool (slot_at bytes 4);
  few = slot_in pool (slot_at bytes 5);
  many = slot_in pool (slot_at bytes 6);
  other = pattern_in pool (slot_at bytes 7);
}

-- the entry of a record's 58 bytes
abbrev pub entry_in : List ℕ → List ℕ → TableEntry
entry_in pool bytes = record {
  log10_type = slice_index bytes 0;
  exponent = slice_index bytes 1;
  elements = elements_in pool (drop 2 bytes);
}

-- n entries
abbrev pub entries_in : List ℕ → ℕ → List ℕ → List TableEntry
entries_in pool zero bytes = []
entries_in pool (suc n) bytes = entry_in pool (take record_len bytes) ∷ entries_in pool n (drop record_len bytes)

-- how many entries there are
abbrev pub count_in : List ℕ → ℕ
count_in bytes = two_byte_number bytes 0

-- where the pool begins
abbrev pub pool_start : List ℕ → ℕ
pool_start bytes = head_len + record_len * count_in bytes

-- the literals, behind the records
abbrev pub pool_in : List ℕ → List ℕ
pool_in bytes = drop (pool_start bytes) bytes

-- the table in the bytes
unfoldable pub table_in : List ℕ → List TableEntry
table_in bytes = entries_in (pool_in bytes) (count_in bytes) (drop head_len bytes)

-- ---- the first damage

-- goes on with what was found, unless there is damage
infixl 10 ◌>>=◌
abbrev pub ◌>>=◌ : {A B : Type 0} → Result A ℕ → (A → Result B ℕ) → Result B ℕ
(Ok x) >>= f = f x
(Err e) >>= f = Err e

-- goes on where a test does not reject
abbrev pub unless : Bool → ℕ → Result ℕ ℕ → Result ℕ ℕ
unless true byte rest = Err byte
unless false byte rest = rest

-- a kind above 2, an absent last slot, or a place although the backend has no places
abbrev pub is_wrong_kind : (PatternText → Bool) → Bool → ℕ → Bool
is_wrong_kind accepts last kind = nat_lt 2 kind || ((last && kind == 0) || (kind == 2 && not (accepts placeholder_alone)))

-- a place above the length, or one of a pattern without a place
abbrev pub is_wrong_placeholder : List ℕ → Bool
is_wrong_placeholder slot = nat_lt (two_byte_number slot 3) (two_byte_number slot 5) || (slice_index slot 0 == 1 && not (two_byte_number slot 5 == 0))

-- Checks one slot at byte `at`, where the literals before it have `sum` bytes: the bytes of the literals up to its own, or the first damage.
unfoldable pub slot_step : (PatternText → Bool) → List ℕ → ℕ → Bool → ℕ → ℕ → List ℕ → Result ℕ ℕ
slot_step accepts pool pool_at last at sum slot =
    unless (is_wrong_kind accepts last (slice_index slot 0)) at
    (if slice_index slot 0 == 0 then unless (not (list_all (λ b. b == 0) (drop 1 slot))) (at + 1) (Ok sum)
    else unless (not (two_byte_number slot 1 == sum)) (at + 1)
    (unless (nat_lt (length pool) (two_byte_number slot 1 + two_byte_number slot 3)) (at + 3)
    (unless (is_wrong_placeholder slot) (at + 5)
    (unless (not (is_pattern accepts (pattern_in pool slot))) (pool_at + two_byte_number slot 1)
    (Ok (sum + two_byte_number slot 3))))))

-- checks n slots, the last of which is the record's last
unfoldable pub slots_step : (PatternText → Bool) → List ℕ → ℕ → ℕ → ℕ → ℕ → List ℕ → Result ℕ ℕ
slots_step accepts pool pool_at zero at sum bytes = Ok sum
slots_step accepts pool pool_at (suc n) at sum bytes =
    slot_step accepts pool pool_at (n == 0) at sum (take slot_len bytes) >>= λ next. slots_step accepts pool pool_at n (at + slot_len) next
    (drop slot_len bytes)

-- a type not above that of the record before
abbrev pub is_wrong_type : Option (List ℕ) → List ℕ → Bool
is_wrong_type None bytes = false
is_wrong_type (Some before) bytes = nat_le (slice_index bytes 0) (slice_index before 0)

-- an exponent below that of the record before
abbrev pub is_falling : Option (List ℕ) → List ℕ → Bool
is_falling None bytes = false
is_falling (Some before) bytes = nat_lt (slice_index bytes 1) (slice_index before 1)

-- an exponent above the type, more than fifteen zeros, or an exponent below that of the record before
abbrev pub is_wrong_exponent : Option (List ℕ) → List ℕ → Bool
is_wrong_exponent before bytes = nat_lt (slice_index bytes 0) (slice_index bytes 1) ||
    (nat_lt 15 (slice_index bytes 0 - slice_index bytes 1) || is_falling before bytes)

-- whether the slots are the same
abbrev pub same_slots : List (Option PatternText) → List (Option PatternText) → Bool
same_slots = pointwise (option_eq same_pattern)

-- the slots without the second one, that for exactly one
abbrev pub slots_without_explicit_one : List (Option PatternText) → List (Option PatternText)
slots_without_explicit_one [] = []
slots_without_explicit_one (a ∷ []) = a ∷ []
slots_without_explicit_one (a ∷ b ∷ rest) = a ∷ None ∷ rest

-- whether a record has the patterns of the one before, without that one's pattern for exactly one
abbrev pub is_repeated : List ℕ → Option (List ℕ) → List ℕ → Bool
is_repeated pool None bytes = false
is_repeated pool (Some before) bytes = same_slots (slots_without_explicit_one (slots_in pool 8 (drop 2 before))) (slots_in pool 8 (drop 2 bytes))

-- the same slot in two records
abbrev pub same_at : List ℕ → List ℕ → List ℕ → ℕ → Bool
same_at pool before bytes j = option_eq same_pattern (slot_in pool (slot_at (drop 2 before) j)) (slot_in pool (slot_at (drop 2 bytes) j))

-- n slots from slot j on are the same in two records
abbrev pub same_from : List ℕ → List ℕ → List ℕ → ℕ → ℕ → Bool
same_from pool before bytes j zero = true
same_from pool before bytes j (suc n) = same_at pool before bytes j && same_from pool before bytes (j + 1) n

-- checks one record
unfoldable pub record_step : (PatternText → Bool) → List ℕ → ℕ → Option (List ℕ) → ℕ → ℕ → List ℕ → Result ℕ ℕ
record_step accepts pool pool_at before at sum bytes =
    unless (is_wrong_type before bytes) at
    (unless (is_wrong_exponent before bytes) (at + 1)
    (slots_step accepts pool pool_at 8 (at + 2) sum (drop 2 bytes) >>= λ next. unless (is_repeated pool before bytes) at (Ok next)))

-- checks n records
unfoldable pub records_step : (PatternText → Bool) → List ℕ → ℕ → ℕ → Option (List ℕ) → ℕ → ℕ → List ℕ → Result ℕ ℕ
records_step accepts pool pool_at zero before at sum bytes = Ok sum
records_step accepts pool pool_at (suc n) before at sum bytes =
    record_step accepts pool pool_at before at sum (take record_len bytes) >>= λ next. records_step accepts pool pool_at n
    (Some (take record_len bytes)) (at + record_len) next (drop record_len bytes)

-- the length that the bytes have to have
abbrev pub whole_len : List ℕ → ℕ
whole_len bytes = pool_start bytes + two_byte_number bytes 2

-- checks all bytes: the length of the pool, or the first damage
unfoldable pub table_step : (PatternText → Bool) → List ℕ → Result ℕ ℕ
table_step accepts bytes =
    unless (nat_lt (length bytes) head_len) (length bytes)
    (unless (nat_lt 256 (count_in bytes)) 0
    (unless (not (length bytes == whole_len bytes)) (min (length bytes) (whole_len bytes))
    (records_step accepts (pool_in bytes) (pool_start bytes) (count_in bytes) None head_len 0 (drop head_len bytes) >>= λ sum.
    unless (not (sum == two_byte_number bytes 2)) (pool_start bytes + sum) (Ok sum))))

-- ---- what stands in the bytes of a table

-- bytes in which a table is read
pub record IsTableBytes (accepts : PatternText → Bool) (bytes : List ℕ) : Type 0 where
  pub read : IsOk (table_step accepts bytes)
  pub are_bytes : (i : ℕ) → slice_index bytes i < 256

-- the type of an entry
abbrev pub type_in : List ℕ → ℕ → ℕ
type_in bytes index = slice_index bytes (head_len + record_len * index)

-- the exponent of an entry
abbrev pub exponent_in : List ℕ → ℕ → ℕ
exponent_in bytes index = slice_index bytes (head_len + 1 + record_len * index)

-- an entry
abbrev pub entry_of : List ℕ → ℕ → TableEntry
entry_of bytes index = entry_in (pool_in bytes) (take record_len (drop (record_len * index) (drop head_len bytes)))

-- the seven bytes of an entry's slot
abbrev pub slot_of : List ℕ → ℕ → ℕ → List ℕ
slot_of bytes index slot = slice_range bytes (slots_start + record_len * index + slot_len * slot)
    (slots_start + record_len * index + slot_len * slot + slot_len)

-- bytes whose records can be searched: they are there, and their types rise
pub record IsSearchable (bytes : List ℕ) : Type 0 where
  pub four : head_len ≤ length bytes
  pub few : count_in bytes ≤ 256
  pub room : head_len + record_len * count_in bytes ≤ length bytes
  pub types_rise : (i j : ℕ) → i < j → j < count_in bytes → type_in bytes i < type_in bytes j

-- just the entries before the count have a type that isn't above the magnitude
pub record IsReached (bytes : List ℕ) (magnitude count : ℕ) : Type 0 where
  pub within : count ≤ count_in bytes
  pub below : (i : ℕ) → i < count → nat_le (type_in bytes i + finest) magnitude ≡ true
  pub above : (i : ℕ) → count ≤ i → i < count_in bytes → nat_le (type_in bytes i + finest) magnitude ≡ false
