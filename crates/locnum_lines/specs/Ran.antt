-- What a part of a run writes, notes and reports.
use Rattle.std.specs.Prelude.{Bool, false, ◌||◌, ℕ, max, List, [], ◌∷◌, ◌++◌, if◌then◌else◌}

-- the bytes of the output, those of the notes, whether a number was rejected, whether the run stops there, the greatest number
-- of a field, and the first written number that holds the delimiter, or nothing
pub record Ran : Type 0 where
  pub output : List ℕ
  pub notes : List ℕ
  pub is_refused : Bool
  pub is_stopped : Bool
  pub most_fields : ℕ
  pub holding : List ℕ

-- bytes that are written
abbrev pub writes : List ℕ → Ran
writes bytes = record { output = bytes; notes = []; is_refused = false; is_stopped = false; most_fields = 0; holding = [] }

-- a field of this number
abbrev pub counts : ℕ → Ran
counts index = record { output = []; notes = []; is_refused = false; is_stopped = false; most_fields = index; holding = [] }

-- the first text that has a byte
abbrev pub first_of : List ℕ → List ℕ → List ℕ
first_of [] other = other
first_of (b ∷ bs) other = b ∷ bs

-- two parts, the one behind the other
abbrev pub joined_runs : Ran → Ran → Ran
joined_runs a b = record {
  output = a.output ++ b.output;
  notes = a.notes ++ b.notes;
  is_refused = a.is_refused || b.is_refused;
  is_stopped = b.is_stopped;
  most_fields = max a.most_fields b.most_fields;
  holding = first_of a.holding b.holding;
}

-- a part, and another behind it unless the run stops there
abbrev pub then_runs : Ran → Ran → Ran
then_runs a b = if a.is_stopped then a else joined_runs a b
