-- Values that are there or not, and what is read or rejected, spelled without their implicit arguments.
use Rattle.std.proofs.Common.{◌≡◌, ℕ, Option, Some, None, Result, Ok, Err}
use Rattle.icu_plurals_conditions.specs.Grammar.{Condition}

-- something, with its type given
abbrev pub some : {A : Type 0} → A → Option A
some s = Some s

-- none, with its type given
abbrev pub none : {A : Type 0} → Option A
none = None

-- a condition that is read
abbrev pub done : Condition → Result Condition ℕ
done c = Ok c

-- a text that is rejected at a byte
abbrev pub fault : ℕ → Result Condition ℕ
fault b = Err b

-- what is found is one thing
pub some_is : {A : Type 0} {s t : A} → some s ≡ some t → s ≡ t
some_is e = cc

-- nothing is not something
pub none_is : {A : Type 0} {t : A} → none ≡ some t → ⊥
none_is e = absurd cc
