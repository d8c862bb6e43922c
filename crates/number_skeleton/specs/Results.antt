-- Steps that may fail.
use Rattle.std.specs.Prelude.{ℕ, Result, Ok, Err}
use Rattle.number_skeleton.specs.declared.fault.FaultKind.{FaultKind}
use Rattle.number_skeleton.specs.declared.fault.SkeletonFault.{SkeletonFault}

-- goes on with what was found, unless there was a fault
infixl 10 ◌>>=◌
abbrev pub ◌>>=◌ : {A B E : Type 0} → Result A E → (A → Result B E) → Result B E
(Ok x) >>= f = f x
(Err fault) >>= f = Err fault

-- a fault at a byte
abbrev pub fault : {A : Type 0} → FaultKind → ℕ → Result A SkeletonFault
fault kind byte = Err (record { kind = kind; byte = byte })

-- what was found, or a fault at a byte
abbrev pub located : {A : Type 0} → ℕ → Result A FaultKind → Result A SkeletonFault
located byte (Ok x) = Ok x
located byte (Err kind) = fault kind byte
