-- Drafts are merged field by field.
use Rattle.std.proofs.Common.{◌≡◌, refl}
use Rattle.std.specs.Prelude.{Option, Some, None, option_map}
use Rattle.std.specs.Option.{option_or}

-- the data of either are either of the data
pub either_mapped : {A B : Type 0} (f : A → B) (a b : Option A) → option_map f (option_or a b) ≡ option_or (option_map f a) (option_map f b)
either_mapped f None b = refl
either_mapped f (Some x) b = refl
