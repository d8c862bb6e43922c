-- Where two texts meet.
use Rattle.std.proofs.Common.{◌≡◌, ℕ, List, true, ◌++◌, length, refl, sym}
use Rattle.std.specs.Prelude.{IsUtf8}
use Rattle.std.proofs.lemmas.Str.{IsCharBoundary-at_seam}
use Rattle.icu_pattern.specs.Patterns.{is_boundary}
use Rattle.icu_pattern.proofs.Boundaries.{is_boundary_of}

-- a pattern may have its place there
pub has_seam : (xs ys : List ℕ) → IsUtf8 ys → is_boundary (xs ++ ys) (length xs) ≡ true
has_seam xs ys h = sym (is_boundary_of (xs ++ ys) (length xs) true (λ _. IsCharBoundary-at_seam (xs ++ ys) xs ys refl h, λ _. refl))
