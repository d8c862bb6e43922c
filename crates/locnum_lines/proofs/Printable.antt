-- Texts of printable characters of ASCII take one column for each byte.
use Rattle.std.proofs.Common.{◌≡◌, ℕ, ◌<◌, ◌≤◌, Bool, true, false, List, [], ◌∷◌, All, get_or, length}
use Rattle.std.proofs.Common.{refl, sym, ap, ◌∙◌, arith, suc}
use Rattle.std.proofs.lemmas.Bool.Decides.{nat_tests}
use Rattle.std.proofs.lemmas.Str.{chars-IsAscii}
use Rattle.std.proofs.lemmas.Str.Ascii.{IsAscii-from_all}
use Rattle.std.specs.Int.{is_in_range}
use Rattle.std.specs.List.{list_all}
use Rattle.std.specs.Str.{chars, is_utf8}
use Rattle.unicode_width.specs.Width.{str_width}
use Rattle.unicode_width.proofs.Rules.{str_width-printable}
use Rattle.locnum_lines.specs.Padding.{columns_of}

in_range : (b : ℕ) → 32 ≤ b → b ≤ 126 → is_in_range 0x20 0x7E b ≡ true
in_range b low high = grind (arith, nat_tests)

all_in_range : (bs : List ℕ) → All (λ b. (32 ≤ b) × (b ≤ 126)) bs → list_all (is_in_range 0x20 0x7E) bs ≡ true
all_in_range [] all = refl
all_in_range (b ∷ bs) all =
    let first = all 0 0 (omega arith) in
    rw (in_range b first.0 first.1, all_in_range bs (λ i d less. all (suc i) d (omega (arith, less)))) refl

-- the columns of printable characters of ASCII
pub columns-printable : (bs : List ℕ) → All (λ b. (32 ≤ b) × (b ≤ 126)) bs → length bs ≡ columns_of bs
unfolding columns_of
columns-printable bs all = go (is_utf8 bs) refl
  where
    width : str_width false (chars bs) ≡ length bs
    width = ap (str_width false) (chars-IsAscii bs (IsAscii-from_all bs (λ i d less. omega (arith, (all i d less).1))))
        ∙ str_width-printable false bs (all_in_range bs all)

    go : (b : Bool) → is_utf8 bs ≡ b → length bs ≡ columns_of bs
    go true e = rw e (sym width)
    go false e = rw e refl
