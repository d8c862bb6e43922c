-- What is shown of a number is one, and is shown again.
use Rattle.std.proofs.Common.{◌≡◌, ℕ, ◌-◌, ◌*◌, ◌^◌, ◌<◌, sym, ◌∙◌, ap, ap₂, subst, arith, List, length, pos, ◌-ℤ◌}
use Rattle.std.proofs.lemmas.Int.{ints}
use Rattle.std.specs.Int.{int_max}
use Rattle.fixed_decimal.specs.Unsigned.{Unsigned, IsUnsigned, high}
use Rattle.fixed_decimal.specs.Size.{finest, size, magnitude, magnitude_place}
use Rattle.fixed_decimal.specs.Padding.{IsExactWith}
use Rattle.fixed_decimal.specs.Modes.{size_mode, IsLeastFrom}
use Rattle.fixed_decimal.proofs.Taken.{taken-unique, taken_allowed, allowed_taken, least-unique}
use Rattle.fixed_decimal.proofs.Weights.{ten_pos}
use Rattle.icu_decimal_data.specs.CompactTable.{exponent_of}
use Rattle.icu_decimal.specs.Decomposed.{decomposed_entry}
use Rattle.icu_decimal.proofs.DecomposedOnce.{digits_by_weight}
use Rattle.number_rounding.specs.Showable.{unit_at, IsShowable}
use Rattle.number_rounding.specs.Shown.{least_fraction_digits}
use Rattle.number_rounding.specs.ShownLaws.{ShownNumberIsOne, ShownNumberIsShownAgain}

-- a decimal is determined by its size, its greatest written power and its digits below power 0
decimal_told : (s t : Unsigned) → IsUnsigned s → IsUnsigned t → size s ≡ size t → high s ≡ high t → s.scale ≡ t.scale → s ≡ t
decimal_told s t us ut sizes top scales =
    let lengths : length s.digits ≡ length t.digits = omega (arith, ints, us.integer_some, ut.integer_some) in
    let weights = rw (← scales) at sizes in
    let digits : s.digits ≡ t.digits = digits_by_weight (finest - s.scale) s.digits t.digits lengths us.below_ten ut.below_ten weights in
    let make : List ℕ → ℕ → Unsigned = λ ds scale. record { digits = ds; scale = scale } in
    ap₂ make digits scales

-- the size is the taken one, and gives the entry, the significand's size and its written powers
pub shown_number_is_one : ShownNumberIsOne
shown_number_is_one rounding table minus x y z entry other significand another h k =
    let sizes : y ≡ z =
    taken-unique (IsShowable rounding.precision table) (size_mode rounding.mode minus) (unit_at rounding.precision table (magnitude_place x)) x y z h.taken
    k.taken in
    let entries : entry ≡ other = h.entry_is ∙ ap (decomposed_entry table) sizes ∙ sym k.entry_is in
    let both : size significand * 10 ^ exponent_of other ≡ size another * 10 ^ exponent_of other =
    ap (λ e. size significand * 10 ^ exponent_of e) (sym entries) ∙ h.scaled ∙ sizes ∙ sym k.scaled in
    let same : size significand ≡ size another = cancel (size significand) (size another) (10 ^ exponent_of other) (ten_pos (exponent_of other)) both in
    let top : high significand ≡ high another =
    h.high_is ∙ ap (λ n. int_max (int_max (pos 0) (pos rounding.integer_digits -ℤ pos 1)) (magnitude n)) same ∙ sym k.high_is in
    let counts : significand.scale ≡ another.scale =
    least-unique (IsExactWith (size another)) (least_fraction_digits rounding (size another)) significand.scale another.scale
    (subst (λ (n : ℕ). IsLeastFrom (IsExactWith n) (least_fraction_digits rounding n) significand.scale) same h.scale_is) k.scale_is in
    (sizes, entries, decimal_told significand another h.is_decimal k.is_decimal same top counts)
  where
    cancel : (a b u : ℕ) → 0 < u → a * u ≡ b * u → a ≡ b
    cancel a b u positive same = grind arith

-- the shown size is showable, so it is taken as itself; nothing else depends on the number
pub shown_number_is_shown_again : ShownNumberIsShownAgain
shown_number_is_shown_again rounding table minus x y entry significand h =
    let showable =
    taken_allowed (IsShowable rounding.precision table) (size_mode rounding.mode minus) (unit_at rounding.precision table (magnitude_place x)) x y h.taken in
    record {
      taken = allowed_taken (IsShowable rounding.precision table) (size_mode rounding.mode minus)
          (unit_at rounding.precision table (magnitude_place y)) y showable;
      entry_is = h.entry_is;
      scaled = h.scaled;
      is_decimal = h.is_decimal;
      high_is = h.high_is;
      scale_is = h.scale_is;
    }
