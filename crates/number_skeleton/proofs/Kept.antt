-- What is read of a text are settings that may be written.
use Rattle.std.proofs.Common.{◌≡◌, ℕ, ℤ, pos, negsuc, ◌+◌, ◌-◌, ◌≤◌, List, Bool, false, refl, arith, subst, sym, ◌∙◌}
use Rattle.std.proofs.lemmas.Bool.Decides.{nat_tests}
use Rattle.std.proofs.lemmas.Int.{ints}
use Rattle.std.specs.Prelude.{Option, Some, None, Ok, ◌||◌, ◌-ℤ◌, nat_lt}
use Rattle.fixed_decimal.specs.declared.increments.RoundingIncrement.TheVariants as increment
use Rattle.fixed_decimal.specs.Rounding.{zeros_at, scale_at}
use Rattle.number_skeleton.specs.declared.numbers.Number.{Number}
use Rattle.number_skeleton.specs.declared.numbers.Number.TheVariants as number
use Rattle.skeleton_settings.specs.declared.settings.CurrencyLetters.{CurrencyLetters}
use Rattle.skeleton_settings.specs.declared.settings.Precision.{Precision}
use Rattle.skeleton_settings.specs.declared.settings.Precision.TheVariants as precision
use Rattle.skeleton_settings.specs.declared.settings.Priority.{Priority}
use Rattle.skeleton_settings.specs.declared.settings.Priority.TheVariants as priority
use Rattle.number_skeleton.specs.declared.stems.Counts.{Counts}
use Rattle.number_skeleton.specs.declared.stems.Stem.TheVariants as stem
use Rattle.number_skeleton.specs.declared.values.Beside.{Beside}
use Rattle.number_skeleton.specs.declared.values.Limits.{Limits}
use Rattle.skeleton_settings.specs.Settings.{UnitData, nothing, percent, permille, currency, named}
use Rattle.number_skeleton.specs.Laws.{IsLetters, IsUnit, AreCounts, IsFew, IsPrecision, IsSystem}
use Rattle.number_skeleton.specs.Numbers.{number_of, scale_of, scale_from, increment_of, increment_from, is_far, power_of}
use Rattle.number_skeleton.specs.Options.{letters_of, unit_of, system_of, integer_digits_of}
use Rattle.number_skeleton.specs.Values.{small, small_most, limits_of, beside_counts}
use Rattle.number_skeleton.proofs.Orders.{taken, allowed, one_value}
use Rattle.number_skeleton.proofs.Within.{IsOrdered}

-- three letters
pub letters_kept : (word : List ℕ) (c : CurrencyLetters) → letters_of word ≡ Ok c → IsLetters c
unfolding letters_of
letters_kept word c h = grind arith

-- a unit
named_word : (word name : List ℕ) → unit_of word ≡ Ok (named name) → name ≡ word
unfolding unit_of
named_word word name h = grind arith

no_currency : (word : List ℕ) (c : CurrencyLetters) → unit_of word ≡ Ok (currency c) → ⊥
unfolding unit_of
no_currency word c h = grind arith

pub unit_kept : (word : List ℕ) (u : UnitData) → unit_of word ≡ Ok u → IsUnit u
unit_kept word nothing h = tt
unit_kept word percent h = tt
unit_kept word permille h = tt
unit_kept word (currency c) h = absurd (no_currency word c h)
unit_kept word (named name) h = subst (λ (x : List ℕ). unit_of x ≡ Ok (named name)) (sym (named_word word name h)) h

-- a numbering system
system_word : (word name : List ℕ) → system_of word ≡ Ok name → name ≡ word
unfolding system_of
system_word word name h = grind arith

pub system_kept : (word name : List ℕ) → system_of word ≡ Ok name → IsSystem (Some name)
system_kept word name h = subst (λ (x : List ℕ). system_of x ≡ Ok name) (sym (system_word word name h)) h

-- a least count of integer digits
pub integer_kept : (word : List ℕ) (n : ℕ) → integer_digits_of word ≡ Ok n → (1 ≤ n) × (n ≤ 999)
unfolding integer_digits_of
integer_kept word n h = grind (arith, nat_tests)

-- powers of ten
power_above : (z f : ℕ) (k : ℤ) → k ≡ pos z -ℤ pos f → z ≤ f + 999 → zeros_at k ≤ 999
power_above z f (pos n) e h = omega (arith, ints)
power_above z f (negsuc n) e h = omega arith

power_below : (z f : ℕ) (k : ℤ) → k ≡ pos z -ℤ pos f → f ≤ z + 999 → scale_at k ≤ 999
power_below z f (pos n) e h = omega arith
power_below z f (negsuc n) e h = omega (arith, ints)

power_least : (z f : ℕ) (k : ℤ) → k ≡ pos z -ℤ pos f → scale_at k ≤ f
power_least z f (pos n) e = omega arith
power_least z f (negsuc n) e = omega (arith, ints)

near : (z f : ℕ) → is_far z f ≡ false → (z ≤ f + 999) × (f ≤ z + 999)
near z f h = grind (arith, nat_tests)

scale_number : (n : Number) (k : ℤ) → scale_from n ≡ Ok k → (zeros_at k ≤ 999) × (scale_at k ≤ 999)
scale_number number.Zero k h = absurd cc
scale_number number.Other k h = absurd cc
scale_number (number.Step increment.MultiplesOf1 z f) k h =
    let c = allowed (is_far z f) (Ok (power_of z f)) k _ h in
    let close = near z f c.0 in
    let e : k ≡ pos z -ℤ pos f = one_value (power_of z f) k (Ok (power_of z f)) refl c.1 in
    (power_above z f k e close.0, power_below z f k e close.1)
scale_number (number.Step increment.MultiplesOf2 z f) k h = absurd cc
scale_number (number.Step increment.MultiplesOf5 z f) k h = absurd cc
scale_number (number.Step increment.MultiplesOf25 z f) k h = absurd cc

pub scale_kept : (word : List ℕ) (k : ℤ) → scale_of word ≡ Ok k → (zeros_at k ≤ 999) × (scale_at k ≤ 999)
unfolding scale_of
scale_kept word k h = let one = taken (number_of word) scale_from k h in scale_number one.0 k one.1.1

-- an increment
far_or_long : (z f : ℕ) → (is_far z f || nat_lt 999 f) ≡ false → (z ≤ f + 999) × (f ≤ 999)
far_or_long z f h = grind (arith, nat_tests)

increment_number : (n : Number) (p : Precision) → increment_from n ≡ Ok p → IsPrecision p
increment_number number.Zero p h = absurd cc
increment_number number.Other p h = absurd cc
increment_number (number.Step i z f) p h =
    let c = allowed (is_far z f || nat_lt 999 f) (Ok (precision.Increment i (power_of z f) f)) p _ h in
    let close = far_or_long z f c.0 in
    subst IsPrecision (sym (one_value (precision.Increment i (power_of z f) f) p (Ok (precision.Increment i (power_of z f) f)) refl c.1))
    (power_above z f (power_of z f) refl close.0, (power_least z f (power_of z f) refl, close.1))

pub increment_kept : (word : List ℕ) (p : Precision) → increment_of word ≡ Ok p → IsPrecision p
unfolding increment_of
increment_kept word p h = let one = taken (number_of word) increment_from p h in increment_number one.0 p one.1.1

-- counts of a stem
pub small_kept : (start count n : ℕ) → small start count ≡ Ok n → (n ≡ count) × (count ≤ 999)
small_kept start count n h = grind (arith, nat_tests)

both_counts : (limits : Limits) (l : ℕ) (m : Option ℕ) (n least most : ℕ) → limits ≡ record { least = l; most = m } → m ≡ Some n → l ≡ least
    → n ≡ most →
    limits ≡ record { least = least; most = Some most }
both_counts limits l m n least most h e f g = h ∙ rw (e, f, g) refl

limits_here : (start : ℕ) (least : ℕ) (most : Option ℕ) (limits : Limits) → IsOrdered least most → limits_of start (record {
  least = least;
  most =
      most;
}) ≡ Ok limits →
    (limits ≡ record { least = least; most = most }) × AreCounts least most
unfolding limits_of
limits_here start least None limits o h =
    let one = taken (small start least) _ limits h in
    let s = small_kept start least one.0 one.1.0 in
    (one_value (record { least = one.0; most = None }) limits (Ok (record { least = one.0; most = None })) refl one.1.1 ∙ rw s.0 refl, s.1)
limits_here start least (Some most) limits o h =
    let one = taken (small start least) _ limits h in
    let two = taken (small_most start (Some most)) _ limits one.1.1 in
    let three = taken (small start most) _ two.0 two.1.0 in
    let s = small_kept start least one.0 one.1.0 in
    let t = small_kept start most three.0 three.1.0 in
    let e : two.0 ≡ Some three.0 = one_value (Some three.0) two.0 (Ok (Some three.0)) refl three.1.1 in (
      both_counts limits one.0 two.0 three.0 least most (one_value (record { least = one.0; most = two.0 }) limits (Ok (record {
        least = one.0;
        most = two.0;
      })) refl two.1.1) e s.0 t.0,
      (o, t.1),
    )

pub limits_kept : (start : ℕ) (counts : Counts) (limits : Limits) → IsOrdered counts.least counts.most → limits_of start counts ≡ Ok limits →
    (limits ≡ record { least = counts.least; most = counts.most }) × AreCounts counts.least counts.most
limits_kept start counts limits o h = limits_here start counts.least counts.most limits o h

-- significant digits beside fraction digits
pub record IsBeside (b : Beside) : Type 0 where
  pub some : IsFew b.few b.keeps_least
  pub within : b.few ≤ b.many
  pub small : b.many ≤ 999

pub beside_counts_kept : (few many : ℕ) (y : Priority) (keeps : Bool) (b : Beside) → IsFew few keeps → few ≤ many → beside_counts few many y keeps
    ≡ Ok b → IsBeside b
beside_counts_kept few many y keeps b some within h =
    let c = allowed (nat_lt 999 many) (Ok (record { few = few; many = many; priority = y; keeps_least = keeps })) b _ h in
    let s : many ≤ 999 = grind (arith, nat_tests) in
    subst IsBeside (sym (one_value (record { few = few; many = many; priority = y; keeps_least = keeps }) b (Ok (record {
      few = few;
      many = many;
      priority =
          y;
      keeps_least = keeps;
    })) refl c.1))
    (record { some = some; within = within; small = s })
