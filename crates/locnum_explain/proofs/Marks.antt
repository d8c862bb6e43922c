-- The parts that are marked of compact numbers.
use Rattle.std.proofs.Common.{◌≡◌, ℕ, Bool, true, false, List, sym, ap, ◌∙◌}
use Rattle.std.specs.Prelude.{is_some, if◌then◌else◌}
use Rattle.fixed_decimal.specs.Unsigned.{Unsigned}
use Rattle.fixed_decimal.specs.declared.signs.Sign.{Sign}
use Rattle.fixed_decimal.specs.declared.signs.Sign.TheVariants.{None as NoSign}
use Rattle.writeable.specs.Events.{Event}
use Rattle.icu_decimal.specs.CompactFormat.{CompactFormat, FormattedCompact, IsCompacted, events_with_exponent, significand_of}
use Rattle.icu_dimension.specs.CompactMoney.{CompactMoney, entry_shown, formatter_of}
use Rattle.icu_dimension.specs.Money.{sign_framed}
use Rattle.number_forms.proofs.CompactMoney.{compacted-told}
use Rattle.locnum_explain.specs.Marks.{amount_marks, marks_with_exponent, number_marks}

-- the parts of the compact number that was made of a decimal, by its significand and its exponent
pub number-marked : (format : CompactFormat) (d : Unsigned) (number value : FormattedCompact) → IsCompacted format d number → value ≡ number
    → (sign given : Sign) (absolute : Unsigned) (exponent : ℕ) → given ≡ sign → absolute ≡ significand_of value → exponent ≡ value.exponent
    → events_with_exponent format given absolute exponent ≡ number_marks format sign d
number-marked format d number value is same sign given absolute exponent signs digits power =
    ap (λ (s : Sign). events_with_exponent format s absolute exponent) signs
    ∙ ap (λ (u : Unsigned). events_with_exponent format sign u exponent) (digits ∙ ap significand_of same)
    ∙ ap (λ (n : ℕ). events_with_exponent format sign (significand_of number) n) (power ∙ ap (λ (v : FormattedCompact). v.exponent) same)
    ∙ ap (marks_with_exponent format sign) (sym (compacted-told format d number is))

module _ (f : CompactMoney) (sign : Sign) (d : Unsigned) (number value : FormattedCompact) (is : IsCompacted (formatter_of f sign) d number)
    (same : value ≡ number) (b : Bool) (entry : b ≡ is_some (entry_shown (formatter_of f sign).table value)) where
  abbrev marks : List Event
  marks = number_marks (formatter_of f sign) NoSign d

  by : amount_marks f sign d ≡ (if b then marks else sign_framed f.patterns sign marks)
  by = ap (λ (n : FormattedCompact). if is_some (entry_shown (formatter_of f sign).table n) then marks else sign_framed f.patterns sign marks)
      (compacted-told (formatter_of f sign) d number is ∙ sym same)
      ∙ ap (λ (c : Bool). if c then marks else sign_framed f.patterns sign marks) (sym entry)

  -- an amount that an entry displays
  pub amount-entered : b ≡ true → amount_marks f sign d ≡ number_marks (formatter_of f sign) NoSign d
  amount-entered here = by ∙ ap (λ (c : Bool). if c then marks else sign_framed f.patterns sign marks) here

  -- and one that stands in the pattern of money
  pub amount-framed : b ≡ false → amount_marks f sign d ≡ sign_framed f.patterns sign (number_marks (formatter_of f sign) NoSign d)
  amount-framed none = by ∙ ap (λ (c : Bool). if c then marks else sign_framed f.patterns sign marks) none
