-- That a number stands once in what is written of it with its unit. It stands here and not in proofs/ because an impl cites it.
use Rattle.std.proofs.Common.{◌≡◌, ◌⊎◌, inl, inr, ℕ, List, Option, None, Some, refl, take, drop}
use Rattle.fixed_decimal.specs.declared.signs.Sign.{Sign}
use Rattle.fixed_decimal.specs.declared.signs.Sign.TheVariants.{None as NoSign, Negative, Positive}
use Rattle.icu_plurals.specs.Elements.{Elements}
use Rattle.icu_plurals.specs.Operands.{Operands}
use Rattle.icu_plurals.specs.Rules.{Rule}
use Rattle.icu_pattern.specs.Patterns.{PatternText, around}
use Rattle.writeable.specs.Events.{Event, text_events, without_parts}
use Rattle.icu_decimal_data.specs.declared.decimal_symbols.DecimalSymbols.{DecimalSymbols}
use Rattle.icu_decimal.specs.Decimal.{signed_events}
use Rattle.icu_decimal.specs.Signed.{affixes_for, prefix_events, suffix_events}
use Rattle.icu_decimal_interface.specs.Once.{StandsOnce}
use Rattle.icu_decimal_interface.specs.OnceLaws.{around_stands, unparted_stands}
use Rattle.icu_decimal_interface.specs.Shown.{picked}
use Rattle.icu_unit.specs.Unit.{IsLeftOut, unit_framed}

-- the affixes of a sign around what is written
signed_stands : (symbols : DecimalSymbols) (sign : Sign) {written : List Event → List Event} → StandsOnce written →
    StandsOnce (λ (es : List Event). signed_events symbols sign (written es))
signed_stands symbols NoSign h = h
signed_stands symbols Negative h =
    around_stands (prefix_events (affixes_for symbols Negative)) (suffix_events (affixes_for symbols Negative)) h
signed_stands symbols Positive h =
    around_stands (prefix_events (affixes_for symbols Positive)) (suffix_events (affixes_for symbols Positive)) h

-- the number stands once between what the sign and the pattern have around it, or the pattern has no placeholder
pub unit_once : (symbols : DecimalSymbols) (rules : List Rule) (elements : Elements PatternText) (sign : Sign) (operands : Operands) →
    StandsOnce (unit_framed symbols rules elements sign operands) ⊎ IsLeftOut rules elements operands
unit_once symbols rules elements sign operands =
    let pattern = picked rules elements operands in
    go pattern.literal pattern.placeholder
  where
    go : (literal : List ℕ) (place : Option ℕ) →
        StandsOnce (λ (es : List Event). signed_events symbols sign (around literal place (without_parts es))) ⊎ (place ≡ None)
    go literal None = inr refl
    go literal (Some k) = inl (signed_stands symbols sign (around_stands (text_events (take k literal)) (text_events (drop k literal)) unparted_stands))
