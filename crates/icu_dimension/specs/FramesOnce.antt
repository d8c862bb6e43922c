-- That a number stands once in what is written around it: a sign's pattern, a currency's name, a unit. It stands here and not in
-- proofs/ because the impls of `Frame` cite it.
use Rattle.std.proofs.Common.{◌≡◌, ◌⊎◌, inl, inr, ℕ, Bool, true, false, if◌then◌else◌, List, ◌++◌, Option, None, Some}
use Rattle.std.proofs.Common.{refl, sym, ap, ◌∙◌}
use Rattle.std.proofs.Common.{take, drop}
use Rattle.std.specs.Str.{chars}
use Rattle.std.proofs.lemmas.List.{append_assoc}
use Rattle.fixed_decimal.specs.declared.signs.Sign.{Sign}
use Rattle.fixed_decimal.specs.declared.signs.Sign.TheVariants.{None as NoSign, Negative, Positive}
use Rattle.writeable.specs.Events.{Event, characters, text_events}
use Rattle.writeable.specs.Writes.{characters-append}
use Rattle.icu_pattern.specs.Patterns.{PatternText}
use Rattle.icu_plurals.specs.Elements.{Elements}
use Rattle.icu_plurals.specs.Operands.{Operands}
use Rattle.icu_plurals.specs.Rules.{Rule}
use Rattle.icu_decimal_data.specs.declared.decimal_symbols.DecimalSymbols.{DecimalSymbols}
use Rattle.icu_decimal.specs.Decimal.{signed_events}
use Rattle.icu_decimal.specs.Signed.{affixes_for, prefix_events, suffix_events}
use Rattle.icu_decimal_interface.specs.Once.{StandsOnce}
use Rattle.icu_decimal_interface.specs.OnceLaws.{alone_stands, around_stands}
use Rattle.icu_decimal_interface.specs.Shown.{picked}
use Rattle.icu_dimension_data.specs.Resolved.{Signed, affixes_of}
use Rattle.icu_dimension_data.specs.Surrounding.{affix_events}
use Rattle.icu_dimension.specs.Money.{sign_framed}
use Rattle.icu_dimension.specs.Names.{NameText, name_events, name_then_number, names_framed, number_then_name, with_name}
use Rattle.icu_dimension.specs.UnitPatterns.{unit_around, unit_literal}
use Rattle.icu_dimension.specs.Units.{IsLeftOut, units_framed}

-- events before what is written
after_stands : (before : List Event) {written : List Event → List Event} → StandsOnce written →
    StandsOnce (λ (es : List Event). before ++ written es)
after_stands before {written} h = record {
  before = characters before ++ h.before;
  after = h.after;
  stands =
      λ es. characters-append before (written es) ∙ ap (λ l. characters before ++ l) (h.stands es)
      ∙ sym (append_assoc (characters before) h.before (characters es ++ h.after));
}

-- one or the other of two ways to write
either_stands : (first : Bool) {one other : List Event → List Event} → StandsOnce one → StandsOnce other →
    StandsOnce (λ (es : List Event). if first then one es else other es)
either_stands true h k = h
either_stands false h k = k

-- the affixes of a sign around a number
signed_stands : (symbols : DecimalSymbols) (sign : Sign) → StandsOnce (λ (es : List Event). signed_events symbols sign es)
signed_stands symbols NoSign = alone_stands
signed_stands symbols Negative =
    around_stands (prefix_events (affixes_for symbols Negative)) (suffix_events (affixes_for symbols Negative)) alone_stands
signed_stands symbols Positive =
    around_stands (prefix_events (affixes_for symbols Positive)) (suffix_events (affixes_for symbols Positive)) alone_stands

-- the pattern of a sign around a number
pub sign_stands : (patterns : Signed) (sign : Sign) → StandsOnce (λ (es : List Event). sign_framed patterns sign es)
sign_stands patterns sign =
    let affixes = affixes_of patterns sign in
    around_stands (affix_events patterns.texts affixes.before) (affix_events patterns.texts affixes.after) alone_stands

-- a name behind what is written, or before it
named_stands : (t : NameText) {written : List Event → List Event} → StandsOnce written → StandsOnce (λ (es : List Event). with_name t (written es))
named_stands t {written} h =
    either_stands t.number_first {one = λ es. number_then_name t (written es)} {other = λ es. name_then_number t (written es)}
    (around_stands (text_events t.before) (text_events t.between ++ (name_events t.name ++ text_events t.after)) h)
    (after_stands (text_events t.before) (after_stands (name_events t.name) (around_stands (text_events t.between) (text_events t.after) h)))

-- a number and its sign with the name of a currency
pub names_stand : (symbols : DecimalSymbols) (rules : List Rule) (elements : Elements NameText) (sign : Sign) (operands : Operands) →
    StandsOnce (names_framed symbols rules elements sign operands)
names_stand symbols rules elements sign operands = named_stands (picked rules elements operands) (signed_stands symbols sign)

-- a number and its sign in the pattern of a unit, if the pattern has a placeholder
pub units_once : (symbols : DecimalSymbols) (rules : List Rule) (elements : Elements PatternText) (sign : Sign) (operands : Operands) →
    StandsOnce (units_framed symbols rules elements sign operands) ⊎ IsLeftOut rules elements operands
units_once symbols rules elements sign operands =
    let pattern = picked rules elements operands in
    go pattern.literal pattern.placeholder
  where
    go : (literal : List ℕ) (placeholder : Option ℕ) →
        StandsOnce (λ (es : List Event). unit_around literal placeholder (signed_events symbols sign es)) ⊎ (placeholder ≡ None)
    go literal None = inr refl
    go literal (Some k) = inl (around_stands (unit_literal (chars (take k literal))) (unit_literal (chars (drop k literal))) (signed_stands symbols sign))
