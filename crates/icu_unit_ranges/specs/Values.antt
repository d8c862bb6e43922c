-- Which of the values by plural category a range has.
use Rattle.std.specs.Prelude.{List, unwrap_or}
use Rattle.icu_plurals.specs.Elements.{Elements, category_value}
use Rattle.icu_plurals.specs.Operands.{Operands}
use Rattle.icu_plurals.specs.Rules.{Rule, category_of}
use Rattle.icu_plurals.specs.declared.category.PluralCategory.{PluralCategory}
use Rattle.icu_ranges.specs.declared.plural_ranges.PluralRange.{PluralRange}
use Rattle.icu_ranges.specs.PluralRanges.{resolved}

-- the category's own value, or else the one for all other numbers
abbrev pub value_for : {T : Type 0} → Elements T → PluralCategory → T
value_for elements category = unwrap_or (category_value elements category) elements.other

-- the category of a range by the operands of both numbers as they are shown
abbrev pub range_category : List PluralRange → List Rule → Operands → Operands → PluralCategory
range_category ranges rules start end = resolved ranges (category_of rules start) (category_of rules end)
