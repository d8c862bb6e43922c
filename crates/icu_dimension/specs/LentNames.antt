-- The texts that are given for a number and a name.
use Rattle.icu_dimension.specs.declared.name_pattern.NameTexts.{NameTexts}
use Rattle.icu_dimension.specs.Names.{NameText}

-- the texts that are borrowed
abbrev pub lent_name : NameTexts → NameText
lent_name t = record { number_first = t.number_first; before = t.before.now; between = t.between.now; after = t.after.now; name = t.name.now }
