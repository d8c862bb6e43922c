-- Amounts of money: what is written for them.
use Rattle.std.specs.Prelude.{List}
use Rattle.fixed_decimal.specs.declared.signs.Sign.{Sign}
use Rattle.writeable.specs.Events.{Event}
use Rattle.icu_decimal_interface.specs.Shown.{Shown}
use Rattle.icu_dimension_data.specs.Resolved.{Signed, affixes_of}
use Rattle.icu_dimension_data.specs.Surrounding.{surrounded}

-- a formatter of numbers, and the patterns of the three signs
pub record SignedFormat (F : Type 0) : Type 0 where
  pub formatter : F
  pub patterns : Signed

-- the pattern of a sign around a number's events
abbrev pub sign_framed : Signed → Sign → List Event → List Event
sign_framed patterns sign es = surrounded (record { affixes = affixes_of patterns sign; texts = patterns.texts }) es

-- what is written for a number as it is shown: its events, with their parts, in the pattern of its sign
abbrev pub money_events : Signed → Sign → Shown → List Event
money_events patterns sign number = sign_framed patterns sign number.events
