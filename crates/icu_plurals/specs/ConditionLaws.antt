-- Laws of the texts and the meaning of conditions, for the callers of this crate.
use Rattle.std.specs.Prelude.{◌≡◌, ◌<◌, ℕ, false}
pub use Rattle.icu_plurals_conditions.specs.ConditionLaws.{EachTextIsJudged, NoTextIsJudgedTwice, FirstFaultsAreUnique, ConditionsAreUnique}
use Rattle.icu_plurals_conditions.specs.declared.condition.Item.TheVariants.{Range}
use Rattle.icu_plurals.specs.Meaning.{has}

-- a range whose first value is greater has nothing
abbrev pub TurnedRangesAreEmpty : Type 0
TurnedRangesAreEmpty = (first last number : ℕ) → last < first → has number (Range first last) ≡ false
