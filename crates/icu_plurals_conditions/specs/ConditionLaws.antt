-- Laws of the texts of conditions, for the callers of this crate.
use Rattle.std.specs.Prelude.{◌≡◌, ◌⊎◌, ◌↔◌, ℕ, List, Ok, Err}
use Rattle.icu_plurals_conditions.specs.Grammar.{Condition, IsTextOf, IsConditionText, IsTextFault}
use Rattle.icu_plurals_conditions.specs.Reading.{condition_of}

-- each text spells a condition or has a first fault
abbrev pub EachTextIsJudged : Type 0
EachTextIsJudged = (text : List ℕ) → (IsConditionText text) ⊎ ((byte : ℕ) × IsTextFault text byte)

-- no text has both
abbrev pub NoTextIsJudgedTwice : Type 0
NoTextIsJudgedTwice = (text : List ℕ) (byte : ℕ) → IsTextFault text byte → ¬ (IsConditionText text)

-- a text has at most one first fault
abbrev pub FirstFaultsAreUnique : Type 0
FirstFaultsAreUnique = (text : List ℕ) (first second : ℕ) → IsTextFault text first → IsTextFault text second → first ≡ second

-- a text spells at most one condition
abbrev pub ConditionsAreUnique : Type 0
ConditionsAreUnique = (text : List ℕ) (first second : Condition) → IsTextOf text first → IsTextOf text second → first ≡ second

-- what is computed of a text is the condition that it spells
abbrev pub ReadingIsSpelled : Type 0
ReadingIsSpelled = (text : List ℕ) (condition : Condition) → (condition_of text ≡ Ok condition) ↔ IsTextOf text condition

-- and a byte exactly where that is its first fault
abbrev pub RefusalIsFirstFault : Type 0
RefusalIsFirstFault = (text : List ℕ) (byte : ℕ) → (condition_of text ≡ Err byte) ↔ IsTextFault text byte
