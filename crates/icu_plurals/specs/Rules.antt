-- Plural rules: their texts, what is read of them, and the category of a number.
use Rattle.std.specs.Prelude.{◌≡◌, ℕ, suc, List, [], ◌∷◌, Option, Some, None, map, take, slice_get, if◌then◌else◌}
use Rattle.std.specs.Borrow.{Bor}
use Rattle.std.specs.List.{AllByRecursion}
use Rattle.icu_plurals.specs.declared.category.PluralCategory.{PluralCategory}
use Rattle.icu_plurals.specs.declared.category.PluralCategory.TheVariants.{Other}
use Rattle.icu_plurals.specs.declared.rules.Rule.{Rule as OwnedRule}
use Rattle.icu_plurals.specs.Operands.{Operands}
use Rattle.icu_plurals_conditions.specs.Grammar.{Condition, IsTextOf, IsConditionText, IsTextFault}
use Rattle.icu_plurals.specs.Meaning.{holds}
use Rattle.icu_plurals_conditions.specs.Owned.{condition_in}
use Rattle.icu_plurals_conditions.specs.Reading.{condition_of, fault_byte}

-- a category, and when a number has it
pub record Rule : Type 0 where
  pub category : PluralCategory
  pub condition : Condition

-- a rule as it is given: a category and the text of a condition
pub record SpelledRule : Type 0 where
  pub category : PluralCategory
  pub text : List ℕ

-- a category and a text as a rule that is given
abbrev pub spelled_rule : PluralCategory × Bor (List ℕ) → SpelledRule
spelled_rule r = record { category = r.0; text = r.1.now }

-- such rules in their order
abbrev pub spelled_rules : List (PluralCategory × Bor (List ℕ)) → List SpelledRule
spelled_rules rs = map spelled_rule rs

-- the rule has the category that is given, and the condition that the text spells
pub record IsReadFrom (g : SpelledRule) (r : Rule) : Type 0 where
  pub category : r.category ≡ g.category
  pub condition : IsTextOf g.text r.condition

-- each rule before this one is in the grammar, and this one isn't, with its first fault at the byte
pub record IsFirstBadRule (gs : List SpelledRule) (rule byte : ℕ) : Type 0 where
  pub before : AllByRecursion (λ g. IsConditionText g.text) (take rule gs)
  pub bad : SpelledRule
  pub found : slice_get gs rule ≡ Some bad
  pub fault : IsTextFault bad.text byte

-- the category of the first rule that holds, and other where none does
abbrev pub category_of : List Rule → Operands → PluralCategory
category_of [] o = Other
category_of (r ∷ rs) o = if holds o r.condition then r.category else category_of rs o

-- the rule of a value
abbrev pub rule_of : OwnedRule → Rule
rule_of r = record { category = r.category; condition = condition_in r.condition }

-- The first rule with a fault, from the k-th on, and its byte: how `IsFirstBadRule` is sought.
abbrev pub bad_rule_from : ℕ → List SpelledRule → Option (ℕ × ℕ)
bad_rule_from k [] = None
bad_rule_from k (g ∷ gs) = elim (fault_byte (condition_of g.text)) [ None ↦ bad_rule_from (suc k) gs | Some byte ↦ Some (k, byte) ]
