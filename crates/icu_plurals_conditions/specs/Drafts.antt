-- A condition while it is read: what each token changes of it.
use Rattle.std.specs.Prelude.{ℕ, List, [], ◌∷◌, ◌++◌, Bool, true, false, Option, Some, None, map}
use Rattle.icu_plurals_conditions.specs.declared.condition.Operand.{Operand}
use Rattle.icu_plurals_conditions.specs.declared.condition.Operand.TheVariants.{N}
use Rattle.icu_plurals_conditions.specs.declared.condition.Item.{Item}
use Rattle.icu_plurals_conditions.specs.declared.condition.Item.TheVariants.{Value, Range}
use Rattle.icu_plurals_conditions.specs.declared.lexer.Token.{Token}
use Rattle.icu_plurals_conditions.specs.declared.lexer.Token.TheVariants.{Letter, And, Or, Number, Percent, Equals, NotEquals, Comma, Dots, Unknown}
use Rattle.icu_plurals_conditions.specs.declared.progress.Progress.{Progress}
use Rattle.icu_plurals_conditions.specs.declared.progress.Progress.TheVariants.{Divided, Valued, Ranged, Ended}
use Rattle.icu_plurals_conditions.specs.declared.draft.Draft.{Draft}
use Rattle.icu_plurals_conditions.specs.Grammar.{Relation, Condition}
use Rattle.icu_plurals_conditions.specs.Owned.{relation_of, relations_of}

-- whole alternatives, whole relations of the last one, and the parts of the last relation with its last item apart
pub record Drafted : Type 0 where
  pub alternatives : Condition
  pub relations : List Relation
  pub operand : Operand
  pub modulus : Option ℕ
  pub negated : Bool
  pub ranges : List Item
  pub item : Item

-- a relation of its parts
abbrev pub made : Operand → Option ℕ → Bool → List Item → Relation
made o m negated ranges = record { operand = o; modulus = m; negated = negated; ranges = ranges }

-- what a draft holds
abbrev pub drafted : Draft → Drafted
drafted d = record {
  alternatives = map relations_of d.alternatives.items;
  relations = map relation_of d.relations.items;
  operand = d.operand;
  modulus = d.modulus;
  negated = d.negated;
  ranges = d.ranges.items;
  item = d.item;
}

-- a draft before the first token
abbrev pub empty_draft : Drafted
empty_draft = record { alternatives = []; relations = []; operand = N; modulus = None; negated = false; ranges = []; item = Value 0 }

-- the last item is whole
abbrev pub with_item : Drafted → Drafted
with_item d = record d { ranges = d.ranges ++ d.item ∷ [] }

-- the relation that ends with the last item
abbrev pub last_relation : Drafted → Relation
last_relation d = made d.operand d.modulus d.negated (d.ranges ++ d.item ∷ [])

-- the last relation is whole
abbrev pub with_relation : Drafted → Drafted
with_relation d = record d { relations = d.relations ++ last_relation d ∷ []; ranges = [] }

-- the last alternative is whole
abbrev pub with_alternative : Drafted → Drafted
with_alternative d = record d { alternatives = d.alternatives ++ (with_relation d).relations ∷ []; relations = []; ranges = [] }

-- the first end of a range, or the value
abbrev pub first_of : Item → ℕ
first_of (Value a) = a
first_of (Range a b) = a

-- a number is a modulus, the other end of a range, or a value
abbrev pub with_number : Progress → ℕ → Drafted → Drafted
with_number Divided n d = record d { modulus = Some n }
with_number Ranged n d = record d { item = Range (first_of d.item) n }
with_number _ n d = record d { item = Value n }

-- what a token changes, by the progress before it
abbrev pub with_token : Progress → Token → Drafted → Drafted
with_token g (Letter o) d = record d { operand = o; modulus = None }
with_token g And d = with_relation d
with_token g Or d = with_alternative d
with_token g (Number n) d = with_number g n d
with_token g Percent d = d
with_token g Equals d = record d { negated = false }
with_token g NotEquals d = record d { negated = true }
with_token g Comma d = with_item d
with_token g Dots d = d
with_token g Unknown d = d

-- the condition that is read when the text ends
abbrev pub completed : Progress → Drafted → Condition
completed Valued d = (with_alternative d).alternatives
completed Ended d = (with_alternative d).alternatives
completed _ d = d.alternatives
