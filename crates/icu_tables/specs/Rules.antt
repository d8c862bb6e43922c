-- Entries of plural rules.
use Rattle.std.specs.Prelude.{ℕ, ◌+◌, List, [], ◌∷◌, Option, Some, None, codes, nat_eq, Result, Ok, Err, if◌then◌else◌}
use Rattle.std.specs.Cmp.Lexicographic.{pointwise}
use Rattle.serde_json.specs.Data.{Data}
use Rattle.icu_plurals.specs.declared.category.PluralCategory.{PluralCategory}
use Rattle.icu_plurals.specs.declared.category.PluralCategory.TheVariants as category
use Rattle.icu_plurals_conditions.specs.Grammar.{Condition}
use Rattle.icu_plurals_conditions.specs.Reading.{condition_of}
use Rattle.icu_plurals.specs.Rules.{Rule, SpelledRule}
use Rattle.icu_table_entries.specs.Named.{NamedEntry, refused, identifier_from}
use Rattle.icu_table_entries.specs.Reading.{◌>>=◌, ok_or, object_in, text_in, text_at, list_at, pair_in, entries_at}
use Rattle.icu_table_entries.specs.declared.error.EntryFault.TheVariants.{BadRule}
use Rattle.icu_table_entries.specs.declared.error.Key.TheVariants.{Locale, Rules}
use Rattle.icu_table_entries.specs.declared.error.Position.{Position}
use Rattle.icu_table_entries.specs.declared.error.TableError.{TableError}
use Rattle.icu_table_entries.specs.declared.error.TableError.TheVariants.{WrongKind}

-- the plural category of a name
unfoldable pub category_named : List ℕ → Option PluralCategory
category_named name =
    if pointwise nat_eq name (codes "zero") then Some category.Zero
    else if pointwise nat_eq name (codes "one") then Some category.One
    else if pointwise nat_eq name (codes "two") then Some category.Two
    else if pointwise nat_eq name (codes "few") then Some category.Few
    else if pointwise nat_eq name (codes "many") then Some category.Many
    else if pointwise nat_eq name (codes "other") then Some category.Other
    else None

-- a rule: a list of a category's name and a condition's text, which isn't judged yet
unfoldable pub spelled_rule_in : Data → Result SpelledRule TableError
spelled_rule_in d = do
  pair ← pair_in Rules d
  name ← text_in Rules pair.0
  category ← ok_or (category_named name) (WrongKind Rules)
  text ← text_in Rules pair.1
  Ok (record { category = category; text = text })

-- each rule in turn
unfoldable pub spelled_rules_in : List Data → Result (List SpelledRule) TableError
spelled_rules_in ds = entries_at (λ position. spelled_rule_in) Rules 0 ds

-- the k-th rule, whose text is read so, before the rules after it
abbrev pub rule_then : Position → ℕ → SpelledRule → Result Condition ℕ → Result (List Rule) TableError → Result (List Rule) TableError
rule_then position k g (Err byte) after = refused position (BadRule k byte)
rule_then position k g (Ok condition) after = do
  rules ← after
  Ok (record { category = g.category; condition = condition } ∷ rules)

-- what the rules are read as, from the k-th on; the first that isn't in the grammar is reported with its index and byte offset
unfoldable pub rules_from : Position → ℕ → List SpelledRule → Result (List Rule) TableError
rules_from position k [] = Ok []
rules_from position k (g ∷ gs) = rule_then position k g (condition_of g.text) (rules_from position (k + 1) gs)

-- an entry: first the kinds of all its fields, then its name, then its rules
unfoldable pub rules_at : Position → Data → Result (NamedEntry (List Rule)) TableError
rules_at position d = do
  d ← object_in position.key d
  locale ← text_at Locale d
  rules ← list_at Rules d
  spelled ← spelled_rules_in rules
  identifier ← identifier_from position locale None
  rules ← rules_from position 0 spelled
  Ok (record { identifier = identifier; content = rules })
