-- What plural rules are read as, by the clauses of the call that makes them.
use Rattle.std.proofs.Common.{◌≡◌, ℕ, zero, suc, ◌+◌, List, [], ◌∷◌, Some, Result, Ok, Err, refl, sym, ap, ◌∙◌, slice_get, take, arith}
use Rattle.std.specs.List.{AllZip, AllByRecursion}
use Rattle.icu_plurals_conditions.specs.Grammar.{Condition, IsConditionText}
use Rattle.icu_plurals_conditions.specs.Reading.{condition_of, fault_byte}
use Rattle.icu_plurals.specs.Rules.{Rule, SpelledRule, IsReadFrom, IsFirstBadRule}
use Rattle.icu_plurals_conditions.proofs.Judged.{text_is_read, fault_is_found}
use Rattle.icu_table_entries.specs.Named.{refused}
use Rattle.icu_tables.specs.Rules.{rule_then, rules_from}
use Rattle.icu_table_entries.specs.declared.error.EntryFault.TheVariants.{BadRule}
use Rattle.icu_table_entries.specs.declared.error.Position.{Position}

-- rules that are read are the rules
pub all_read : (position : Position) (k : ℕ) (gs : List SpelledRule) (rs : List Rule) → AllZip IsReadFrom gs rs → rules_from position k gs ≡ Ok rs
unfolding rules_from
all_read position k [] [] h = refl
all_read position k [] (r ∷ rs) h = absurd h
all_read position k (g ∷ gs) [] h = absurd h
all_read position k (g ∷ gs) (r ∷ rs) h =
    let rest = all_read position (k + 1) gs rs h.1 in
    let first = text_is_read g.text r.condition h.0.condition in
    ap (λ x. rule_then position k g x (rules_from position (k + 1) gs)) first
    ∙ ap (λ x. rule_then position k g (Ok r.condition) x) rest
    ∙ ap (λ c. Ok (record { category = c; condition = r.condition } ∷ rs)) (sym h.0.category)

is_refusal : (x : Result Condition ℕ) (byte : ℕ) → fault_byte x ≡ Some byte → x ≡ Err byte
is_refusal (Ok c) byte h = absurd cc
is_refusal (Err b) byte h = let e : b ≡ byte = cc in ap Err e

bad_from : (position : Position) (k : ℕ) (gs : List SpelledRule) (rule byte : ℕ) (bad : SpelledRule)
    → AllByRecursion (λ g. IsConditionText g.text) (take rule gs) → slice_get gs rule ≡ Some bad → condition_of bad.text ≡ Err byte
    → rules_from position k gs ≡ refused position (BadRule (k + rule) byte)
unfolding rules_from
bad_from position k [] rule byte bad before found h = absurd cc
bad_from position k (g ∷ gs) zero byte bad before found h =
    let same : bad ≡ g = cc in
    let zeroth : k ≡ k + 0 = omega arith in
    let first : condition_of g.text ≡ Err byte = ap (λ x. condition_of x.text) (sym same) ∙ h in
    ap (λ x. rule_then position k g x (rules_from position (k + 1) gs)) first ∙ ap (λ x. refused position (BadRule x byte)) zeroth
bad_from position k (g ∷ gs) (suc rule) byte bad before found h =
    let m : k + 1 + rule ≡ k + suc rule = omega arith in
    let rest = bad_from position (k + 1) gs rule byte bad before.1 found h in
    ap (λ x. rule_then position k g x (rules_from position (k + 1) gs)) (text_is_read g.text before.0.0 before.0.1)
    ∙ ap (λ x. rule_then position k g (Ok before.0.0) x) rest
    ∙ ap (λ x. refused position (BadRule x byte)) m

-- the first rule that isn't in the grammar is reported
pub first_bad : (position : Position) (gs : List SpelledRule) (rule byte : ℕ) → IsFirstBadRule gs rule byte →
    rules_from position 0 gs ≡ refused position (BadRule rule byte)
first_bad position gs rule byte h =
    let zeroth : 0 + rule ≡ rule = omega arith in
    bad_from position 0 gs rule byte h.bad h.before h.found (is_refusal (condition_of h.bad.text) byte (fault_is_found h.bad.text byte h.fault))
    ∙ ap (λ x. refused position (BadRule x byte)) zeroth
