-- The first bad rule is the one that is sought, and rules without one are read.
-- The search `bad_rule_from k` counts on from k, and `IsFirstBadRule` counts from the front of the list, so both inductions over the rules go by any k:
-- `found_at` finds a place relative to k (`FoundAt`), and `bad_at` goes back. Each splits by whether the first rule has a fault; that this is
-- the fault of its text, or that its text is a condition, is cited from `icu_plurals_conditions.proofs.Judged`.
-- `rest_of` is that case split as a function, so that an equation of the fault can be put into it with `ap`.
-- `read_more` and `none_more` are one round of the loop of `rules::read_rules`.
use Rattle.std.proofs.Common.{◌≡◌, ◌↔◌, ℕ, zero, suc, ◌+◌, ◌<◌, List, [], ◌∷◌, ◌++◌, map, take, drop, length, get_or, Bor}
use Rattle.std.proofs.Common.{Option, Some, None, Result, Ok, Err, IsOkUnless, IsErrOf, add-one, refl, sym, ap, subst, ◌∙◌, arith}
use Rattle.std.specs.List.{AllZip}
use Rattle.std.proofs.Math.Seq.{drop-cons, take-suc}
use Rattle.std.proofs.lemmas.List.{map-append}
use Rattle.icu_plurals.specs.declared.category.PluralCategory.{PluralCategory}
use Rattle.icu_plurals_conditions.specs.declared.error.RulesError.{RulesError}
use Rattle.icu_plurals_conditions.specs.declared.error.RulesError.TheVariants.{BadRule, OutOfMemory}
use Rattle.icu_plurals_conditions.specs.declared.condition.Condition.{Condition as OwnedCondition}
use Rattle.icu_plurals.specs.declared.rules.Rule.{Rule as OwnedRule}
use Rattle.icu_plurals_conditions.specs.Owned.{condition_in}
use Rattle.icu_plurals_conditions.specs.Grammar.{Condition, IsConditionText, IsTextFault}
use Rattle.icu_plurals_conditions.specs.Reading.{condition_of, fault_byte}
use Rattle.icu_plurals.specs.Rules.{Rule, SpelledRule, spelled_rule, spelled_rules, IsReadFrom, IsFirstBadRule, rule_of, bad_rule_from}
use Rattle.icu_plurals_conditions.proofs.Judged.{found_is_fault, none_is_condition, fault_is_found, condition_has_none, read_is_text}
use Rattle.icu_plurals_conditions.proofs.Answered.{some, none, some_is, none_is}

abbrev rest_of : ℕ → List SpelledRule → Option ℕ → Option (ℕ × ℕ)
rest_of k gs None = bad_rule_from (suc k) gs
rest_of k gs (Some byte) = Some (k, byte)

bad_is : (k : ℕ) (g : SpelledRule) (gs : List SpelledRule) → bad_rule_from k (g ∷ gs) ≡ rest_of k gs (fault_byte (condition_of g.text))
bad_is k g gs = by (fault_byte (condition_of g.text))
  where
    by : (o : Option ℕ) → elim o as (λ _. Option (ℕ × ℕ)) [ None ↦ bad_rule_from (suc k) gs | Some byte ↦ Some (k, byte) ] ≡ rest_of k gs o
    by None = refl
    by (Some b) = refl

-- a first bad rule at a place further on
record FoundAt (k : ℕ) (gs : List SpelledRule) (r b : ℕ) : Type 0 where
  index : ℕ
  is_index : r ≡ k + index
  bad : IsFirstBadRule gs index b

found_later : (k : ℕ) (g : SpelledRule) (gs : List SpelledRule) (r b : ℕ) → IsConditionText g.text → FoundAt (suc k) gs r b → FoundAt k (g ∷ gs) r b
found_later k g gs r b h f = record {
  index = suc f.index;
  is_index = omega (arith, f.is_index);
  bad = record { before = (h, f.bad.before); bad = f.bad.bad; found = f.bad.found; fault = f.bad.fault };
}

found_here : (k : ℕ) (g : SpelledRule) (gs : List SpelledRule) (r b : ℕ) → r ≡ k → IsTextFault g.text b → FoundAt k (g ∷ gs) r b
found_here k g gs r b e h = record {
  index = 0;
  is_index = omega (arith, e);
  bad = record { before = tt; bad = g; found = refl; fault = h };
}

abbrev first : Option (ℕ × ℕ) → ℕ
first None = 0
first (Some p) = p.0

abbrev second : Option (ℕ × ℕ) → ℕ
second None = 0
second (Some p) = p.1

found_by : (k : ℕ) (g : SpelledRule) (gs : List SpelledRule) (r b : ℕ) → (bad_rule_from (suc k) gs ≡ Some (r, b) → FoundAt (suc k) gs r b)
    → (o : Option ℕ) → fault_byte (condition_of g.text) ≡ o → rest_of k gs o ≡ Some (r, b) → FoundAt k (g ∷ gs) r b
found_by k g gs r b rest None e h = found_later k g gs r b (none_is_condition g.text e) (rest h)
found_by k g gs r b rest (Some a) e h = found_here k g gs r b (sym (ap first h)) (found_is_fault g.text b (e ∙ ap (λ n. some n) (ap second h)))

found_at : (k : ℕ) (gs : List SpelledRule) (r b : ℕ) → bad_rule_from k gs ≡ Some (r, b) → FoundAt k gs r b
found_at k [] r b h = absurd (none_is h)
found_at k (g ∷ gs) r b h = found_by k g gs r b (λ e. found_at (suc k) gs r b e) (fault_byte (condition_of g.text)) refl (sym (bad_is k g gs) ∙ h)

-- what is sought is the first bad rule
pub found_is_bad : (gs : List SpelledRule) (r b : ℕ) → bad_rule_from 0 gs ≡ Some (r, b) → IsFirstBadRule gs r b
found_is_bad gs r b h =
    let f = found_at 0 gs r b h in
    let same : f.index ≡ r = omega (arith, f.is_index) in
    let P : ℕ → Type 0 = λ n. IsFirstBadRule gs n b in
    subst P same f.bad

bad_at : (k : ℕ) (gs : List SpelledRule) (j b : ℕ) → IsFirstBadRule gs j b → bad_rule_from k gs ≡ Some (k + j, b)
bad_at k [] j b h = absurd (none_is h.found)
bad_at k (g ∷ gs) zero b h =
    let here : IsTextFault g.text b = (let same : g ≡ h.bad = some_is h.found in let P : SpelledRule → Type 0 = λ x. IsTextFault x.text b in
    subst P (sym same) h.fault) in
    let index : k ≡ k + zero = omega arith in
    bad_is k g gs ∙ ap (rest_of k gs) (fault_is_found g.text b here) ∙ ap (λ n. some (n, b)) index
bad_at k (g ∷ gs) (suc j) b h =
    let index : suc k + j ≡ k + suc j = omega arith in
    bad_is k g gs ∙ ap (rest_of k gs) (condition_has_none g.text h.before.0)
    ∙ bad_at (suc k) gs j b (record { before = h.before.1; bad = h.bad; found = h.found; fault = h.fault }) ∙ ap (λ n. some (n, b)) index

-- the first bad rule is what is sought
pub bad_is_found : (gs : List SpelledRule) (r b : ℕ) → IsFirstBadRule gs r b → bad_rule_from 0 gs ≡ Some (r, b)
bad_is_found gs r b h =
    let index : 0 + r ≡ r = omega arith in
    bad_at 0 gs r b h ∙ ap (λ n. some (n, b)) index

abbrev wrong : {T : Type 0} → RulesError → Result T RulesError
wrong e = Err e

abbrev right : {T : Type 0} → T → Result T RulesError
right x = Ok x

abbrev bad_rule : ℕ → ℕ → RulesError
bad_rule r b = BadRule r b

abbrev rule_in : RulesError → ℕ
rule_in (BadRule r b) = r
rule_in OutOfMemory = 0

abbrev byte_in : RulesError → ℕ
byte_in (BadRule r b) = b
byte_in OutOfMemory = 0

-- an error for a rule, exactly
pub refused_for_rule : {T : Type 0} (gs : List SpelledRule) (x y : ℕ) → bad_rule_from 0 gs ≡ Some (x, y) → (rule byte : ℕ) →
    IsErrOf (wrong {T = T} (bad_rule x y)) (bad_rule rule byte) ↔ IsFirstBadRule gs rule byte
refused_for_rule {T} gs x y h rule byte = (there, back)
  where
    err_is : (e f : RulesError) → wrong {T = T} e ≡ wrong f → e ≡ f
    err_is e f k = cc

    there : wrong {T = T} (bad_rule x y) ≡ wrong (bad_rule rule byte) → IsFirstBadRule gs rule byte
    there e =
        let same : bad_rule x y ≡ bad_rule rule byte = err_is (bad_rule x y) (bad_rule rule byte) e in
        found_is_bad gs rule byte (h ∙ ap (λ n. some (n, y)) (ap rule_in same) ∙ ap (λ n. some (rule, n)) (ap byte_in same))

    back : IsFirstBadRule gs rule byte → wrong {T = T} (bad_rule x y) ≡ wrong (bad_rule rule byte)
    back k =
        let same : some (x, y) ≡ some (rule, byte) = sym h ∙ bad_is_found gs rule byte k in
        ap (λ n. wrong (bad_rule n y)) (ap first same) ∙ ap (λ n. wrong (bad_rule rule n)) (ap second same)

-- where no rule is bad, no answer is an error for a rule
pub not_refused : {T : Type 0} (gs : List SpelledRule) (r : Result T RulesError) → bad_rule_from 0 gs ≡ None →
    ((rule byte : ℕ) → r ≡ Err (BadRule rule byte) → ⊥) → (rule byte : ℕ) → IsErrOf r (BadRule rule byte) ↔ IsFirstBadRule gs rule byte
not_refused gs r h k rule byte = (λ e. absurd (k rule byte e), λ b. absurd (none_is (sym h ∙ bad_is_found gs rule byte b)))

-- out of memory is no error for a rule
pub memory_is_no_rule : {T : Type 0} (r : Result T RulesError) → IsOkUnless r OutOfMemory → (rule byte : ℕ) → r ≡ Err (BadRule rule byte) → ⊥
memory_is_no_rule (Ok x) h rule byte e = absurd cc
memory_is_no_rule (Err f) h rule byte e = absurd cc

all_push : (gs : List SpelledRule) (rs : List Rule) (g : SpelledRule) (r : Rule) → AllZip IsReadFrom gs rs → IsReadFrom g r →
    AllZip IsReadFrom (gs ++ g ∷ []) (rs ++ r ∷ [])
all_push [] [] g r h k = (k, tt)
all_push [] (y ∷ ys) g r h k = absurd h
all_push (x ∷ xs) [] g r h k = absurd h
all_push (x ∷ xs) (y ∷ ys) g r h k = (h.0, all_push xs ys g r h.1 k)

-- one rule more is read
pub read_more : (xs : List (PluralCategory × Bor (List ℕ))) (i : ℕ) (d : PluralCategory × Bor (List ℕ)) (ys zs : List OwnedRule)
    (c : OwnedCondition) → i < length xs
    → AllZip IsReadFrom (spelled_rules (take i xs)) (map rule_of ys) → condition_of (get_or xs i d).1.now ≡ Ok (condition_in c)
    → zs ≡ ys ++ record { category = (get_or xs i d).0; condition = c } ∷ [] → AllZip IsReadFrom (spelled_rules (take (i + 1) xs)) (map rule_of zs)
read_more xs i d ys zs c lt h k e =
    let x = get_or xs i d in
    let r : OwnedRule = record { category = x.0; condition = c } in
    let given_is : spelled_rules (take (i + 1) xs) ≡ spelled_rules (take i xs) ++ spelled_rule x ∷ [] =
    ap spelled_rules (rw add-one (take-suc xs i d lt)) ∙ map-append spelled_rule (take i xs) (x ∷ []) in
    let rules_are : map rule_of zs ≡ map rule_of ys ++ rule_of r ∷ [] = ap (map rule_of) e ∙ map-append rule_of ys (r ∷ []) in
    let here : IsReadFrom (spelled_rule x) (rule_of r) = record { category = refl; condition = read_is_text x.1.now (condition_in c) k } in
    rw (given_is, rules_are) (all_push (spelled_rules (take i xs)) (map rule_of ys) (spelled_rule x) (rule_of r) h here)

-- the rules after one without a fault have none either
pub none_more : (xs : List (PluralCategory × Bor (List ℕ))) (i : ℕ) (d : PluralCategory × Bor (List ℕ)) (c : Condition) → i < length xs →
    bad_rule_from i (spelled_rules (drop i xs)) ≡ None
    → condition_of (get_or xs i d).1.now ≡ Ok c → bad_rule_from (i + 1) (spelled_rules (drop (i + 1) xs)) ≡ None
none_more xs i d c lt h k =
    let x = get_or xs i d in
    let fine : fault_byte (condition_of (spelled_rule x).text) ≡ none = ap fault_byte k in
    let cut : drop i xs ≡ x ∷ drop (suc i) xs = drop-cons xs i d lt in
    rw add-one (sym (ap (rest_of i (spelled_rules (drop (suc i) xs))) fine) ∙ sym (bad_is i (spelled_rule x) (spelled_rules (drop (suc i) xs)))
    ∙ sym (ap (λ l. bad_rule_from i (spelled_rules l)) cut) ∙ h)
