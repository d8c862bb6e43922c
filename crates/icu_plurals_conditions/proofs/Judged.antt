-- Each text spells one condition or has one first fault, and that is what is read.
use Rattle.std.proofs.Common.{◌≡◌, ◌⊎◌, inl, inr, ℕ, suc, ◌<◌, ◌≤◌, List, ◌++◌, take, drop, length, Option, Some, None, Result, Ok}
use Rattle.std.proofs.Common.{Err, refl, sym, ap, ◌∙◌, append_assoc, arith}
use Rattle.std.specs.Prelude.{IfOk, IfSome, IfNone}
use Rattle.std.proofs.lemmas.List.{take-append-drop, take-take}
use Rattle.icu_plurals_conditions.specs.declared.lexer.Token.{Token}
use Rattle.icu_plurals_conditions.specs.Tokens.{part_of}
use Rattle.icu_plurals_conditions.specs.Grammar.{Condition, IsWellFormed, tokens_of, PositionedToken, kinds, offset_at, text_tokens, IsTextOf, IsConditionText}
use Rattle.icu_plurals_conditions.specs.Grammar.{Begins}
use Rattle.icu_plurals_conditions.specs.Grammar.{IsFirstFault, IsTextFault}
use Rattle.icu_plurals_conditions.specs.Reading.{condition_of, fault_byte}
use Rattle.icu_plurals_conditions.proofs.Spelled.{read_is_well_formed, read_is_spelled}
use Rattle.icu_plurals_conditions.proofs.Accepted.{spelled_is_read}
use Rattle.icu_plurals_conditions.proofs.Faults.{first_fault}
use Rattle.icu_plurals_conditions.proofs.Answered.{some, none, done, fault, some_is, none_is}

-- a beginning of what begins a condition begins it
begins_before : (ks : List Token) (i j : ℕ) → i ≤ j → Begins (take j ks) → Begins (take i ks)
begins_before ks i j h b =
    let cut : take i ks ++ drop i (take j ks) ≡ take j ks =
    ap (λ k. k ++ drop i (take j ks)) (sym (take-take i j ks h)) ∙ take-append-drop i (take j ks) in
    (drop i (take j ks) ++ b.0, b.1, b.2, sym (append_assoc (take i ks) (drop i (take j ks)) b.0) ∙ ap (λ k. k ++ b.0) cut ∙ b.3)

no_earlier : (end : ℕ) (ts : List PositionedToken) (a b : ℕ) (p : IsFirstFault end ts a) (q : IsFirstFault end ts b) → p.count < q.count → ⊥
no_earlier end ts a b p q h = p.after (omega (arith, h, q.within)) (begins_before (kinds ts) (suc p.count) q.count (omega (arith, h)) q.before)

same_count : (end : ℕ) (ts : List PositionedToken) (a b : ℕ) (p : IsFirstFault end ts a) (q : IsFirstFault end ts b) → p.count ≡ q.count
same_count end ts a b p q =
    let low : p.count < q.count → ⊥ = no_earlier end ts a b p q in
    let high : q.count < p.count → ⊥ = no_earlier end ts b a q p in
    by p.count q.count low high
  where
    by : (m n : ℕ) → (m < n → ⊥) → (n < m → ⊥) → m ≡ n
    by m n h k = omega (arith, h, k)

one_fault : (end : ℕ) (ts : List PositionedToken) (a b : ℕ) → IsFirstFault end ts a → IsFirstFault end ts b → a ≡ b
one_fault end ts a b p q = p.offset ∙ ap (offset_at end ts) (same_count end ts a b p q) ∙ sym q.offset

no_condition : (end : ℕ) (ts : List PositionedToken) (b : ℕ) → IsFirstFault end ts b → (c : Condition) → IsWellFormed c → kinds ts ≡ tokens_of c
    → ⊥
no_condition end ts b p c h e =
    by p.count (length ts) p.within (λ lt. p.after lt (drop (suc p.count) (kinds ts), c, h, take-append-drop (suc p.count) (kinds ts) ∙ e))
    (λ is. p.whole is c h e)
  where
    by : (m n : ℕ) → m ≤ n → (m < n → ⊥) → (m ≡ n → ⊥) → ⊥
    by m n k l r = omega (arith, k, l, r)

-- the first fault of a text is unique
pub fault_is_unique : (text : List ℕ) (a b : ℕ) → IsTextFault text a → IsTextFault text b → a ≡ b
fault_is_unique text a b p q = one_fault (length (part_of text)) (text_tokens text) a b p q

-- no text has both a fault and a condition
pub fault_or_condition : (text : List ℕ) (b : ℕ) → IsTextFault text b → IsConditionText text → ⊥
fault_or_condition text b p q = no_condition (length (part_of text)) (text_tokens text) b p q.0 q.1.well_formed q.1.spelled

ok_is : (c d : Condition) → done c ≡ done d → c ≡ d
ok_is c d e = cc

-- what is read is spelled so
pub read_is_text : (text : List ℕ) (c : Condition) → condition_of text ≡ Ok c → IsTextOf text c
unfolding condition_of
read_is_text text c e = record {
  well_formed = read_is_well_formed (length (part_of text)) (text_tokens text) c e;
  spelled = read_is_spelled (length (part_of text)) (text_tokens text) c e;
}

-- what is spelled so is read
pub text_is_read : (text : List ℕ) (c : Condition) → IsTextOf text c → condition_of text ≡ Ok c
unfolding condition_of
text_is_read text c h = spelled_is_read (length (part_of text)) (text_tokens text) c h.well_formed h.spelled

-- a text spells one condition
pub condition_is_unique : (text : List ℕ) (c d : Condition) → IsTextOf text c → IsTextOf text d → c ≡ d
condition_is_unique text c d h k = ok_is c d (sym (text_is_read text c h) ∙ text_is_read text d k)

-- an error is the first fault
pub refused_is_fault : (text : List ℕ) (b : ℕ) → condition_of text ≡ Err b → IsTextFault text b
unfolding condition_of
refused_is_fault text b e = first_fault (length (part_of text)) (text_tokens text) b e

-- what is found is the first fault
pub found_is_fault : (text : List ℕ) (b : ℕ) → fault_byte (condition_of text) ≡ Some b → IsTextFault text b
found_is_fault text b e = by (condition_of text) refl e
  where
    by : (x : Result Condition ℕ) → condition_of text ≡ x → fault_byte x ≡ some b → IsTextFault text b
    by (Ok c) h k = absurd (none_is k)
    by (Err a) h k = refused_is_fault text b (h ∙ ap fault (some_is k))

-- where nothing is found there is a condition
pub none_is_condition : (text : List ℕ) → fault_byte (condition_of text) ≡ None → IsConditionText text
none_is_condition text e = by (condition_of text) refl e
  where
    by : (x : Result Condition ℕ) → condition_of text ≡ x → fault_byte x ≡ none → IsConditionText text
    by (Ok c) h k = (c, read_is_text text c h)
    by (Err a) h k = absurd (none_is (sym k))

-- where something is found it is the first fault
pub found_faults : (text : List ℕ) (found : Option ℕ) → found ≡ fault_byte (condition_of text) → IfSome found (λ b. IsTextFault text b)
found_faults text None e = tt
found_faults text (Some b) e = found_is_fault text b (sym e)

-- where nothing is found the text spells a condition
pub none_spells : (text : List ℕ) (found : Option ℕ) → found ≡ fault_byte (condition_of text) → IfNone found (IsConditionText text)
none_spells text None e = none_is_condition text (sym e)
none_spells text (Some b) e = tt

-- what is read of a text is what it spells
pub read_spells : {E : Type 0} (text : List ℕ) {A : Type 0} (f : A → Condition) (r : Result A E) → IfOk r (λ c. condition_of text ≡ Ok (f c)) →
    IfOk r (λ c. IsTextOf text (f c))
read_spells text f (Ok c) e = read_is_text text (f c) e
read_spells text f (Err e) h = tt

-- the first fault is found
pub fault_is_found : (text : List ℕ) (b : ℕ) → IsTextFault text b → fault_byte (condition_of text) ≡ Some b
fault_is_found text b p = by (condition_of text) refl
  where
    by : (x : Result Condition ℕ) → condition_of text ≡ x → fault_byte x ≡ some b
    by (Ok c) h = absurd (fault_or_condition text b p (c, read_is_text text c h))
    by (Err a) h = ap (λ n. some n) (fault_is_unique text a b (refused_is_fault text a h) p)

-- in a text that spells a condition nothing is found
pub condition_has_none : (text : List ℕ) → IsConditionText text → fault_byte (condition_of text) ≡ None
condition_has_none text h = ap fault_byte (text_is_read text h.0 h.1)

-- each text spells a condition or has a first fault
pub one_of_both : (text : List ℕ) → (IsConditionText text) ⊎ ((b : ℕ) × IsTextFault text b)
one_of_both text = by (condition_of text) refl
  where
    by : (x : Result Condition ℕ) → condition_of text ≡ x → (IsConditionText text) ⊎ ((b : ℕ) × IsTextFault text b)
    by (Ok c) h = inl (c, read_is_text text c h)
    by (Err b) h = inr (b, refused_is_fault text b h)
