-- What is spelled so is read.
-- Each part of a condition is read with whatever tokens stand behind it: `Reads end g d ks c` says that from the progress g and the draft d
-- the tokens ks are read to the end, as c. A part's lemma takes how reading goes on behind it, for each progress and draft with which the part
-- may end (`Ends`, `EndsAll`). One equation for each part doesn't do: a value ends with another progress than a range, and a relation is put
-- away only with the token behind it. Inductions are over ranges (`ranges_read`), relations (`relations_read`) and alternatives
-- (`alternatives_read`); single tokens are `goes_on` and `at_end` of Steps.
use Rattle.std.proofs.Common.{◌≡◌, ◌≢◌, ℕ, zero, suc, ◌<◌, List, [], ◌∷◌, ◌++◌, Bool, true, false, Option, Some, None, Ok, refl, ap}
use Rattle.std.proofs.Common.{◌∙◌, append_assoc, arith}
use Rattle.std.specs.Prelude.{IfSome}
use Rattle.std.specs.List.{AllByRecursion}
use Rattle.std.proofs.lemmas.List.{append-nil}
use Rattle.icu_plurals_conditions.specs.declared.condition.Operand.{Operand}
use Rattle.icu_plurals_conditions.specs.declared.condition.Item.{Item}
use Rattle.icu_plurals_conditions.specs.declared.condition.Item.TheVariants.{Value, Range}
use Rattle.icu_plurals_conditions.specs.declared.lexer.Token.{Token}
use Rattle.icu_plurals_conditions.specs.declared.lexer.Token.TheVariants.{Letter, And, Or, Number, Percent, Equals, NotEquals, Comma, Dots}
use Rattle.icu_plurals_conditions.specs.declared.progress.Progress.{Progress}
use Rattle.icu_plurals_conditions.specs.declared.progress.Progress.TheVariants.{Nothing, Joined, AfterOperand, Divided, Reduced, Listed, Valued, Ranged, Ended}
use Rattle.icu_plurals_conditions.specs.Grammar.{Relation, IsRelation, IsWellFormed, Condition}
use Rattle.icu_plurals_conditions.specs.Grammar.{separated, item_tokens, modulus_tokens, sign_of, relation_tokens}
use Rattle.icu_plurals_conditions.specs.Grammar.{tokens_of, PositionedToken, kinds}
use Rattle.icu_plurals_conditions.specs.Drafts.{Drafted, made, last_relation, with_relation, with_alternative, with_token, completed, empty_draft}
use Rattle.icu_plurals_conditions.specs.Reading.{next_progress, may_end, reading_from, reading}
use Rattle.icu_plurals_conditions.proofs.Answered.{some}
use Rattle.icu_plurals_conditions.proofs.Moves.{not_zero}
use Rattle.icu_plurals_conditions.proofs.Steps.{goes_on, at_end}

-- reading ends in c, after what was read so, by these tokens
Reads : ℕ → Progress → Drafted → List Token → Condition → Type 0
Reads end g d ks c = (ts : List PositionedToken) → kinds ts ≡ ks → reading_from end g d ts ≡ Ok c

-- one token more at the front
by_step : (end : ℕ) (g n : Progress) (d : Drafted) (k : Token) (ks : List Token) (c : Condition) → next_progress g k ≡ some n →
    Reads end n (with_token g k d) ks c → Reads end g d (k ∷ ks) c
unfolding Reads
by_step end g n d k ks c h rest [] e = absurd cc
by_step end g n d k ks c h rest (t ∷ ts) e =
    let one : t.1 ≡ k = cc in
    let more : kinds ts ≡ ks = cc in
    goes_on end g n d t ts (ap (next_progress g) one ∙ h) ∙ rw one (rest ts more)

by_end : (end : ℕ) (g : Progress) (d : Drafted) (c : Condition) → may_end g ≡ true → completed g d ≡ c → Reads end g d [] c
unfolding Reads
by_end end g d c h k [] e = at_end end g d ∙ rw (h, k) refl
by_end end g d c h k (t ∷ ts) e = absurd cc

-- a relation may begin here, after these alternatives and relations
record Opens (g : Progress) (d : Drafted) (a : Condition) (rs : List Relation) : Type 0 where
  by_letter : (o : Operand) → next_progress g (Letter o) ≡ some AfterOperand
  alternatives : d.alternatives ≡ a
  relations : d.relations ≡ rs
  ranges : d.ranges ≡ []

-- the relation r may end here, after these alternatives and relations
record Ends (g : Progress) (d : Drafted) (a : Condition) (rs : List Relation) (r : Relation) : Type 0 where
  by_and : next_progress g And ≡ some Joined
  by_or : next_progress g Or ≡ some Joined
  by_finish : may_end g ≡ true
  complete : completed g d ≡ (with_alternative d).alternatives
  alternatives : d.alternatives ≡ a
  relations : d.relations ≡ rs
  relation : last_relation d ≡ r

-- the last alternative of these may end here
record EndsAll (g : Progress) (d : Drafted) (cs : Condition) : Type 0 where
  by_or : next_progress g Or ≡ some Joined
  by_finish : may_end g ≡ true
  complete : completed g d ≡ cs
  opens : Opens Joined (with_alternative d) cs []

and_opens : (g : Progress) (d : Drafted) (a : Condition) (rs : List Relation) (r : Relation) → Ends g d a rs r →
    Opens Joined (with_relation d) a (rs ++ r ∷ [])
and_opens g d a rs r h = record { by_letter = λ o. refl; alternatives = h.alternatives; relations = rw (← h.relations, ← h.relation) refl; ranges = refl }

alternatives_are : (g : Progress) (d : Drafted) (a : Condition) (rs : List Relation) (r : Relation) → Ends g d a rs r →
    (with_alternative d).alternatives ≡ a ++ (rs ++ r ∷ []) ∷ []
alternatives_are g d a rs r h = rw (← h.alternatives, ← h.relations, ← h.relation) refl

ends_all : (g : Progress) (d : Drafted) (a : Condition) (rs : List Relation) (r : Relation) → Ends g d a rs r → EndsAll g d (a ++ (rs ++ r ∷ []) ∷ [])
ends_all g d a rs r h = record {
  by_or = h.by_or;
  by_finish = h.by_finish;
  complete = h.complete ∙ alternatives_are g d a rs r h;
  opens = record { by_letter = λ o. refl; alternatives = alternatives_are g d a rs r h; relations = refl; ranges = refl };
}

-- how it ends behind an item
abbrev after : Item → Progress
after (Value a) = Valued
after (Range a b) = Ended

module _ (end : ℕ) where
  after_ends : (d : Drafted) (x : Item) → Ends (after x) (record d { item = x }) d.alternatives d.relations
      (made d.operand d.modulus d.negated (d.ranges ++ x ∷ []))
  after_ends d (Value a) = record { by_and = refl; by_or = refl; by_finish = refl; complete = refl; alternatives = refl; relations = refl; relation = refl }
  after_ends d (Range a b) = record { by_and = refl; by_or = refl; by_finish = refl; complete = refl; alternatives = refl; relations = refl; relation = refl }

  item_reads : (d : Drafted) (x : Item) (ks : List Token) (c : Condition) → Reads end (after x) (record d { item = x }) ks c →
      Reads end Listed d (item_tokens x ++ ks) c
  item_reads d (Value a) ks c rest = by_step end Listed Valued d (Number a) ks c refl rest
  item_reads d (Range a b) ks c rest =
      let valued = record d { item = Value a } in
      by_step end Listed Valued d (Number a) (Dots ∷ Number b ∷ ks) c refl
      (by_step end Valued Ranged valued Dots (Number b ∷ ks) c refl
      (by_step end Ranged Ended valued (Number b) ks c refl rest))

  comma_reads : (d : Drafted) (x : Item) (ks : List Token) (c : Condition) → Reads end Listed (record d { ranges = d.ranges ++ x ∷ []; item = x }) ks c →
      Reads end (after x) (record d { item = x }) (Comma ∷ ks) c
  comma_reads d (Value a) ks c rest = by_step end Valued Listed (record d { item = Value a }) Comma ks c refl rest
  comma_reads d (Range a b) ks c rest = by_step end Ended Listed (record d { item = Range a b }) Comma ks c refl rest

  -- a whole list of ranges, whatever comes after it
  ranges_read : (d : Drafted) (x : Item) (ys : List Item) (ks : List Token) (c : Condition)
      → ((n : Progress) (e : Drafted) → Ends n e d.alternatives d.relations (made d.operand d.modulus d.negated (d.ranges ++ x ∷ ys)) →
      Reads end n e ks c) → Reads end Listed d (separated Comma item_tokens (x ∷ ys) ++ ks) c
  ranges_read d x [] ks c rest = item_reads d x ks c (rest (after x) (record d { item = x }) (after_ends d x))
  ranges_read d x (y ∷ ys) ks c rest =
      let more : Reads end Listed (record d { ranges = d.ranges ++ x ∷ []; item = x }) (separated Comma item_tokens (y ∷ ys) ++ ks) c =
      ranges_read (record d { ranges = d.ranges ++ x ∷ []; item = x }) y ys ks c (λ n e h. rest n e (rw append_assoc at h)) in
      rw append_assoc (item_reads d x (Comma ∷ (separated Comma item_tokens (y ∷ ys) ++ ks)) c
      (comma_reads d x (separated Comma item_tokens (y ∷ ys) ++ ks) c more))

  operand_sign_reads : (d : Drafted) (b : Bool) (ks : List Token) (c : Condition) → Reads end Listed (record d { negated = b }) ks c →
      Reads end AfterOperand d (sign_of b ∷ ks) c
  operand_sign_reads d true ks c rest = by_step end AfterOperand Listed d NotEquals ks c refl rest
  operand_sign_reads d false ks c rest = by_step end AfterOperand Listed d Equals ks c refl rest

  modulus_sign_reads : (d : Drafted) (b : Bool) (ks : List Token) (c : Condition) → Reads end Listed (record d { negated = b }) ks c →
      Reads end Reduced d (sign_of b ∷ ks) c
  modulus_sign_reads d true ks c rest = by_step end Reduced Listed d NotEquals ks c refl rest
  modulus_sign_reads d false ks c rest = by_step end Reduced Listed d Equals ks c refl rest

  modulus_reads : (d : Drafted) (m : Option ℕ) (b : Bool) (ks : List Token) (c : Condition) → IfSome m (λ n. 0 < n) →
      Reads end Listed (record d { modulus = m; negated = b }) ks c
      → Reads end AfterOperand (record d { modulus = None }) (modulus_tokens m ++ sign_of b ∷ ks) c
  modulus_reads d None b ks c h rest = operand_sign_reads (record d { modulus = None }) b ks c rest
  modulus_reads d (Some zero) b ks c h rest = absurd (omega arith)
  modulus_reads d (Some (suc n)) b ks c h rest =
      by_step end AfterOperand Divided (record d { modulus = None }) Percent (Number (suc n) ∷ sign_of b ∷ ks) c refl
      (by_step end Divided Reduced (record d { modulus = None }) (Number (suc n)) (sign_of b ∷ ks) c (divided n)
      (modulus_sign_reads (record d { modulus = Some (suc n) }) b ks c rest))
    where
      divided : (n : ℕ) → next_progress Divided (Number (suc n)) ≡ some Reduced
      divided n = rw (not_zero n) refl

  relation_from : (g : Progress) (d : Drafted) (a : Condition) (rs : List Relation) (o : Operand) (m : Option ℕ) (b : Bool) (xs : List Item) (ks : List Token)
      (c : Condition)
      → Opens g d a rs → IfSome m (λ n. 0 < n) → xs ≢ [] →
      ((n : Progress) (e : Drafted) → Ends n e a rs (made o m b xs) → Reads end n e ks c) → Reads end g d (relation_tokens (made o m b xs) ++ ks) c
  relation_from g d a rs o m b [] ks c opens h ne rest = absurd (ne refl)
  relation_from g d a rs o m b (x ∷ ys) ks c opens h ne rest =
      let begun = record d { operand = o; modulus = m; negated = b } in
      let listed : Reads end Listed begun (separated Comma item_tokens (x ∷ ys) ++ ks) c =
      ranges_read begun x ys ks c (λ n e k. rest n e (rw (opens.alternatives, opens.relations, opens.ranges) at k)) in
      let inner : Reads end AfterOperand (record d { operand = o; modulus = None })
      (modulus_tokens m ++ sign_of b ∷ (separated Comma item_tokens (x ∷ ys) ++ ks)) c =
      modulus_reads (record d { operand = o }) m b (separated Comma item_tokens (x ∷ ys) ++ ks) c h listed in
      by_step end g AfterOperand d (Letter o) _ c (opens.by_letter o) (rw append_assoc inner)

  relation_reads : (g : Progress) (d : Drafted) (a : Condition) (rs : List Relation) (r : Relation) (ks : List Token) (c : Condition) → Opens g d a rs →
      IsRelation r
      → ((n : Progress) (e : Drafted) → Ends n e a rs r → Reads end n e ks c) → Reads end g d (relation_tokens r ++ ks) c
  relation_reads g d a rs r ks c opens h rest = relation_from g d a rs r.operand r.modulus r.negated r.ranges ks c opens h.modulus h.ranges rest

  relations_read : (g : Progress) (d : Drafted) (a : Condition) (rs : List Relation) (r : Relation) (qs : List Relation) (ks : List Token) (c : Condition) →
      Opens g d a rs → AllByRecursion IsRelation (r ∷ qs)
      → ((n : Progress) (e : Drafted) → EndsAll n e (a ++ (rs ++ r ∷ qs) ∷ []) → Reads end n e ks c) →
      Reads end g d (separated And relation_tokens (r ∷ qs) ++ ks) c
  relations_read g d a rs r [] ks c opens all rest = relation_reads g d a rs r ks c opens all.0 (λ n e h. rest n e (ends_all n e a rs r h))
  relations_read g d a rs r (q ∷ qs) ks c opens all rest =
      let more : (n : Progress) (e : Drafted) → Ends n e a rs r → Reads end Joined (with_relation e) (separated And relation_tokens (q ∷ qs) ++ ks) c =
      λ n e h. relations_read Joined (with_relation e) a (rs ++ r ∷ []) q qs ks c (and_opens n e a rs r h) all.1
      (λ n' e' k. rest n' e' (rw append_assoc at k)) in
      let whole : Reads end g d (relation_tokens r ++ (And ∷ (separated And relation_tokens (q ∷ qs) ++ ks))) c =
      relation_reads g d a rs r (And ∷ (separated And relation_tokens (q ∷ qs) ++ ks)) c opens all.0
      (λ n e h. by_step end n Joined e And (separated And relation_tokens (q ∷ qs) ++ ks) c h.by_and (more n e h)) in
      rw append_assoc whole

  alternatives_read : (g : Progress) (d : Drafted) (cs : Condition) (rs : List Relation) (more : Condition) → Opens g d cs [] →
      IsWellFormed (rs ∷ more) → Reads end g d (tokens_of (rs ∷ more)) (cs ++ rs ∷ more)
  alternatives_read g d cs [] more opens h = absurd (h.0.0 refl)
  alternatives_read g d cs (r ∷ rs) [] opens h =
      let all : Reads end g d (separated And relation_tokens (r ∷ rs) ++ []) (cs ++ (r ∷ rs) ∷ []) =
      relations_read g d cs [] r rs [] (cs ++ (r ∷ rs) ∷ []) opens h.0.1 (λ n e k. by_end end n e (cs ++ (r ∷ rs) ∷ []) k.by_finish k.complete) in
      rw append-nil at all
  alternatives_read g d cs (r ∷ rs) (q ∷ qs) opens h =
      let after_or : (e : Drafted) → Opens Joined e (cs ++ (r ∷ rs) ∷ []) [] →
      Reads end Joined e (tokens_of (q ∷ qs)) (cs ++ (r ∷ rs) ∷ (q ∷ qs)) =
      λ e k. rw append_assoc at (alternatives_read Joined e (cs ++ (r ∷ rs) ∷ []) q qs k h.1) in
      relations_read g d cs [] r rs (Or ∷ tokens_of (q ∷ qs)) (cs ++ (r ∷ rs) ∷ (q ∷ qs)) opens h.0.1
      (λ n e k. by_step end n Joined e Or (tokens_of (q ∷ qs)) _ k.by_or (after_or (with_alternative e) k.opens))

-- what spells a condition is read as it
pub spelled_is_read : (end : ℕ) (ts : List PositionedToken) (c : Condition) → IsWellFormed c → kinds ts ≡ tokens_of c → reading end ts ≡ Ok c
unfolding Reads reading
spelled_is_read end ts [] h e = by_end end Nothing empty_draft [] refl refl ts e
spelled_is_read end ts (rs ∷ more) h e =
    alternatives_read end Nothing empty_draft [] rs more (record { by_letter = λ o. refl; alternatives = refl; relations = refl; ranges = refl }) h ts e
