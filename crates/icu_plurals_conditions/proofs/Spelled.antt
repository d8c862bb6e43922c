-- What is read is well formed, and spelled by the tokens.
-- One induction over the tokens (`reading_spells`) keeps two invariants of the progress and the draft: by `IsDraft` what is whole is well
-- formed and what isn't begun is empty, and `written` gives the tokens that made the draft. Both are shown for one move each, as records of
-- `EachMove` (`keeps`, `writes`): seventeen cases in the place of nine progresses times ten tokens; `by_move` of Moves finds the case.
-- A draft grows at its end, and `separated` is defined from the front; `separated-push` and `followed-push` lead from one to the other.
use Rattle.std.proofs.Common.{◌≡◌, ◌≢◌, ℕ, ◌<◌, List, [], ◌∷◌, ◌++◌, Bool, true, false, Option, Some, None, Ok, refl, sym, ap}
use Rattle.std.proofs.Common.{◌∙◌, append_assoc, arith}
use Rattle.std.specs.Prelude.{IfSome}
use Rattle.std.specs.List.{flat_map, AllByRecursion}
use Rattle.std.proofs.lemmas.List.{append-nil}
use Rattle.std.proofs.lemmas.List.Concat.{flat_map-append}
use Rattle.icu_plurals_conditions.specs.declared.condition.Item.{Item}
use Rattle.icu_plurals_conditions.specs.declared.condition.Item.TheVariants.{Value}
use Rattle.icu_plurals_conditions.specs.declared.lexer.Token.{Token}
use Rattle.icu_plurals_conditions.specs.declared.lexer.Token.TheVariants.{Letter, And, Or, Number, Percent, Comma, Dots}
use Rattle.icu_plurals_conditions.specs.declared.progress.Progress.{Progress}
use Rattle.icu_plurals_conditions.specs.declared.progress.Progress.TheVariants.{Nothing, Joined, AfterOperand, Divided, Reduced, Listed, Valued, Ranged, Ended}
use Rattle.icu_plurals_conditions.specs.Grammar.{Relation, IsRelation, IsWellFormed, Condition}
use Rattle.icu_plurals_conditions.specs.Grammar.{separated, item_tokens, modulus_tokens, sign_of, relation_tokens}
use Rattle.icu_plurals_conditions.specs.Grammar.{tokens_of, PositionedToken, kinds}
use Rattle.icu_plurals_conditions.specs.Drafts.{Drafted, last_relation, with_relation, with_alternative, first_of, with_token, completed, empty_draft}
use Rattle.icu_plurals_conditions.specs.Reading.{next_progress, may_end, reading_from, reading}
use Rattle.icu_plurals_conditions.proofs.Answered.{done}
use Rattle.icu_plurals_conditions.proofs.Moves.{EachMove, by_move}
use Rattle.icu_plurals_conditions.proofs.Steps.{ended_ok, read_on}

-- ---- well formed

-- whole alternatives and relations are well formed
abbrev IsPart : Condition → List Relation → Type 0
IsPart alternatives relations = IsWellFormed alternatives × AllByRecursion IsRelation relations

abbrev IsModulus : Option ℕ → Type 0
IsModulus m = IfSome m (λ n. 0 < n)

-- what is read is well formed, and what isn't read yet is empty
abbrev IsDraft : Progress → Drafted → Type 0
IsDraft Nothing d = (d.alternatives ≡ []) × (d.relations ≡ []) × (d.ranges ≡ [])
IsDraft Joined d = IsPart d.alternatives d.relations × (d.ranges ≡ [])
IsDraft AfterOperand d = IsPart d.alternatives d.relations × (d.ranges ≡ []) × (d.modulus ≡ None)
IsDraft Divided d = IsPart d.alternatives d.relations × (d.ranges ≡ [])
IsDraft Reduced d = IsPart d.alternatives d.relations × (d.ranges ≡ []) × IsModulus d.modulus
IsDraft Listed d = IsPart d.alternatives d.relations × IsModulus d.modulus
IsDraft Valued d = IsPart d.alternatives d.relations × IsModulus d.modulus × (d.item ≡ Value (first_of d.item))
IsDraft Ranged d = IsPart d.alternatives d.relations × IsModulus d.modulus
IsDraft Ended d = IsPart d.alternatives d.relations × IsModulus d.modulus

all_push : {A : Type 0} (P : A → Type 0) (xs : List A) (x : A) → AllByRecursion P xs → P x → AllByRecursion P (xs ++ x ∷ [])
all_push P [] x h k = (k, tt)
all_push P (y ∷ ys) x h k = (h.0, all_push P ys x h.1 k)

not_empty : {A : Type 0} (xs : List A) (x : A) → xs ++ x ∷ [] ≢ []
not_empty [] x = λ e. absurd cc
not_empty (y ∷ ys) x = λ e. absurd cc

relations_are : (d : Drafted) → AllByRecursion IsRelation d.relations → IsModulus d.modulus →
    AllByRecursion IsRelation (d.relations ++ last_relation d ∷ [])
relations_are d h m = all_push IsRelation d.relations (last_relation d) h (record { modulus = m; ranges = not_empty d.ranges d.item })

is_finished : (d : Drafted) → IsPart d.alternatives d.relations → IsModulus d.modulus → IsWellFormed (with_alternative d).alternatives
is_finished d h m = all_push (λ rs. (rs ≢ []) × AllByRecursion IsRelation rs) d.alternatives (d.relations ++ last_relation d ∷ []) h.0
    (not_empty d.relations (last_relation d), relations_are d h.1 m)

and_keeps : (d : Drafted) → IsPart d.alternatives d.relations → IsModulus d.modulus → IsDraft Joined (with_relation d)
and_keeps d h m = ((h.0, relations_are d h.1 m), refl)

or_keeps : (d : Drafted) → IsPart d.alternatives d.relations → IsModulus d.modulus → IsDraft Joined (with_alternative d)
or_keeps d h m = ((is_finished d h m, tt), refl)

no_part : (d : Drafted) → d.alternatives ≡ [] → d.relations ≡ [] → IsPart d.alternatives d.relations
no_part d h k = rw (h, k) (tt, tt)

no_modulus : (m : Option ℕ) → m ≡ None → IsModulus m
no_modulus m h = rw h tt

keeps : EachMove (λ g t n. (d : Drafted) → IsDraft g d → IsDraft n (with_token g t d))
keeps = record {
  first = λ o d h. (no_part d h.0 h.1, h.2, refl);
  next = λ o d h. (h.0, h.1, refl);
  percent = λ d h. (h.0, h.1);
  equals = λ d h. (h.0, no_modulus d.modulus h.2);
  differs = λ d h. (h.0, no_modulus d.modulus h.2);
  modulus = λ n d h. (h.0, h.1, omega arith);
  reduced_equals = λ d h. (h.0, h.2);
  reduced_differs = λ d h. (h.0, h.2);
  value = λ n d h. (h.0, h.1, refl);
  dots = λ d h. (h.0, h.1);
  value_comma = λ d h. (h.0, h.1);
  value_and = λ d h. and_keeps d h.0 h.1;
  value_or = λ d h. or_keeps d h.0 h.1;
  range = λ n d h. h;
  range_comma = λ d h. h;
  range_and = λ d h. and_keeps d h.0 h.1;
  range_or = λ d h. or_keeps d h.0 h.1;
}

-- ---- spelled

-- parts, each with a token after it
abbrev followed : {A : Type 0} → Token → (A → List Token) → List A → List Token
followed between f xs = flat_map (λ x. f x ++ between ∷ []) xs

followed-push : {A : Type 0} (between : Token) (f : A → List Token) (xs : List A) (x : A) →
    followed between f (xs ++ x ∷ []) ≡ followed between f xs ++ (f x ++ between ∷ [])
followed-push between f xs x = flat_map-append (λ x. f x ++ between ∷ []) xs (x ∷ [])
    ∙ ap (λ (k : List Token). followed between f xs ++ k) (append-nil (f x ++ between ∷ []))

separated-push : {A : Type 0} (between : Token) (f : A → List Token) (xs : List A) (x : A) →
    separated between f (xs ++ x ∷ []) ≡ followed between f xs ++ f x
separated-push between f [] x = refl
separated-push between f (y ∷ []) x = simp append_assoc
separated-push between f (y ∷ z ∷ ys) x = rw (separated-push between f (z ∷ ys) x) (simp append_assoc)

abbrev part_tokens : Drafted → List Token
part_tokens d = followed Or (separated And relation_tokens) d.alternatives ++ followed And relation_tokens d.relations

abbrev list_tokens : Drafted → List Token
list_tokens d = part_tokens d ++ (Letter d.operand ∷ (modulus_tokens d.modulus ++ sign_of d.negated ∷ followed Comma item_tokens d.ranges))

-- the tokens that have been read
abbrev written : Progress → Drafted → List Token
written Nothing d = []
written Joined d = part_tokens d
written AfterOperand d = part_tokens d ++ Letter d.operand ∷ []
written Divided d = part_tokens d ++ Letter d.operand ∷ Percent ∷ []
written Reduced d = part_tokens d ++ Letter d.operand ∷ modulus_tokens d.modulus
written Listed d = list_tokens d
written Valued d = list_tokens d ++ Number (first_of d.item) ∷ []
written Ranged d = list_tokens d ++ Number (first_of d.item) ∷ Dots ∷ []
written Ended d = list_tokens d ++ item_tokens d.item

-- a relation with its last item
relation_ends : (d : Drafted) → list_tokens d ++ item_tokens d.item ≡ part_tokens d ++ relation_tokens (last_relation d)
relation_ends d = rw (separated-push Comma item_tokens d.ranges d.item) (simp append_assoc)

finished_tokens : (d : Drafted) → tokens_of (with_alternative d).alternatives ≡ part_tokens d ++ relation_tokens (last_relation d)
finished_tokens d =
    separated-push Or (separated And relation_tokens) d.alternatives (d.relations ++ last_relation d ∷ [])
    ∙ rw (separated-push And relation_tokens d.relations (last_relation d)) (simp append_assoc)

and_writes : (d : Drafted) → part_tokens (with_relation d) ≡ (list_tokens d ++ item_tokens d.item) ++ And ∷ []
and_writes d = rw (relation_ends d, followed-push And relation_tokens d.relations (last_relation d)) (simp append_assoc)

or_writes : (d : Drafted) → part_tokens (with_alternative d) ≡ (list_tokens d ++ item_tokens d.item) ++ Or ∷ []
or_writes d =
    append-nil _ ∙ followed-push Or (separated And relation_tokens) d.alternatives (d.relations ++ last_relation d ∷ [])
    ∙ rw (relation_ends d, separated-push And relation_tokens d.relations (last_relation d)) (simp append_assoc)

comma_writes : (d : Drafted) → list_tokens (record d { ranges = d.ranges ++ d.item ∷ [] }) ≡ (list_tokens d ++ item_tokens d.item) ++ Comma ∷ []
comma_writes d = rw (followed-push Comma item_tokens d.ranges d.item) (simp append_assoc)

-- a value is its item
value_is : (d : Drafted) (t : Token) → d.item ≡ Value (first_of d.item) →
    (list_tokens d ++ item_tokens d.item) ++ t ∷ [] ≡ (list_tokens d ++ Number (first_of d.item) ∷ []) ++ t ∷ []
value_is d t h = ap (λ (x : Item). (list_tokens d ++ item_tokens x) ++ t ∷ []) h

-- a sign behind an operand, and behind a modulus
sign_writes : (b : Bool) (d : Drafted) → d.ranges ≡ [] →
    list_tokens (record d { negated = b }) ≡ (part_tokens d ++ Letter d.operand ∷ modulus_tokens d.modulus) ++ sign_of b ∷ []
sign_writes b d h = rw h (simp append_assoc)

plain_sign_writes : (b : Bool) (d : Drafted) → d.ranges ≡ [] → d.modulus ≡ None →
    list_tokens (record d { negated = b }) ≡ (part_tokens d ++ Letter d.operand ∷ []) ++ sign_of b ∷ []
plain_sign_writes b d h k = sign_writes b d h ∙ ap (λ (m : Option ℕ). (part_tokens d ++ Letter d.operand ∷ modulus_tokens m) ++ sign_of b ∷ []) k

writes : EachMove (λ g t n. (d : Drafted) → IsDraft g d → written n (with_token g t d) ≡ written g d ++ t ∷ [])
writes = record {
  first = λ o d h. rw (h.0, h.1) refl;
  next = λ o d h. refl;
  percent = λ d h. simp append_assoc;
  equals = λ d h. plain_sign_writes false d h.1 h.2;
  differs = λ d h. plain_sign_writes true d h.1 h.2;
  modulus = λ n d h. simp append_assoc;
  reduced_equals = λ d h. sign_writes false d h.1;
  reduced_differs = λ d h. sign_writes true d h.1;
  value = λ n d h. refl;
  dots = λ d h. simp append_assoc;
  value_comma = λ d h. comma_writes d ∙ value_is d Comma h.2;
  value_and = λ d h. and_writes d ∙ value_is d And h.2;
  value_or = λ d h. or_writes d ∙ value_is d Or h.2;
  range = λ n d h. simp append_assoc;
  range_comma = λ d h. comma_writes d;
  range_and = λ d h. and_writes d;
  range_or = λ d h. or_writes d;
}

-- ---- both, to the end

-- the condition is well formed and spelled by the tokens read and those that are left
record Spells (g : Progress) (d : Drafted) (ts : List PositionedToken) (c : Condition) : Type 0 where
  well_formed : IsWellFormed c
  spelled : written g d ++ kinds ts ≡ tokens_of c

finished : (g : Progress) (d : Drafted) → IsDraft g d → may_end g ≡ true → Spells g d [] (completed g d)
finished Nothing d h e = record { well_formed = rw h.0 tt; spelled = rw h.0 refl }
finished Joined d h e = absurd cc
finished AfterOperand d h e = absurd cc
finished Divided d h e = absurd cc
finished Reduced d h e = absurd cc
finished Listed d h e = absurd cc
finished Valued d h e = record {
  well_formed = is_finished d h.0 h.1;
  spelled = append-nil _ ∙ sym (ap (λ (x : Item). list_tokens d ++ item_tokens x) h.2) ∙ relation_ends d ∙ sym (finished_tokens d);
}
finished Ranged d h e = absurd cc
finished Ended d h e = record { well_formed = is_finished d h.0 h.1; spelled = append-nil _ ∙ relation_ends d ∙ sym (finished_tokens d) }

next_spells : (end : ℕ) (g : Progress) (d : Drafted) (t : PositionedToken) (ts : List PositionedToken) (c : Condition) → IsDraft g d
    → ((n : Progress) (e : Drafted) → IsDraft n e → reading_from end n e ts ≡ done c → Spells n e ts c)
    → (o : Option Progress) → next_progress g t.1 ≡ o → read_on end d t ts g o ≡ done c → Spells g d (t ∷ ts) c
next_spells end g d t ts c h rest None q e = absurd cc
next_spells end g d t ts c h rest (Some n) q e =
    let d' = with_token g t.1 d in
    let one : written n d' ≡ written g d ++ t.1 ∷ [] = by_move
    (λ g t n. (d : Drafted) → IsDraft g d → written n (with_token g t d) ≡ written g d ++ t ∷ []) writes g n t.1 q d h in
    let r : Spells n d' ts c = rest n d' (by_move (λ g t n. (d : Drafted) → IsDraft g d → IsDraft n (with_token g t d)) keeps g n t.1 q d h) e in
    record {
      well_formed = r.well_formed;
      spelled = sym (append_assoc (written g d) (t.1 ∷ []) (kinds ts)) ∙ ap (λ (k : List Token). k ++ kinds ts) (sym one) ∙ r.spelled;
    }

reading_spells : (end : ℕ) (g : Progress) (d : Drafted) (ts : List PositionedToken) (c : Condition) → IsDraft g d → reading_from end g d ts ≡ done c →
    Spells g d ts c
unfolding reading_from
reading_spells end g d [] c h e =
    let k = ended_ok (may_end g) (completed g d) c end e in
    rw (← k.1) (finished g d h k.0)
reading_spells end g d (t ∷ ts) c h e = next_spells end g d t ts c h (λ n e' k r. reading_spells end n e' ts c k r) (next_progress g t.1) refl e

read_spells : (end : ℕ) (ts : List PositionedToken) (c : Condition) → reading end ts ≡ done c → Spells Nothing empty_draft ts c
unfolding reading
read_spells end ts c e = reading_spells end Nothing empty_draft ts c (refl, refl, refl) e

-- what is read is well formed
pub read_is_well_formed : (end : ℕ) (ts : List PositionedToken) (c : Condition) → reading end ts ≡ Ok c → IsWellFormed c
read_is_well_formed end ts c e = (read_spells end ts c e).well_formed

-- what is read is spelled by the tokens
pub read_is_spelled : (end : ℕ) (ts : List PositionedToken) (c : Condition) → reading end ts ≡ Ok c → kinds ts ≡ tokens_of c
read_is_spelled end ts c e = (read_spells end ts c e).spelled
