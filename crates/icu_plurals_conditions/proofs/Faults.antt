-- A reading stops at the first token that can't stand there.
use Rattle.std.proofs.Common.{◌≡◌, ℕ, zero, suc, ◌<◌, ◌≤◌, List, [], ◌∷◌, ◌++◌, Bool, true, false, map, take, length, Option, Some}
use Rattle.std.proofs.Common.{None, Ok, Err, refl, sym, ap, ◌∙◌, arith}
use Rattle.icu_plurals_conditions.specs.declared.condition.Operand.TheVariants.{N}
use Rattle.icu_plurals_conditions.specs.declared.lexer.Token.{Token}
use Rattle.icu_plurals_conditions.specs.declared.lexer.Token.TheVariants.{Letter, Number, Equals}
use Rattle.icu_plurals_conditions.specs.Grammar.{Condition, PositionedToken, kinds, offset_at, IsFirstFault}
use Rattle.icu_plurals_conditions.specs.declared.progress.Progress.{Progress}
use Rattle.icu_plurals_conditions.specs.declared.progress.Progress.TheVariants.{Nothing, Joined, AfterOperand, Divided, Reduced, Listed, Valued, Ranged, Ended}
use Rattle.icu_plurals_conditions.specs.Drafts.{Drafted, empty_draft, with_token, completed}
use Rattle.icu_plurals_conditions.specs.Reading.{next_progress, may_end, reading_from, reading}
use Rattle.icu_plurals_conditions.proofs.Spelled.{read_is_well_formed, read_is_spelled}
use Rattle.icu_plurals_conditions.proofs.Accepted.{spelled_is_read}
use Rattle.icu_plurals_conditions.proofs.Answered.{done, fault}
use Rattle.icu_plurals_conditions.proofs.Steps.{goes_on, stuck, at_end, ended}

-- however it ends, what was read can go on to a condition
completes : (end : ℕ) (g : Progress) (d : Drafted) → (more : List PositionedToken) × (c : Condition) × (reading_from end g d more ≡ Ok c)
unfolding reading_from
completes end Nothing d = ([], _, refl)
completes end Joined d = ((0, Letter N) ∷ (0, Equals) ∷ (0, Number 0) ∷ [], _, refl)
completes end AfterOperand d = ((0, Equals) ∷ (0, Number 0) ∷ [], _, refl)
completes end Divided d = ((0, Number 1) ∷ (0, Equals) ∷ (0, Number 0) ∷ [], _, refl)
completes end Reduced d = ((0, Equals) ∷ (0, Number 0) ∷ [], _, refl)
completes end Listed d = ((0, Number 0) ∷ [], _, refl)
completes end Valued d = ([], _, refl)
completes end Ranged d = ((0, Number 0) ∷ [], _, refl)
completes end Ended d = ([], _, refl)

-- Reading stops with a fault at this byte, before the token of the count: the tokens before it can go on to a condition, and with it they can't.
record Stops (end : ℕ) (g : Progress) (d : Drafted) (ts : List PositionedToken) (byte : ℕ) : Type 0 where
  count : ℕ
  within : count ≤ length ts
  offset : byte ≡ offset_at end ts count
  before : (more : List PositionedToken) × (c : Condition) × (reading_from end g d (take count ts ++ more) ≡ Ok c)
  after : count < length ts → (more : List PositionedToken) (c : Condition) → reading_from end g d (take (suc count) ts ++ more) ≡ Ok c → ⊥

err_is : (a b : ℕ) → fault a ≡ fault b → a ≡ b
err_is a b e = cc

no_ok : (a : ℕ) (c : Condition) → fault a ≡ done c → ⊥
no_ok a c e = absurd cc

end_is : (b : Bool) (c : Condition) (end byte : ℕ) → ended b c end ≡ fault byte → byte ≡ end
end_is true c end byte e = absurd cc
end_is false c end byte e = cc

next_stops : (end : ℕ) (g : Progress) (d : Drafted) (t : PositionedToken) (ts : List PositionedToken) (byte : ℕ) →
    ((n : Progress) (e : Drafted) → reading_from end n e ts ≡ fault byte → Stops end n e ts byte)
    → reading_from end g d (t ∷ ts) ≡ fault byte → (o : Option Progress) → next_progress g t.1 ≡ o → Stops end g d (t ∷ ts) byte
next_stops end g d t ts byte rest e None q = record {
  count = 0;
  within = omega arith;
  offset = err_is byte t.0 (sym e ∙ stuck end g d t ts q);
  before = completes end g d;
  after = λ lt more c k. no_ok t.0 c (sym (stuck end g d t more q) ∙ k);
}
next_stops end g d t ts byte rest e (Some n) q =
    let d' = with_token g t.1 d in
    let r : Stops end n d' ts byte = rest n d' (sym (goes_on end g n d t ts q) ∙ e) in
    record {
      count = suc r.count;
      within = omega (arith, r.within);
      offset = r.offset;
      before = (r.before.0, r.before.1, goes_on end g n d t (take r.count ts ++ r.before.0) q ∙ r.before.2);
      after = λ lt more c k. r.after (omega (arith, lt)) more c (sym (goes_on end g n d t (take (suc r.count) ts ++ more) q) ∙ k);
    }

stops : (end : ℕ) (g : Progress) (d : Drafted) (ts : List PositionedToken) (byte : ℕ) → reading_from end g d ts ≡ fault byte → Stops end g d ts byte
stops end g d [] byte e = record {
  count = 0;
  within = omega arith;
  offset = end_is (may_end g) (completed g d) end byte (sym (at_end end g d) ∙ e);
  before = completes end g d;
  after = λ lt. absurd (omega (arith, lt));
}
stops end g d (t ∷ ts) byte e = next_stops end g d t ts byte (λ n e' k. stops end n e' ts byte k) e (next_progress g t.1) refl

kinds-append : (xs ys : List PositionedToken) → kinds (xs ++ ys) ≡ kinds xs ++ kinds ys
kinds-append [] ys = refl
kinds-append (x ∷ xs) ys = ap (λ (k : List Token). x.1 ∷ k) (kinds-append xs ys)

kinds-take : (n : ℕ) (ts : List PositionedToken) → kinds (take n ts) ≡ take n (kinds ts)
kinds-take zero ts = refl
kinds-take (suc n) [] = refl
kinds-take (suc n) (t ∷ ts) = ap (λ (k : List Token). t.1 ∷ k) (kinds-take n ts)

positioned : List Token → List PositionedToken
positioned ks = map (λ k. (0, k)) ks

kinds-positioned : (ks : List Token) → kinds (positioned ks) ≡ ks
unfolding positioned
kinds-positioned [] = refl
kinds-positioned (k ∷ ks) = ap (λ (l : List Token). k ∷ l) (kinds-positioned ks)

-- where reading stops is the first fault
pub first_fault : (end : ℕ) (ts : List PositionedToken) (byte : ℕ) → reading end ts ≡ Err byte → IsFirstFault end ts byte
unfolding reading
first_fault end ts byte e =
    let r = stops end Nothing empty_draft ts byte e in
    let b = r.before in
    record {
      count = r.count;
      within = r.within;
      offset = r.offset;
      before = (
        kinds b.0,
        b.1,
        read_is_well_formed end (take r.count ts ++ b.0) b.1 b.2,
        ap (λ (k : List Token). k ++ kinds b.0) (sym (kinds-take r.count ts)) ∙ sym (kinds-append (take r.count ts) b.0)
            ∙ read_is_spelled end (take r.count ts ++ b.0) b.1 b.2,
      );
      after = λ lt g. r.after lt (positioned g.0) g.1 (spelled_is_read end (take (suc r.count) ts ++ positioned g.0) g.1 g.2
          (kinds-append (take (suc r.count) ts) (positioned g.0) ∙ ap (λ (k : List Token). k ++ kinds (positioned g.0)) (kinds-take (suc r.count) ts)
          ∙ ap (λ (k : List Token). take (suc r.count) (kinds ts) ++ k) (kinds-positioned g.0) ∙ g.3));
      whole = λ k c h q. no_ok byte c (sym e ∙ spelled_is_read end ts c h q);
    }
