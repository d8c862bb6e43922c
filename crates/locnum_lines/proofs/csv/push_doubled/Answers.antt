use Rattle.std.proofs.Common.{◌≡◌, ◌++◌, List, ℕ, sym, ap, ◌∙◌, append_assoc}
use Rattle.std.specs.Prelude.{OnOk, Result, Ok, Err, if◌then◌else◌}
use Rattle.std.specs.Result.{is_ok}
use Rattle.std.proofs.lemmas.List.{append-nil}
use Rattle.locnum_lines.proofs.Feeding.{IsPartLine-all}
use Rattle.locnum_lines.proofs.Quotes.{doubled-end, doubled-same, doubled-step}
use Rattle.locnum_lines.proofs.csv.push_doubled.Goals as goal

-- what holds where there was memory
on_ok_items : {X E : Type 0} (r : Result X E) (x a b : List ℕ) → x ≡ (if is_ok r then a else b) → OnOk r (x ≡ a)
on_ok_items (Ok y) x a b e = e
on_ok_items (Err y) x a b e = tt

pub returns-in_default : goal.returns-in_default
returns-in_default c =
    rw (doubled-same c.args.text.now (IsPartLine-all 34 c.args.text.now c.in_default.ensures))
    (on_ok_items c.extend_from_slice.result _ _ _ c.extend_from_slice.ensures.items)

pub loop-byte-preserved : goal.loop-byte-preserved
loop-byte-preserved c =
    rw c.in_ok-push_between_quotes.ensures (c.loop-byte.invariant
    ∙ ap (λ (k : List ℕ). c.loop-byte.out.items ++ k) (doubled-step c.args.text.now c.loop-byte.byte-index c.loop-byte-test.true)
    ∙ sym (append_assoc c.loop-byte.out.items _ _))

pub returns : goal.returns
returns c = sym (c.loop-byte.invariant
    ∙ ap (λ (k : List ℕ). c.loop-byte.out.items ++ k) (doubled-end c.args.text.now c.loop-byte.byte-index c.loop-byte-test.false)
    ∙ append-nil c.loop-byte.out.items)
