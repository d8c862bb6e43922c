use Rattle.std.proofs.Common.{◌++◌, List, ℕ, sym, ap, ◌∙◌, append_assoc}
use Rattle.std.proofs.lemmas.List.{append-nil}
use Rattle.locnum_lines.proofs.Quotes.{doubled-end, doubled-step}
use Rattle.locnum_ranges.proofs.csv.push_doubled.Goals as goal

pub loop-byte-preserved : goal.loop-byte-preserved
loop-byte-preserved c =
    rw c.in_ok-push_between_quotes.ensures (c.loop-byte.invariant
    ∙ ap (λ (k : List ℕ). c.loop-byte.out.items ++ k) (doubled-step c.args.text.now c.loop-byte.byte-index c.loop-byte-test.true)
    ∙ sym (append_assoc c.loop-byte.out.items _ _))

pub returns : goal.returns
returns c = sym (c.loop-byte.invariant
    ∙ ap (λ (k : List ℕ). c.loop-byte.out.items ++ k) (doubled-end c.args.text.now c.loop-byte.byte-index c.loop-byte-test.false)
    ∙ append-nil c.loop-byte.out.items)
