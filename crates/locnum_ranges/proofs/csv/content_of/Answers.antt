use Rattle.std.proofs.Common.{◌++◌, List, ℕ, sym, ap, ◌∙◌, append_assoc}
use Rattle.std.proofs.lemmas.List.{append-nil}
use Rattle.locnum_ranges.proofs.Steps.{content-end, content-step}
use Rattle.locnum_ranges.proofs.csv.content_of.Goals as goal

pub loop-byte-preserved : goal.loop-byte-preserved
loop-byte-preserved c =
    rw (c.csv_place-place.ensures, c.in_ok-keep.ensures) (c.loop-byte.invariant
    ∙ ap (λ (k : List ℕ). c.loop-byte.content.items ++ k) (content-step c.loop-byte.place c.args.text.now c.loop-byte.byte-index c.loop-byte-test.true)
    ∙ sym (append_assoc c.loop-byte.content.items _ _))

pub returns : goal.returns
returns c = sym (c.loop-byte.invariant
    ∙ ap (λ (k : List ℕ). c.loop-byte.content.items ++ k) (content-end c.loop-byte.place c.args.text.now c.loop-byte.byte-index c.loop-byte-test.false)
    ∙ append-nil c.loop-byte.content.items)
