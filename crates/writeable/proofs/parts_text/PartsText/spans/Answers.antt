-- What was found from the last mark to the first is the marks' spans in reverse.
use Rattle.std.proofs.Common.{◌≡◌, ap, ◌∙◌, sym, map, drop, arith}
use Rattle.std.specs.String.{string_bytes}
use Rattle.writeable.specs.Annotated.{Annotated}
use Rattle.writeable.specs.Spans.{spans}
use Rattle.writeable.specs.PartSpans.{span}
use Rattle.writeable.proofs.SpanLemmas.{mark_spans, spans_from-marked, map-reverse}
use Rattle.writeable.proofs.parts_text.PartsText.spans.Goals as goal

pub returns : goal.returns
returns c =
    let done : c.loop-index.index ≡ 0 = omega arith in
    ap (map span) c.reverse.ensures.items
    ∙ map-reverse span c.loop-index.found.items
    ∙ c.loop-index.invariant.collected
    ∙ ap (λ n. mark_spans (drop n c.as_slice-marks.result.now)) done
    ∙ ap mark_spans c.as_slice-marks.ensures.value
    ∙ sym (spans_from-marked 0 (string_bytes c.self.inside.text) c.self.inside.marks.items c.self.invariant)
    ∙ ap (λ (s : Annotated). spans s.events) c.self.view_is
