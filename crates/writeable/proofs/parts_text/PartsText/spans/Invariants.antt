use Rattle.std.proofs.Common.{◌≡◌, map, reverse, drop}
use Rattle.writeable.specs.PartSpans.{span}
use Rattle.writeable.proofs.SpanLemmas.{mark_closes, mark_spans}
use Rattle.writeable.proofs.parts_text.PartsText.spans.Given as goal

abbrev pub invariant-loop-index : goal.invariant-loop-index
invariant-loop-index l = record {
  collected : reverse (map span l.found.items) ≡ mark_spans (drop l.index l.marks);
  still_open : reverse l.closes.items ≡ mark_closes (drop l.index l.marks);
}
