use Rattle.std.proofs.Common.{◌≡◌, take, drop}
use Rattle.std.specs.Prelude.{map}
use Rattle.writeable.specs.PartSpans.{span}
use Rattle.talmuiga_c.specs.Marked.{numbered}
use Rattle.talmuiga_c.proofs.marked.put_spans.Given as goal

-- that many spans are written, and those behind them are unchanged
abbrev pub invariant-loop-index : goal.invariant-loop-index
invariant-loop-index l = record {
  written : take l.index l.array ≡ map numbered (map span (take l.index l.found));
  unchanged : drop l.index l.array ≡ drop l.index l.initial.array;
}
