use Rattle.std.proofs.Common.{◌≡◌, ◌++◌, take, drop}
use Rattle.locnum_options.specs.Locale.{before_mark}
use Rattle.locnum_options.proofs.locale.before_mark.Given as goal

-- the bytes so far stand before the first mark
abbrev pub invariant-loop-index : goal.invariant-loop-index
invariant-loop-index l = before_mark l.text ≡ take l.index l.text ++ before_mark (drop l.index l.text)
