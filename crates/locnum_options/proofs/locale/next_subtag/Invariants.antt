use Rattle.std.proofs.Common.{◌≡◌, take, drop}
use Rattle.locnum_options.specs.Locale.{subtags_of}
use Rattle.locnum_options.proofs.Subtags.{onto_first}
use Rattle.locnum_options.proofs.locale.next_subtag.Given as goal

-- the bytes so far are in front of the first subtag
abbrev pub invariant-loop-index : goal.invariant-loop-index
invariant-loop-index l = subtags_of l.text ≡ onto_first (take l.index l.text) (subtags_of (drop l.index l.text))
