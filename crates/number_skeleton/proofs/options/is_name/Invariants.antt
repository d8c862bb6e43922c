use Rattle.std.proofs.Common.{◌≡◌, true}
use Rattle.std.specs.Prelude.{drop}
use Rattle.number_skeleton.specs.Options.{name_from}
use Rattle.number_skeleton.proofs.options.is_name.Given as goal

-- the rest decides
abbrev pub invariant-loop-byte : goal.invariant-loop-byte
invariant-loop-byte l = name_from true l.word ≡ name_from l.begins (drop l.byte-index l.word)
