use Rattle.std.proofs.Common.{◌≡◌, ◌++◌}
use Rattle.std.specs.String.{string_bytes}
use Rattle.skeleton_settings.specs.Canonical.{repeated}
use Rattle.skeleton_settings.proofs.canonical_digits.push_repeated.Given as goal

-- that many so far
abbrev pub invariant-loop-index : goal.invariant-loop-index
invariant-loop-index l = string_bytes l.out ≡ string_bytes l.fn.out ++ repeated l._index l.character
