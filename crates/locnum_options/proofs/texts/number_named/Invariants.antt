use Rattle.std.proofs.Common.{◌≡◌, drop}
use Rattle.locnum_options.specs.Texts.{number_from, number_named}
use Rattle.locnum_options.proofs.texts.number_named.Given as goal

-- the digits that are left go on with the number so far
abbrev pub invariant-loop-byte : goal.invariant-loop-byte
invariant-loop-byte l = number_named l.bytes ≡ number_from l.number (drop l.byte-index l.bytes)
