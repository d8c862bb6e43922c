use Rattle.std.proofs.Common.{◌≡◌, drop}
use Rattle.icu_message.specs.Words.{has_brace}
use Rattle.icu_message.proofs.number_steps.has_brace.Given as goal

-- what is left has the answer
abbrev pub invariant-loop-byte : goal.invariant-loop-byte
invariant-loop-byte l = has_brace (drop l.byte-index l.bytes) ≡ has_brace l.bytes
