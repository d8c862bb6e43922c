use Rattle.std.proofs.Common.{◌≡◌, drop}
use Rattle.icu_message.specs.Arguments.{value_of}
use Rattle.icu_message.proofs.argument.value_of.Given as goal

-- what is left has the answer
abbrev pub invariant-loop-argument : goal.invariant-loop-argument
invariant-loop-argument l = value_of (drop l.argument-index l.given) l.name ≡ value_of l.given l.name
