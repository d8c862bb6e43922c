use Rattle.std.proofs.Common.{◌≡◌, drop}
use Rattle.icu_message.specs.Arguments.{form_of}
use Rattle.icu_message.proofs.argument.form_of.Given as goal

-- what is left has the answer
abbrev pub invariant-loop-argument : goal.invariant-loop-argument
invariant-loop-argument l = form_of (drop l.argument-index l.given) l.name l.skeleton ≡ form_of l.given l.name l.skeleton
