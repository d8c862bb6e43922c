use Rattle.std.proofs.Common.{◌≡◌, take}
use Rattle.icu_plurals.specs.Operands.{number_of}
use Rattle.locnum_explain.proofs.around.number.Given as goal

abbrev pub invariant-loop-digit : goal.invariant-loop-digit
invariant-loop-digit l = l.number ≡ number_of (take l.digit-index l.digits)
