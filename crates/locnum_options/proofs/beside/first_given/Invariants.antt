use Rattle.std.proofs.Common.{◌≡◌, drop}
use Rattle.locnum_options.specs.Beside.{first_given}
use Rattle.locnum_options.proofs.beside.first_given.Given as goal

-- the first of those that are left is the first
abbrev pub invariant-loop-option : goal.invariant-loop-option
invariant-loop-option l = first_given l.given l.options ≡ first_given l.given (drop l.option-index l.options)
