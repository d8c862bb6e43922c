use Rattle.std.proofs.Common.{◌≡◌, drop}
use Rattle.icu_plurals_conditions.specs.Tokens.{decimal_from}
use Rattle.icu_plurals_conditions.proofs.lexer.value.Given as goal

-- the digits that are left complete the number
abbrev pub invariant-loop-digit : goal.invariant-loop-digit
invariant-loop-digit l = decimal_from l.value (drop l.digit-index l.digits) ≡ decimal_from 0 l.digits
