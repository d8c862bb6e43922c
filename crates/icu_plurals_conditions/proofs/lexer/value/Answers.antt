use Rattle.std.proofs.Common.{arith}
use Rattle.icu_plurals_conditions.proofs.Digits.{next_digit}
use Rattle.icu_plurals_conditions.proofs.lexer.value.Goals as goal

pub overflow_mul-value : goal.overflow_mul-value
overflow_mul-value c = omega (arith, next_digit _ _ _ c.loop-digit-test.true c.loop-digit.invariant c.requires.digits c.requires.short)

pub overflow_add-value : goal.overflow_add-value
overflow_add-value c = omega (arith, c.from.ensures, next_digit _ _ _ c.loop-digit-test.true c.loop-digit.invariant c.requires.digits c.requires.short)
