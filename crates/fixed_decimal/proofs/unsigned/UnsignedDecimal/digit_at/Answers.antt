use Rattle.std.proofs.Common.{sym, arith}
use Rattle.std.proofs.lemmas.Int.{ints}
use Rattle.fixed_decimal.proofs.Places.{digit_at_place, digit_at_above}
use Rattle.fixed_decimal.proofs.unsigned.UnsignedDecimal.digit_at.Goals as goal

pub returns-clause-digit : goal.returns-clause-digit
returns-clause-digit c =
    rw (← c.self.view_is, c.digit_or_zero.ensures, c.deref.ensures)
    (sym (digit_at_place _ c.args.power _ c.self.invariant.integer_some (omega (arith, ints))))

pub returns-then-index-lt0-clause-digit : goal.returns-then-index-lt0-clause-digit
returns-then-index-lt0-clause-digit c =
    rw (← c.self.view_is) (sym (digit_at_above _ c.args.power c.self.invariant.integer_some (omega (arith, ints))))
