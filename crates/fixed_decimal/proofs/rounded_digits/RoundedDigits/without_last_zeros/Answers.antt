use Rattle.std.proofs.Common.{◌≡◌, ◌-◌, ◌++◌, take, None, option_to_list, inl, inr, arith}
use Rattle.std.proofs.lemmas.Bool.{cases_lt}
use Rattle.std.proofs.lemmas.List.{length-take-le}
use Rattle.fixed_decimal.proofs.LeftDigits.{zeros_behind, zeros_cut, last_left, left_length, not_some}
use Rattle.fixed_decimal.proofs.rounded_digits.RoundedDigits.without_last_zeros.Goals as goal

pub returns-then-zeros-scale-clause-zeros : goal.returns-then-zeros-scale-clause-zeros
returns-then-zeros-scale-clause-zeros c =
    zeros_behind (take c.args.self.kept c.args.digits.now ++ option_to_list c.args.self.raised) (c.args.self.zeros - c.args.scale) (c.args.scale - 0)
    c.args.self.zeros (omega arith)

pub returns-clause-zeros : goal.returns-clause-zeros
returns-clause-zeros c =
    let none : c.args.self.raised ≡ None = not_some _ (rw c.is_some.ensures at c.if-is_some.false) in
    let below = c.without_zeros-left.ensures.within in
    rw (c.cut.ensures, none) (zeros_cut c.args.digits.now c.args.self.kept c.without_zeros-left.result c.args.self.zeros _ c.requires.kept below
    c.without_zeros-left.ensures.zeros (omega (arith, length-take-le c.args.self.kept c.args.digits.now c.requires.kept)))

pub returns-clause-last : goal.returns-clause-last
returns-clause-last c =
    let none : c.args.self.raised ≡ None = not_some _ (rw c.is_some.ensures at c.if-is_some.false) in
    let some = rw none at c.requires.some in
    elim (cases_lt (c.args.self.kept - (c.args.scale - c.args.self.zeros)) c.without_zeros-left.result) [
      | inl more ↦ inr (rw c.cut.ensures (last_left c.args.digits.now c.args.self.kept c.without_zeros-left.result c.requires.kept
          c.without_zeros-left.ensures.within (omega arith) (c.without_zeros-left.ensures.stops more)))
      | inr least ↦ inl (omega (
        arith,
        left_length c.args.digits.now c.args.self.kept c.args.self.zeros c.requires.kept,
        length-take-le c.args.self.kept c.args.digits.now c.requires.kept,
      ))
    ]
