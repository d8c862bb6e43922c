use Rattle.std.proofs.Common.{rules, sym}
use Rattle.locnum_options.specs.Precision.{precision_named}
use Rattle.locnum_options.proofs.precision.precision_named.Goals as goal

pub returns-in_err-significant : goal.returns-in_err-significant
unfolding precision_named
returns-in_err-significant c =
    rw (sym c.text.ensures, sym c.in_ok-fraction.ensures, sym c.text-2.ensures, sym c.in_err-significant.ensures) (search rules)

pub returns-in_err-increment : goal.returns-in_err-increment
unfolding precision_named
returns-in_err-increment c =
    rw (sym c.text.ensures, sym c.in_ok-fraction.ensures, sym c.text-2.ensures, sym c.in_ok-significant.ensures, sym c.text-3.ensures)
    (search rules)

pub returns : goal.returns
unfolding precision_named
returns c =
    rw (sym c.text.ensures, sym c.in_ok-fraction.ensures, sym c.text-2.ensures, sym c.in_ok-significant.ensures)
    (rw (sym c.text-3.ensures, c.in_ok-increment.ensures) (search rules))
