use Rattle.std.proofs.Common.{◌+◌, ◌<◌, ◌*◌, ◌^◌, ap, arith, FitsSigned, w16}
use Rattle.std.proofs.lemmas.Int.{ints, to_z-of_z}
use Rattle.fixed_decimal.specs.Size.{finest}
use Rattle.fixed_decimal.specs.Increments.{step_of}
use Rattle.fixed_decimal.specs.Modes.{size_mode}
use Rattle.number_rounding.proofs.PlaceLemmas.{finest_is}
use Rattle.number_rounding.proofs.Unrounded.{unrounded, unrounded_within}
use Rattle.number_rounding.proofs.rounded.rounded.Goals as goal

pub overflow_add-at : goal.overflow_add-at
overflow_add-at c = omega (arith, finest_is)

pub returns-then-at-lt-FINEST-clause-taken : goal.returns-then-at-lt-FINEST-clause-taken
returns-then-at-lt-FINEST-clause-taken c =
    let low : c.args.at + 32768 < finest = omega (arith, finest_is) in
    unrounded c.args.value c.requires.valid (size_mode c.args.mode c.args.minus) c.args.at (step_of c.args.increment * 10 ^ c.args.at) low
    (ap (λ i. step_of i * 10 ^ c.args.at) (c.requires.fine low))

pub returns-then-at-lt-FINEST-clause-overflow : goal.returns-then-at-lt-FINEST-clause-overflow
returns-then-at-lt-FINEST-clause-overflow c =
    let low : c.args.at + 32768 < finest = omega (arith, finest_is) in
    let within = unrounded_within c.args.value c.requires.valid (size_mode c.args.mode c.args.minus) c.args.at (step_of c.args.increment * 10 ^ c.args.at) low
    (ap (λ i. step_of i * 10 ^ c.args.at) (c.requires.fine low)) in
    (λ e. absurd cc, λ past. absurd (within past))

pub returns-clause-taken : goal.returns-clause-taken
returns-clause-taken c =
    let fits : FitsSigned w16 c.power_at.result = omega (arith, ints, c.power_at.type_inv) in
    let r = simp (to_z-of_z) at c.rounded_at.ensures in
    rw (← c.power_at.ensures) r.taken

pub returns-clause-overflow : goal.returns-clause-overflow
returns-clause-overflow c =
    let fits : FitsSigned w16 c.power_at.result = omega (arith, ints, c.power_at.type_inv) in
    let r = simp (to_z-of_z) at c.rounded_at.ensures in
    rw (← c.power_at.ensures) r.overflow

pub power_at-requires-clause-low : goal.power_at-requires-clause-low
power_at-requires-clause-low c = omega (arith, finest_is)
