use Rattle.std.proofs.Common.{subst, ℕ}
use Rattle.fixed_decimal.specs.Modes.{IsLeastFrom}
use Rattle.fixed_decimal.specs.Padding.{IsExactWith}
use Rattle.fixed_decimal.specs.Size.{size}
use Rattle.number_forms.proofs.NumbersMoved.{bare-padded}
use Rattle.number_forms.proofs.scaled.make_bare.Goals as goal

pub returns-clause-bare : goal.returns-clause-bare
returns-clause-bare c =
    let d = c.args.decimal.now.absolute in
    let y = c.in_ok-decimal.field-0.absolute in
    bare-padded d y c.has_no_zeros_before.ensures.valid c.in_ok-decimal.ensures.valid c.in_ok-decimal.ensures.size c.in_ok-decimal.ensures.count
    (subst (λ (n : ℕ). IsLeastFrom (IsExactWith (size d)) n y.scale) c.scale_of.ensures.scale c.in_ok-decimal.ensures.scale)
