use Rattle.fixed_decimal.proofs.Weights.{weighed_none, none_weighed}
use Rattle.fixed_decimal.proofs.unsigned.UnsignedDecimal.is_zero.Goals as goal

pub returns-clause-zero : goal.returns-clause-zero
returns-clause-zero c =
    let zeros = rw c.deref.ensures at c.is_all_zero.ensures in
    rw (← c.self.view_is) (λ t. weighed_none _ _ (zeros.0 t), λ z. zeros.1 (none_weighed _ _ z))
