use Rattle.std.proofs.Common.{ℕ, List, ◌↔◌, subst}
use Rattle.std.specs.Prelude.{IsErrOf}
use Rattle.fixed_decimal.specs.declared.error.DecimalError.TheVariants.{Syntax}
use Rattle.fixed_decimal.specs.Text.{ReadsNothing}
use Rattle.fixed_decimal.proofs.signed.Decimal.try_from_str.Goals as goal

pub returns-clause-syntax : goal.returns-clause-syntax
returns-clause-syntax c =
    subst (λ (t : List ℕ). IsErrOf c.try_from_utf8.result Syntax ↔ ReadsNothing t) c.as_bytes.ensures.value c.try_from_utf8.ensures.syntax
