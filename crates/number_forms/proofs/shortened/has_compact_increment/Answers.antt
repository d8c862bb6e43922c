use Rattle.std.proofs.Common.{◌≡◌, Bool, true, false, IsTrue, refl, sym}
use Rattle.std.proofs.lemmas.Bool.{false≢true}
use Rattle.skeleton_settings.specs.declared.settings.Precision.{Precision}
use Rattle.number_rounding.specs.Steps.{DividesOne}
use Rattle.number_forms.specs.Shortened.{divides_one}
use Rattle.number_forms.proofs.NumbersShortened.{divides, divides-not}
use Rattle.number_forms.proofs.shortened.has_compact_increment.Goals as goal

pub returns : goal.returns
returns c = go c.divides_one.result c.divides_one.ensures.0 c.divides_one.ensures.1
  where
    p : Precision
    p = c.args.precision.now

    go : (b : Bool) → (IsTrue b → DividesOne p) → (DividesOne p → IsTrue b) → b ≡ divides_one p
    go true one back = sym (divides p (one refl))
    go false one back = sym (divides-not p (λ h. absurd (false≢true (back h))))
