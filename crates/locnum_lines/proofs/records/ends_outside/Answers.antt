use Rattle.std.proofs.Common.{◌≡◌, ℕ, ◌+◌, ◌-◌, Bool, true, false, length, get_or, refl, ap, ◌∙◌, arith}
use Rattle.std.specs.Prelude.{not}
use Rattle.std.proofs.lemmas.Bool.{ne_eqb, false≢true}
use Rattle.locnum_lines.proofs.Skips.{ends-outside}
use Rattle.locnum_lines.proofs.records.ends_outside.Goals as goal

-- what isn't true when turned is false
turned : (t : Bool) → not t ≡ true → t ≡ false
turned true h = absurd (false≢true h)
turned false h = refl

pub returns : goal.returns
returns c is state =
    let bytes = c.args.bytes.now in
    let k : ℕ = length bytes - 2 in
    let next : k + 1 ≡ length bytes - 1 = omega (arith, c.if-length-lt2.false) in
    ends-outside c.args.delimiter bytes k state (omega (arith, c.if-length-lt2.false))
    (ap (λ i. get_or bytes i 0) next ∙ c.if-last-ne34.false) (ne_eqb (get_or bytes k 0) 34 c.if-before-eq34.false)
    (turned _ is)
