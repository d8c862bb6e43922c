use Rattle.std.proofs.Common.{◌≡◌, ℕ, ◌<◌, Bool, true, false, get_or, length, refl, arith}
use Rattle.locnum_lines.specs.Fields.{is_blank}
use Rattle.locnum_lines.specs.declared.cutting.FieldState.TheVariants.{Plain}
use Rattle.locnum_lines.specs.declared.settings.Delimiter.TheVariants.{Blanks}
use Rattle.locnum_lines.proofs.Cuts.{field_length-past}
use Rattle.locnum_lines.proofs.Skips.{word-at, word-end}
use Rattle.locnum_lines.proofs.cutting.word_length.Goals as goal

-- what isn't true is false
is_false : (t : Bool) → ¬ (t ≡ true) → t ≡ false
is_false true n = absurd (n refl)
is_false false n = refl

pub returns-in-Some : goal.returns-in-Some
returns-in-Some c =
    let text = c.args.text.now in
    let n = c.in-Some.n in
    let first = c.in-Some.ensures.0 in
    let none : (k : ℕ) → k < n → is_blank (get_or text k 0) ≡ false =
    λ k l. is_false (is_blank (get_or text k 0)) (first.before k (omega arith) l) in
    omega (arith, word-at text n (omega (arith, first.high)) none, word-end text n first.high c.in-Some.ensures.1)

pub returns-in-None : goal.returns-in-None
returns-in-None c =
    let text = c.args.text.now in
    let n = length text in
    let none : (k : ℕ) → k < n → is_blank (get_or text k 0) ≡ false =
    λ k l. is_false (is_blank (get_or text k 0)) (c.in-None.ensures k (omega arith) l) in
    omega (arith, word-at text n (omega arith) none, field_length-past Blanks Plain text n (omega arith))
