use Rattle.std.proofs.Common.{◌≡◌, ◌++◌, ◌∷◌, [], inl, inr, sym, ◌∙◌}
use Rattle.std.proofs.Math.Seq.{take-length, drop-length}
use Rattle.decimal_lines.proofs.Parts.{IsPartLine-front, IsPartLine-all, line_split}
use Rattle.talmuiga_c.proofs.form_lines.first_line.Goals as goal

pub returns-in-Some : goal.returns-in-Some
returns-in-Some c =
    let hay = c.args.bytes.now in
    let line = c.split_at.result.0.now in
    let after = c.split_at-in-Some.result.1.now in
    let e : hay ≡ (line ++ 10 ∷ []) ++ after = rw (c.split_at-in-Some.ensures.back, c.split_at.ensures.back, c.split_at.ensures.front)
    (line_split hay c.in-Some.n c.in-Some.ensures.0 c.in-Some.ensures.1) in
    record { is_part = rw c.split_at.ensures.front (IsPartLine-front hay c.in-Some.n c.in-Some.ensures.0); parts = inl e }

-- the last line ends without a line feed
pub returns-in-None : goal.returns-in-None
returns-in-None c =
    let hay = c.args.bytes.now in
    let front : c.split_at-in-None.result.0.now ≡ hay = c.split_at-in-None.ensures.front ∙ take-length hay in
    let back : c.split_at-in-None.result.1.now ≡ [] = c.split_at-in-None.ensures.back ∙ drop-length hay in
    record { is_part = rw front (IsPartLine-all hay c.in-None.ensures); parts = inr (sym front, back) }
