use Rattle.std.proofs.Common.{◌≡◌, arith}
use Rattle.locnum_lines.specs.Fields.{blanks_before}
use Rattle.locnum_lines.specs.declared.cutting.FieldState.TheVariants.{Plain}
use Rattle.locnum_lines.specs.declared.settings.Delimiter.TheVariants.{Blanks}
use Rattle.locnum_lines.proofs.Cuts.{blanks_before-within}
use Rattle.locnum_lines.proofs.FirstField.{field_length-within}
use Rattle.locnum_lines.proofs.Skips.{blank-field}
use Rattle.locnum_lines.proofs.cutting.blank_field_length.Goals as goal

pub split_at-requires : goal.split_at-requires
split_at-requires c = rw c.blanks_before.ensures (blanks_before-within c.args.line.now)

pub overflow_add-result : goal.overflow_add-result
overflow_add-result c =
    omega (
      arith,
      c.split_at.ensures.front_len,
      c.split_at.ensures.back_len,
      c.word_length.ensures,
      field_length-within Blanks Plain c.split_at.result.1.now,
    )

pub returns : goal.returns
returns c =
    let n : c.blanks_before.result ≡ blanks_before c.args.line.now = c.blanks_before.ensures in
    let word = rw (c.split_at.ensures.back, n) at c.word_length.ensures in
    omega (arith, c.split_at.ensures.front_len, n, word, blank-field c.args.line.now)
