use Rattle.locnum_lines.specs.declared.cutting.FieldState.TheVariants.{Front, Plain, Quoted}
use Rattle.locnum_lines.specs.declared.settings.Delimiter.TheVariants.{Byte}
use Rattle.locnum_lines.proofs.FirstField.{field_length-within}
use Rattle.locnum_lines.proofs.Skips.{field-skipped, state-skipped, plain-stays, quoted-stays}
use Rattle.locnum_lines.proofs.cutting.unchanging_length.Goals as goal

pub returns-in-Plain : goal.returns-in-Plain
returns-in-Plain c = rw (c.in-Plain.is, c.bytes_before.ensures) (record {
  within = field_length-within (Byte c.args.delimiter) Front c.args.text.now;
  field = field-skipped c.args.delimiter c.args.delimiter Plain (plain-stays c.args.delimiter) Front c.args.text.now;
  state = state-skipped c.args.delimiter c.args.delimiter Plain (plain-stays c.args.delimiter) Front c.args.text.now;
})

pub returns-in-Quoted : goal.returns-in-Quoted
returns-in-Quoted c = rw (c.in-Quoted.is, c.bytes_before-in-Quoted.ensures) (record {
  within = field_length-within (Byte 34) Front c.args.text.now;
  field = field-skipped c.args.delimiter 34 Quoted (quoted-stays c.args.delimiter) Front c.args.text.now;
  state = state-skipped c.args.delimiter 34 Quoted (quoted-stays c.args.delimiter) Front c.args.text.now;
})
