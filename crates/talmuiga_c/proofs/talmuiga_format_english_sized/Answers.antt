use Rattle.decimal_lines.specs.Plain.{english}
use Rattle.decimal_lines.specs.declared.mode.Mode.TheVariants.{Plain}
use Rattle.talmuiga_c.proofs.Unstarted.{unstarted}
use Rattle.talmuiga_c.proofs.talmuiga_format_english_sized.Goals as goal

pub returns-in-Err : goal.returns-in-Err
returns-in-Err c = unstarted (Plain english) c.args.input.now c.args.output.now
