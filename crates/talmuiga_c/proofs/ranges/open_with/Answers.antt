use Rattle.std.proofs.Common.{refl, inl}
use Rattle.talmuiga_c.specs.LocaleRanges.{ranges_asked}
use Rattle.talmuiga_c.proofs.Patterned.{unranged-opens}
use Rattle.talmuiga_c.proofs.ranges.open_with.Goals as goal

pub returns-in-Ok : goal.returns-in-Ok
returns-in-Ok c = record { opens = rw c.in-Ok.ensures (inl (c.put.ensures.held, refl)) }

pub returns-in-Err : goal.returns-in-Err
returns-in-Err c = record {
  opens = rw c.pattern_status.ensures (unranged-opens c.args.formatter.now.held c.requires.empty c.args.form
      (ranges_asked c.args.settings.now c.args.tables.now) c.in-Err.error c.in-Err.ensures);
}
