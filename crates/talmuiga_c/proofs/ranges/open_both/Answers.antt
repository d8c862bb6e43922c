use Rattle.std.proofs.Common.{◌≡◌, Ok}
use Rattle.talmuiga_c.specs.LocaleRanges.{ranges_asked}
use Rattle.talmuiga_c.specs.Skeletons.{form_asked}
use Rattle.talmuiga_c.proofs.Patterned.{unformed-stays}
use Rattle.talmuiga_c.proofs.Unformed.{form-made}
use Rattle.talmuiga_c.proofs.ranges.open_both.Goals as goal

pub returns-in-Ok : goal.returns-in-Ok
returns-in-Ok c =
    let settings = c.args.settings.now in let tables = c.args.tables.now in
    let e : form_asked settings tables ≡ Ok c.in-Ok.form = form-made settings tables c.in-Ok.form c.in-Ok.ensures.text c.in-Ok.ensures.no_text in
    record { opens = rw e c.open_with.ensures.opens }

pub returns-in-Err : goal.returns-in-Err
returns-in-Err c = record {
  opens = rw c.form_status.ensures (unformed-stays c.args.formatter.now.held c.requires.empty c.args.settings.now c.args.tables.now
      (ranges_asked c.args.settings.now c.args.tables.now) c.in-Err.error c.in-Err.ensures.text c.in-Err.ensures.no_text);
}
