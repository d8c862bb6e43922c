use Rattle.std.proofs.Common.{◌≡◌, ◌∙◌}
use Rattle.std.specs.Str.{chars}
use Rattle.icu_tables.proofs.Ten.{ten_taken, ten_refused}
use Rattle.icu_tables.proofs.digits.ten_in.Goals as goal

pub returns-in-Ok : goal.returns-in-Ok
returns-in-Ok c =
    let e : c.as_slice.result.now ≡ chars c.args.text.now = c.as_slice.ensures.value ∙ c.in_ok-characters.ensures in
    ten_taken c.args.key c.args.text.now c.as_slice.result.now c.in-Ok.digits e c.in-Ok.ensures.1

pub returns : goal.returns
returns c =
    let e : c.as_slice.result.now ≡ chars c.args.text.now = c.as_slice.ensures.value ∙ c.in_ok-characters.ensures in
    ten_refused c.args.key c.args.text.now c.as_slice.result.now e c.in-Err.ensures.1
