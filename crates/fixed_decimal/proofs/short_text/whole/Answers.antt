use Rattle.std.proofs.Common.{◌≡◌, length, take}
use Rattle.fixed_decimal.specs.Text.{digit_values}
use Rattle.fixed_decimal.proofs.ShortTexts.{lane_values, whole_valid}
use Rattle.fixed_decimal.proofs.short_text.whole.Goals as goal

pub returns-clause-digits : goal.returns-clause-digits
returns-clause-digits c = lane_values c.args.text.now _ _ _ c.requires.lanes c.requires.written c.values_of.ensures

pub returns-clause-valid : goal.returns-clause-valid
returns-clause-valid c =
    let e : take (length c.args.text.now) c.values_of.result ≡ digit_values c.args.text.now =
    lane_values c.args.text.now _ _ _ c.requires.lanes c.requires.written c.values_of.ensures in
    rw e (whole_valid c.args.text.now c.requires.written c.requires.some c.requires.short)
