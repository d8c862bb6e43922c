-- Goals that a search finds; it is not tried longer where one is false.
use Rattle.std.proofs.Common.{rules}
use Rattle.icu_pattern.proofs.interpolated.InterpolatedWriteable.write_events.Goals as goal

pub returns-in_err-text : goal.returns-in_err-text
returns-in_err-text g c = search rules

pub returns-in_err-write_events : goal.returns-in_err-write_events
returns-in_err-write_events g c = search rules

pub returns : goal.returns
returns g c = search rules
