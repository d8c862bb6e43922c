-- The goals that a search finds at once; it is not tried longer where one is false.
use Rattle.std.proofs.Common.{rules}
use Rattle.icu_provider.proofs.locale.DataLocaleDefault.default.Goals as goal

pub returns : goal.returns
returns c = search rules
