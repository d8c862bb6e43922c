use Rattle.std.proofs.Common.{arith}
use Rattle.icu_provider.proofs.Names.{length-of_locale}
use Rattle.icu_provider.proofs.locale.DataLocale.of.Goals as goal

-- the text of a locale isn't too long
pub new-requires : goal.new-requires
new-requires c = (omega arith, (length-of_locale c.args.locale.now c.requires).1)
