use Rattle.std.proofs.Common.{arith}
use Rattle.icu_provider.proofs.Names.{length-of_name}
use Rattle.icu_provider.proofs.numbering_system.NumberingSystem.of.Goals as goal

-- a name isn't too long
pub new-requires : goal.new-requires
new-requires c = (omega arith, (length-of_name c.args.name.now c.requires).1)
