use Rattle.icu_dimension.proofs.UnitLiterals.{unit_keeps_characters}
use Rattle.icu_dimension.proofs.laws.the_part_of_a_unit_changes_no_character.Goals as goal

pub returns : goal.returns
returns c = unit_keeps_characters
