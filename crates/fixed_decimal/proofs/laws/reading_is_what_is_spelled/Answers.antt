use Rattle.fixed_decimal.proofs.Readings.{reading-reads, reading-spells, reading-nothing, nothing-reading}
use Rattle.fixed_decimal.proofs.laws.reading_is_what_is_spelled.Goals as goal

pub returns : goal.returns
returns c = record {
  spelled = λ text s d. (reading-spells text s d, reading-reads text s d);
  nothing = λ text. (nothing-reading text, reading-nothing text);
}
