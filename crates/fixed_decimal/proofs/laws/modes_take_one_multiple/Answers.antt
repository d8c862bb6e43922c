use Rattle.fixed_decimal.specs.Nearest.{IsMultiple}
use Rattle.fixed_decimal.proofs.Taken.{taken-unique, allowed_taken}
use Rattle.fixed_decimal.proofs.TakenMultiples.{taken-at, at-taken}
use Rattle.fixed_decimal.proofs.laws.modes_take_one_multiple.Goals as goal

pub returns : goal.returns
returns c = record {
  one = λ mode unit. taken-unique (IsMultiple unit) mode unit;
  divided = λ mode unit x y some. (taken-at mode unit x y some, at-taken mode unit x y some);
  itself = λ mode unit. allowed_taken (IsMultiple unit) mode unit;
}
