use Rattle.icu_decimal.proofs.NearestLaws.{one_compact_is_nearest, nearest_is_rounded}
use Rattle.icu_decimal.proofs.DecomposedOnce.{decomposed_is_one}
use Rattle.icu_decimal.proofs.WorkedNearest.{number_decomposed}
use Rattle.icu_decimal.proofs.laws.nearest_is_unique.Goals as goal

-- beside it stands a decimal that is displayed
pub returns : goal.returns
returns c = let instance = number_decomposed in record { nearest = one_compact_is_nearest; rounded = nearest_is_rounded; decomposed = decomposed_is_one }
