use Rattle.std.proofs.Common.{◌≡◌, ◌<◌, All, length}
use Rattle.icu_dimension.specs.Percent.{trimmed}
use Rattle.icu_dimension.proofs.hundredfold.without_first_zeros.Given as goal

-- what is left has the same digits behind its zeros
abbrev pub invariant-loop-rest : goal.invariant-loop-rest
invariant-loop-rest l = record {
  trimmed : trimmed l.rest ≡ trimmed l.fn.digits;
  below_ten : All (λ d. d < 10) l.fn.digits → All (λ d. d < 10) l.rest;
}

abbrev pub decreases-loop-rest : goal.decreases-loop-rest
decreases-loop-rest l = length l.rest
