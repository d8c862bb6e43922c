-- How many fraction digits the amounts of currencies have.
use Rattle.std.specs.Prelude.{ℕ, ◌==◌, List, [], ◌∷◌, Option, Some, None, nat_eq, if◌then◌else◌}
use Rattle.std.specs.Cmp.Lexicographic.{pointwise}
use Rattle.fixed_decimal.specs.declared.increments.RoundingIncrement.{RoundingIncrement}
use Rattle.fixed_decimal.specs.declared.increments.RoundingIncrement.TheVariants.{MultiplesOf1, MultiplesOf2, MultiplesOf5, MultiplesOf25}
use Rattle.icu_dimension_data.specs.declared.currency_digits.CashStep.{CashStep}
use Rattle.icu_dimension_data.specs.declared.currency_digits.FractionDigits.{FractionDigits}
use Rattle.icu_dimension_data.specs.declared.currency_digits.CurrencyEntry.{CurrencyEntry}

-- an increment with that many zeros behind it
abbrev pub step_with : RoundingIncrement → ℕ → Option CashStep
step_with increment zeros = Some (record { increment = increment; zeros = zeros })

-- the step of cash of a number of three digits at most: 1, 2, 5 or 25, with zeros behind it or none
unfoldable pub cash_step : ℕ → Option CashStep
cash_step n =
    if n == 1 then step_with MultiplesOf1 0
    else if n == 2 then step_with MultiplesOf2 0
    else if n == 5 then step_with MultiplesOf5 0
    else if n == 10 then step_with MultiplesOf1 1
    else if n == 20 then step_with MultiplesOf2 1
    else if n == 25 then step_with MultiplesOf25 0
    else if n == 50 then step_with MultiplesOf5 1
    else if n == 100 then step_with MultiplesOf1 2
    else if n == 200 then step_with MultiplesOf2 2
    else if n == 250 then step_with MultiplesOf25 1
    else None

-- the digits of some currencies, and of all others
pub record Digits : Type 0 where
  pub entries : List CurrencyEntry
  pub others : FractionDigits

-- the digits of the first entry that has the code, or of all others
abbrev pub digits_in : List CurrencyEntry → FractionDigits → List ℕ → FractionDigits
digits_in [] others code = others
digits_in (e ∷ es) others code = if pointwise nat_eq e.code code then e.digits else digits_in es others code

-- the digits of a currency
abbrev pub digits_of : Digits → List ℕ → FractionDigits
digits_of d code = digits_in d.entries d.others code
