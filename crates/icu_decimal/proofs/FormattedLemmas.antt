-- Formatted numbers of equal parts write equal events.
use Rattle.std.proofs.Common.{◌≡◌}
use Rattle.icu_decimal.specs.Decimal.{unsigned_events}
use Rattle.icu_decimal.specs.Formatted.{FormattedNumber, number_events}

-- equal numbers in equal formats are shown alike
pub number_events-same : (a b : FormattedNumber) → a.number ≡ b.number → a.format.options ≡ b.format.options →
    a.format.symbols ≡ b.format.symbols → a.format.digits ≡ b.format.digits → number_events a ≡ number_events b
number_events-same a b number options symbols digits = λ i. unsigned_events (record { symbols = symbols i; digits = digits i; options = options i })
    (number i)
