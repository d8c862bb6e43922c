use Rattle.icu_dimension_data.proofs.Codes.{IsUtf8-code}
use Rattle.icu_dimension_data.proofs.currency_code.CurrencyCode.as_str.Goals as goal

pub unreachable-requires : goal.unreachable-requires
unreachable-requires c = c.in-Err.ensures.cases.0 (IsUtf8-code _ c.self.invariant)
