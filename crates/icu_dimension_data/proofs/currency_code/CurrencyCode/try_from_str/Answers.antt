use Rattle.std.proofs.Common.{sym}
use Rattle.icu_dimension_data.proofs.Codes.{length-of_code}
use Rattle.icu_dimension_data.proofs.currency_code.CurrencyCode.try_from_str.Goals as goal

pub copy_from_slice-requires : goal.copy_from_slice-requires
copy_from_slice-requires c = sym (length-of_code _ (sym c.if-not-is_code.ensures))
