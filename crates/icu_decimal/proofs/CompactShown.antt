-- The parts of a compact number, and the sign that `format` puts around it.
use Rattle.std.proofs.Common.{◌≡◌, ℕ, Option, sym, ap, subst}
use Rattle.fixed_decimal.specs.declared.signs.Sign.{Sign}
use Rattle.fixed_decimal.specs.declared.signs.Sign.TheVariants.{None}
use Rattle.fixed_decimal.specs.Unsigned.{Unsigned}
use Rattle.icu_pattern.specs.Patterns.{PatternText}
use Rattle.icu_decimal_data.specs.CompactTable.{TableEntry, exponent_of}
use Rattle.icu_decimal.specs.CompactFormat.{CompactFormat, FilledNumber, FormattedCompact, IsCompactFormat, IsCompacted, pattern_of}
use Rattle.icu_decimal.specs.CompactFormat.{significand_of, compact_number_events, signed_compact_events}
use Rattle.icu_decimal.specs.Decimal.{signed_events}
use Rattle.icu_decimal.specs.Decomposed.{IsDecomposed}
use Rattle.icu_decimal.specs.Formatted.{FormattedNumber}
use Rattle.icu_decimal.specs.Signed.{Signed, affixes_for}

-- the parts of a compact number, each as it was made, are one
pub compacted_of : (format : CompactFormat) (u : Unsigned) (y : ℕ) (entry : Option TableEntry) (significand : Unsigned) (pattern : PatternText)
    (number : FormattedNumber) (exponent : ℕ)
    → IsDecomposed format.table u y entry significand → exponent ≡ exponent_of entry → pattern ≡ pattern_of format entry significand
    → number ≡ record { format = format.decimal; number = significand } →
    IsCompacted format u (record { filled = record { pattern = pattern; number = number }; exponent = exponent })
compacted_of format u y entry significand pattern number exponent decomposed exponent_is pattern_is number_is =
    subst (λ (w : FormattedNumber). IsCompacted format u (record { filled = record { pattern = pattern; number = w }; exponent = exponent })) (sym number_is)
    (record {
      shown = y;
      entry = entry;
      decomposed = decomposed;
      exponent_is = exponent_is;
      filled_is = ap in_pattern pattern_is;
    })
  where
    in_pattern : PatternText → FilledNumber
    in_pattern p = record { pattern = p; number = record { format = format.decimal; number = significand } }

-- with a sign around it, it is what `format` writes
pub signed_compact : (format : CompactFormat) (sign : Sign) (u : Unsigned) (r : Signed FormattedCompact) (v : FormattedCompact)
    → IsCompactFormat format None u (significand_of v) v.exponent (compact_number_events v)
    → r ≡ record { affixes = affixes_for format.decimal.symbols sign; value = v }
    → IsCompactFormat format sign u (significand_of r.value) r.value.exponent (signed_compact_events r)
signed_compact format sign u r v h is =
    subst (λ (w : Signed FormattedCompact). IsCompactFormat format sign u (significand_of w.value) w.value.exponent (signed_compact_events w)) (sym is)
    (record {
      shown = h.shown;
      entry = h.entry;
      decomposed = h.decomposed;
      exponent_is = h.exponent_is;
      events_are = ap (signed_events format.decimal.symbols sign) h.events_are;
    })
