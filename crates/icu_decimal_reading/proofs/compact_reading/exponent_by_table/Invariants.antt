use Rattle.std.proofs.Common.{◌≡◌, chars}
use Rattle.icu_decimal_reading.proofs.CompactTried.{IsTried}
use Rattle.icu_decimal_reading.proofs.compact_reading.exponent_by_table.Given as goal

-- the digits stay, and the entries so far are tried
abbrev pub invariant-loop-index : goal.invariant-loop-index
invariant-loop-index l =
    (l.significand.absolute ≡ l.fn.significand.absolute) × IsTried l.formatter (chars l.text) l.fn.significand.absolute l.index l.nearest
