use Rattle.std.proofs.Common.{subst, chars, All}
use Rattle.fixed_decimal.specs.Unsigned.{Unsigned}
use Rattle.icu_decimal_data.specs.CompactTable.{TableEntry}
use Rattle.icu_decimal_reading.specs.CompactReading.{IsOfNoSign}
use Rattle.icu_decimal_reading.proofs.CompactFound.{no_exponent}
use Rattle.icu_decimal_reading.proofs.compact_reading.exponent_with.Goals as goal

pub returns-in-Err-NoNumber-clause-refused : goal.returns-in-Err-NoNumber-clause-refused
returns-in-Err-NoNumber-clause-refused c =
    let f = c.args.formatter.now in
    let cs = chars c.args.text.now in
    let found = rw c.in-Some.is at c.in_ok-byte.ensures.found in
    no_exponent f cs c.args.significand.now.absolute found.1
    (subst (λ (u : Unsigned). All (λ (e : TableEntry). IsOfNoSign f cs u e.exponent) f.table) c.give_sign.ensures.absolute
    (rw c.in-Err-NoNumber.field-0-is at c.in-Err-NoNumber.ensures.refused))
