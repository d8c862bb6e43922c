use Rattle.std.proofs.Common.{◌≡◌, ◌<◌, ◌≤◌, ◌+◌, arith, sym, ap, ◌∙◌, subst, chars, length}
use Rattle.std.specs.Prelude.{slice_get}
use Rattle.fixed_decimal.specs.Unsigned.{Unsigned}
use Rattle.icu_decimal_data.specs.CompactTable.{exponent_of}
use Rattle.icu_decimal_reading.specs.CompactReading.{differs_with, IsOfNoSign}
use Rattle.icu_decimal_reading.proofs.CompactTried.{IsTried, tried_ends, tried_goes_on}
use Rattle.icu_decimal_reading.proofs.compact_reading.exponent_by_table.Goals as goal

pub loop-index-preserved : goal.loop-index-preserved
loop-index-preserved c =
    let f = c.args.formatter.now in
    let cs = chars c.args.text.now in
    let u = c.args.significand.now.absolute in
    let i = c.loop-index.index in
    let same : c.loop-index.significand.absolute ≡ u = c.loop-index.invariant.0 in
    let found = rw c.in-Some.is at c.in_ok-byte.ensures.found in
    let exponent : c.exponent-exponent.result ≡ exponent_of (slice_get f.table i) =
    c.exponent-exponent.ensures ∙ ap (λ t. exponent_of (slice_get t i)) c.patterns-patterns.ensures in
    let within : i < length f.table = omega (arith, ap length c.patterns-patterns.ensures) in (
      c.give_sign.ensures.absolute ∙ same,
      subst (λ near. IsTried f cs u (i + 1) near) (sym c.max-nearest.ensures)
          (tried_goes_on f cs u i c.loop-index.nearest c.in-Some.byte within
          (found.0 ∙ ap (λ (v : Unsigned). differs_with f cs v c.exponent-exponent.result) same ∙ ap (differs_with f cs u) exponent)
          (subst (IsOfNoSign f cs u) exponent (subst (λ (v : Unsigned). IsOfNoSign f cs v c.exponent-exponent.result) same found.1))
          c.loop-index.invariant.1),
    )

pub returns-clause-refused : goal.returns-clause-refused
returns-clause-refused c =
    let past : length c.args.formatter.now.table ≤ c.loop-index.index = omega (arith, ap length c.patterns-patterns.ensures) in
    (tried_ends c.args.formatter.now (chars c.args.text.now) c.args.significand.now.absolute c.loop-index.index c.loop-index.nearest past
    c.loop-index.invariant.1).1
