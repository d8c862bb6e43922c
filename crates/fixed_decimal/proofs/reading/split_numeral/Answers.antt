use Rattle.std.proofs.Common.{◌<◌, length, take, drop, arith, ◌∙◌, ◌-◌, ◌+◌}
use Rattle.std.proofs.lemmas.Bool.Decides.{nat_tests}
use Rattle.fixed_decimal.proofs.Numerals.{whole, whole_passes, pointed, pointed_passes, has_point_at, has_fraction_at, fraction_passes_at}
use Rattle.fixed_decimal.proofs.reading.split_numeral.Goals as goal
use Rattle.fixed_decimal.proofs.reading.split_numeral.Goals.{else-text-count-eq46-via-then-text-count-eq46+then-not-is_empty+else-leading_digits-after}
use Rattle.fixed_decimal.proofs.reading.split_numeral.Goals.{else-text-count-eq46-via-then-text-count-eq46+else-not-is_empty}
use Rattle.fixed_decimal.proofs.reading.split_numeral.Goals.{else-text-count-eq46-via-else-text-count-eq46}

pub returns-then-count-gt0-clause-spelled : goal.returns-then-count-gt0-clause-spelled
returns-then-count-gt0-clause-spelled c = whole c.args.text.now _ c.leading_digits-count.ensures.count c.if-count-text.true c.if-count-gt0.true

pub returns-then-count-gt0-clause-digits : goal.returns-then-count-gt0-clause-digits
returns-then-count-gt0-clause-digits c = whole_passes c.args.text.now _ c.leading_digits-count.ensures.count c.if-count-text.true

pub returns-then-leading_digits-after-clause-spelled : goal.returns-then-leading_digits-after-clause-spelled
returns-then-leading_digits-after-clause-spelled c =
    let n = c.leading_digits-count.result in
    let inside : n < length c.args.text.now = omega arith in
    let some : 0 < length (take (length c.args.text.now - (n + 1)) (drop (n + 1) c.args.text.now)) = grind (arith, nat_tests, c.if-not-is_empty.ensures) in
    pointed c.args.text.now n c.leading_digits-count.ensures.count inside c.leading_digits.result c.leading_digits.ensures.count c.if-leading_digits-after.true
    c.if-text-count-eq46.true (omega arith)

pub returns-then-leading_digits-after-clause-digits : goal.returns-then-leading_digits-after-clause-digits
returns-then-leading_digits-after-clause-digits c =
    let n = c.leading_digits-count.result in
    let inside : n < length c.args.text.now = omega arith in
    pointed_passes c.args.text.now n c.leading_digits-count.ensures.count inside c.leading_digits.result c.leading_digits.ensures.count
    c.if-leading_digits-after.true

pub returns-else-text-count-eq46-clause-none : goal.returns-else-text-count-eq46-clause-none
returns-else-text-count-eq46-clause-none c before after is =
    let n = c.leading_digits-count.result in
    let e = c.leading_digits-count.ensures.count in
    let inside : n < length c.args.text.now = omega arith in
    let some = has_fraction_at c.args.text.now n e inside before after is in
    elim c.else-text-count-eq46.branch [
      | else-text-count-eq46-via-then-text-count-eq46+then-not-is_empty+else-leading_digits-after w ↦
          w.if-leading_digits-after.false (w.leading_digits.ensures.count ∙ fraction_passes_at c.args.text.now n e inside before after is)
      | else-text-count-eq46-via-then-text-count-eq46+else-not-is_empty w ↦ grind (arith, nat_tests, some, w.if-not-is_empty.ensures)
      | else-text-count-eq46-via-else-text-count-eq46 w ↦ w.if-text-count-eq46.false (has_point_at c.args.text.now n e inside before after is)
    ]
