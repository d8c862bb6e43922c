use Rattle.std.proofs.Common.{◌≡◌, ◌<◌, length, take, drop, arith, ◌∙◌, ◌-◌, ◌+◌, sym}
use Rattle.std.proofs.lemmas.Bool.Decides.{nat_tests}
use Rattle.std.proofs.lemmas.List.{take_rest, length-map}
use Rattle.std.specs.List.{prefix_len}
use Rattle.std.specs.Char.{is_ascii_digit}
use Rattle.fixed_decimal.specs.Text.{digit_values}
use Rattle.fixed_decimal.proofs.Numerals.{pointed, pointed_passes, has_point_at, has_fraction_at, fraction_passes_at}
use Rattle.fixed_decimal.proofs.ShortTexts.{front_lanes, behind_point, all_digits, whole_number}
use Rattle.fixed_decimal.proofs.short_text.short_digits.Goals as goal
use Rattle.fixed_decimal.proofs.short_text.short_digits.Goals.{else-text-count-eq46-via-then-text-count-eq46+then-not-is_empty+else-digits_in-after}
use Rattle.fixed_decimal.proofs.short_text.short_digits.Goals.{else-text-count-eq46-via-then-text-count-eq46+else-not-is_empty}
use Rattle.fixed_decimal.proofs.short_text.short_digits.Goals.{else-text-count-eq46-via-else-text-count-eq46}

pub whole-requires-clause-written : goal.whole-requires-clause-written
whole-requires-clause-written c = all_digits c.args.text.now (sym c.if-count-text.true ∙ c.digits_in-count.ensures.count)

pub returns-then-count-gt0-clause-spelled : goal.returns-then-count-gt0-clause-spelled
returns-then-count-gt0-clause-spelled c =
    whole_number c.args.text.now _ (all_digits c.args.text.now (sym c.if-count-text.true ∙ c.digits_in-count.ensures.count))
    (omega (arith, c.if-count-text.true, c.if-count-gt0.true)) c.whole.ensures.digits c.whole.ensures.scale

pub pointed-requires-clause-before_digits : goal.pointed-requires-clause-before_digits
pointed-requires-clause-before_digits c =
    let n = c.digits_in-count.result in
    let inside : n < length c.args.text.now = omega arith in
    let count : c.digits_in.result ≡ prefix_len is_ascii_digit (take (length c.args.text.now - (n + 1)) (drop (n + 1) c.args.text.now)) =
    rw take_rest c.digits_in.ensures.count in
    (pointed_passes c.args.text.now n c.digits_in-count.ensures.count inside c.digits_in.result count c.if-digits_in-after.true).0

pub pointed-requires-clause-after_digits : goal.pointed-requires-clause-after_digits
pointed-requires-clause-after_digits c =
    let n = c.digits_in-count.result in
    let inside : n < length c.args.text.now = omega arith in
    let count : c.digits_in.result ≡ prefix_len is_ascii_digit (take (length c.args.text.now - (n + 1)) (drop (n + 1) c.args.text.now)) =
    rw take_rest c.digits_in.ensures.count in
    (pointed_passes c.args.text.now n c.digits_in-count.ensures.count inside c.digits_in.result count c.if-digits_in-after.true).1

pub returns-then-digits_in-after-clause-spelled : goal.returns-then-digits_in-after-clause-spelled
returns-then-digits_in-after-clause-spelled c =
    let n = c.digits_in-count.result in
    let inside : n < length c.args.text.now = omega arith in
    let count : c.digits_in.result ≡ prefix_len is_ascii_digit (take (length c.args.text.now - (n + 1)) (drop (n + 1) c.args.text.now)) =
    rw take_rest c.digits_in.ensures.count in
    let some : 0 < length (take (length c.args.text.now - (n + 1)) (drop (n + 1) c.args.text.now)) = grind (arith, nat_tests, c.if-not-is_empty.ensures) in
    record {
      before = digit_values (take n c.args.text.now);
      after = digit_values (take (length c.args.text.now - (n + 1)) (drop (n + 1) c.args.text.now));
      spelled = pointed c.args.text.now n c.digits_in-count.ensures.count inside c.digits_in.result count c.if-digits_in-after.true c.if-text-count-eq46.true
          (omega arith);
      digits = c.pointed.ensures.digits;
      scale = c.pointed.ensures.scale ∙ sym (length-map (take (length c.args.text.now - (n + 1)) (drop (n + 1) c.args.text.now)) (λ b. b - 48));
    }

pub returns-else-text-count-eq46-clause-none : goal.returns-else-text-count-eq46-clause-none
returns-else-text-count-eq46-clause-none c before after is =
    let n = c.digits_in-count.result in
    let e = c.digits_in-count.ensures.count in
    let inside : n < length c.args.text.now = omega arith in
    let some = has_fraction_at c.args.text.now n e inside before after is in
    elim c.else-text-count-eq46.branch [
      | else-text-count-eq46-via-then-text-count-eq46+then-not-is_empty+else-digits_in-after w ↦
          let count : w.digits_in.result ≡ prefix_len is_ascii_digit (take (length c.args.text.now - (n + 1)) (drop (n + 1) c.args.text.now)) =
          rw take_rest w.digits_in.ensures.count in
          w.if-digits_in-after.false (count ∙ fraction_passes_at c.args.text.now n e inside before after is)
      | else-text-count-eq46-via-then-text-count-eq46+else-not-is_empty w ↦ grind (arith, nat_tests, some, w.if-not-is_empty.ensures)
      | else-text-count-eq46-via-else-text-count-eq46 w ↦ w.if-text-count-eq46.false (has_point_at c.args.text.now n e inside before after is)
    ]

pub pointed-requires-clause-lanes : goal.pointed-requires-clause-lanes
pointed-requires-clause-lanes c = front_lanes c.args.text.now _ _ c.digits_in-count.result c.padded-lanes.ensures (omega arith)

pub pointed-requires-clause-behind : goal.pointed-requires-clause-behind
pointed-requires-clause-behind c =
    behind_point c.args.text.now _ _ _ c.digits_in-count.result c.padded-lanes.ensures (omega arith)
    (take_rest c.args.text.now (c.digits_in-count.result + 1))
