use Rattle.std.proofs.Common.{◌<◌, ◌-◌, ◌⊎◌, length, arith, refl}
use Rattle.std.proofs.lemmas.List.{length-map}
use Rattle.fixed_decimal.specs.Text.{digit_values, ReadsNothing, ReadsPastLimits}
use Rattle.fixed_decimal.proofs.ShortTexts.{signed_reads, signed_within}
use Rattle.fixed_decimal.proofs.Numerals.{past_limits, not_past_limits, reads_something}
use Rattle.fixed_decimal.proofs.signed.Decimal.try_from_utf8.Goals as goal

pub returns-then-before-gt-MAX_DIGITS-clause-syntax : goal.returns-then-before-gt-MAX_DIGITS-clause-syntax
returns-then-before-gt-MAX_DIGITS-clause-syntax c =
    let some = reads_something c.args.text.now _ _ _ _ c.split_sign-sign.ensures.signed c.in-Some-split_numeral.ensures.spelled in
    (λ e. absurd (cc), λ none. absurd (some none))

pub returns-then-before-gt-MAX_DIGITS-clause-limit : goal.returns-then-before-gt-MAX_DIGITS-clause-limit
returns-then-before-gt-MAX_DIGITS-clause-limit c =
    let long : (32768 < length (digit_values c.in-Some-split_numeral.before.now)) ⊎ (32768 < length (digit_values c.in-Some-split_numeral.after.now)) =
    grind (arith, length-map c.in-Some-split_numeral.before.now (λ c. c - 48), length-map c.in-Some-split_numeral.after.now (λ c. c - 48)) in
    (λ _. past_limits c.args.text.now _ _ _ _ c.split_sign-sign.ensures.signed c.in-Some-split_numeral.ensures.spelled long, λ _. refl)

pub returns-in-Ok-clause-syntax : goal.returns-in-Ok-clause-syntax
returns-in-Ok-clause-syntax c =
    let some = reads_something c.args.text.now _ _ _ _ c.split_sign-sign.ensures.signed c.in-Some-split_numeral.ensures.spelled in
    (λ e. absurd (cc), λ none. absurd (some none))

pub returns-in-Ok-clause-limit : goal.returns-in-Ok-clause-limit
returns-in-Ok-clause-limit c =
    let none = not_past_limits c.args.text.now _ _ _ _ c.split_sign-sign.ensures.signed c.in-Some-split_numeral.ensures.spelled
    (omega (arith, length-map c.in-Some-split_numeral.before.now (λ c. c - 48)))
    (omega (arith, length-map c.in-Some-split_numeral.after.now (λ c. c - 48))) in
    (λ e. absurd (cc), λ past. absurd (none past))

pub returns-in-Err-clause-syntax : goal.returns-in-Err-clause-syntax
returns-in-Err-clause-syntax c =
    let some = reads_something c.args.text.now _ _ _ _ c.split_sign-sign.ensures.signed c.in-Some-split_numeral.ensures.spelled in
    (λ e. absurd (cc), λ none. absurd (some none))

pub returns-in-Err-clause-limit : goal.returns-in-Err-clause-limit
returns-in-Err-clause-limit c =
    let none = not_past_limits c.args.text.now _ _ _ _ c.split_sign-sign.ensures.signed c.in-Some-split_numeral.ensures.spelled
    (omega (arith, length-map c.in-Some-split_numeral.before.now (λ c. c - 48)))
    (omega (arith, length-map c.in-Some-split_numeral.after.now (λ c. c - 48))) in
    (λ e. absurd (cc), λ past. absurd (none past))

pub invariant_of-absolute : goal.invariant_of-absolute
invariant_of-absolute c = rw c.from_buf_and_len.ensures.items c.in-Some.ensures.valid

pub returns-then-numeral-le-LANES-clause-syntax : goal.returns-then-numeral-le-LANES-clause-syntax
returns-then-numeral-le-LANES-clause-syntax c =
    let some : ¬ (ReadsNothing c.args.text.now) = signed_reads c.args.text.now _ _ _ c.split_sign-sign.ensures.signed c.in-Some.ensures.spelled in
    (λ e. absurd (cc), λ none. absurd (some none))

pub returns-then-numeral-le-LANES-clause-limit : goal.returns-then-numeral-le-LANES-clause-limit
returns-then-numeral-le-LANES-clause-limit c =
    let within : ¬ (ReadsPastLimits c.args.text.now) = signed_within c.args.text.now _ _ _ c.split_sign-sign.ensures.signed c.in-Some.ensures.spelled
    c.in-Some.ensures.valid in
    (λ e. absurd (cc), λ past. absurd (within past))
