use Rattle.std.proofs.Common.{List, ℕ, Bool, ◌++◌, refl, sym, ap, ap₂, ◌∙◌}
use Rattle.std.specs.Prelude.{is_some}
use Rattle.icu_decimal.specs.CompactFormat.{FormattedCompact}
use Rattle.icu_dimension.specs.CompactMoney.{entry_shown, formatter_of}
use Rattle.icu_dimension_data.specs.Resolved.{Signed}
use Rattle.locnum_explain.specs.Compact.{frame_for}
use Rattle.std.proofs.lemmas.List.{append-nil}
use Rattle.std.proofs.lemmas.Result.{on_ok_weaker}
use Rattle.locnum_explain.proofs.CompactFacts.{frame-past, frame-within}
use Rattle.locnum_explain.proofs.compact.push_frame.Goals as goal

pub returns-in-Ok : goal.returns-in-Ok
returns-in-Ok c =
    let money = c.args.money.now in
    let d = c.args.decimal.now in
    let told = rw c.for_sign.ensures at c.in-Ok.ensures in
    let frame = frame-within money d.sign d.absolute c.in-Ok.formatted.value told.value (λ past. cc (told.overflow.1 past)) in
    let entry = c.has_entry-has_entry.ensures ∙ ap (λ (n : FormattedCompact). is_some (entry_shown (formatter_of money d.sign).table n)) c.value.ensures in
    let around = ap₂ (λ (p : Signed) (b : Bool). frame_for p d.sign b) c.patterns.ensures entry ∙ sym frame in
    on_ok_weaker c.push_frame_for.result (λ e. e ∙ ap (λ (xs : List ℕ). c.args.out.now.items ++ xs) around) c.push_frame_for.ensures

pub returns-in-Err-Overflow : goal.returns-in-Err-Overflow
returns-in-Err-Overflow c =
    let all = rw c.for_sign.ensures at c.in-Err-Overflow.ensures in
    let told = rw c.in-Err-Overflow.field-0-is at all.overflow in
    sym (ap (λ (xs : List ℕ). c.args.out.now.items ++ xs)
    (frame-past c.args.money.now c.args.decimal.now.sign c.args.decimal.now.absolute (told.0 refl)) ∙ append-nil c.args.out.now.items)
