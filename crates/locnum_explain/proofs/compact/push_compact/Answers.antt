use Rattle.std.proofs.Common.{List, ℕ, ◌++◌, refl, sym, ap, ◌∙◌}
use Rattle.std.proofs.lemmas.List.{append-nil}
use Rattle.std.proofs.lemmas.Result.{on_ok_weaker}
use Rattle.locnum_explain.proofs.CompactFacts.{facts-appended, facts-past}
use Rattle.locnum_explain.proofs.compact.push_compact.Goals as goal

pub returns-in_ok-push_showable-in-Ok : goal.returns-in_ok-push_showable-in-Ok
returns-in_ok-push_showable-in-Ok c =
    let told = c.in-Ok.ensures in
    on_ok_weaker c.push_decomposed.result
    (facts-appended c.args.formatter.now c.args.decimal.now.absolute c.value.result.now c.in-Ok.formatted.value c.args.out.now.items
    c.push_showable.new.out.items c.push_decomposed.new.out.items c.value.ensures told.value c.push_decomposed.ensures.table c.requires
    (λ past. cc (told.overflow.1 past)) c.in_ok-push_showable-in-Ok.ensures)
    c.push_decomposed.ensures.appended

pub returns-in-Err-Overflow : goal.returns-in-Err-Overflow
returns-in-Err-Overflow c =
    let told = rw c.in-Err-Overflow.field-0-is at c.in-Err-Overflow.ensures.overflow in
    sym (ap (λ (xs : List ℕ). c.args.out.now.items ++ xs) (facts-past c.args.formatter.now c.args.decimal.now.absolute (told.0 refl))
    ∙ append-nil c.args.out.now.items)
