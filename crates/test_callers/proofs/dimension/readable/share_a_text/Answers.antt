use Rattle.std.proofs.Common.{rules, sym, ◌∙◌}
use Rattle.std.specs.Cmp.Lexicographic.{bytes_decides}
use Rattle.test_callers.proofs.PlainText.{plain_text}
use Rattle.test_callers.proofs.dimension.readable.share_a_text.Goals as goal

pub returns : goal.returns
returns c h =
    let first = c.in-Ok.ensures.text in
    let second = c.in-Ok-write_to_string.ensures.text in
    let money = c.args.money.now in
    let other = c.args.other_money.now in
    c.told_apart_share_no_text.ensures.texts money other _ _ _ _ _ _ (c.is_told_apart_from.ensures.0 (search rules)) c.is_zero.ensures.valid
    c.is_zero-2.ensures.valid
    (plain_text money c.args.amount.now.sign c.args.amount.now.absolute first.0 _ first.1 first.2)
    (plain_text other c.args.other_amount.now.sign c.args.other_amount.now.absolute second.0 _ second.1 second.2)
    ((bytes_decides _ _).0 (sym c.eq.ensures ∙ h))
