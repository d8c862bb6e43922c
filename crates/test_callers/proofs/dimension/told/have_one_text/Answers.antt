use Rattle.std.proofs.Common.{sym, ◌∙◌}
use Rattle.std.specs.Cmp.Lexicographic.{bytes_decides}
use Rattle.test_callers.proofs.OneAmount.{text_in}
use Rattle.test_callers.proofs.dimension.told.have_one_text.Goals as goal

pub returns : goal.returns
returns c h f marks p texts one other told is are =
    let first = c.in-Ok.ensures.text in
    let second = c.in-Ok-write_to_string.ensures.text in
    c.money_text_tells_the_symbol.ensures.texts f marks p texts one other _ _ _ _ _ _ told.readable told.tells told.one_told told.other_told
    told.one_text told.other_text c.is_zero.ensures.valid c.is_zero-2.ensures.valid
    (text_in c.args.money.now f p texts one c.args.amount.now.sign c.args.amount.now.absolute first.0 _ is first.1 first.2)
    (text_in c.args.other_money.now f p texts other c.args.other_amount.now.sign c.args.other_amount.now.absolute second.0 _ are second.1 second.2)
    ((bytes_decides _ _).0 (sym c.eq.ensures ∙ h))
