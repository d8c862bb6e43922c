use Rattle.std.proofs.Common.{sym, ◌∙◌}
use Rattle.icu_plurals_conditions.proofs.Fronts.{dots_are_front, differs_is_front, sign_is_front}
use Rattle.icu_plurals_conditions.proofs.lexer.sign_front.Goals as goal

pub returns-then-begins_with : goal.returns-then-begins_with
returns-then-begins_with c = dots_are_front _ (sym c.begins_with.ensures ∙ c.if-begins_with.true)

pub returns-then-begins_with-2 : goal.returns-then-begins_with-2
returns-then-begins_with-2 c = differs_is_front _ (sym c.begins_with-2.ensures ∙ c.if-begins_with-2.true)

pub returns : goal.returns
returns c = sign_is_front _ _ c.requires.begun (sym c.begins_with.ensures ∙ c.if-begins_with.false) (sym c.begins_with-2.ensures ∙ c.if-begins_with-2.false)
    c.requires.space c.requires.letter c.requires.digit c.sign.ensures
