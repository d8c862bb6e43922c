-- Goals that a search finds; it is not tried longer where one is false.
use Rattle.std.proofs.Common.{sym, ◌∙◌, rules}
use Rattle.icu_table_entries.specs.CategoryTexts.{category_texts_in}
use Rattle.icu_table_entries.proofs.OneMember.{only_other-lent}
use Rattle.icu_table_entries.proofs.texts.category_texts_in.Goals as goal

pub returns : goal.returns
unfolding category_texts_in
returns c = search rules

pub returns-in_err-optional_text_at : goal.returns-in_err-optional_text_at
unfolding category_texts_in
returns-in_err-optional_text_at c = search rules

pub returns-in_err-optional_text_at-2 : goal.returns-in_err-optional_text_at-2
unfolding category_texts_in
returns-in_err-optional_text_at-2 c = search rules

pub returns-in_err-optional_text_at-3 : goal.returns-in_err-optional_text_at-3
unfolding category_texts_in
returns-in_err-optional_text_at-3 c = search rules

pub returns-in_err-optional_text_at-4 : goal.returns-in_err-optional_text_at-4
unfolding category_texts_in
returns-in_err-optional_text_at-4 c = search rules

pub returns-in_err-optional_text_at-5 : goal.returns-in_err-optional_text_at-5
unfolding category_texts_in
returns-in_err-optional_text_at-5 c = search rules

pub returns-in_err-optional_text_at-6 : goal.returns-in_err-optional_text_at-6
unfolding category_texts_in
returns-in_err-optional_text_at-6 c = search rules

pub returns-in_err-optional_text_at-7 : goal.returns-in_err-optional_text_at-7
unfolding category_texts_in
returns-in_err-optional_text_at-7 c = search rules

pub returns-in_err-other : goal.returns-in_err-other
unfolding category_texts_in
returns-in_err-other c = search rules

pub returns-in_err-value : goal.returns-in_err-value
unfolding category_texts_in
returns-in_err-value c = search rules

pub returns-then-has_one_member : goal.returns-then-has_one_member
returns-then-has_one_member c =
    let one = sym c.has_one_member.ensures ∙ c.if-has_one_member.true in
    rw c.of_other.ensures (only_other-lent c.args.key c.in_ok-other.other.now _ _ c.in_ok-value.ensures one c.in_ok-other.ensures)
