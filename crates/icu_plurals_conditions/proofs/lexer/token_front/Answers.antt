use Rattle.std.proofs.Common.{sym, ap, ◌∙◌}
use Rattle.std.proofs.lemmas.List.Sums.{prefix_len-le-length}
use Rattle.icu_plurals_conditions.specs.Tokens.{is_letter, is_digit, word_token, number_token}
use Rattle.icu_plurals_conditions.proofs.Fronts.{word_is_front, digits_are_front, all_of_prefix}
use Rattle.icu_plurals_conditions.proofs.lexer.token_front.Goals as goal

pub split_at-requires : goal.split_at-requires
split_at-requires c = rw c.letters-len.ensures (prefix_len-le-length is_letter _)

-- a letter begins a word
pub returns-then-is_letter_byte : goal.returns-then-is_letter_byte
returns-then-is_letter_byte c = word_is_front _ _ _ c.requires.begun (sym c.is_letter_byte.ensures ∙ c.if-is_letter_byte.true) c.letters-len.ensures
    (c.word.ensures ∙ ap word_token c.split_at.ensures.front)

pub split_at-requires-then-is_digit_byte : goal.split_at-requires-then-is_digit_byte
split_at-requires-then-is_digit_byte c = rw c.digits-len.ensures (prefix_len-le-length is_digit _)

pub number-requires : goal.number-requires
number-requires c = rw (c.split_at-then-is_digit_byte.ensures.front, c.digits-len.ensures) (all_of_prefix is_digit c.args.text.now)

-- a digit begins a value
pub returns-then-is_digit_byte : goal.returns-then-is_digit_byte
returns-then-is_digit_byte c = digits_are_front _ _ _ c.requires.begun (sym c.is_digit_byte.ensures ∙ c.if-is_digit_byte.true) c.digits-len.ensures
    (c.number.ensures ∙ ap number_token c.split_at-then-is_digit_byte.ensures.front)
