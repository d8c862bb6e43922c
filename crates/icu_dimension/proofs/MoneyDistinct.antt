-- What a text of money determines. Its characters are those before the number, those of the number and those after it, so that
-- two of them are distinguished as two numbers between surroundings are: where the ten digits stand in no surroundings, the
-- first and the last digit of a text are the number's.
use Rattle.std.proofs.Common.{◌≡◌, refl, sym, ◌∙◌, List, ◌++◌}
use Rattle.fixed_decimal.specs.declared.signs.Sign.{Sign}
use Rattle.writeable.specs.Events.{Event, characters}
use Rattle.icu_decimal.specs.Decimal.{unsigned_events}
use Rattle.icu_decimal.proofs.CharactersShown.{characters-around}
use Rattle.icu_decimal.proofs.TextsDistinct.{are_others, same_characters, unsigned_tells}
use Rattle.icu_dimension_data.specs.Resolved.{Signed, affixes_of}
use Rattle.icu_dimension_data.specs.Surrounding.{affix_events}
use Rattle.icu_dimension.specs.Money.{sign_framed}
use Rattle.icu_dimension.specs.MoneyReadable.{money_surroundings}
use Rattle.icu_dimension.specs.MoneyLaws.{EqualMoneyTextsTell, EqualMoneyTextsTellAround, MoneyTextTells, MoneyTextTellsAround, plain_money}

-- the characters of a value in the pattern of a sign
pub characters-framed : (patterns : Signed) (sign : Sign) (es : List Event) →
    characters (sign_framed patterns sign es) ≡ (money_surroundings patterns sign).before ++ (characters es ++ (money_surroundings patterns sign).after)
characters-framed patterns sign es =
    characters-around (affix_events patterns.texts (affixes_of patterns sign).before) es
    (affix_events patterns.texts (affixes_of patterns sign).after) (money_surroundings patterns sign).before (money_surroundings patterns sign).after refl refl

-- in patterns of any currencies equal characters are of equal numbers in equal surroundings
pub around_tells : MoneyTextTellsAround
around_tells f p q s t c d h hp hq hc hd e =
    let first = money_surroundings p s in
    let second = money_surroundings q t in
    unsigned_tells f first second c d h (are_others f first (hp s)) (are_others f second (hq t)) hc hd
    (sym (characters-framed p s (unsigned_events f c)) ∙ e ∙ characters-framed q t (unsigned_events f d))

-- in patterns of one currency they are of one sign too
pub money_tells : MoneyTextTells
money_tells f s t c d h hc hd e =
    let distinct = around_tells f.formatter f.patterns f.patterns s t c d h.numbers_readable h.around_readable.free h.around_readable.free hc hd e in
    (h.around_readable.sign_distinct s t distinct.0, distinct.1)

-- so are texts
pub equal_texts_tell_around : EqualMoneyTextsTellAround
equal_texts_tell_around f p q s t c d one other h hp hq hc hd first second same =
    around_tells f p q s t c d h hp hq hc hd (same_characters (plain_money f p s c) (plain_money f q t d) one other first second same)

-- and those of one currency
pub equal_texts_tell : EqualMoneyTextsTell
equal_texts_tell f s t c d one other h hc hd first second same =
    money_tells f s t c d h hc hd
    (same_characters (plain_money f.formatter f.patterns s c) (plain_money f.formatter f.patterns t d) one other first second same)
