-- Two formatters of money that are distinguished share no text: equal characters would stand between equal surroundings.
use Rattle.std.proofs.Common.{◌≡◌, sym, subst}
use Rattle.writeable.specs.Events.{characters}
use Rattle.icu_decimal.specs.Decimal.{DecimalFormat}
use Rattle.icu_decimal.proofs.TextsDistinct.{same_characters}
use Rattle.icu_dimension.specs.MoneyLaws.{plain_money}
use Rattle.icu_dimension.specs.ToldApart.{ToldApartShareNoCharacters, ToldApartShareNoText}
use Rattle.icu_dimension.proofs.MoneyDistinct.{around_tells}

pub share_no_characters : ToldApartShareNoCharacters
share_no_characters f g s t c d h hc hd e =
    let by_one = subst (λ (x : DecimalFormat). characters (plain_money f.formatter f.patterns s c) ≡ characters (plain_money x g.patterns t d))
    (sym h.same_numbers) e in
    h.differ s t (around_tells f.formatter f.patterns g.patterns s t c d h.numbers_readable h.one_free h.other_free hc hd by_one).0

-- nor texts
pub share_no_text : ToldApartShareNoText
share_no_text f g s t c d one other h hc hd first second same =
    share_no_characters f g s t c d h hc hd
    (same_characters (plain_money f.formatter f.patterns s c) (plain_money g.formatter g.patterns t d) one other first second same)
