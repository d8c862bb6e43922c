use Rattle.std.proofs.Common.{List, ℕ, sym, ap, ap₂, ◌∙◌}
use Rattle.std.proofs.lemmas.Str.{chars-nil}
use Rattle.icu_decimal_symbols.specs.LentTexts.{lent_texts}
use Rattle.icu_decimal_readable.specs.Readable.{Surroundings, affixes}
use Rattle.icu_decimal_readable.proofs.readable_table.affixes.Goals as goal

-- no sign has no affixes
pub returns-in-None : goal.returns-in-None
returns-in-None c =
    let of : List ℕ → List ℕ → Surroundings = λ x y. record { before = x; after = y } in
    ap₂ of chars-nil chars-nil ∙ sym (ap (affixes (lent_texts c.args.texts.now)) c.in-None.is)
