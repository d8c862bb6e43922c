use Rattle.std.proofs.Common.{List, ℕ, sym, ap, ◌∙◌, chars}
use Rattle.std.proofs.lemmas.Str.{chars-nil}
use Rattle.icu_decimal_readable.specs.Readable.{Surroundings, sides_at}
use Rattle.icu_decimal_readable.proofs.readable_table.sides_of.Goals as goal

-- without a place nothing stands after it
pub returns-in-None : goal.returns-in-None
returns-in-None c =
    let of : List ℕ → Surroundings = λ x. record { before = chars c.args.literal.now; after = x } in
    ap of chars-nil ∙ sym (ap (λ o. sides_at o c.args.literal.now) c.in-None.is)
