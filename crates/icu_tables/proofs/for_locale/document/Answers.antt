use Rattle.std.proofs.Common.{◌≡◌, [], ◌∷◌, sym, ap, ◌∙◌, arith}
use Rattle.std.proofs.lemmas.Grind.{common_steps}
use Rattle.json.specs.Lex.{tokens}
use Rattle.json.specs.Reads.{token_of}
use Rattle.json.specs.Token.{Token}
use Rattle.icu_tables.proofs.ForLocale.{whole_object}
use Rattle.icu_tables.proofs.for_locale.document.Goals as goal

pub returns : goal.returns
returns g c =
    let found = c.in_ok-found.ensures in
    let none : c.members.new.reader ≡ [] = grind (arith, common_steps) in
    let opening = c.in-Some-BeginObject in
    let first : tokens c.args.text.now ≡ Token.begin_object ∷ c.next.new.self =
    sym c.in_ok-reader.ensures.ok ∙ opening.ensures.value ∙ ap (λ t. token_of t ∷ c.next.new.self) opening.field-0-is in
    (found.0, found.1, whole_object c.args.text.now c.next.new.self found.0 first (rw none at found.2))
