use Rattle.std.proofs.Common.{◌∙◌}
use Rattle.std.specs.Char.{encode_utf8}
use Rattle.std.specs.Prelude.{codes}
use Rattle.skeleton_settings.proofs.Spaced.{letters_spelled}
use Rattle.skeleton_settings.proofs.canonical.push_currency.Goals as goal

pub returns : goal.returns
returns c =
    c.in_ok-push_letter-3.ensures
    ∙ rw (c.in_ok-push_letter-2.ensures, c.in_ok-push_letter.ensures, c.in_ok-push_token.ensures)
    (letters_spelled _ (codes "currency/") (encode_utf8 c.args.letters.first) (encode_utf8 c.args.letters.second) (encode_utf8 c.args.letters.third))
