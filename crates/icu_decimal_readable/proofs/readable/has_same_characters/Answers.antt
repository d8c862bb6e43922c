use Rattle.std.proofs.Common.{rules, ◌≡◌, sym, ap, ◌∙◌, chars, encode_utf8_all}
use Rattle.std.proofs.lemmas.Str.{encodes-chars}
use Rattle.icu_decimal_readable.proofs.readable.has_same_characters.Goals as goal

pub returns : goal.returns
returns c = (
  λ e. let same : c.args.a.now ≡ c.args.b.now = search rules in ap chars same,
  λ e. let same : c.args.a.now ≡ c.args.b.now = sym (encodes-chars c.args.a.now c.utf8.a) ∙ ap encode_utf8_all e ∙ encodes-chars c.args.b.now c.utf8.b in
      search rules,
)
