use Rattle.std.proofs.Common.{rules, ◌≡◌, sym, ap, ◌∙◌, chars, encode_utf8_all}
use Rattle.std.proofs.lemmas.Str.{encodes-chars}
use Rattle.icu_ranges_readable.proofs.readable.has_same_characters.Goals as goal

pub returns : goal.returns
returns c = (
  λ e. let same : c.args.one.now ≡ c.args.other.now = search rules in ap chars same,
  λ e. let same : c.args.one.now ≡ c.args.other.now =
      sym (encodes-chars c.args.one.now c.utf8.one) ∙ ap encode_utf8_all e ∙ encodes-chars c.args.other.now c.utf8.other in
      search rules,
)
