use Rattle.std.proofs.Common.{refl}
use Rattle.std.proofs.lemmas.Str.Ascii.{trim_ascii_is}
use Rattle.locnum_explain.specs.Texts.{trimmed_start}
use Rattle.locnum_explain.proofs.texts.trimmed.Goals as goal

pub returns : goal.returns
returns c = trim_ascii_is c.args.line.now c.trim_ascii.result.now (trimmed_start c.args.line.now) refl c.trim_ascii.ensures.value
