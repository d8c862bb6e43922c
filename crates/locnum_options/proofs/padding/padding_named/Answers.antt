use Rattle.std.proofs.Common.{sym, ◌∙◌}
use Rattle.locnum_options.proofs.Columns.{padding_named-right}
use Rattle.locnum_options.proofs.padding.padding_named.Goals as goal

pub returns-in-None : goal.returns-in-None
unfolding lib.Utf8.encode
returns-in-None c = c.columns_named-in-None.ensures ∙ sym (padding_named-right c.args.text.now c.in-None.ensures.cases)
