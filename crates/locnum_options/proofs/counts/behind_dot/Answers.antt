use Rattle.locnum_options.proofs.Cuts.{behind_dot-stripped}
use Rattle.locnum_options.proofs.counts.behind_dot.Goals as goal

pub returns : goal.returns
returns c = behind_dot-stripped c.args.text.now c.strip_prefix.result c.strip_prefix.ensures.cases
