use Rattle.locnum_options.proofs.Cuts.{cut_at-split}
use Rattle.locnum_options.proofs.texts.cut_at.Goals as goal

pub returns : goal.returns
returns c = cut_at-split c.args.mark c.args.text.now c.split_once.result c.split_once.ensures.cases c.requires
