use Rattle.std.proofs.lemmas.Result.{IfOk-weaker}
use Rattle.locnum_lines.proofs.Goes.{goes-counted}
use Rattle.locnum_lines.proofs.line.push_first.Goals as goal

pub returns : goal.returns
returns c = IfOk-weaker c.push_counted.result _ _ (λ rest g. goes-counted c.args.settings.now c.args.form.now c.args.index c.args.gathered.now
    c.count.new.self c.push_counted.new.gathered c.args.line.now _ c.count.ensures g) c.push_counted.ensures
