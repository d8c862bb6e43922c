use Rattle.std.proofs.Common.{refl}
use Rattle.locnum_lines.proofs.Near.{name-inserted}
use Rattle.locnum_lines.proofs.nearest.take_in.Goals as goal

pub returns : goal.returns
returns c =
    name-inserted (λ s. s.now) c.args.wanted.now c.args.name.now c.args.near.now.items c.insert.new.self.items c.truncate.new.self.items
    c.in_ok-index.index c.args.name refl (rw c.deref.ensures.value at c.in_ok-index.ensures.index) c.in_ok-insert.ensures.items c.truncate.ensures.items
