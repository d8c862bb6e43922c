use Rattle.std.proofs.Common.{◌≡◌}
use Rattle.icu_plurals.specs.Elements.{selected}
use Rattle.icu_pattern.specs.Refs.{text_of_ref}
use Rattle.icu_plurals.specs.Rules.{category_of}
use Rattle.icu_decimal_data.proofs.TableCalls.{of_entry, index_inside}
use Rattle.icu_decimal_data.proofs.compact.CompactPatterns.pick.Goals as goal

pub returns : goal.returns
returns g c =
    let bytes = c.self.inside.bytes.items in
    rw (← c.self.view_is) (of_entry bytes c.args.index (λ e. text_of_ref c.pick.result
    ≡ selected e.elements c.args.operands.now (category_of c.args.rules.now c.args.operands.now))
    (index_inside bytes c.args.index (rw c.self.view_is c.requires)) (rw c.deref.ensures.value at c.pick.ensures))
