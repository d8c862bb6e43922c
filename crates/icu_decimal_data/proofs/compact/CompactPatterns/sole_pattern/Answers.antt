use Rattle.std.proofs.Common.{◌≡◌, option_map}
use Rattle.std.specs.Prelude.{IfSome}
use Rattle.icu_plurals.specs.Elements.{selected, sole_value}
use Rattle.icu_plurals.specs.Operands.{Operands}
use Rattle.icu_pattern.specs.Refs.{text_of_ref}
use Rattle.icu_plurals.specs.declared.category.PluralCategory.{PluralCategory}
use Rattle.icu_decimal_data.specs.TableReading.{entry_of}
use Rattle.icu_decimal_data.proofs.TableCalls.{of_entry, index_inside, sole_picked}
use Rattle.icu_decimal_data.proofs.compact.CompactPatterns.sole_pattern.Goals as goal

pub returns-clause-pattern : goal.returns-clause-pattern
returns-clause-pattern g c =
    let bytes = c.self.inside.bytes.items in
    rw (← c.self.view_is) (of_entry bytes c.args.index (λ e. option_map text_of_ref c.sole_pattern.result ≡ sole_value e.elements)
    (index_inside bytes c.args.index (rw c.self.view_is c.requires)) (rw c.deref.ensures.value at c.sole_pattern.ensures))

pub returns-clause-picked : goal.returns-clause-picked
returns-clause-picked g c =
    let bytes = c.self.inside.bytes.items in
    let found : option_map text_of_ref c.sole_pattern.result ≡ sole_value (entry_of bytes c.args.index).elements =
    rw c.deref.ensures.value at c.sole_pattern.ensures in
    rw (← c.self.view_is) (of_entry bytes c.args.index (λ e. IfSome c.sole_pattern.result
    (λ p. (operands : Operands) (category : PluralCategory) → selected e.elements operands category ≡ text_of_ref p))
    (index_inside bytes c.args.index (rw c.self.view_is c.requires))
    (sole_picked c.sole_pattern.result text_of_ref (entry_of bytes c.args.index).elements found))
