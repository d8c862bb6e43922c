use Rattle.std.proofs.Common.{◌≡◌, ℕ, List, None, slice_index_or, option_map, subst}
use Rattle.icu_plurals.specs.Elements.{slots}
use Rattle.icu_pattern.specs.Refs.{text_of_ref}
use Rattle.icu_decimal_data.specs.TableReading.{entry_of}
use Rattle.icu_decimal_data.proofs.TableCalls.{of_entry, index_inside}
use Rattle.icu_decimal_data.proofs.compact.CompactPatterns.slot.Goals as goal

pub returns : goal.returns
returns g c =
    let bytes = c.self.inside.bytes.items in
    let lent : option_map text_of_ref c.pattern_at.result ≡ slice_index_or (slots (entry_of c.deref.result.now c.args.index).elements) c.args.slot None =
    c.pattern_at.ensures in
    let found = subst (λ (b : List ℕ). option_map text_of_ref c.pattern_at.result
    ≡ slice_index_or (slots (entry_of b c.args.index).elements) c.args.slot None) c.deref.ensures.value lent in
    rw (← c.self.view_is) (of_entry bytes c.args.index (λ e. option_map text_of_ref c.pattern_at.result
    ≡ slice_index_or (slots e.elements) c.args.slot None) (index_inside bytes c.args.index (rw c.self.view_is c.requires.index)) found)
