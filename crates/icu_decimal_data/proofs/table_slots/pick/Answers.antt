use Rattle.std.proofs.Common.{◌≡◌, ap, ◌∙◌, None, slice_index_or, List, Bool, ℕ}
use Rattle.icu_plurals.specs.Elements.{slots, presence, selected, selected_slot}
use Rattle.icu_pattern.specs.Refs.{text_of_ref}
use Rattle.icu_plurals.specs.Rules.{category_of}
use Rattle.icu_decimal_data.specs.TableReading.{entry_of}
use Rattle.icu_plurals.proofs.SelectedSlots.{selected_slot_holds}
use Rattle.icu_decimal_data.proofs.TableSlots.{same_value, no_value}
use Rattle.icu_decimal_data.proofs.table_slots.pick.Goals as goal

pub unreachable-requires : goal.unreachable-requires
unreachable-requires g c =
    let e = (entry_of c.args.bytes.now c.args.index).elements in
    let o = c.args.operands.now in
    let category = category_of c.args.rules.now o in
    let slot_is : c.slot_for-slot.result ≡ selected_slot (presence e) o category =
    c.slot_for-slot.ensures.slot ∙ ap (λ (p : List Bool). selected_slot p o category) c.presence.ensures in
    no_value (slice_index_or (slots e) c.slot_for-slot.result None) (selected e o category) (rw c.in-None.is at c.pattern_at.ensures)
    (ap (λ (k : ℕ). slice_index_or (slots e) k None) slot_is ∙ selected_slot_holds e o category)

pub returns : goal.returns
returns g c =
    let e = (entry_of c.args.bytes.now c.args.index).elements in
    let o = c.args.operands.now in
    let category = category_of c.args.rules.now o in
    let slot_is : c.slot_for-slot.result ≡ selected_slot (presence e) o category =
    c.slot_for-slot.ensures.slot ∙ ap (λ (p : List Bool). selected_slot p o category) c.presence.ensures in
    same_value (slice_index_or (slots e) c.slot_for-slot.result None) (text_of_ref c.in-Some.pattern) (selected e o category) c.in-Some.ensures
    (ap (λ (k : ℕ). slice_index_or (slots e) k None) slot_is ∙ selected_slot_holds e o category)
