use Rattle.std.proofs.Common.{◌≡◌, ◌++◌, List, ℕ, sym, ap, ◌∙◌}
use Rattle.std.specs.Prelude.{option_map}
use Rattle.std.proofs.lemmas.List.{append-nil}
use Rattle.locnum_lines.specs.Fields.{Field}
use Rattle.locnum_lines.specs.Settings.{SettingsData}
use Rattle.locnum_ranges.specs.Written.{fields_written}
use Rattle.locnum_ranges.proofs.Written.{one-more, written-more, written-none}
use Rattle.locnum_ranges.proofs.writing.push_fields.Goals as goal

pub loop-next-preserved : goal.loop-next-preserved
loop-next-preserved c =
    let i = rw c.in-Some.is at c.loop-next.invariant in
    let delimiter : c.settings.inside.delimiter ≡ c.args.settings.now.delimiter =
    ap (λ (s : SettingsData). s.delimiter) c.settings.view_is in
    let fields = rw delimiter at c.first_field-first.ensures.fields in
    one-more _ c.loop-next.out.items c.push_field.new.out.items _ _ _ i
    (ap (λ (k : List Field). fields_written c.args.settings.now c.args.fields (option_map (λ s. s.now) c.args.range) c.loop-next.index
    c.loop-next.before.now k)
    fields
    ∙ written-more c.args.settings.now c.args.fields (option_map (λ s. s.now) c.args.range) c.loop-next.index c.loop-next.before.now _ _
    c.in-Some-checked_add.following c.in_ok-before.before.now c.in-Some-checked_add.ensures.1 c.in_ok-before.ensures.behind)
    c.in_ok-before.ensures.out

pub returns : goal.returns
returns c =
    let i = rw c.in_default.is at c.loop-next.invariant in
    sym (i ∙ ap (λ (k : List ℕ). c.loop-next.out.items ++ k)
    (written-none c.args.settings.now c.args.fields (option_map (λ s. s.now) c.args.range) c.loop-next.index c.loop-next.before.now)
    ∙ append-nil c.loop-next.out.items)
