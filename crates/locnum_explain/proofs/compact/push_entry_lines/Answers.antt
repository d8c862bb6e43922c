use Rattle.std.proofs.Common.{◌≡◌, rules, to_z, of_z, w32, ap, ◌∙◌, ℤ, ◌++◌}
use Rattle.icu_decimal_data.specs.CompactTable.{entry_at, entry_for}
use Rattle.fixed_decimal.specs.Size.{place}
use Rattle.locnum_explain.specs.Facts.{entry_line}
use Rattle.std.proofs.lemmas.Result.{on_ok_weaker}
use Rattle.locnum_explain.proofs.Entries.{entry_lines-appended}
use Rattle.locnum_explain.proofs.compact.push_entry_lines.Goals as goal

pub returns-clause-appended : goal.returns-clause-appended
returns-clause-appended c =
    let table = c.patterns-patterns.result.now in
    let same : to_z w32 (of_z w32 c.args.magnitude) ≡ c.args.magnitude = search rules in
    let found : entry_at table c.entry_index-index.result ≡ entry_for table (place c.args.magnitude) =
    c.entry_index-index.ensures.entry ∙ ap (λ (m : ℤ). entry_for table (place m)) same in
    let first : c.push_entry.new.out.items ≡ c.args.out.now.items ++ entry_line table (place c.args.magnitude) =
    c.in_ok-push_entry.ensures ∙ ap (λ (m : ℤ). c.args.out.now.items ++ entry_line table (place m)) same in
    on_ok_weaker c.push_pattern_at.result
    (entry_lines-appended c.args.formatter.now c.plural_rules.result.now table (place c.args.magnitude) c.args.significand.now
    c.entry_index-index.result c.args.out.now.items c.push_entry.new.out.items c.push_operands.new.out.items c.push_pattern_at.new.out.items
    c.plural_rules.ensures c.patterns-patterns.ensures found first c.in_ok-push_operands.ensures)
    c.push_pattern_at.ensures
