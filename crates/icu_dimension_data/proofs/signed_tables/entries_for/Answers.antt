use Rattle.std.proofs.Common.{◌+◌, ◌∙◌, ℕ, None, drop, map, refl, sym}
use Rattle.std.proofs.lemmas.List.{append-nil, drop_all}
use Rattle.icu_decimal_data.specs.CompactTable.{PatternElements}
use Rattle.icu_decimal_data.specs.Kept.{as_table}
use Rattle.icu_dimension_data.specs.LentTexts.{lent_texts}
use Rattle.icu_dimension_data.specs.SignedTables.{entry_for}
use Rattle.icu_dimension_data.proofs.RisingRows.{put_last, still_goes_on}
use Rattle.icu_dimension_data.proofs.SignedTables.{one_more, rows_from}
use Rattle.icu_dimension_data.proofs.signed_tables.entries_for.Goals as goal

pub loop-index-init : goal.loop-index-init
loop-index-init c = let empty = c.new-entries.ensures.empty in rw empty (refl, (None, refl, c.requires))

pub loop-index-preserved : goal.loop-index-preserved
loop-index-preserved c =
    let row = c.index-rows-index.result in
    let i = c.loop-index.index in
    let left = drop (i + 1) c.args.rows.now in
    let before = c.loop-index.entries.entries in
    let from = rows_from c.args.rows.now i row c.index-rows-index.is c.loop-index-test.true in
    let inv = rw from at c.loop-index.invariant.0 in
    let rises = rw from at c.loop-index.invariant.1 in
    let v : ℕ × PatternElements = (row.exponent, c.in_ok-patterns.patterns) in
    let added = c.in_ok-with_entry.ensures ∙ put_last before row left v rises in
    rw added (
      one_more before row.log10_type v (map (entry_for c.args.digits.now (lent_texts c.args.texts.now) c.args.sign) left) _
          (rw c.in_ok-patterns.ensures inv),
      still_goes_on before row left v rises,
    )

pub returns : goal.returns
returns c =
    let none = drop_all c.loop-index.index c.args.rows.now c.loop-index-test.false in
    sym (append-nil (as_table c.loop-index.entries.entries)) ∙ rw none at c.loop-index.invariant.0
