use Rattle.std.proofs.Common.{rules, ◌∙◌}
use Rattle.icu_decimal_data.specs.TableReading.{IsTableBytes}
use Rattle.icu_decimal_data.proofs.TableSearch.{searchable, type_is}
use Rattle.icu_decimal_data.proofs.compact_view.EntryView.log10_type.Goals as goal

pub type_at-requires-clause-searchable : goal.type_at-requires-clause-searchable
type_at-requires-clause-searchable g c =
    let h : IsTableBytes g.P.PatternBackend.accepted c.args.self.now.bytes.now = search rules in
    searchable g.P.PatternBackend.accepted c.args.self.now.bytes.now h

pub returns : goal.returns
returns g c = c.type_at.ensures ∙ type_is c.args.self.now.bytes.now c.args.self.now.index
