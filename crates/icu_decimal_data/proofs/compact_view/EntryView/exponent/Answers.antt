use Rattle.std.proofs.Common.{rules, ◌∙◌}
use Rattle.icu_decimal_data.specs.TableReading.{IsTableBytes}
use Rattle.icu_decimal_data.proofs.TableSearch.{searchable, exponent_is}
use Rattle.icu_decimal_data.proofs.compact_view.EntryView.exponent.Goals as goal

pub exponent_at-requires-clause-searchable : goal.exponent_at-requires-clause-searchable
exponent_at-requires-clause-searchable g c =
    let h : IsTableBytes g.P.PatternBackend.accepted c.args.self.now.bytes.now = search rules in
    searchable g.P.PatternBackend.accepted c.args.self.now.bytes.now h

pub returns : goal.returns
returns g c = c.exponent_at.ensures ∙ exponent_is c.args.self.now.bytes.now c.args.self.now.index
