use Rattle.std.proofs.Common.{sym}
use Rattle.serde_json.specs.View.{view}
use Rattle.icu_tables.proofs.ForLocale.{OnOk-map, adds_other, adds_symbols, adds_digits, adds_rules, adds_short, adds_long, adds_ordinals}
use Rattle.icu_tables.proofs.for_locale.FoundKept.add.Goals as goal

pub returns-in-symbols : goal.returns-in-symbols
returns-in-symbols c =
    rw (← c.self.view_is) (OnOk-map c.once.result (adds_symbols c.args.locale.now c.args.reader.now _ c.once.new.reader c.args.name.now _ c.in-symbols.is)
    c.once.ensures)

pub returns-in-digits : goal.returns-in-digits
returns-in-digits c =
    rw (← c.self.view_is) (OnOk-map c.once-in-digits.result (adds_digits c.args.locale.now c.args.reader.now _ c.once-in-digits.new.reader c.args.name.now
    _ c.in-digits.is) c.once-in-digits.ensures)

pub returns-in-rules : goal.returns-in-rules
returns-in-rules c =
    rw (← c.self.view_is) (OnOk-map c.once-in-rules.result (adds_rules c.args.locale.now c.args.reader.now _ c.once-in-rules.new.reader c.args.name.now _
    c.in-rules.is) c.once-in-rules.ensures)

pub returns-in-short : goal.returns-in-short
returns-in-short c =
    rw (← c.self.view_is) (OnOk-map c.once-in-short.result (adds_short c.args.locale.now c.args.reader.now _ c.once-in-short.new.reader c.args.name.now _
    c.in-short.is) c.once-in-short.ensures)

pub returns-in-long : goal.returns-in-long
returns-in-long c =
    rw (← c.self.view_is) (OnOk-map c.once-in-long.result (adds_long c.args.locale.now c.args.reader.now _ c.once-in-long.new.reader c.args.name.now _
    c.in-long.is) c.once-in-long.ensures)

pub returns-in-ordinals : goal.returns-in-ordinals
returns-in-ordinals c =
    rw (← c.self.view_is) (OnOk-map c.once-in-ordinals.result (adds_ordinals c.args.locale.now c.args.reader.now _ c.once-in-ordinals.new.reader
    c.args.name.now _ c.in-ordinals.is) c.once-in-ordinals.ensures)

pub returns-in_ok-owned-in_default : goal.returns-in_ok-owned-in_default
returns-in_ok-owned-in_default c =
    let d = c.in_ok-owned-in_default in
    let n = c.in_default in (
      view d.field-0,
      d.ensures,
      λ ds holds. adds_other c.args.locale.now c.args.name.now (view d.field-0) ds c.args.self.now d.ensures.1
          (λ e. n.not-symbols (sym e)) (λ e. n.not-digits (sym e)) (λ e. n.not-rules (sym e)) (λ e. n.not-short (sym e)) (λ e. n.not-long (sym e))
          (λ e. n.not-ordinals (sym e)) holds,
    )
