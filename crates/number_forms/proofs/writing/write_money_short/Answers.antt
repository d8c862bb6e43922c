use Rattle.icu_decimal.specs.CompactFormat.{IsCompacted}
use Rattle.icu_dimension.specs.CompactMoney.{compact_events, formatter_of}
use Rattle.number_forms.specs.CompactMoney.{compact_money_events}
use Rattle.number_forms.proofs.CompactMoney.{compact_money-is, compact_money-past, compact_money-some}
use Rattle.number_forms.proofs.WrittenForms.{no_overflow, shown-written}
use Rattle.number_forms.proofs.writing.write_money_short.Goals as goal

pub returns : goal.returns
returns g c =
    let f = c.args.formatter.now in
    let sign = c.args.decimal.now.sign in
    let d = c.args.decimal.now.absolute in
    shown-written g.K.EventWriter.wrote c.args.out.now c.write_into.new.out c.write_into.result (IsCompacted (formatter_of f sign) d)
    (compact_events (formatter_of f sign).table f.patterns sign) (compact_money_events f sign d) c.written_or.result c.written_or.ensures
    (λ is. compact_money-some f sign d (λ past. no_overflow c.write_into.result is (c.write_into.ensures.overflow.1 past)))
    (compact_money-is f sign d) (λ over. compact_money-past f sign d (c.write_into.ensures.overflow.0 over)) c.write_into.ensures.written
