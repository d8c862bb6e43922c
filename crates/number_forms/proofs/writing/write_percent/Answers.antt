use Rattle.icu_decimal_interface.specs.Shown.{plain_shown}
use Rattle.icu_dimension.specs.Money.{money_events}
use Rattle.number_forms.proofs.WrittenForms.{plain-written}
use Rattle.number_forms.proofs.writing.write_percent.Goals as goal

pub returns : goal.returns
returns g c = plain-written g.K.EventWriter.wrote c.args.out.now c.write_percents_into.new.out c.write_percents_into.result
    (money_events c.args.formatter.now.patterns c.args.decimal.now.sign)
    (plain_shown c.args.formatter.now.formatter c.args.decimal.now.absolute) c.written_or.result c.written_or.ensures
    c.write_percents_into.ensures.overflow.0
    c.write_percents_into.ensures.written
