use Rattle.icu_decimal_interface.specs.Shown.{plain_shown}
use Rattle.icu_dimension.specs.Units.{units_events}
use Rattle.number_forms.proofs.WrittenForms.{plain-written}
use Rattle.number_forms.proofs.writing.write_units.Goals as goal

pub returns : goal.returns
returns g c = plain-written g.K.EventWriter.wrote c.args.out.now c.write_into.new.out c.write_into.result
    (units_events c.args.formatter.now.formatter.symbols c.args.formatter.now.rules c.args.formatter.now.elements c.args.decimal.now.sign)
    (plain_shown c.args.formatter.now.formatter c.args.decimal.now.absolute) c.written_or.result c.written_or.ensures c.write_into.ensures.overflow.0
    c.write_into.ensures.written
