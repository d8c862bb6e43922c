use Rattle.std.proofs.Common.{◌≡◌, true, rules, length, ◌∙◌}
use Rattle.icu_decimal_reading.specs.Reading.{is_decimal}
use Rattle.icu_decimal_reading.proofs.Spelled.{form_tells}
use Rattle.icu_decimal_reading.proofs.number.number_of.Goals as goal

pub returns-clause-number : goal.returns-clause-number
returns-clause-number c =
    let is : is_decimal (length c.args.digits.now) c.args.scale ≡ true = search rules in (
      is,
      form_tells c.args.digits.now c.args.scale c.requires is c.deref.result.now _ _
          (c.deref.ensures.value ∙ c.in_ok-form.ensures) c.in_ok-read_form.ensures.reads.1,
    )
