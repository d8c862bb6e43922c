use Rattle.std.proofs.Common.{◌≡◌, OnOk, ap, ◌∙◌, subst, List, ◌++◌}
use Rattle.writeable.specs.Events.{Event, text_of}
use Rattle.icu_plurals.specs.Operands.{Operands}
use Rattle.icu_decimal.specs.CompactFormat.{filled_number_events}
use Rattle.icu_dimension.specs.CompactMoney.{number_given}
use Rattle.icu_unit_ranges.specs.UnitRanges.{units_range_framed}
use Rattle.number_forms.specs.Shortened.{Shortened}
use Rattle.number_forms.specs.ShortenedWith.{operands_shown}
use Rattle.number_ranges.proofs.compact.push_units_shown.Goals as goal

-- what is written is that of the two numbers as they are given
pub returns-clause-ok : goal.returns-clause-ok
returns-clause-ok c =
    subst (λ es. OnOk c.push_given_units.result (c.push_given_units.new.out.items ≡ c.args.out.now.items ++ text_of es))
    (ap (λ o. framed o (filled_number_events c.value.result.now) c.operands_shown-2.result (filled_number_events c.value-2.result.now))
    c.operands_shown.ensures
    ∙ ap (λ es. framed (operands_shown one) es c.operands_shown-2.result (filled_number_events c.value-2.result.now)) first
    ∙ ap (λ o. framed (operands_shown one) (given one) o (filled_number_events c.value-2.result.now)) c.operands_shown-2.ensures
    ∙ ap (λ es. framed (operands_shown one) (given one) (operands_shown two) es) last)
    c.push_given_units.ensures.ok
  where
    -- what is shown of both
    one : Shortened
    one = record { significand = c.args.start.now.significand.absolute; exponent = c.args.start.now.exponent }

    two : Shortened
    two = record { significand = c.args.end.now.significand.absolute; exponent = c.args.end.now.exponent }

    -- its events
    given : Shortened → List Event
    given n = number_given c.args.units.now.formatter n.significand n.exponent

    -- a range of such events
    framed : Operands → List Event → Operands → List Event → List Event
    framed o es p fs = units_range_framed
        (record {
          style = record { separator = c.args.style.now.style.pattern.now; fallback = c.args.style.now.style.fallback };
          plural_ranges = c.args.style.now.plural_ranges.now;
        }) c.args.units.now.formatter.decimal.symbols c.args.units.now.rules c.args.units.now.elements
        c.args.start.now.significand.sign c.args.end.now.significand.sign o es p fs

    first : filled_number_events c.value.result.now ≡ given one
    first = ap filled_number_events (c.value.ensures ∙ ap (λ z. z.value) c.in-Ok.ensures.value)
        ∙ ap (λ f. number_given f one.significand one.exponent) c.formatter-numbers.ensures

    last : filled_number_events c.value-2.result.now ≡ given two
    last = ap filled_number_events (c.value-2.ensures ∙ ap (λ z. z.value) c.in-Ok-format_with_exponent.ensures.value)
        ∙ ap (λ f. number_given f two.significand two.exponent) c.formatter-numbers.ensures
