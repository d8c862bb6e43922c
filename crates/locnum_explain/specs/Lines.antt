-- The explanation of a text by a form: one definition of settings, of the form, and of the text.
use Rattle.std.specs.Prelude.{ℕ, List, [], ◌++◌, Result, Ok, Err, codes}
use Rattle.writeable.specs.Events.{Event, text_of}
use Rattle.writeable.specs.Spans.{spans}
use Rattle.fixed_decimal.specs.declared.signs.Sign.{Sign}
use Rattle.fixed_decimal.specs.Size.{magnitude, place, size}
use Rattle.fixed_decimal.specs.Unsigned.{Unsigned}
use Rattle.decimal_lines.specs.declared.single_text.TextError.{TextError}
use Rattle.decimal_lines.specs.declared.single_text.TextError.TheVariants.{NotDecimal, TooManyDigits, Overflow, OutOfMemory}
use Rattle.decimal_lines.specs.declared.mode.Mode.TheVariants.{Plain, Compact}
use Rattle.number_formatters.specs.declared.formatter.Formatter.{Formatter}
use Rattle.number_formatters.specs.declared.formatter.Formatter.TheVariants.{Numbers, ShortNumbers, Money, MoneyNamed, MoneyShort, Percent, Units}
use Rattle.number_formatters.specs.declared.formatter.Formatter.TheVariants.{ShortMoney, ShortNamed, ShortUnits}
use Rattle.number_forms.specs.Decimals.{scaled_decimal, shown_decimal}
use Rattle.number_forms.specs.Forms.{FormData, form_events}
use Rattle.icu_dimension.specs.CompactMoney.{formatter_of}
use Rattle.number_forms.specs.Reported.{reported}
use Rattle.locnum_explain.specs.declared.settings.Settings.{Settings}
use Rattle.locnum_explain.specs.Facts.{entry_line, magnitude_line}
use Rattle.locnum_explain.specs.Operands.{operands_line}
use Rattle.locnum_explain.specs.Parts.{parts_lines}
use Rattle.locnum_explain.specs.Rounding.{rounding_lines}
use Rattle.locnum_explain.specs.Compact.{amount_facts, compact_facts}
use Rattle.locnum_explain.specs.Marks.{marks_of}
use Rattle.locnum_explain.specs.Patterns.{name_line, signed_line, unit_line}

-- why a text isn't explained further
abbrev pub refusal_line : TextError → List ℕ
refusal_line NotDecimal = codes "  not a decimal\n"
refusal_line TooManyDigits = codes "  too many digits\n"
refusal_line Overflow = codes "  overflow\n"
refusal_line OutOfMemory = codes "  out of memory\n"

-- the text of events, with the parts of others, which have the same characters
abbrev pub marked_lines : ℕ → List Event → List Event → List ℕ
marked_lines width events marks = parts_lines width (text_of events) (spans marks)

-- What is said of a decimal besides its magnitude: of a compact number what it is displayed by, or where digits are asked for its
-- entry; of a number in full with a name or a unit its operands; and of money, percents and units in full the pattern.
abbrev pub detail_lines : Formatter → Sign → Unsigned → List ℕ
detail_lines (Numbers (Plain format)) sign d = []
detail_lines (Numbers (Compact format)) sign d = compact_facts format d
detail_lines (ShortNumbers format by) sign d = entry_line format.table (place (magnitude (size d)))
detail_lines (ShortMoney format by) sign d = entry_line (formatter_of format sign).table (place (magnitude (size d)))
detail_lines (ShortNamed format by) sign d = entry_line format.formatter.table (place (magnitude (size d)))
detail_lines (ShortUnits format by) sign d = entry_line format.formatter.table (place (magnitude (size d)))
detail_lines (Money format) sign d = signed_line format.patterns sign
detail_lines (MoneyNamed format) sign d = operands_line format.rules d ++ name_line format.rules format.elements d
detail_lines (MoneyShort format) sign d = amount_facts format sign d
detail_lines (Percent format) sign d = signed_line format.patterns sign
detail_lines (Units format) sign d = operands_line format.rules d ++ unit_line format.rules format.elements d

-- what is said of the decimal that is written for the number that is rounded: that it was rounded, its magnitude, and so on
abbrev pub fact_lines : Settings → Formatter → Result (Sign × Unsigned) TextError → Result (Sign × Unsigned) TextError → List ℕ
fact_lines settings formatter read (Ok (sign, d)) = rounding_lines settings read (sign, d) ++ magnitude_line d ++ detail_lines formatter sign d
fact_lines settings formatter read (Err error) = []

-- what is written, with its parts, and what is said of the decimal that is written
abbrev pub written_lines : Settings → FormData → List ℕ → List Event → List ℕ
written_lines settings form text events =
    marked_lines settings.width events (marks_of form.formatter events (shown_decimal form text))
    ++ fact_lines settings form.formatter (scaled_decimal form text) (shown_decimal form text)

-- the text and what is written of it; or the text as notes show it, and why nothing is written
abbrev pub outcome_lines : Settings → FormData → List ℕ → Result (List Event) TextError → List ℕ
outcome_lines settings form text (Ok events) = text ++ codes "\n" ++ written_lines settings form text events
outcome_lines settings form text (Err error) = reported text ++ codes "\n" ++ refusal_line error

-- the explanation of a text: the events are those that the form writes for it
unfoldable pub form_explanation : Settings → FormData → List ℕ → List ℕ
form_explanation settings form text = outcome_lines settings form text (form_events form text)
