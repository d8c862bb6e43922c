-- What a compact formatter shows of a number is one.
use Rattle.std.proofs.Common.{◌≡◌, ℕ, List, Option, sym, ap₂, ◌∙◌}
use Rattle.fixed_decimal.specs.declared.signs.Sign.TheVariants.{None}
use Rattle.fixed_decimal.specs.Unsigned.{Unsigned}
use Rattle.writeable.specs.Events.{Event, without_parts}
use Rattle.icu_decimal_data.specs.CompactTable.{TableEntry, exponent_of}
use Rattle.icu_decimal.specs.CompactFormat.{CompactFormat, FormattedCompact, IsCompactFormat, compact_number_events, filled_events, significand_of}
use Rattle.icu_decimal.proofs.DecomposedOnce.{decomposed_is_one}
use Rattle.icu_decimal_interface.specs.Shown.{IsCompactShown, Shown, ShowsCompact}

-- what an entry and a significand show
abbrev shown_by : CompactFormat → Option TableEntry → Unsigned → Shown
shown_by format entry significand = record {
  significand = significand;
  exponent = exponent_of entry;
  events = without_parts (filled_events format entry significand);
}

-- the entry and the significand give all that is shown
is_shown_by : (format : CompactFormat) (u : Unsigned) (n : Shown) (h : IsCompactShown format u n) → n ≡ shown_by format h.entry n.significand
is_shown_by format u n h =
    let make : ℕ → List Event → Shown = λ e es. record { significand = n.significand; exponent = e; events = es } in
    ap₂ make h.exponent_is h.events_are

-- one thing is shown of a number
pub compact_shown_is_one : (format : CompactFormat) (u : Unsigned) (n m : Shown) → IsCompactShown format u n → IsCompactShown format u m → m ≡ n
compact_shown_is_one format u n m h k =
    let one = decomposed_is_one format.table u k.shown h.shown k.entry h.entry m.significand n.significand k.decomposed h.decomposed in
    is_shown_by format u m k ∙ ap₂ (shown_by format) one.1 one.2 ∙ sym (is_shown_by format u n h)

-- a formatted compact number without a sign, as it is shown
abbrev pub shown_of : FormattedCompact → Shown
shown_of r = record { significand = significand_of r; exponent = r.exponent; events = compact_number_events r }

-- it is what is shown
pub shows_compact : (format : CompactFormat) (u : Unsigned) (r : FormattedCompact) →
    IsCompactFormat format None u (significand_of r) r.exponent (compact_number_events r) → ShowsCompact format u (shown_of r)
shows_compact format u r h = record { is_shown = h; alone = λ m k. compact_shown_is_one format u (shown_of r) m h k }
