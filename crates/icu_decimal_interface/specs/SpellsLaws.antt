-- That both formatters spell what they show. It stands here and not in proofs/ because their impls cite it.
use Rattle.std.proofs.Common.{◌≡◌, ℕ, ◌*◌, ◌^◌, ◌++◌, List, [], ◌∷◌, Option, Some, None, take, drop}
use Rattle.std.proofs.Common.{refl, sym, ap, ap₂, ◌∙◌, append-nil}
use Rattle.std.specs.Str.{chars}
use Rattle.fixed_decimal.specs.Size.{magnitude_place, size}
use Rattle.fixed_decimal.specs.Unsigned.{Unsigned}
use Rattle.icu_decimal_data.specs.CompactTable.{entry_for, exponent_of}
use Rattle.icu_pattern.specs.Patterns.{around}
use Rattle.writeable.specs.Events.{Event, characters, text_events, without_parts}
use Rattle.writeable.specs.Events.Event.{Char, Open, Close}
use Rattle.writeable.specs.Writes.{characters-append}
use Rattle.writeable.proofs.EventLemmas.{characters-map_Char}
use Rattle.icu_decimal.specs.CompactFormat.{CompactFormat, filled_events}
use Rattle.icu_decimal.specs.Decimal.{DecimalFormat, unsigned_events}
use Rattle.icu_decimal_interface.specs.Shown.{Shown, ShowsCompact, plain_shown, size_shown}
use Rattle.icu_decimal_interface.specs.Spells.{Spells, digits_text, entry_shown, pattern_shown, in_pattern, without_table}

-- without parts the characters are the same
pub characters-without_parts : (es : List Event) → characters (without_parts es) ≡ characters es
characters-without_parts [] = refl
characters-without_parts (Char c ∷ es) = ap (λ l. c ∷ l) (characters-without_parts es)
characters-without_parts (Open category value ∷ es) = characters-without_parts es
characters-without_parts (Close ∷ es) = characters-without_parts es

-- the characters of events in a pattern are the events' characters in it
characters-in_pattern : (literal : List ℕ) (placeholder : Option ℕ) (es : List Event) →
    characters (around literal placeholder es) ≡ in_pattern placeholder literal (characters es)
characters-in_pattern literal None es = characters-map_Char (chars literal)
characters-in_pattern literal (Some k) es =
    characters-append (text_events (take k literal)) (es ++ text_events (drop k literal))
    ∙ ap₂ ◌++◌ (characters-map_Char (chars (take k literal)))
    (characters-append es (text_events (drop k literal)) ∙ ap (λ l. characters es ++ l) (characters-map_Char (chars (drop k literal))))

-- a plain formatter writes the number itself, and no pattern
pub plain_spells : (f : DecimalFormat) (u : Unsigned) (n : Shown) → n ≡ plain_shown f u → Spells (without_table f) n
unfolding entry_for chars
plain_spells f u n is = rw is (record { exponent_is = refl; spelled = sym (append-nil (digits_text f u)) })

-- a compact formatter writes the significand in the pattern of the displayed entry, which is that of the shown size
pub compact_spells : (format : CompactFormat) (u : Unsigned) (n : Shown) → ShowsCompact format u n → Spells format n
compact_spells format u n h =
    let shown = h.is_shown in
    let same_size : shown.shown ≡ size_shown n = sym shown.decomposed.scaled ∙ ap (λ e. size n.significand * 10 ^ e) (sym shown.exponent_is) in
    let same_entry : shown.entry ≡ entry_shown format n = shown.decomposed.entry_is ∙ ap (λ y. entry_for format.table (magnitude_place y)) same_size in
    record {
      exponent_is = shown.exponent_is ∙ ap exponent_of same_entry;
      spelled =
          ap characters shown.events_are ∙ characters-without_parts (filled_events format shown.entry n.significand)
          ∙ ap (λ entry. characters (filled_events format entry n.significand)) same_entry
          ∙ characters-in_pattern (pattern_shown format n).literal (pattern_shown format n).placeholder (unsigned_events format.decimal n.significand);
    }
