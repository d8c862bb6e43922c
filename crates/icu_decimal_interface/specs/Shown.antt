-- What a formatter shows for a number, apart from its sign.
use Rattle.std.specs.Prelude.{◌≡◌, ℕ, ◌*◌, ◌^◌, List}
use Rattle.fixed_decimal.specs.declared.signs.Sign.TheVariants.{None as NoSign}
use Rattle.fixed_decimal.specs.Size.{size}
use Rattle.fixed_decimal.specs.Unsigned.{Unsigned}
use Rattle.icu_plurals.specs.Elements.{Elements, selected}
use Rattle.writeable.specs.Events.{Event}
use Rattle.icu_plurals.specs.Operands.{Operands, operands_of}
use Rattle.icu_plurals.specs.Rules.{Rule, category_of}
use Rattle.icu_decimal.specs.CompactFormat.{CompactFormat, IsCompactFormat}
use Rattle.icu_decimal.specs.Decimal.{DecimalFormat, unsigned_events}

-- a number as it is shown, without its sign: a significand, in its digits and range, times ten to an exponent; and the
-- events that are written of it
pub record Shown : Type 0 where
  pub significand : Unsigned
  pub exponent : ℕ
  pub events : List Event

-- its plural operands
abbrev pub operands_shown : Shown → Operands
operands_shown n = operands_of n.significand n.exponent

-- its size
abbrev pub size_shown : Shown → ℕ
size_shown n = size n.significand * 10 ^ n.exponent

-- the value that operands pick, by plural rules
abbrev pub picked : {T : Type 0} → List Rule → Elements T → Operands → T
picked rules elements operands = selected elements operands (category_of rules operands)

-- what is written in a frame, which is a function of the operands and the events
abbrev pub framed_events : (Operands → List Event → List Event) → Shown → List Event
framed_events framed n = framed (operands_shown n) n.events

-- what a plain formatter shows for a number: its digits as they are given
abbrev pub plain_shown : DecimalFormat → Unsigned → Shown
plain_shown format u = record { significand = u; exponent = 0; events = unsigned_events format u }

-- a significand, an exponent and events are those of a compact formatter's `format`, inside the sign
abbrev pub IsCompactShown : CompactFormat → Unsigned → Shown → Type 0
IsCompactShown format u shown = IsCompactFormat format NoSign u shown.significand shown.exponent shown.events

-- a compact formatter shows this for a number, and nothing else
pub record ShowsCompact (format : CompactFormat) (u : Unsigned) (shown : Shown) : Type 0 where
  pub is_shown : IsCompactShown format u shown
  pub alone : (other : Shown) → IsCompactShown format u other → other ≡ shown
