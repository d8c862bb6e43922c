-- Numbers with the approximately sign (UTS 35 Part 3, Number Symbols: `approximatelySign`; Explicit Plus Signs).
use Rattle.std.specs.Prelude.{ℕ, nat_eq, Bool, true, false, ◌&&◌, ◌||◌, List, [], ◌∷◌, ◌++◌, codes, if◌then◌else◌}
use Rattle.std.specs.Cmp.Lexicographic.{pointwise}
use Rattle.fixed_decimal.specs.declared.signs.Sign.{Sign}
use Rattle.fixed_decimal.specs.declared.signs.Sign.TheVariants.{None as NoSign, Negative, Positive}
use Rattle.writeable.specs.Events.{Event, text_events}
use Rattle.writeable.specs.Events.Event.{Char, Open, Close}
use Rattle.icu_decimal.specs.Part.{in_decimal_part}
use Rattle.icu_dimension_data.specs.Resolved.{Signed}
use Rattle.icu_dimension.specs.Money.{sign_framed}

-- no sign is written
abbrev pub has_no_sign : Sign → Bool
has_no_sign NoSign = true
has_no_sign _ = false

-- the approximately sign, in its part
unfoldable pub approximately_events : List ℕ → List Event
approximately_events sign = in_decimal_part (codes "approximatelySign") (text_events sign)

-- events with the approximately sign in front
abbrev pub approximated : List ℕ → List Event → List Event
approximated sign es = approximately_events sign ++ es

-- the part of a minus or of a plus
abbrev pub is_sign : List ℕ → List ℕ → Bool
is_sign category value = pointwise nat_eq category (codes "decimal")
    && (pointwise nat_eq value (codes "minusSign") || pointwise nat_eq value (codes "plusSign"))

-- the start of a part: before a sign's the approximately sign, or that sign alone
abbrev pub marked_opening : List ℕ → Bool → List ℕ → List ℕ → List Event
marked_opening sign alone category value =
    if is_sign category value then approximately_events sign ++ (if alone then [] else Open category value ∷ [])
    else Open category value ∷ []

-- an event, unless the part of a sign is left out
abbrev pub marked_event : List ℕ → Bool → Bool → Event → List Event
marked_event sign alone true e = []
marked_event sign alone false (Open category value) = marked_opening sign alone category value
marked_event sign alone false (Char c) = Char c ∷ []
marked_event sign alone false Close = Close ∷ []

-- the part of a sign is left out behind an event: up to its end
abbrev pub leaves_out : Bool → Bool → Event → Bool
leaves_out alone left_out (Char c) = left_out
leaves_out alone left_out (Open category value) = left_out || (alone && is_sign category value)
leaves_out alone left_out Close = false

-- events with the approximately sign before each sign, or in its place where it stands alone
abbrev pub marked : List ℕ → Bool → Bool → List Event → List Event
marked sign alone left_out [] = []
marked sign alone left_out (e ∷ es) = marked_event sign alone left_out e ++ marked sign alone (leaves_out alone left_out e) es

-- the part of a sign is left out behind some events
abbrev pub leaves_out_after : Bool → Bool → List Event → Bool
leaves_out_after alone left_out [] = left_out
leaves_out_after alone left_out (e ∷ es) = leaves_out_after alone (leaves_out alone left_out e) es

-- the sign whose pattern has a place for the approximately sign: for a number without a sign it is the plus
abbrev pub sign_with_place : Sign → Sign
sign_with_place NoSign = Positive
sign_with_place Negative = Negative
sign_with_place Positive = Positive

-- An amount with the approximately sign: before its own sign, or in the place of the plus where it has none. A pattern without a sign
-- stays as it is, as that of `($3.00)`.
abbrev pub amount_approximated : List ℕ → Signed → Sign → List Event → List Event
amount_approximated sign patterns number_sign es =
    marked sign (has_no_sign number_sign) false (sign_framed patterns (sign_with_place number_sign) es)
