-- Increments: units of 1, 2, 5 or 25 times a power of ten (ICU4X `RoundingIncrement`).
use Rattle.std.specs.Prelude.{◌≡◌, ℕ, ◌+◌, ◌*◌, ◌/◌, ◌%◌, ◌^◌, ◌⊎◌, List, [], ◌∷◌, ◌++◌, replicate, slice_index}
use Rattle.std.specs.Prelude.{Option, ℤ}
use Rattle.fixed_decimal.specs.declared.modes.UnsignedRoundingMode.{UnsignedRoundingMode}
use Rattle.fixed_decimal.specs.declared.increments.RoundingIncrement.{RoundingIncrement}
use Rattle.fixed_decimal.specs.declared.increments.RoundingIncrement.TheVariants.{MultiplesOf1, MultiplesOf2, MultiplesOf5, MultiplesOf25}
use Rattle.fixed_decimal.specs.Size.{ten_to}
use Rattle.fixed_decimal.specs.RoundedDigits.{digits_left}
use Rattle.fixed_decimal.specs.RoundedBy.{RoundsUpBy, RoundsDownBy}

-- the number of which an increment makes multiples
abbrev pub step_of : RoundingIncrement → ℕ
step_of MultiplesOf1 = 1
step_of MultiplesOf2 = 2
step_of MultiplesOf5 = 5
step_of MultiplesOf25 = 25

-- how many last digits decide whether a whole number is a multiple: ten to it is one
abbrev pub tail_count : RoundingIncrement → ℕ
tail_count MultiplesOf1 = 0
tail_count MultiplesOf2 = 1
tail_count MultiplesOf5 = 1
tail_count MultiplesOf25 = 2

-- the unit of an increment at a power, in units of sizes
abbrev pub unit_of : RoundingIncrement → ℤ → ℕ
unit_of increment power = step_of increment * ten_to power

-- the number that these digits write, the tail behind a head of digits, with zeros past the last one
abbrev pub tail_of : RoundingIncrement → List ℕ → ℕ → ℕ
tail_of MultiplesOf1 ds head = 0
tail_of MultiplesOf2 ds head = slice_index ds head
tail_of MultiplesOf5 ds head = slice_index ds head
tail_of MultiplesOf25 ds head = slice_index ds head * 10 + slice_index ds (head + 1)

-- the digits of a tail
abbrev pub tail_digits : RoundingIncrement → ℕ → List ℕ
tail_digits MultiplesOf1 tail = []
tail_digits MultiplesOf2 tail = tail ∷ []
tail_digits MultiplesOf5 tail = tail ∷ []
tail_digits MultiplesOf25 tail = tail / 10 ∷ tail % 10 ∷ []

-- how many steps a head and a tail of that many steps make
abbrev pub steps_of : RoundingIncrement → ℕ → ℕ → ℕ
steps_of increment head steps = head * (10 ^ tail_count increment / step_of increment) + steps

-- t is what a mode makes of the tail behind a head: the tail's whole steps, or one step more. The digits behind the tail weigh
-- the rest, and ten to their count is the base.
abbrev pub IsTailTaken : UnsignedRoundingMode → RoundingIncrement → ℕ → ℕ → ℕ → ℕ → ℕ → Type 0
IsTailTaken mode increment head tail base rest t =
    (RoundsUpBy mode (step_of increment * base) (steps_of increment head (tail / step_of increment)) ((tail % step_of increment) * base + rest)
    × (t ≡ (tail / step_of increment + 1) * step_of increment))
    ⊎ (RoundsDownBy mode (step_of increment * base) (steps_of increment head (tail / step_of increment)) ((tail % step_of increment) * base + rest)
    × (t ≡ tail / step_of increment * step_of increment))

-- what rounding leaves of a head, then the digits of a tail, then zeros
abbrev pub steps_left : List ℕ → ℕ → Option ℕ → ℕ → RoundingIncrement → ℕ → ℕ → List ℕ
steps_left ds kept raised gap increment tail zeros = (digits_left ds kept raised gap ++ tail_digits increment tail) ++ replicate zeros 0
