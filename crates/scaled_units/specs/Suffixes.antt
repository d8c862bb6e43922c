-- Suffixes of numbers: how a text is split, and what the part behind the number means (coreutils `numfmt --from`).
-- Of `1.5Ki` the number is `1.5` and the suffix `Ki`: by `auto` or `iec-i` its unit is 1024^1, by `si` the `i` at byte 4 is a
-- fault, by `none` the suffix at byte 3.
use Rattle.std.specs.Prelude.{ℕ, ◌+◌, ◌==◌, List, [], ◌∷◌, Option, Some, None, Result, Ok, Err, if◌then◌else◌, Bool, true, take, drop}
use Rattle.std.specs.List.{prefix_len}
use Rattle.std.specs.Char.{is_ascii_digit}
use Rattle.fixed_decimal.specs.Text.{point, plus_sign, minus_sign}
use Rattle.scaled_units.specs.declared.scale.Base.TheVariants.{Thousand, Binary}
use Rattle.scaled_units.specs.declared.scale.FromScale.{FromScale}
use Rattle.scaled_units.specs.declared.scale.FromScale.TheVariants.{None as no_scale, Auto, Si, Iec, IecI}
use Rattle.scaled_units.specs.declared.scale.Unit.{Unit}
use Rattle.scaled_units.specs.declared.error.NotScaled.{NotScaled}
use Rattle.scaled_units.specs.declared.error.NotScaled.TheVariants.{UnknownSuffix, SuffixNotTaken, MissingI, BehindSuffix}
use Rattle.scaled_units.specs.Scales.{letter_power, letter_i}

-- whether numbers have such a byte: a digit, the point or a sign
abbrev pub is_of_number : ℕ → Bool
is_of_number b = if is_ascii_digit b then true else (if b == point then true else (if b == minus_sign then true else (b == plus_sign)))

-- how many bytes the number of a text has: its suffix begins with the first byte that no number has
abbrev pub number_length : List ℕ → ℕ
number_length text = prefix_len is_of_number text

-- the number of a text
abbrev pub number_part : List ℕ → List ℕ
number_part text = take (number_length text) text

-- the suffix of a text
abbrev pub suffix_part : List ℕ → List ℕ
suffix_part text = drop (number_length text) text

-- the unit, where nothing is left behind its suffix; what is left begins at a byte
abbrev pub ended : Unit → ℕ → List ℕ → Result Unit NotScaled
ended unit at [] = Ok unit
ended unit at (b ∷ rest) = Err (BehindSuffix at)

-- the unit without a suffix: the number itself; the scale `iec-i` wants one
abbrev pub unit_without : FromScale → ℕ → Result Unit NotScaled
unit_without no_scale at = Ok (record { base = Thousand; power = 0 })
unit_without Auto at = Ok (record { base = Thousand; power = 0 })
unit_without Si at = Ok (record { base = Thousand; power = 0 })
unit_without Iec at = Ok (record { base = Binary; power = 0 })
unit_without IecI at = Err (MissingI at)

-- the unit of a letter by the scale `auto`, and what is left behind it
abbrev pub auto_unit : ℕ → ℕ → List ℕ → Result Unit NotScaled
auto_unit power at [] = Ok (record { base = Thousand; power = power })
auto_unit power at (b ∷ rest) =
    if b == letter_i then ended (record { base = Binary; power = power }) (at + 2) rest else Err (BehindSuffix (at + 1))

-- the unit of a letter by the scale `iec-i`, and what is left behind it
abbrev pub iec_i_unit : ℕ → ℕ → List ℕ → Result Unit NotScaled
iec_i_unit power at [] = Err (MissingI (at + 1))
iec_i_unit power at (b ∷ rest) = if b == letter_i then ended (record { base = Binary; power = power }) (at + 2) rest else Err (MissingI (at + 1))

-- the unit of a letter for a power at a byte, and what is left behind it
abbrev pub letter_unit : FromScale → ℕ → ℕ → List ℕ → Result Unit NotScaled
letter_unit no_scale power at rest = Err (SuffixNotTaken at)
letter_unit Auto power at rest = auto_unit power at rest
letter_unit Si power at rest = ended (record { base = Thousand; power = power }) (at + 1) rest
letter_unit Iec power at rest = ended (record { base = Binary; power = power }) (at + 1) rest
letter_unit IecI power at rest = iec_i_unit power at rest

-- the unit of a byte that may be a letter
abbrev pub byte_unit : FromScale → Option ℕ → ℕ → List ℕ → Result Unit NotScaled
byte_unit scale None at rest = Err (UnknownSuffix at)
byte_unit scale (Some power) at rest = letter_unit scale power at rest

-- the unit of a suffix that begins at a byte
abbrev pub suffix_unit : FromScale → ℕ → List ℕ → Result Unit NotScaled
suffix_unit scale at [] = unit_without scale at
suffix_unit scale at (b ∷ rest) = byte_unit scale (letter_power b) at rest

-- the unit of a text's suffix, or its fault
unfoldable pub text_unit : FromScale → List ℕ → Result Unit NotScaled
text_unit scale text = suffix_unit scale (number_length text) (suffix_part text)
