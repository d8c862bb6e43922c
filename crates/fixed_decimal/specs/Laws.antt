-- What holds of every size and every text; each is the contract of a function of `laws`.
use Rattle.std.specs.Prelude.{◌≡◌, ◌↔◌, ℕ, ◌+◌, ◌^◌, ◌<◌, ◌≤◌, List, Some, None}
use Rattle.fixed_decimal.specs.declared.signs.Sign.{Sign}
use Rattle.fixed_decimal.specs.Unsigned.{Unsigned}
use Rattle.fixed_decimal.specs.Size.{magnitude_place, finest}
use Rattle.fixed_decimal.specs.Nearest.{IsMultiple, IsNearest}
use Rattle.fixed_decimal.specs.Text.{Reads, ReadsNothing}
use Rattle.fixed_decimal.specs.Reading.{reading}

-- ten to the place of the magnitude is at most the size
abbrev pub MagnitudeIsReached : Type 0
MagnitudeIsReached = (x : ℕ) → 0 < x → 10 ^ magnitude_place x ≤ x

-- the size is below ten to the place after that of its magnitude
abbrev pub MagnitudeIsGreatest : Type 0
MagnitudeIsGreatest = (x : ℕ) → 0 < x → x < 10 ^ (magnitude_place x + 1)

-- a place with both properties is that of the magnitude
abbrev pub MagnitudeIsUnique : Type 0
MagnitudeIsUnique = (x p : ℕ) → 10 ^ p ≤ x → x < 10 ^ (p + 1) → magnitude_place x ≡ p

-- a greater size has no lower magnitude
abbrev pub MagnitudeIsMonotone : Type 0
MagnitudeIsMonotone = (x y : ℕ) → 0 < x → x ≤ y → magnitude_place x ≤ magnitude_place y

-- the place of the magnitude of the size 0 is that of power 0
abbrev pub MagnitudeOfZero : Type 0
MagnitudeOfZero = magnitude_place 0 ≡ finest

-- each size has a nearest multiple of a unit, the even one of two equally near
abbrev pub SomeMultipleIsNearest : Type 0
SomeMultipleIsNearest = (unit x : ℕ) → 0 < unit → (y : ℕ) × IsNearest (IsMultiple unit) unit x y

-- a size has at most one nearest multiple of a unit
abbrev pub OneMultipleIsNearest : Type 0
OneMultipleIsNearest = (unit x y z : ℕ) → 0 < unit → IsNearest (IsMultiple unit) unit x y → IsNearest (IsMultiple unit) unit x z → y ≡ z

-- a text spells one sign and one number at most
abbrev pub TextReadsOneDecimal : Type 0
TextReadsOneDecimal = (text : List ℕ) (sign sign' : Sign) (d d' : Unsigned) → Reads text sign d → Reads text sign' d' → (sign ≡ sign') × (d ≡ d')

-- `reading` of a text is a sign and a number exactly where the text spells them
abbrev pub ReadingIsSpelled : Type 0
ReadingIsSpelled = (text : List ℕ) (sign : Sign) (d : Unsigned) → (reading text ≡ Some (sign, d)) ↔ Reads text sign d

-- `reading` of a text is nothing exactly where the text spells no decimal
abbrev pub ReadingOfNothing : Type 0
ReadingOfNothing = (text : List ℕ) → (reading text ≡ None) ↔ ReadsNothing text
