-- What holds of shown sizes, for each precision, table, mode and sign; each is the contract of a function of `laws`.
use Rattle.std.specs.Prelude.{◌≡◌, ◌↔◌, ℕ, ◌+◌, ◌^◌, ◌<◌, ◌≤◌, ◌⊎◌, List, Some, None, ⊤, Bool, true, false, not}
use Rattle.fixed_decimal.specs.declared.modes.UnsignedRoundingMode.TheVariants.{Expand, Trunc, HalfEven}
use Rattle.fixed_decimal.specs.declared.modes.SignedRoundingMode.{SignedRoundingMode}
use Rattle.fixed_decimal.specs.declared.modes.SignedRoundingMode.TheVariants.{Unsigned, Ceil, Floor, HalfCeil, HalfFloor}
use Rattle.fixed_decimal.specs.Size.{magnitude_place}
use Rattle.fixed_decimal.specs.Nearest.{IsMultiple, IsNearest, distance}
use Rattle.fixed_decimal.specs.Modes.{taken_at, size_mode}
use Rattle.fixed_decimal.specs.ModeLaws.{IsHalf}
use Rattle.icu_decimal_data.specs.CompactTable.{TableEntry, IsCompactTable}
use Rattle.icu_decimal.specs.CompactNumber.{IsCompactNumber, IsNearestCompact}
use Rattle.skeleton_settings.specs.declared.settings.Precision.{Precision}
use Rattle.skeleton_settings.specs.declared.settings.Precision.TheVariants.{Fraction, Significant, Increment, Both, Currency}
use Rattle.skeleton_settings.specs.declared.settings.Priority.TheVariants.{Relaxed, Strict}
use Rattle.number_rounding.specs.Showable.{unit_at, FitsTable, IsShowable, IsShownBy}

-- the unit of a magnitude and that of the next both divide the power of ten between the two, or they are equal
abbrev pub UnitsAreJoined : Type 0
UnitsAreJoined = (precision : Precision) (table : List TableEntry) (m : ℕ) → FitsTable precision table →
    (IsMultiple (unit_at precision table m) (10 ^ (m + 1)) × IsMultiple (unit_at precision table (m + 1)) (10 ^ (m + 1)))
    ⊎ (unit_at precision table m ≡ unit_at precision table (m + 1))

-- each size has a shown size, and no other one
abbrev pub OneSizeIsShown : Type 0
OneSizeIsShown = (precision : Precision) (table : List TableEntry) (mode : SignedRoundingMode) (minus : Bool) (x : ℕ) → FitsTable precision table →
    (y : ℕ) × IsShownBy precision table mode minus x y × ((z : ℕ) → IsShownBy precision table mode minus x z → z ≡ y)

-- what is taken of the showable sizes of all magnitudes is what division by the unit at the size's own magnitude gives
abbrev pub ShownIsDivided : Type 0
ShownIsDivided = (precision : Precision) (table : List TableEntry) (mode : SignedRoundingMode) (minus : Bool) (x y : ℕ) → FitsTable precision table →
    IsShownBy precision table mode minus x y ↔ (y ≡ taken_at (size_mode mode minus) (unit_at precision table (magnitude_place x)) x)

-- a shown size is showable
abbrev pub ShownIsShowable : Type 0
ShownIsShowable = (precision : Precision) (table : List TableEntry) (mode : SignedRoundingMode) (minus : Bool) (x y : ℕ) →
    IsShownBy precision table mode minus x y → IsShowable precision table y

-- a showable size is shown as itself, and as no other one; so what is shown is shown again
abbrev pub ShowableIsShownAsItself : Type 0
ShowableIsShownAsItself = (precision : Precision) (table : List TableEntry) (mode : SignedRoundingMode) (minus : Bool) (x y : ℕ) →
    IsShowable precision table x → IsShownBy precision table mode minus x y ↔ (y ≡ x)

-- a number of the size x, with or without a minus, is not above the one of the size y
abbrev pub IsNotAbove : Bool → ℕ → Bool → ℕ → Type 0
IsNotAbove false x false y = x ≤ y
IsNotAbove false x true y = (x ≡ 0) × (y ≡ 0)
IsNotAbove true x false y = ⊤
IsNotAbove true x true y = y ≤ x

-- of two numbers, with their signs, the lesser is never shown as the greater one
abbrev pub ShownInOrder : Type 0
ShownInOrder = (precision : Precision) (table : List TableEntry) (mode : SignedRoundingMode) (minus minus' : Bool) (x x' y y' : ℕ) →
    FitsTable precision table → IsNotAbove minus x minus' x' → IsShownBy precision table mode minus x y →
    IsShownBy precision table mode minus' x' y' → IsNotAbove minus y minus' y'

-- nothing showable lies between a size and what is shown of it
abbrev pub NothingShowableIsBetween : Type 0
NothingShowableIsBetween = (precision : Precision) (table : List TableEntry) (mode : SignedRoundingMode) (minus : Bool) (x y z : ℕ) →
    IsShownBy precision table mode minus x y → IsShowable precision table z → (z ≤ x → y ≤ x → z ≤ y) × (x ≤ z → x ≤ y → y ≤ z)

-- by the half modes nothing showable is nearer than what is shown
abbrev pub HalfModesShowTheNearest : Type 0
HalfModesShowTheNearest = (precision : Precision) (table : List TableEntry) (mode : SignedRoundingMode) (minus : Bool) (x y z : ℕ) →
    IsHalf (size_mode mode minus) → IsShownBy precision table mode minus x y → IsShowable precision table z → distance x y ≤ distance x z

-- half to even shows the nearest showable size, the even one of two equally near
abbrev pub HalfEvenShowsTheEven : Type 0
HalfEvenShowsTheEven = (precision : Precision) (table : List TableEntry) (minus : Bool) (x y : ℕ) → FitsTable precision table →
    IsShownBy precision table (Unsigned HalfEven) minus x y
    ↔ IsNearest (IsShowable precision table) (unit_at precision table (magnitude_place x)) x y

-- down shows no greater size, and up no lesser one
abbrev pub DownIsNoMore : Type 0
DownIsNoMore = (precision : Precision) (table : List TableEntry) (minus : Bool) (x y : ℕ) →
    IsShownBy precision table (Unsigned Trunc) minus x y → y ≤ x

abbrev pub UpIsNoLess : Type 0
UpIsNoLess = (precision : Precision) (table : List TableEntry) (minus : Bool) (x y : ℕ) →
    IsShownBy precision table (Unsigned Expand) minus x y → x ≤ y

-- floor never shows more, with the sign, and ceiling never less
abbrev pub FloorIsNoMore : Type 0
FloorIsNoMore = (precision : Precision) (table : List TableEntry) (minus : Bool) (x y : ℕ) →
    IsShownBy precision table Floor minus x y → IsNotAbove minus y minus x

abbrev pub CeilingIsNoLess : Type 0
CeilingIsNoLess = (precision : Precision) (table : List TableEntry) (minus : Bool) (x y : ℕ) →
    IsShownBy precision table Ceil minus x y → IsNotAbove minus x minus y

-- the mode that does with the other sign what a mode does
abbrev pub mirrored : SignedRoundingMode → SignedRoundingMode
mirrored (Unsigned mode) = Unsigned mode
mirrored Ceil = Floor
mirrored Floor = Ceil
mirrored HalfCeil = HalfFloor
mirrored HalfFloor = HalfCeil

-- a number and the same with the other sign, by the mirrored mode, are shown as the same size
abbrev pub ShownMirrored : Type 0
ShownMirrored = (precision : Precision) (table : List TableEntry) (mode : SignedRoundingMode) (minus : Bool) (x y : ℕ) →
    IsShownBy precision table mode minus x y ↔ IsShownBy precision table (mirrored mode) (not minus) x y

-- the precisions whose step divides the power of ten at its magnitude: significant digits, fraction digits without a
-- greatest count, and the finer of both
abbrev pub KeepsMagnitude : Precision → Type 0
KeepsMagnitude (Fraction least None) = ⊤
KeepsMagnitude (Fraction least (Some most)) = ⊥
KeepsMagnitude (Significant least most) = ⊤
KeepsMagnitude (Increment increment power least) = ⊥
KeepsMagnitude (Currency is_cash) = ⊥
KeepsMagnitude (Both least most few many Relaxed keeps_least) = ⊤
KeepsMagnitude (Both least most few many Strict keeps_least) = ⊥

-- by these a size other than 0 is shown at least as the power of ten of its magnitude, so never as 0
abbrev pub MagnitudeIsShown : Type 0
MagnitudeIsShown = (precision : Precision) (table : List TableEntry) (mode : SignedRoundingMode) (minus : Bool) (x y : ℕ) →
    KeepsMagnitude precision → IsCompactTable table → 0 < x → IsShownBy precision table mode minus x y → 10 ^ magnitude_place x ≤ y

-- the precision of compact notation where none is given: no digits below power 0, but two significant ones
abbrev pub compact_default : Precision
compact_default = Both 0 (Some 0) 1 2 Relaxed true

-- by it the showable sizes of a compact table are its compact numbers
abbrev pub DefaultShowsCompactNumbers : Type 0
DefaultShowsCompactNumbers = (table : List TableEntry) (z : ℕ) → IsCompactTable table → IsShowable compact_default table z ↔ IsCompactNumber table z

-- and by half to even a size is shown as its nearest compact number
abbrev pub DefaultIsNearestCompact : Type 0
DefaultIsNearestCompact = (table : List TableEntry) (minus : Bool) (x y : ℕ) → IsCompactTable table →
    IsShownBy compact_default table (Unsigned HalfEven) minus x y ↔ IsNearestCompact table x y
