-- Shown sizes: one for each size, by division, in order, and between its neighbours.
use Rattle.std.proofs.Common.{◌≡◌, ℕ, ◌^◌, ◌≤◌, ◌∙◌, arith, List, Bool, true, false}
use Rattle.fixed_decimal.specs.declared.modes.UnsignedRoundingMode.{UnsignedRoundingMode}
use Rattle.fixed_decimal.specs.declared.modes.SignedRoundingMode.{SignedRoundingMode}
use Rattle.fixed_decimal.specs.declared.modes.SignedRoundingMode.TheVariants.{Unsigned, Ceil, Floor, HalfCeil, HalfFloor}
use Rattle.fixed_decimal.specs.Size.{magnitude_place}
use Rattle.fixed_decimal.specs.Nearest.{IsMultiple}
use Rattle.fixed_decimal.specs.Modes.{IsTaken, taken_at, size_mode}
use Rattle.fixed_decimal.proofs.Taken.{taken_between, taken-unique, taken_allowed, allowed_taken, nothing_between, half_nearest}
use Rattle.fixed_decimal.proofs.MagnitudePlaces.{magnitude_place_low, magnitude_place-ten}
use Rattle.icu_decimal_data.specs.CompactTable.{TableEntry}
use Rattle.skeleton_settings.specs.declared.settings.Precision.{Precision}
use Rattle.number_rounding.specs.Showable.{unit_at, FitsTable, IsShowable, IsShownSize, IsShownBy}
use Rattle.number_rounding.specs.Laws.{OneSizeIsShown, ShownIsDivided, ShownIsShowable, ShowableIsShownAsItself, ShownInOrder}
use Rattle.number_rounding.specs.Laws.{NothingShowableIsBetween, HalfModesShowTheNearest, UnitsAreJoined}
use Rattle.number_rounding.specs.Laws.{DownIsNoMore, UpIsNoLess, FloorIsNoMore, CeilingIsNoLess, ShownMirrored, MagnitudeIsShown}
use Rattle.number_rounding.proofs.Joined.{taken_has, divided_has, has_in_order}
use Rattle.number_rounding.proofs.Units.{units_joined, unit_pos, keeps_unit}

-- the units are joined
pub units_are_joined : UnitsAreJoined
units_are_joined precision table m fits = units_joined precision table fits m

module _ (precision : Precision) (table : List TableEntry) (fits : FitsTable precision table) (mode : UnsignedRoundingMode) where
  -- the size taken of the multiples of the unit at the size's own magnitude is the shown one
  pub shown_from_multiple : (x y : ℕ) →
      IsTaken (IsMultiple (unit_at precision table (magnitude_place x))) mode (unit_at precision table (magnitude_place x)) x y →
      IsShownSize precision table mode x y
  shown_from_multiple = taken_has (unit_at precision table) (units_joined precision table fits) (unit_pos precision table) mode

  -- which division gives
  pub shown_by_division : (x : ℕ) → IsShownSize precision table mode x (taken_at mode (unit_at precision table (magnitude_place x)) x)
  shown_by_division = divided_has (unit_at precision table) (units_joined precision table fits) (unit_pos precision table) mode

  -- and no other one is shown
  pub shown_once : (x y z : ℕ) → IsShownSize precision table mode x y → IsShownSize precision table mode x z → y ≡ z
  shown_once x y z = taken-unique (IsShowable precision table) mode (unit_at precision table (magnitude_place x)) x y z

  -- of two sizes the lesser is shown as no greater one
  pub sizes_in_order : (x x' y y' : ℕ) → x ≤ x' → IsShownSize precision table mode x y → IsShownSize precision table mode x' y' → y ≤ y'
  sizes_in_order = has_in_order (unit_at precision table) (units_joined precision table fits) (unit_pos precision table) mode

-- each size has one shown size
pub one_size_is_shown : OneSizeIsShown
one_size_is_shown precision table mode minus x fits =
    let of_size : UnsignedRoundingMode = size_mode mode minus in
    let y : ℕ = taken_at of_size (unit_at precision table (magnitude_place x)) x in
    let shown : IsShownSize precision table of_size x y = shown_by_division precision table fits of_size x in
    (y, shown, λ z t. shown_once precision table fits of_size x z y t shown)

-- by division
pub shown_is_divided : ShownIsDivided
shown_is_divided precision table mode minus x y fits =
    let of_size : UnsignedRoundingMode = size_mode mode minus in
    let z : ℕ = taken_at of_size (unit_at precision table (magnitude_place x)) x in
    let shown : IsShownSize precision table of_size x z = shown_by_division precision table fits of_size x in
    (λ t. shown_once precision table fits of_size x y z t shown, λ same. rw same shown)

-- what is shown is showable
pub shown_is_showable : ShownIsShowable
shown_is_showable precision table mode minus x y =
    taken_allowed (IsShowable precision table) (size_mode mode minus) (unit_at precision table (magnitude_place x)) x y

-- 0 is showable
pub zero_showable : (precision : Precision) (table : List TableEntry) → IsShowable precision table 0
zero_showable precision table = (0, omega arith)

-- a showable size is shown as itself
pub showable_is_itself : ShowableIsShownAsItself
showable_is_itself precision table mode minus x y is =
    let of_size : UnsignedRoundingMode = size_mode mode minus in
    let u : ℕ = unit_at precision table (magnitude_place x) in
    let itself : IsTaken (IsShowable precision table) of_size u x x = allowed_taken (IsShowable precision table) of_size u x is in
    (λ t. taken-unique (IsShowable precision table) of_size u x y x t itself, λ same. rw same itself)

-- zero is shown as zero
zero_is_zero : (precision : Precision) (table : List TableEntry) (mode : SignedRoundingMode) (minus : Bool) (x y : ℕ) → x ≡ 0 →
    IsShownBy precision table mode minus x y → y ≡ 0
zero_is_zero precision table mode minus x y none t =
    let is : IsShowable precision table x = rw none (zero_showable precision table) in
    (showable_is_itself precision table mode minus x y is).0 t ∙ none

-- numbers are shown in order
pub shown_in_order : ShownInOrder
shown_in_order precision table mode false false x x' y y' fits le t t' = sizes_in_order precision table fits (size_mode mode false) x x' y y' le t t'
shown_in_order precision table mode false true x x' y y' fits (none, none') t t' =
    (zero_is_zero precision table mode false x y none t, zero_is_zero precision table mode true x' y' none' t')
shown_in_order precision table mode true false x x' y y' fits le t t' = tt
shown_in_order precision table mode true true x x' y y' fits le t t' = sizes_in_order precision table fits (size_mode mode true) x' x y' y le t' t

-- nothing showable lies between
pub nothing_is_between : NothingShowableIsBetween
nothing_is_between precision table mode minus x y z =
    nothing_between (IsShowable precision table) (size_mode mode minus) (unit_at precision table (magnitude_place x)) x y z

-- nothing showable is nearer by the half modes
pub half_modes_show : HalfModesShowTheNearest
half_modes_show precision table mode minus x y z half =
    half_nearest (IsShowable precision table) (size_mode mode minus) (unit_at precision table (magnitude_place x)) x y z half

-- down and up
pub down_is_no_more : DownIsNoMore
down_is_no_more precision table minus x y t = omega (arith, t.is, t.lower.up_to)

pub up_is_no_less : UpIsNoLess
up_is_no_less precision table minus x y t = omega (arith, t.is, t.upper.from)

-- floor and ceiling
pub floor_is_no_more : FloorIsNoMore
floor_is_no_more precision table false x y t = omega (arith, t.is, t.lower.up_to)
floor_is_no_more precision table true x y t = omega (arith, t.is, t.upper.from)

pub ceiling_is_no_less : CeilingIsNoLess
ceiling_is_no_less precision table false x y t = omega (arith, t.is, t.upper.from)
ceiling_is_no_less precision table true x y t = omega (arith, t.is, t.lower.up_to)

-- mirrored modes
pub shown_mirrored : ShownMirrored
shown_mirrored precision table (Unsigned mode) minus x y = (λ t. t, λ t. t)
shown_mirrored precision table Ceil false x y = (λ t. t, λ t. t)
shown_mirrored precision table Ceil true x y = (λ t. t, λ t. t)
shown_mirrored precision table Floor false x y = (λ t. t, λ t. t)
shown_mirrored precision table Floor true x y = (λ t. t, λ t. t)
shown_mirrored precision table HalfCeil false x y = (λ t. t, λ t. t)
shown_mirrored precision table HalfCeil true x y = (λ t. t, λ t. t)
shown_mirrored precision table HalfFloor false x y = (λ t. t, λ t. t)
shown_mirrored precision table HalfFloor true x y = (λ t. t, λ t. t)

-- the power of ten of a magnitude is showable, so no size is shown as less
pub magnitude_is_shown : MagnitudeIsShown
magnitude_is_shown precision table mode minus x y keeps is some t =
    let m : ℕ = magnitude_place x in
    let power : IsShowable precision table (10 ^ m) = rw (magnitude_place-ten m) (keeps_unit precision table m keeps is) in
    let between = taken_between (IsShowable precision table) (size_mode mode minus) (unit_at precision table m) x y t in
    omega (arith, between.0, t.lower.greatest (10 ^ m) power (magnitude_place_low x some))
