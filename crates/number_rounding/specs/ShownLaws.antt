-- What holds of shown numbers with their significands, for each rounding, table and sign; each is the contract of a function
-- of `laws`.
use Rattle.std.specs.Prelude.{◌≡◌, ℕ, List, Option, Bool}
use Rattle.fixed_decimal.specs.Unsigned.{Unsigned}
use Rattle.icu_decimal_data.specs.CompactTable.{TableEntry}
use Rattle.number_rounding.specs.declared.rounding.Rounding.{Rounding}
use Rattle.number_rounding.specs.Shown.{IsShown}

-- what is shown of a number is one: of any two the sizes, the entries and the significands with their digits agree
abbrev pub ShownNumberIsOne : Type 0
ShownNumberIsOne = (rounding : Rounding) (table : List TableEntry) (minus : Bool) (x y z : ℕ) (entry other : Option TableEntry)
    (significand another : Unsigned) → IsShown rounding table minus x y entry significand → IsShown rounding table minus x z other another →
    (y ≡ z) × (entry ≡ other) × (significand ≡ another)

-- what is shown of a number is shown of the shown size too, with the same entry and the same significand
abbrev pub ShownNumberIsShownAgain : Type 0
ShownNumberIsShownAgain = (rounding : Rounding) (table : List TableEntry) (minus : Bool) (x y : ℕ) (entry : Option TableEntry)
    (significand : Unsigned) → IsShown rounding table minus x y entry significand → IsShown rounding table minus y y entry significand
