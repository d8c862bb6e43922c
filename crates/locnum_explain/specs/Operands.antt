-- The line of a number's plural operands, and of the category that they have.
use Rattle.std.specs.Prelude.{ℕ, Bool, List, [], ◌++◌, codes, decimal, if◌then◌else◌}
use Rattle.fixed_decimal.specs.Unsigned.{Unsigned}
use Rattle.icu_plurals.specs.Operands.{Operands, operands_of}
use Rattle.icu_plurals.specs.Rules.{Rule, category_of}
use Rattle.icu_plurals.specs.declared.category.PluralCategory.{PluralCategory}
use Rattle.icu_plurals.specs.declared.category.PluralCategory.TheVariants.{Zero, One, Two, Few, Many, Other}

-- the name of a category
abbrev pub category_name : PluralCategory → List ℕ
category_name Zero = codes "zero"
category_name One = codes "one"
category_name Two = codes "two"
category_name Few = codes "few"
category_name Many = codes "many"
category_name Other = codes "other"

-- whether the integer digits have more than the eighteen that are seen
abbrev pub large_text : Bool → List ℕ
large_text large = if large then codes "..." else []

-- the operands by UTS 35's letters
unfoldable pub operands_text : Operands → List ℕ
operands_text o =
    codes "i=" ++ large_text o.is_large ++ decimal o.i ++ codes " v=" ++ decimal o.v ++ codes " w=" ++ decimal o.w ++ codes " f=" ++ decimal o.f
    ++ codes " t=" ++ decimal o.t ++ codes " c=" ++ decimal o.c

-- operands and a category
unfoldable pub operands_and_category : Operands → PluralCategory → List ℕ
operands_and_category o category = codes "  operands   " ++ operands_text o ++ codes " -> " ++ category_name category ++ codes "\n"

-- the operands of a number as it is written, and their category by plural rules
unfoldable pub operands_line : List Rule → Unsigned → List ℕ
operands_line rules d = operands_and_category (operands_of d 0) (category_of rules (operands_of d 0))
