-- When a condition holds of the operands of a number (UTS 35 Part 3, Plural rules syntax, Relations).
use Rattle.std.specs.Prelude.{ℕ, ◌%◌, List, [], ◌∷◌, Bool, true, false, not, ◌&&◌, ◌==◌, nat_le, Option, Some, None, if◌then◌else◌}
use Rattle.std.specs.List.{list_any, list_all}
use Rattle.icu_plurals_conditions.specs.declared.condition.Operand.{Operand}
use Rattle.icu_plurals_conditions.specs.declared.condition.Operand.TheVariants.{N, I, V, W, F, T, C, E}
use Rattle.icu_plurals_conditions.specs.declared.condition.Item.{Item}
use Rattle.icu_plurals_conditions.specs.declared.condition.Item.TheVariants.{Value, Range}
use Rattle.icu_plurals.specs.Operands.{Operands}
use Rattle.icu_plurals_conditions.specs.Grammar.{Relation, Condition}

-- a number, reduced by the modulus if there is one
abbrev pub remainder : ℕ → Option ℕ → ℕ
remainder x None = x
remainder x (Some m) = x % m

-- The integer digits as a number that may be listed. With a modulus, their eighteen lowest digits are reduced; without one
-- the whole number is compared, and a number of more digits is never listed, since values have at most eighteen.
abbrev pub integer : Operands → Option ℕ → Option ℕ
integer o None = if o.is_large then None else Some o.i
integer o (Some m) = Some (o.i % m)

-- The value of an operand, reduced by the modulus, if it may be listed. Operand n may be listed only if all fraction digits
-- are zeros, and is then the integer digits. Operand e is c.
abbrev pub sought : Operands → Operand → Option ℕ → Option ℕ
sought o N m = if o.t == 0 then integer o m else None
sought o I m = integer o m
sought o V m = Some (remainder o.v m)
sought o W m = Some (remainder o.w m)
sought o F m = Some (remainder o.f m)
sought o T m = Some (remainder o.t m)
sought o C m = Some (remainder o.c m)
sought o E m = Some (remainder o.c m)

-- a value has itself, and a range has the numbers between its ends, both included
abbrev pub has : ℕ → Item → Bool
has x (Value a) = x == a
has x (Range a b) = nat_le a x && nat_le x b

-- a value or a range of the list has the number
abbrev pub is_listed : Option ℕ → List Item → Bool
is_listed None ranges = false
is_listed (Some x) ranges = list_any (has x) ranges

-- with `=` the number is listed, and with `!=` it isn't
abbrev pub relation_holds : Operands → Relation → Bool
relation_holds o r =
    let listed = is_listed (sought o r.operand r.modulus) r.ranges in
    if r.negated then not listed else listed

-- some alternative has all its relations hold; without alternatives the condition holds always
abbrev pub holds : Operands → Condition → Bool
holds o [] = true
holds o (rs ∷ more) = list_any (list_all (relation_holds o)) (rs ∷ more)
