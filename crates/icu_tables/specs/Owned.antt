-- Values that are read from tokens, all of whose numbers are whole.
use Rattle.std.specs.Prelude.{◌≡◌, ℕ, false, List, length, Option, Some}
use Rattle.json.specs.Token.{Token}
use Rattle.json.specs.Json as json
use Rattle.serde_json.specs.Data.{Data, Items, Members, no_members}
use Rattle.serde_json.specs.Read.{converted, of_items, of_json, of_members}
use Rattle.serde_json.specs.Written.{has_float, items_have_float, members_have_float}

-- the value in front, nested so deep at most, and what stands behind it
abbrev pub IsValue : ℕ → List Token → Data → List Token → Type 0
IsValue depth ts d rest = (converted of_json (json.value depth ts) ≡ Some (d, rest)) × (has_float d ≡ false)

-- that many items at most up to the bracket that closes their list, and what stands behind it
abbrev pub AreItemsWithin : ℕ → ℕ → List Token → Items → List Token → Type 0
AreItemsWithin most depth ts ds rest =
    (converted of_items (json.items (json.value depth) most ts) ≡ Some (ds, rest)) × (items_have_float ds ≡ false)

-- the items up to the bracket
abbrev pub AreItems : ℕ → List Token → Items → List Token → Type 0
AreItems depth ts ds rest = AreItemsWithin (length ts) depth ts ds rest

-- that many members at most up to the brace that closes their object, put to others
abbrev pub members_onto : ℕ → ℕ → List Token → Members → Option (Members × List Token)
members_onto most depth ts before = converted (λ ms. of_members ms before) (json.members (json.value depth) most ts)

-- the members up to the brace, and what stands behind it
abbrev pub AreMembersOf : ℕ → List Token → Members → List Token → Type 0
AreMembersOf depth ts ds rest = members_onto (length ts) depth ts no_members ≡ Some (ds, rest)

-- the same of members all of whose numbers are whole
abbrev pub AreMembers : ℕ → List Token → Members → List Token → Type 0
AreMembers depth ts ds rest = AreMembersOf depth ts ds rest × (members_have_float ds ≡ false)
