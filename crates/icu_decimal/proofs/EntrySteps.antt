-- What the entry of a magnitude has of its table.
use Rattle.std.proofs.Common.{◌≡◌, ℕ, ◌≤◌, refl, List, [], ◌∷◌, Option, Some, None, IfSome, All, Bool, true, false, nat_le, leb-true}
use Rattle.std.proofs.Common.{if◌then◌else◌}
use Rattle.std.proofs.lemmas.List.Elements.{All-head, All-tail}
use Rattle.std.specs.Option.{option_or}
use Rattle.icu_decimal_data.specs.CompactTable.{TableEntry, type_place, entry_for}

option_or_has : (P : TableEntry → Type 0) (o p : Option TableEntry) → IfSome o P → IfSome p P → IfSome (option_or o p) P
option_or_has P None p h k = k
option_or_has P (Some e) p h k = h

if_has : (P : TableEntry → Type 0) (b : Bool) (e : TableEntry) → (b ≡ true → P e) → IfSome (if b then Some e else None) P
if_has P true e h = h refl
if_has P false e h = tt

-- what holds of all entries of a table holds of the entry of a magnitude
pub entry_has : (P : TableEntry → Type 0) (table : List TableEntry) (m : ℕ) → All P table → IfSome (entry_for table m) P
unfolding entry_for
entry_has P [] m h = tt
entry_has P (e ∷ es) m h =
    option_or_has P (entry_for es m) (if nat_le (type_place e) m then Some e else None)
    (entry_has P es m (All-tail P e es h))
    (if_has P (nat_le (type_place e) m) e (λ _. All-head P e es h))

-- and the type of that entry is not above the magnitude
pub entry_reached : (table : List TableEntry) (m : ℕ) → IfSome (entry_for table m) (λ e. type_place e ≤ m)
unfolding entry_for
entry_reached [] m = tt
entry_reached (e ∷ es) m =
    option_or_has (λ f. type_place f ≤ m) (entry_for es m) (if nat_le (type_place e) m then Some e else None)
    (entry_reached es m)
    (if_has (λ f. type_place f ≤ m) (nat_le (type_place e) m) e (λ t. leb-true (type_place e) m t))
