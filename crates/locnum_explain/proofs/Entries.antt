-- The lines of an entry, by what the calls append, and those by which a number is displayed.
use Rattle.std.proofs.Common.{◌≡◌, ℕ, ◌+◌, ◌*◌, ◌^◌, ◌<◌, ◌≤◌, ◌⊎◌, ⊎_elim, inl, inr}
use Rattle.std.proofs.Common.{List, ◌++◌, length, Option, Some, IfSome, slice_get, sym, ap, ◌∙◌}
use Rattle.std.proofs.Common.{subst, arith, append_assoc, ℤ, pos, ◌+ℤ◌, ◌-ℤ◌}
use Rattle.std.proofs.lemmas.Int.{ints}
use Rattle.std.proofs.lemmas.Option.{slice_get_cases}
use Rattle.fixed_decimal.specs.Size.{finest, magnitude, magnitude_place, place, size}
use Rattle.fixed_decimal.specs.Unsigned.{Unsigned, IsUnsigned}
use Rattle.icu_plurals.specs.Elements.{selected}
use Rattle.icu_plurals.specs.Operands.{Operands, operands_of}
use Rattle.icu_plurals.specs.Rules.{Rule, category_of}
use Rattle.icu_plurals.specs.declared.category.PluralCategory.{PluralCategory}
use Rattle.icu_pattern.specs.Patterns.{PatternText}
use Rattle.icu_decimal_data.specs.CompactTable.{IsCompactTable, IsIndex, TableEntry, entry_at, entry_for, exponent_for, exponent_of}
use Rattle.icu_decimal_data.specs.Faithful.{pattern_for}
use Rattle.icu_decimal.specs.CompactFormat.{CompactFormat, FormattedCompact, IsCompacted, magnitude_with, pattern_of, significand_of}
use Rattle.icu_decimal.specs.CompactNumber.{ShowsPastLimits, rounding_place}
use Rattle.icu_decimal.specs.Decomposed.{decomposed_entry}
use Rattle.icu_decimal.proofs.DecomposedOnce.{decomposed_is_one}
use Rattle.icu_decimal.proofs.PowerPlaces.{place_is}
use Rattle.decimal_lines.proofs.Displaying.{number-decomposed}
use Rattle.decimal_lines.specs.Computed.{nearest_number, significand_shown}
use Rattle.number_forms.proofs.ExponentsShown.{decomposed_place}
use Rattle.locnum_explain.specs.Around.{around_line}
use Rattle.locnum_explain.specs.Facts.{entry_line, pattern_line}
use Rattle.locnum_explain.specs.Operands.{operands_line}
use Rattle.locnum_explain.specs.Compact.{decomposed_lines, entry_lines, showable_line}

-- the pattern of an entry that there is
pub pattern-at : (table : List TableEntry) (i : ℕ) (operands : Operands) (category : PluralCategory) (p : PatternText) → i < length table
    → IfSome (slice_get table i) (λ e. p ≡ selected e.elements operands category) → p ≡ pattern_for operands category (slice_get table i)
pattern-at table i operands category p h is =
    ⊎_elim (λ (x, inside, got, get). subst (λ (e : Option TableEntry). p ≡ pattern_for operands category e) (sym got)
    (subst (λ (e : Option TableEntry). IfSome e (λ e. p ≡ selected e.elements operands category)) got is))
    (λ (past, got). absurd (omega arith)) (slice_get_cases table i).1

-- the pattern that a table picks by rules is that of a format with both
pub pattern-picked : (format : CompactFormat) (rules : List Rule) (table : List TableEntry) (s : Unsigned) (index : Option ℕ) (i : ℕ)
    (o : Operands) (p : PatternText) → rules ≡ format.rules → table ≡ format.table → index ≡ Some i → IsIndex format.table index
    → o ≡ operands_of s 0 → IfSome (slice_get table i) (λ e. p ≡ selected e.elements o (category_of rules o))
    → p ≡ pattern_of format (entry_at format.table index) s
pattern-picked format rules table s index i o p rules_are table_is at is operands picked =
    let inside : i < length format.table = subst (λ (k : Option ℕ). IsIndex format.table k) at is in
    let here : IfSome (slice_get format.table i) (λ e. p ≡ selected e.elements o (category_of rules o)) =
    subst (λ (t : List TableEntry). IfSome (slice_get t i) (λ e. p ≡ selected e.elements o (category_of rules o))) table_is picked in
    let ruled : IfSome (slice_get format.table i) (λ e. p ≡ selected e.elements o (category_of format.rules o)) =
    subst (λ (r : List Rule). IfSome (slice_get format.table i) (λ e. p ≡ selected e.elements o (category_of r o))) rules_are here in
    let told : IfSome (slice_get format.table i) (λ e. p ≡ selected e.elements (operands_of s 0) (category_of format.rules (operands_of s 0))) =
    subst (λ (x : Operands). IfSome (slice_get format.table i) (λ e. p ≡ selected e.elements x (category_of format.rules x))) operands ruled in
    pattern-at format.table i (operands_of s 0) (category_of format.rules (operands_of s 0)) p inside told
    ∙ ap (λ (k : Option ℕ). pattern_of format (entry_at format.table k) s) (sym at)

-- the lines of an entry, one behind the other
pub entry_lines-appended : (format : CompactFormat) (rules : List Rule) (table : List TableEntry) (m : ℕ) (s : Unsigned) (index : Option ℕ)
    (old first second third : List ℕ) → rules ≡ format.rules → table ≡ format.table → entry_at table index ≡ entry_for table m
    → first ≡ old ++ entry_line table m → second ≡ first ++ operands_line rules s
    → third ≡ second ++ pattern_line (pattern_of format (entry_at format.table index) s) → third ≡ old ++ entry_lines format m s
unfolding entry_lines
entry_lines-appended format rules table m s index old first second third rules_are table_is found a b c =
    let entry : entry_at format.table index ≡ entry_for format.table m =
    subst (λ (t : List TableEntry). entry_at t index ≡ entry_for t m) table_is found in
    let last : third ≡ second ++ pattern_line (pattern_of format (entry_for format.table m) s) =
    c ∙ ap (λ (e : Option TableEntry). second ++ pattern_line (pattern_of format e s)) entry in
    let middle : second ≡ first ++ operands_line format.rules s = b ∙ ap (λ (r : List Rule). first ++ operands_line r s) rules_are in
    let front : first ≡ old ++ entry_line format.table m = a ∙ ap (λ (t : List TableEntry). old ++ entry_line t m) table_is in
    last ∙ ap (λ (xs : List ℕ). xs ++ pattern_line (pattern_of format (entry_for format.table m) s)) (middle
    ∙ ap (λ (xs : List ℕ). xs ++ operands_line format.rules s) front)
    ∙ regroup old (entry_line format.table m) (operands_line format.rules s) (pattern_line (pattern_of format (entry_for format.table m) s))
  where
    regroup : (p q r s : List ℕ) → ((p ++ q) ++ r) ++ s ≡ p ++ ((q ++ r) ++ s)
    regroup p q r s = simp append_assoc

-- the lines of a formatted number are those by which its decimal is displayed
pub decomposed-given : (format : CompactFormat) (d : Unsigned) (number : FormattedCompact) → IsCompacted format d number → IsCompactTable format.table
    → IsUnsigned d → ¬ (ShowsPastLimits format.table (size d))
    → entry_lines format (place (magnitude_with (significand_of number) number.exponent)) (significand_of number)
    ≡ decomposed_lines format d (nearest_number format.table (size d))
decomposed-given format d number w t valid within =
    let y : ℕ = nearest_number format.table (size d) in
    let one = decomposed_is_one format.table d w.shown y w.entry (decomposed_entry format.table y) (significand_of number)
    (significand_shown format.table d y) w.decomposed (number-decomposed format.table d valid t within) in
    let at : place (magnitude_with (significand_of number) number.exponent) ≡ magnitude_place w.shown =
    ap (λ (e : ℕ). place (magnitude_with (significand_of number) e)) w.exponent_is
    ∙ decomposed_place format.table (significand_of number) w.shown w.entry t w.decomposed.entry_is w.decomposed.scaled in
    ap (λ (m : ℕ). entry_lines format m (significand_of number)) (at ∙ ap magnitude_place one.0) ∙ ap (entry_lines format (magnitude_place y)) one.2

-- the line of the values around a number, by its magnitude and the exponent for that
pub showable-at : (table : List TableEntry) (d : Unsigned) (m power : ℤ) (exponent : ℕ) → m ≡ magnitude (size d)
    → exponent ≡ exponent_for table (place m) → place power ≡ rounding_place exponent (place m)
    → around_line (place power) d ≡ showable_line table d
unfolding showable_line
showable-at table d m power exponent is found at =
    let p : ℕ = magnitude_place (size d) in
    let here : place m ≡ p = ap place is ∙ place_is (magnitude (size d)) p (omega (arith, ints)) in
    let told : exponent ≡ exponent_for table p = found ∙ ap (exponent_for table) here in
    let power_is : place power ≡ rounding_place (exponent_for table p) p =
    at ∙ ap (λ (e : ℕ). rounding_place e (place m)) told ∙ ap (rounding_place (exponent_for table p)) here in
    ap (λ (q : ℕ). around_line q d) power_is
