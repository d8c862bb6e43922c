-- The premises of the law that a table means what its map means: met by two maps, and broken by another that `new` rejects.
use Rattle.std.proofs.Common.{◌≡◌, ℕ, zero, suc, ◌+◌, ◌<◌, refl, arith, List, [], ◌∷◌, Some, None, ap, sym, ◌∙◌, slice_get, Option}
use Rattle.std.proofs.Common.{AllPairs, IfSome}
use Rattle.std.proofs.lemmas.List.Elements.{All-nil, All-cons, All-from_recursion}
use Rattle.std.proofs.lemmas.Option.{same_Some, none-some}
use Rattle.fixed_decimal.specs.Size.{finest}
use Rattle.fixed_decimal.specs.Unsigned.{Unsigned}
use Rattle.icu_plurals.specs.Elements.{only_other, slots}
use Rattle.icu_plurals.specs.Operands.{operands_of}
use Rattle.icu_pattern.specs.Patterns.{PatternText, placeholder_alone}
use Rattle.icu_plurals.specs.declared.category.PluralCategory.TheVariants.{Other}
use Rattle.icu_decimal_data.specs.CompactTable.{PatternElements, TableEntry, entry_for, exponent_for}
use Rattle.icu_decimal_data.specs.Kept.{kept, skipped}
use Rattle.icu_decimal_data.specs.CompactFaults.{fault_of}
use Rattle.icu_decimal_data.specs.Faithful.{IsFaithful, IsPassThrough, RepeatsKeepExponent, pattern_for}
use Rattle.icu_decimal_data.proofs.KeptTables.{all_pairs}

abbrev thousand : PatternText
thousand = record { placeholder = Some 0; literal = 75 ∷ [] }

abbrev word : PatternText
word = record { placeholder = None; literal = 109 ∷ [] }

abbrev only : PatternElements
only = only_other thousand

abbrev with_one : PatternElements
with_one = record only { explicit_one = Some word }

abbrev entry : ℕ → ℕ → PatternElements → TableEntry
entry t e x = record { log10_type = t; exponent = e; elements = x }

abbrev one : Unsigned
one = record { digits = 1 ∷ []; scale = 0 }

-- a map that makes a table, is faithful and has a type that is dropped
abbrev mille : List TableEntry
mille = entry 3 3 with_one ∷ entry 4 3 only ∷ []

mille_is_accepted : fault_of None mille ≡ None
mille_is_accepted = refl

mille_keeps_one : kept None mille ≡ entry 3 3 with_one ∷ []
mille_keeps_one = refl

-- of two entries with the same exponent the later keeps that of the one before
two_alike : (a b : TableEntry) → b.exponent ≡ a.exponent → RepeatsKeepExponent (a ∷ b ∷ [])
two_alike a b same zero before e p q r =
    sym (ap (λ (x : TableEntry). x.exponent) (same_Some _ _ q)) ∙ same ∙ ap (λ (x : TableEntry). x.exponent) (same_Some _ _ p)
two_alike a b same (suc i) before e p q r =
    let next : suc (suc i) ≡ suc i + 1 = omega arith in
    let past : slice_get (a ∷ b ∷ []) (suc (suc i)) ≡ Some e = ap (slice_get (a ∷ b ∷ [])) next ∙ q in
    absurd (none-some e past)

mille_is_faithful : IsFaithful None mille
mille_is_faithful = record { dropped_repeat = two_alike _ _ refl; skipped_alone = All-nil _ }

-- Without the error of an exponent above its type the law would be false: the significand 1 with exponent 4 stands at
-- the type 4, where the map has `K`, and would pick the text of the type 3.
abbrev low : List TableEntry
low = entry 3 4 with_one ∷ entry 4 4 only ∷ []

low_picks : pattern_for (operands_of one 0) Other (entry_for (kept None low) (4 + finest)) ≡ word
unfolding entry_for finest
low_picks = refl

low_means : pattern_for (operands_of one 0) Other (entry_for low (4 + finest)) ≡ thousand
unfolding entry_for finest
low_means = refl

low_exponent : exponent_for (kept None low) (4 + finest) ≡ 4
unfolding entry_for finest
low_exponent = refl

-- the first entry has the lower type
abbrev IsBelow : TableEntry → TableEntry → Type 0
IsBelow e f = e.log10_type < f.log10_type

mille_rises : AllPairs IsBelow mille
mille_rises = all_pairs IsBelow mille ((omega arith, tt), (tt, tt))

-- the premises can be met
pub met : AllPairs IsBelow mille × (fault_of None mille ≡ None) × IsFaithful None mille
met = (mille_rises, mille_is_accepted, mille_is_faithful)

-- Japanese long patterns begin so: numbers that are not shortened stand alone, and so do thousands, whose type is skipped.
-- From ten thousand on numbers have `万`, and the type 5 is dropped.
abbrev alone : PatternElements
alone = only_other placeholder_alone

abbrev man : PatternElements
man = only_other (record { placeholder = Some 0; literal = 228 ∷ 184 ∷ 135 ∷ [] })

abbrev japanese : List TableEntry
japanese = entry 3 0 alone ∷ entry 4 4 man ∷ entry 5 4 man ∷ []

japanese_rises : AllPairs IsBelow japanese
japanese_rises = all_pairs IsBelow japanese ((omega arith, (omega arith, tt)), ((omega arith, tt), (tt, tt)))

japanese_is_accepted : fault_of (Some alone) japanese ≡ None
japanese_is_accepted = refl

japanese_skips_one : skipped (Some alone) japanese ≡ entry 3 0 alone ∷ []
japanese_skips_one = refl

japanese_keeps_one : kept (Some alone) japanese ≡ entry 4 4 man ∷ []
japanese_keeps_one = refl

abbrev IsAlone : Option PatternText → Type 0
IsAlone s = IfSome s (λ p. p ≡ placeholder_alone)

thousands_pass : IsPassThrough (entry 3 0 alone)
thousands_pass = record { no_exponent = refl; alone = All-from_recursion IsAlone (slots alone) (tt, (tt, (tt, (tt, (tt, (tt, (tt, (refl, tt)))))))) }

japanese_is_faithful : IsFaithful (Some alone) japanese
japanese_is_faithful = record {
  dropped_repeat = two_alike _ _ refl;
  skipped_alone = All-cons IsPassThrough (entry 3 0 alone) [] thousands_pass (All-nil IsPassThrough);
}

-- so can they be where a type is skipped, and another is dropped
pub met_with_skipped : AllPairs IsBelow japanese × (fault_of (Some alone) japanese ≡ None) × IsFaithful (Some alone) japanese
    × (skipped (Some alone) japanese ≡ entry 3 0 alone ∷ []) × (kept (Some alone) japanese ≡ entry 4 4 man ∷ [])
met_with_skipped = (japanese_rises, japanese_is_accepted, japanese_is_faithful, japanese_skips_one, japanese_keeps_one)
