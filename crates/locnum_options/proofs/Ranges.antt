-- Ranges of fields, part by part.
use Rattle.std.proofs.Common.{◌≡◌, ℕ, List, [], ◌∷◌, ◌++◌, refl, sym, ap, ◌∙◌, append_assoc}
use Rattle.std.proofs.lemmas.List.{append-nil}
use Rattle.std.specs.Prelude.{Option, Some, None, Ok, Err}
use Rattle.locnum_lines.specs.declared.settings.FieldRange.{FieldRange}
use Rattle.locnum_options.specs.Fields.{range_named, ranges_named}
use Rattle.locnum_options.specs.Texts.{◌>>=◌, parts_of}
use Rattle.locnum_options.specs.Words.{ok_or}
use Rattle.locnum_options.specs.declared.fault.OptionFault.{OptionFault}
use Rattle.locnum_options.specs.declared.fault.OptionFault.TheVariants.{Fields}
use Rattle.locnum_options.proofs.Cuts.{Lacks, parts_of-here, parts_of-nowhere}

-- ranges before others, if there are those
abbrev pub onto_ranges : List FieldRange → Option (List FieldRange) → Option (List FieldRange)
onto_ranges done None = None
onto_ranges done (Some more) = Some (done ++ more)

-- what was found
found : {A : Type 0} (o : Option A) (e : OptionFault) (x : A) → ok_or o e ≡ Ok x → o ≡ Some x
found None e x h = absurd cc
found (Some y) e x h = cc

-- what wasn't
missed : {A : Type 0} (o : Option A) (e f : OptionFault) → ok_or o e ≡ Err f → (o ≡ None) × (f ≡ e)
missed None e f h = (refl, cc)
missed (Some y) e f h = absurd cc

-- none before others
pub onto_ranges-none : (more : Option (List FieldRange)) → onto_ranges [] more ≡ more
onto_ranges-none None = refl
onto_ranges-none (Some more) = refl

-- a range more
onto_ranges-more : (done : List FieldRange) (range : FieldRange) (parts : List (List ℕ)) (part : List ℕ) → range_named part ≡ Some range →
    onto_ranges done (ranges_named (part ∷ parts)) ≡ onto_ranges (done ++ range ∷ []) (ranges_named parts)
unfolding ranges_named
onto_ranges-more done range parts part h = rw h (go (ranges_named parts))
  where
    go : (more : Option (List FieldRange)) → onto_ranges done (more >>= (λ ranges. Some (range ∷ ranges))) ≡ onto_ranges (done ++ range ∷ []) more
    go None = refl
    go (Some more) = ap Some (sym (append_assoc done (range ∷ []) more))

-- a part that is no range
onto_ranges-bad : (done : List FieldRange) (parts : List (List ℕ)) (part : List ℕ) → range_named part ≡ None →
    onto_ranges done (ranges_named (part ∷ parts)) ≡ None
unfolding ranges_named
onto_ranges-bad done parts part h = rw h refl

module _ (done : List FieldRange) (part : List ℕ) (lacks : Lacks 44 part) where
  -- the range before a comma
  pub range-here : (rest behind : List ℕ) (range : FieldRange) → rest ≡ part ++ 44 ∷ behind → ok_or (range_named part) Fields ≡ Ok range →
      onto_ranges done (ranges_named (parts_of 44 rest)) ≡ onto_ranges (done ++ range ∷ []) (ranges_named (parts_of 44 behind))
  range-here rest behind range e h =
      rw (e, parts_of-here 44 part behind lacks) (onto_ranges-more done range (parts_of 44 behind) part (found (range_named part) Fields range h))

  -- no range before a comma
  pub bad-here : (rest behind : List ℕ) (fault : OptionFault) → rest ≡ part ++ 44 ∷ behind → ok_or (range_named part) Fields ≡ Err fault →
      (onto_ranges done (ranges_named (parts_of 44 rest)) ≡ None) × (fault ≡ Fields)
  bad-here rest behind fault e h =
      let miss = missed (range_named part) Fields fault h in
      (rw (e, parts_of-here 44 part behind lacks) (onto_ranges-bad done (parts_of 44 behind) part miss.0), miss.1)

  -- the last range
  pub range-last : (range : FieldRange) → ok_or (range_named part) Fields ≡ Ok range →
      onto_ranges done (ranges_named (parts_of 44 part)) ≡ Some (done ++ range ∷ [])
  unfolding ranges_named
  range-last range h =
      rw (parts_of-nowhere 44 part lacks)
      (onto_ranges-more done range [] part (found (range_named part) Fields range h) ∙ ap Some (append-nil (done ++ range ∷ [])))

  -- no range at the end
  pub bad-last : (fault : OptionFault) → ok_or (range_named part) Fields ≡ Err fault →
      (onto_ranges done (ranges_named (parts_of 44 part)) ≡ None) × (fault ≡ Fields)
  bad-last fault h =
      let miss = missed (range_named part) Fields fault h in
      (rw (parts_of-nowhere 44 part lacks) (onto_ranges-bad done [] part miss.0), miss.1)
