-- The options that are given, entry by entry.
use Rattle.std.proofs.Common.{◌≡◌, ℕ, ◌+◌, ◌<◌, List, [], ◌++◌, length, get_or, drop, refl, append_assoc}
use Rattle.std.specs.Prelude.{Option, Some, None}
use Rattle.std.proofs.lemmas.List.{drop_more}
use Rattle.clap.specs.Matches.{first_value}
use Rattle.clap.specs.declared.parser.matches.Found.{Found}
use Rattle.locnum.specs.declared.options.OptionEntry.{OptionEntry}
use Rattle.locnum.specs.Matched.{given_among, onto_given, value_of}

-- one before others
onto_given-append : (name : List ℕ) (text : Option (List ℕ)) (rest : List (List ℕ × List ℕ)) →
    onto_given name text [] ++ rest ≡ onto_given name text rest
onto_given-append name None rest = refl
onto_given-append name (Some text) rest = refl

-- the options so far, and one more, are given before those that are left
pub collected-more : (found : Found) (entries : List OptionEntry) (i : ℕ) (d : OptionEntry) (before after : List (List ℕ × List ℕ)) →
    i < length entries →
    after ≡ before ++ onto_given (get_or entries i d).name.now (value_of (get_or entries i d).takes (first_value found (get_or entries i d).name.now)) [] →
    before ++ given_among found (drop i entries) ≡ after ++ given_among found (drop (i + 1) entries)
unfolding given_among
collected-more found entries i d before after l h =
    let entry = get_or entries i d in
    let text = value_of entry.takes (first_value found entry.name.now) in
    rw (
      h,
      drop_more entries i d l,
      append_assoc before (onto_given entry.name.now text []) (given_among found (drop (i + 1) entries)),
      onto_given-append entry.name.now text (given_among found (drop (i + 1) entries)),
    ) refl
