-- Objects with just one member.
use Rattle.std.proofs.Common.{◌≡◌, ℕ, true, List, [], ◌∷◌, length, nat_eq, nat_cmp, is_eq, Ordering, Less, Equal, Greater, Option, Some, None}
use Rattle.std.proofs.Common.{Ok, refl, sym, ap, ◌∙◌, subst, arith}
use Rattle.std.proofs.lemmas.Bool.Decides.{nat_tests}
use Rattle.std.proofs.lemmas.Map.Text.{is_eq-slice_cmp}
use Rattle.std.proofs.lemmas.Slice.Eq.{bytes_eq-Decides}
use Rattle.std.specs.Cmp.Lexicographic.{slice_cmp}
use Rattle.std.specs.Ordering.{match_ordering}
use Rattle.serde_json.specs.Data.{Data, null, boolean, number, string, array, object, Members, no_members, member}
use Rattle.serde_json.specs.Find.{as_object}
use Rattle.serde_json.specs.View.{members_view}
use Rattle.serde_json.proofs.Views.{Entry}
use Rattle.icu_table_entries.specs.CategoryTexts.{are_one, category_texts_in, has_one_member}
use Rattle.icu_table_entries.specs.Keys.{name_of}
use Rattle.icu_table_entries.specs.PatternTexts.{only_other}
use Rattle.icu_table_entries.specs.Reading.{◌>>=◌, member_at, object_in, ok_or, optional_at, text_at, text_in}
use Rattle.icu_table_entries.specs.declared.error.Key.{Key}
use Rattle.icu_table_entries.specs.declared.error.Key.TheVariants.{Other}
use Rattle.icu_table_entries.specs.declared.error.TableError.{TableError}
use Rattle.icu_table_entries.specs.declared.error.TableError.TheVariants.{Missing, WrongKind}

-- members are one where their count is
are_one-count : (es : List Entry) → nat_eq (length es) 1 ≡ are_one (members_view es)
are_one-count [] = refl
are_one-count (e ∷ []) = refl
are_one-count (e ∷ (f ∷ es)) = grind (arith, nat_tests)

-- an object has one member where the count of its members is one
pub has_one_member-count : (d : Data) (es : List Entry) → Some (members_view es) ≡ as_object d → nat_eq (length es) 1 ≡ has_one_member d
has_one_member-count null es is = absurd (cc)
has_one_member-count (boolean b) es is = absurd (cc)
has_one_member-count (number n) es is = absurd (cc)
has_one_member-count (string s) es is = absurd (cc)
has_one_member-count (array ds) es is = absurd (cc)
has_one_member-count (object ds) es is = let same : members_view es ≡ ds = cc in are_one-count es ∙ ap are_one same

-- what the proof of `has_one_member` cites
pub ruleset one_member_rules = has_one_member-count

-- the one member is the text that was found
other_named : (o : Ordering) (k other : List ℕ) (d : Data) → slice_cmp nat_cmp (name_of Other) k ≡ o
    → (ok_or (match_ordering o None (Some d) None) (Missing Other) >>= text_in Other) ≡ Ok other → (name_of Other ≡ k) × (text_in Other d ≡ Ok other)
other_named Less k other d compared found = absurd (cc)
other_named Equal k other d compared found =
    ((bytes_eq-Decides (name_of Other) k).0 (sym (is_eq-slice_cmp (name_of Other) k) ∙ ap is_eq compared), found)
other_named Greater k other d compared found = absurd (cc)

-- where the text for the category other is the one member, no other category has a text
other_alone : (key : Key) (other : List ℕ) (d : Data) → text_in Other d ≡ Ok other
    → category_texts_in key (object (member (name_of Other) d no_members)) ≡ Ok (only_other other)
unfolding category_texts_in object_in text_at member_at optional_at
other_alone key other d found = rw found refl

one_member : (key : Key) (k other : List ℕ) (d : Data) → text_at Other (object (member k d no_members)) ≡ Ok other
    → category_texts_in key (object (member k d no_members)) ≡ Ok (only_other other)
unfolding text_at member_at
one_member key k other d found =
    let named = other_named (slice_cmp nat_cmp (name_of Other) k) k other d refl found in
    subst (λ (name : List ℕ). category_texts_in key (object (member name d no_members)) ≡ Ok (only_other other)) named.0 (other_alone key other d named.1)

-- where an object has one member, and a text for the category other, it has no other text
only_other-has_one_member : (key : Key) (other : List ℕ) (d : Data) → has_one_member d ≡ true → text_at Other d ≡ Ok other
    → category_texts_in key d ≡ Ok (only_other other)
only_other-has_one_member key other null one found = absurd (cc)
only_other-has_one_member key other (boolean b) one found = absurd (cc)
only_other-has_one_member key other (number n) one found = absurd (cc)
only_other-has_one_member key other (string s) one found = absurd (cc)
only_other-has_one_member key other (array ds) one found = absurd (cc)
only_other-has_one_member key other (object no_members) one found = absurd (cc)
only_other-has_one_member key other (object (member k d no_members)) one found = one_member key k other d found
only_other-has_one_member key other (object (member k d (member l e ds))) one found = absurd (cc)

-- an object is lent as it is
lent_as_it_is : (o : Option Members) (e : TableError) (d lent : Data) → (ok_or o e >>= λ ds. Ok d) ≡ Ok lent → lent ≡ d
lent_as_it_is None e d lent is = absurd (cc)
lent_as_it_is (Some ds) e d lent is = cc

-- the same of what is lent of a value
pub only_other-lent : (key : Key) (other : List ℕ) (d lent : Data) → object_in key d ≡ Ok lent → has_one_member lent ≡ true
    → text_at Other lent ≡ Ok other
    → category_texts_in key d ≡ Ok (only_other other)
unfolding object_in
only_other-lent key other d lent is one found =
    subst (λ (e : Data). category_texts_in key e ≡ Ok (only_other other)) (lent_as_it_is (as_object d) (WrongKind key) d lent is)
    (only_other-has_one_member key other lent one found)
