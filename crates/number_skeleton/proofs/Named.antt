-- Names are read of their canonical tokens.
use Rattle.std.proofs.Common.{◌≡◌, ℕ, ◌+◌, List, [], ◌∷◌, ◌++◌, Bool, true, false, refl, arith, sym}
use Rattle.std.proofs.lemmas.Bool.Decides.{nat_tests}
use Rattle.std.proofs.lemmas.Str.{encode_ascii}
use Rattle.std.specs.Char.{encode_utf8}
use Rattle.std.specs.Cmp.Lexicographic.{pointwise, same_text}
use Rattle.std.specs.List.{list_all}
use Rattle.std.specs.Prelude.{Option, Some, None, Ok, codes, nat_eq, if◌then◌else◌}
use Rattle.skeleton_settings.specs.declared.settings.Notation.{Notation}
use Rattle.number_skeleton.specs.declared.draft.Digits.{Digits}
use Rattle.fixed_decimal.specs.declared.modes.SignedRoundingMode.{SignedRoundingMode}
use Rattle.skeleton_settings.specs.declared.settings.Grouping.{Grouping}
use Rattle.number_skeleton.specs.Bytes.{is_inner, is_lower, piece_len}
use Rattle.skeleton_settings.specs.Canonical.{put, unit_text, system_text}
use Rattle.skeleton_settings.specs.Settings.{UnitData, nothing, percent, permille, currency, named}
use Rattle.number_skeleton.specs.Fragments.{only_unit, only_system}
use Rattle.number_skeleton.specs.Laws.{IsUnit, IsSystem}
use Rattle.number_skeleton.specs.Options.{is_capital, capital, ended, letters_of, unit_of, system_of, name_from}
use Rattle.number_skeleton.specs.Stems.{stem_of, named_stem}
use Rattle.number_skeleton.specs.Tokens.{with_token, fresh}
use Rattle.number_skeleton.specs.Values.{value_of, currency_at, unit_at, system_at}
use Rattle.number_skeleton.specs.Words.{plain_stem, option_stem}
use Rattle.number_skeleton.proofs.Ascii.{and_left, and_right, is_name_byte, name_bytes}
use Rattle.number_skeleton.proofs.Joined.{is_plain, Written, written-more}
use Rattle.number_skeleton.proofs.Pieces.{option_whole}
use Rattle.number_skeleton.proofs.Spelled.{drafted}

-- a capital letter
capital_inner : (b : ℕ) → is_capital b ≡ true → is_inner b ≡ true
capital_inner b h = grind (arith, nat_tests)

capital_same : (b : ℕ) → is_capital b ≡ true → capital b ≡ b
capital_same b h = grind (arith, nat_tests)

capital_plain : (b : ℕ) → is_capital b ≡ true → is_plain b ≡ true
capital_plain b h = grind (arith, nat_tests)

capital_encoded : (b : ℕ) → is_capital b ≡ true → encode_utf8 b ≡ b ∷ []
capital_encoded b h = encode_ascii b (grind (arith, nat_tests))

module _ (f s t : ℕ) (hf : is_capital f ≡ true) (hs : is_capital s ≡ true) (ht : is_capital t ≡ true) where
  three_inner : list_all is_inner (f ∷ s ∷ t ∷ []) ≡ true
  three_inner = rw (capital_inner f hf, capital_inner s hs, capital_inner t ht) refl

  three_capitals : letters_of (f ∷ s ∷ t ∷ []) ≡ Ok (record { first = f; second = s; third = t })
  unfolding letters_of
  three_capitals = rw (capital_same f hf, capital_same s hs, capital_same t ht, hf, hs, ht) refl

  currency_is : (at : ℕ) → currency_at at (47 ∷ f ∷ s ∷ t ∷ []) ≡ Ok (only_unit (currency (record { first = f; second = s; third = t })))
  unfolding currency_at ended
  currency_is at = rw (option_whole at f (s ∷ t ∷ []) three_inner, three_capitals) refl

  currency_plain : list_all is_plain (codes "currency/" ++ f ∷ s ∷ t ∷ []) ≡ true
  currency_plain = rw (capital_plain f hf, capital_plain s hs, capital_plain t ht) refl

  put_letters : (n : Option Notation) (out : List ℕ) → Written out (drafted n None None None None None None None None None) →
      Written (put out (unit_text (currency (record { first = f; second = s; third = t }))))
      (drafted n (Some (currency (record { first = f; second = s; third = t }))) None None None None None None None None)
  unfolding with_token piece_len stem_of named_stem plain_stem option_stem fresh value_of
  put_letters n out w =
      rw (capital_encoded f hf, capital_encoded s hs, capital_encoded t ht)
      (written-more out (codes "currency/" ++ f ∷ s ∷ t ∷ []) _ _ w currency_plain (omega arith) (λ at. rw (currency_is (at + 8)) refl))

-- bytes of names
name_inner : (bs : List ℕ) → list_all is_name_byte bs ≡ true → list_all is_inner bs ≡ true
name_inner [] h = refl
name_inner (b ∷ bs) h =
    let here : is_name_byte b ≡ true = and_left (is_name_byte b) (list_all is_name_byte bs) h in
    let inner : is_inner b ≡ true = grind (arith, nat_tests) in
    rw (inner, name_inner bs (and_right (is_name_byte b) (list_all is_name_byte bs) h)) refl

name_plain : (bs : List ℕ) → list_all is_name_byte bs ≡ true → list_all is_plain bs ≡ true
name_plain [] h = refl
name_plain (b ∷ bs) h =
    let here : is_name_byte b ≡ true = and_left (is_name_byte b) (list_all is_name_byte bs) h in
    let plain : is_plain b ≡ true = grind (arith, nat_tests) in
    rw (plain, name_plain bs (and_right (is_name_byte b) (list_all is_name_byte bs) h)) refl

lower_name : (bs : List ℕ) → list_all is_lower bs ≡ true → list_all is_name_byte bs ≡ true
lower_name [] h = refl
lower_name (b ∷ bs) h = rw (and_left (is_lower b) (list_all is_lower bs) h, lower_name bs (and_right (is_lower b) (list_all is_lower bs) h)) refl

-- a named unit has a name
unit_name : (name : List ℕ) → unit_of name ≡ Ok (named name) → name_from true name ≡ true
unfolding unit_of
unit_name name h = grind arith

-- the name of a system has small letters and digits, and isn't empty
system_name : (name : List ℕ) → system_of name ≡ Ok name → list_all is_lower name ≡ true
unfolding system_of
system_name name h = grind arith

unit_some : (h : unit_of [] ≡ Ok (named [])) → ⊥
unfolding unit_of name_from
unit_some h = absurd cc

system_some : (h : system_of [] ≡ Ok []) → ⊥
unfolding system_of
system_some h = absurd cc

module _ (b : ℕ) (bs : List ℕ) (all : list_all is_name_byte (b ∷ bs) ≡ true) where
  module _ (is : unit_of (b ∷ bs) ≡ Ok (named (b ∷ bs))) where
    unit_is : (at : ℕ) → unit_at at (47 ∷ b ∷ bs) ≡ Ok (only_unit (named (b ∷ bs)))
    unfolding unit_at ended
    unit_is at = rw (option_whole at b bs (name_inner (b ∷ bs) all), is) refl

    put_unit_name : (n : Option Notation) (out : List ℕ) → Written out (drafted n None None None None None None None None None) →
        Written (put out (Some (codes "unit/" ++ b ∷ bs))) (drafted n (Some (named (b ∷ bs))) None None None None None None None None)
    unfolding with_token piece_len stem_of named_stem plain_stem option_stem fresh value_of
    put_unit_name n out w = written-more out (codes "unit/" ++ b ∷ bs) _ _ w (name_plain (b ∷ bs) all) (omega arith) (λ at. rw (unit_is (at + 4)) refl)

-- what the canonical token of a unit sets
abbrev pub set_unit : UnitData → Option UnitData
set_unit nothing = None
set_unit percent = Some percent
set_unit permille = Some permille
set_unit (currency c) = Some (currency c)
set_unit (named name) = Some (named name)

-- a unit
pub put_unit : (n : Option Notation) (out : List ℕ) (u : UnitData) → IsUnit u → Written out (drafted n None None None None None None None None None) →
    Written (put out (unit_text u)) (drafted n (set_unit u) None None None None None None None None)
unfolding with_token piece_len stem_of named_stem plain_stem fresh value_of ended
put_unit n out nothing h w = w
put_unit n out percent h w = written-more out (codes "percent") _ _ w refl (omega arith) (λ at. refl)
put_unit n out permille h w = written-more out (codes "permille") _ _ w refl (omega arith) (λ at. refl)
put_unit n out (currency c) h w = put_letters c.first c.second c.third h.0 h.1.0 h.1.1 n out w
put_unit n out (named []) h w = absurd (unit_some h)
put_unit n out (named (b ∷ bs)) h w = put_unit_name b bs (name_bytes true (b ∷ bs) (unit_name (b ∷ bs) h)) h n out w

module _ (n : Option Notation) (u : Option UnitData) (d : Option Digits) (m : Option SignedRoundingMode) (g : Option Grouping) (i : Option ℕ) where
  module _ (b : ℕ) (bs : List ℕ) (is : system_of (b ∷ bs) ≡ Ok (b ∷ bs)) where
    all : list_all is_name_byte (b ∷ bs) ≡ true
    all = lower_name (b ∷ bs) (system_name (b ∷ bs) is)

    system_is : (at : ℕ) → system_at at (47 ∷ b ∷ bs) ≡ Ok (only_system (b ∷ bs))
    unfolding system_at ended
    system_is at = rw (option_whole at b bs (name_inner (b ∷ bs) all), is) refl

    put_other : (out : List ℕ) → Written out (drafted n u d m g i None None None None) →
        Written (put out (Some (codes "numbering-system/" ++ b ∷ bs))) (drafted n u d m g i (Some (b ∷ bs)) None None None)
    unfolding with_token piece_len stem_of named_stem plain_stem option_stem fresh value_of
    put_other out w = written-more out (codes "numbering-system/" ++ b ∷ bs) _ _ w (name_plain (b ∷ bs) all) (omega arith) (λ at. rw (system_is (at +
        16)) refl)

  put_latin : (out : List ℕ) → Written out (drafted n u d m g i None None None None) → Written (put out (Some (codes "latin"))) (drafted n u d m g i
      (Some (codes "latn")) None None None)
  unfolding with_token piece_len stem_of named_stem plain_stem fresh value_of ended
  put_latin out w = written-more out (codes "latin") _ _ w refl (omega arith) (λ at. refl)

  either_name : (x : Bool) (name : List ℕ) → pointwise nat_eq name (codes "latn") ≡ x → system_of name ≡ Ok name → (out : List ℕ) → Written
      out (drafted n u d m g i None None None None) →
      Written (put out (if x then Some (codes "latin") else Some (codes "numbering-system/" ++ name))) (drafted n u d m g i (Some name) None None None)
  either_name true name e h out w = let same : name ≡ codes "latn" = same_text name (codes "latn") (sym e) in rw same (put_latin out w)
  either_name false [] e h out w = absurd (system_some h)
  either_name false (b ∷ bs) e h out w = put_other b bs h out w

  -- a numbering system
  pub put_system : (out : List ℕ) (y : Option (List ℕ)) → IsSystem y → Written out (drafted n u d m g i None None None None) →
      Written (put out (system_text y)) (drafted n u d m g i y None None None)
  put_system out None h w = w
  put_system out (Some name) h w = either_name (pointwise nat_eq name (codes "latn")) name refl h out w
