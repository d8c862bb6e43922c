-- What stands around a number determines the sign, though symbols may differ: where the symbols have none of the marks and U+00A0
-- is none, the marks around the number are those beside the symbol, and these differ between the signs.
use Rattle.std.proofs.Common.{◌≡◌, ℕ, ◌-◌, ◌==◌, refl, sym, ap, ap₂, ◌∙◌, Bool, true, false, cond, ◌&&◌, if◌then◌else◌}
use Rattle.std.proofs.Common.{List, [], ◌∷◌, ◌++◌, length, slice_get, Contains, append-nil}
use Rattle.std.specs.List.{list_any}
use Rattle.std.specs.Str.{chars}
use Rattle.std.proofs.lemmas.Bool.{eqb-true}
use Rattle.std.proofs.lemmas.List.Elements.{All-head, All-nil, All-tail, filter-append}
use Rattle.std.proofs.lemmas.Map.Views.{Contains-from_any}
use Rattle.fixed_decimal.specs.declared.signs.Sign.{Sign}
use Rattle.icu_decimal_readable.specs.Readable.{Surroundings}
use Rattle.icu_dimension_data.specs.declared.affix_token.AffixToken.{AffixToken}
use Rattle.icu_dimension_data.specs.declared.affix_token.AffixToken.TheVariants.{Character, CurrencySymbol, MinusSign, PlusSign, PercentSign, PerMilleSign}
use Rattle.icu_dimension_data.specs.Patterns.{Affixes, PatternText}
use Rattle.icu_dimension_data.specs.Resolved.{Texts, are_digits, first_character, is_symbol, last_character, needs_space, no_break_space, resolved}
use Rattle.icu_dimension_data.specs.Resolved.{spaced_after, spaced_before}
use Rattle.icu_dimension.specs.MoneyReadable.{money_surroundings}
use Rattle.icu_dimension.specs.MoneySymbol.{HasNoMark, MarksTellSign, beside_symbol, marks_among, marks_around, with_symbol}
use Rattle.icu_dimension.proofs.SymbolDistinct.{around-resolved, characters-tokens, piece, spaced_around, unspaced, written, written-append}

module _ (marks : List ℕ) where
  abbrev is_mark : ℕ → Bool
  is_mark c = list_any (λ mark. c == mark) marks

  not_true : (b : Bool) → ¬ (b ≡ true) → b ≡ false
  not_true true never = absurd (never refl)
  not_true false _ = refl

  no_mark : (c : ℕ) → ¬ (Contains marks c) → is_mark c ≡ false
  no_mark c apart = not_true (is_mark c) (λ e. apart (Contains-from_any {eq = λ (x y : ℕ). x == y} eqb-true c marks e))

  none_among : (cs : List ℕ) → HasNoMark marks cs → marks_among marks cs ≡ []
  none_among [] h = refl
  none_among (c ∷ cs) h =
      ap (λ b. cond b (c ∷ marks_among marks cs) (marks_among marks cs)) (no_mark c (All-head (λ x. ¬ (Contains marks x)) c cs h))
      ∙ none_among cs (All-tail (λ x. ¬ (Contains marks x)) c cs h)

  among-append : (cs ds : List ℕ) → marks_among marks (cs ++ ds) ≡ marks_among marks cs ++ marks_among marks ds
  among-append cs ds = filter-append is_mark cs ds

  -- a symbol without a mark adds none
  among-piece : (texts : Texts) (cs : List ℕ) → HasNoMark marks cs → (t : AffixToken) →
      marks_among marks (piece texts cs t) ≡ marks_among marks (piece texts [] t)
  among-piece texts cs h (Character c) = refl
  among-piece texts cs h CurrencySymbol = none_among cs h
  among-piece texts cs h MinusSign = refl
  among-piece texts cs h PlusSign = refl
  among-piece texts cs h PercentSign = refl
  among-piece texts cs h PerMilleSign = refl

  among-written : (texts : Texts) (cs : List ℕ) → HasNoMark marks cs → (ts : List AffixToken) →
      marks_among marks (written texts cs ts) ≡ marks_among marks (written texts [] ts)
  among-written texts cs h [] = refl
  among-written texts cs h (t ∷ ts) =
      among-append (piece texts cs t) (written texts cs ts)
      ∙ ap₂ (λ (x y : List ℕ). x ++ y) (among-piece texts cs h t) (among-written texts cs h ts)
      ∙ sym (among-append (piece texts [] t) (written texts [] ts))

  space_among : ¬ (Contains marks 160) → marks_among marks (160 ∷ []) ≡ []
  space_among apart = ap (λ b. cond b (160 ∷ []) []) (no_mark 160 apart)

  -- nor does a space, behind the symbol or before it
  among-before : ¬ (Contains marks 160) → (texts : Texts) (cs : List ℕ) → HasNoMark marks cs → (b : Bool) (ts : List AffixToken) →
      marks_among marks (written texts cs (if b then ts ++ no_break_space ∷ [] else ts)) ≡ marks_among marks (written texts [] ts)
  among-before apart texts cs h true ts =
      ap (marks_among marks) (written-append texts cs ts (no_break_space ∷ [])) ∙ among-append (written texts cs ts) (160 ∷ [])
      ∙ ap₂ (λ (x y : List ℕ). x ++ y) (among-written texts cs h ts) (space_among apart) ∙ append-nil (marks_among marks (written texts [] ts))
  among-before apart texts cs h false ts = among-written texts cs h ts

  among-after : ¬ (Contains marks 160) → (texts : Texts) (cs : List ℕ) → HasNoMark marks cs → (b : Bool) (ts : List AffixToken) →
      marks_among marks (written texts cs (if b then no_break_space ∷ ts else ts)) ≡ marks_among marks (written texts [] ts)
  among-after apart texts cs h true ts =
      among-append (160 ∷ []) (written texts cs ts) ∙ ap₂ (λ (x y : List ℕ). x ++ y) (space_among apart) (among-written texts cs h ts)
  among-after apart texts cs h false ts = among-written texts cs h ts

  -- the marks of tokens that stand around a number
  abbrev own_marks : Texts → Affixes → Surroundings
  own_marks texts a = record { before = marks_among marks (written texts [] a.before); after = marks_among marks (written texts [] a.after) }

  marks-spaced : ¬ (Contains marks 160) → (inserted : Bool) (texts : Texts) (currency : List ℕ) → HasNoMark marks (chars currency) → (a : Affixes) →
      marks_around marks (spaced_around inserted (with_symbol texts currency) a) ≡ own_marks texts a
  marks-spaced apart inserted texts currency h a =
      let of : List ℕ → List ℕ → Surroundings = λ x y. record { before = x; after = y } in
      let behind = is_symbol (slice_get a.before (length a.before - 1)) && (needs_space (last_character currency) && inserted) in
      let before = is_symbol (slice_get a.after 0) && (needs_space (first_character currency) && inserted) in
      ap₂ of
      (ap (marks_among marks) (characters-tokens texts currency (spaced_before inserted currency a.before))
      ∙ among-before apart texts (chars currency) h behind a.before)
      (ap (marks_among marks) (characters-tokens texts currency (spaced_after inserted currency a.after))
      ∙ among-after apart texts (chars currency) h before a.after)

  marks-resolved : ¬ (Contains marks 160) → (digits : List ℕ) (p : PatternText) (texts : Texts) (currency : List ℕ) → HasNoMark marks (chars currency)
      → (s : Sign) →
      marks_around marks (money_surroundings (resolved digits p (with_symbol texts currency)) s) ≡ own_marks texts (unspaced p s)
  marks-resolved apart digits p texts currency h s =
      ap (marks_around marks) (around-resolved digits p (with_symbol texts currency) s)
      ∙ marks-spaced apart (are_digits digits) texts currency h (unspaced p s)

  empty_symbol : HasNoMark marks (chars [])
  unfolding chars
  empty_symbol = All-nil (λ c. ¬ (Contains marks c))

  -- with a symbol the marks are those beside it
  marks-beside : ¬ (Contains marks 160) → (digits : List ℕ) (p : PatternText) (texts : Texts) (currency : List ℕ) → HasNoMark marks (chars currency)
      → (s : Sign) →
      marks_around marks (money_surroundings (resolved digits p (with_symbol texts currency)) s) ≡ marks_around marks (beside_symbol digits p texts s)
  marks-beside apart digits p texts currency h s =
      marks-resolved apart digits p texts currency h s ∙ sym (marks-resolved apart digits p texts [] empty_symbol s)

-- equal characters around numbers are of one sign
pub sign_distinct : (digits marks : List ℕ) (p : PatternText) (texts : Texts) (one other : List ℕ) (s t : Sign) → ¬ (Contains marks 160) →
    MarksTellSign digits marks p texts → HasNoMark marks (chars one) → HasNoMark marks (chars other) →
    money_surroundings (resolved digits p (with_symbol texts one)) s ≡ money_surroundings (resolved digits p (with_symbol texts other)) t → s ≡ t
sign_distinct digits marks p texts one other s t apart distinct h k e =
    distinct s t (sym (marks-beside marks apart digits p texts one h s) ∙ ap (marks_around marks) e ∙ marks-beside marks apart digits p texts other k t)
