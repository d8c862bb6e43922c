-- What stands before amounts, found by a digit in their patterns.
use Rattle.std.proofs.Common.{◌≡◌, ◌≢◌, ◌<◌, ℕ, zero, suc, arith, refl, sym, ap, ap₂, ◌∙◌, List, [], ◌∷◌, ◌++◌, append-nil}
use Rattle.std.proofs.Common.{append_assoc, length, get_or, slice_index_or, Contains, if◌then◌else◌, Result, Ok, Err}
use Rattle.std.specs.Result.{IfOk}
use Rattle.std.specs.Char.{IsScalar, encode_utf8}
use Rattle.std.specs.Str.{IsUtf8, chars}
use Rattle.std.proofs.lemmas.Bool.{eq-eqb}
use Rattle.std.proofs.lemmas.List.{nil_from_length}
use Rattle.std.proofs.lemmas.Str.{IsUtf8-past_char, chars-nil, chars_past_char, encodes-append, encodes-chars, encodes_same}
use Rattle.fixed_decimal.specs.declared.signs.Sign.{Sign}
use Rattle.writeable.specs.Events.{Event, characters, text_events, text_of}
use Rattle.writeable.specs.Events.Event.{Char}
use Rattle.writeable.proofs.EventLemmas.{text_events-encode}
use Rattle.icu_decimal.proofs.Runs.{Every, every_of_all}
use Rattle.icu_decimal_readable.specs.Readable.{IsFreeOfDigits, Surroundings}
use Rattle.icu_dimension.specs.Money.{sign_framed}
use Rattle.icu_dimension.specs.MoneyReadable.{money_surroundings}
use Rattle.icu_dimension.proofs.AroundTested.{of_sign}
use Rattle.icu_dimension.proofs.MoneyDistinct.{characters-framed}
use Rattle.icu_dimension_data.specs.Resolved.{Signed}
use Rattle.icu_dimension_data.specs.Surrounding.{SignedText, surrounded}
use Rattle.icu_ranges_readable.specs.Characters.{until}
use Rattle.icu_ranges_readable.proofs.CharacterSteps.{differs}

-- the characters of a digit in the pattern of a sign
pub around_text : (patterns : Signed) (sign : Sign) (p : SignedText) (d : ℕ) (bytes shown : List ℕ) → p ≡ of_sign patterns sign →
    shown ≡ encode_utf8 d → IsScalar d → IsUtf8 bytes → bytes ≡ text_of (surrounded p (text_events shown))
    → chars bytes ≡ (money_surroundings patterns sign).before ++ d ∷ (money_surroundings patterns sign).after
around_text patterns sign p d bytes shown is same scalar utf8 e =
    let written = ap₂ (λ (q : SignedText) (es : List Event). text_of (surrounded q es)) is (ap text_events same ∙ text_events-encode d scalar) in
    encodes_same (chars bytes) (characters (sign_framed patterns sign (Char d ∷ []))) (encodes-chars bytes utf8 ∙ e ∙ written)
    ∙ characters-framed patterns sign (Char d ∷ [])

-- the characters in front of the first such character are those before it, if it isn't one of them
pub until_found : (c : ℕ) (xs ys : List ℕ) → Every (λ x. x ≢ c) xs → until c (xs ++ c ∷ ys) ≡ xs
until_found c [] ys h = ap (λ b. if b then [] else c ∷ until c ys) (eq-eqb c c refl)
until_found c (x ∷ xs) ys h =
    ap (λ b. if b then [] else x ∷ until c (xs ++ c ∷ ys)) (differs x c h.0) ∙ ap (λ l. x ∷ l) (until_found c xs ys h.1)

-- what is found in front, while a text is gone over
pub record Goes (c : ℕ) (bytes rest front : List ℕ) : Type 0 where
  pub utf8 : IsUtf8 rest
  pub same : chars front ++ until c (chars rest) ≡ until c (chars bytes)

module _ (c : ℕ) (bytes rest front : List ℕ) where
  -- at the start the rest is the whole, and nothing is found
  pub begins : IsUtf8 bytes → rest ≡ bytes → front ≡ [] → Goes c bytes rest front
  begins utf8 e nothing = rw (e, nothing) (record { utf8 = utf8; same = ap (λ l. l ++ until c (chars bytes)) chars-nil })

  -- another character is found
  pub goes_on : (next more : List ℕ) (x : ℕ) → Goes c bytes rest front → rest ≡ encode_utf8 x ++ next → x ≢ c → IsUtf8 front → IsUtf8 more →
      more ≡ front ++ encode_utf8 x → Goes c bytes next more
  goes_on next more x g e other utf8 also is =
      let longer : chars more ≡ chars front ++ (x ∷ []) =
      encodes_same (chars more) (chars front ++ (x ∷ []))
      (encodes-chars more also ∙ is ∙ ap₂ ◌++◌ (sym (encodes-chars front utf8)) (sym (append-nil (encode_utf8 x)))
      ∙ sym (encodes-append (chars front) (x ∷ []))) in
      record {
        utf8 = IsUtf8-past_char rest next x g.utf8 e;
        same = ap (λ l. l ++ until c (chars next)) longer
            ∙ append_assoc (chars front) (x ∷ []) (until c (chars next))
            ∙ ap (λ l. chars front ++ l) (ap (λ b. if b then [] else x ∷ until c (chars next)) (sym (differs x c other)))
            ∙ ap (λ l. chars front ++ until c l) (sym (chars_past_char rest next x g.utf8 e))
            ∙ g.same;
      }

  -- the character is found
  pub found : (next : List ℕ) (x : ℕ) → Goes c bytes rest front → rest ≡ encode_utf8 x ++ next → x ≡ c → chars front ≡ until c (chars bytes)
  found next x g e is =
      sym (append-nil (chars front))
      ∙ ap (λ l. chars front ++ l) (ap (λ b. if b then [] else x ∷ until c (chars next)) (sym (eq-eqb x c is)))
      ∙ ap (λ l. chars front ++ until c l) (sym (chars_past_char rest next x g.utf8 e))
      ∙ g.same

  -- the end
  pub ends : Goes c bytes rest front → length rest ≡ 0 → chars front ≡ until c (chars bytes)
  ends g e =
      sym (append-nil (chars front)) ∙ ap (λ l. chars front ++ until c l) (sym (ap chars (nil_from_length rest e) ∙ chars-nil)) ∙ g.same

-- what is free of a digit has no such character
pub none_of_one : (d : ℕ) (xs ys : List ℕ) → IsFreeOfDigits (d ∷ []) (record { before = xs; after = ys }) → Every (λ x. x ≢ d) xs
none_of_one d xs ys h = every_of_all (λ x. x ≢ d) xs (λ k e l same. h.before_free k e l (zero, omega arith, sym same))

-- what is free of some digits is free of the first
pub first_free : (digits : List ℕ) (a : Surroundings) → 0 < length digits → IsFreeOfDigits digits a → IsFreeOfDigits (get_or digits 0 0 ∷ []) a
first_free [] a some h = absurd (omega arith)
first_free (y ∷ ys) a some h = record {
  before_free = λ k e l has. h.before_free k e l (one k e (slice_index_or a.before k e) has);
  after_free = λ k e l has. h.after_free k e l (one k e (slice_index_or a.after k e) has);
}
  where
    one : (k e x : ℕ) → Contains (y ∷ []) x → Contains (y ∷ ys) x
    one k e x (zero, l, is) = (zero, omega arith, is)
    one k e x (suc j, l, is) = absurd (omega arith)

-- what holds of a value where there is one
pub if_ok : {T E : Type 0} (P Q : T → Type 0) (r : Result T E) → ((t : T) → P t → Q t) → IfOk r P → IfOk r Q
if_ok P Q (Ok t) each h = each t h
if_ok P Q (Err e) each h = tt
