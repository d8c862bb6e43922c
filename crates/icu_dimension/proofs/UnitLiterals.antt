-- The white space at the ends of a text, and what stands between: as characters, as bytes, and as events.
use Rattle.std.proofs.Common.{◌≡◌, ℕ, ◌-◌, List, [], ◌∷◌, ◌++◌, Bool, true, false, Option, None, Some, length, take, drop, refl, sym}
use Rattle.std.proofs.Common.{ap, ap₂, ◌∙◌, subst}
use Rattle.std.proofs.Common.{arith}
use Rattle.std.specs.Prelude.{◌&&◌, ◌==◌, cond, map, codes}
use Rattle.std.specs.Char.{is_whitespace}
use Rattle.std.specs.Str.{IsUtf8, IsCharBoundary, chars, skip_leading_whitespace, drop_trailing_whitespace, trim_start, trim_end}
use Rattle.std.proofs.Math.Utf8.{scalar, scalars, encodes}
use Rattle.std.proofs.Math.Seq.{take-append_seam, drop-append_seam}
use Rattle.std.proofs.lemmas.Bool.{and_parts}
use Rattle.std.proofs.lemmas.List.{append-nil, length-append}
use Rattle.std.proofs.lemmas.Str.{chars-nil, chars-encodes, encodes-chars, scalars-chars, encodes-append, IsCharBoundary-at_seam}
use Rattle.writeable.proofs.EventLemmas.{characters-map_Char}
use Rattle.writeable.specs.Events.{Event, characters, text_events}
use Rattle.writeable.specs.Events.Event.{Char, Open, Close}
use Rattle.writeable.specs.Writes.{characters-append}
use Rattle.icu_pattern.specs.Patterns.{PatternText, around, interpolated}
use Rattle.icu_dimension.specs.UnitPatterns.{in_unit, leading_whitespace, trailing_whitespace, unit_around, unit_interpolated, unit_literal}
use Rattle.icu_dimension.specs.UnitPatterns.{unit_then_whitespace}

-- ---- characters

leading_step : (b : Bool) (c : ℕ) (front rest cs : List ℕ) → front ++ rest ≡ cs → cond b (c ∷ front) [] ++ cond b rest (c ∷ cs) ≡ c ∷ cs
leading_step true c front rest cs e = ap (λ l. c ∷ l) e
leading_step false c front rest cs e = refl

-- the white space at the start, and what follows it, are all characters
pub leading_then_rest : (cs : List ℕ) → leading_whitespace cs ++ skip_leading_whitespace cs ≡ cs
leading_then_rest [] = refl
leading_then_rest (c ∷ cs) = leading_step (is_whitespace c) c (leading_whitespace cs) (skip_leading_whitespace cs) cs (leading_then_rest cs)

trailing_step : (b : Bool) (c : ℕ) (kept cs : List ℕ) → kept ++ drop (length kept) cs ≡ cs
    → cond b [] (c ∷ kept) ++ drop (length (cond b [] (c ∷ kept))) (c ∷ cs) ≡ c ∷ cs
trailing_step true c kept cs e = refl
trailing_step false c kept cs e = ap (λ l. c ∷ l) e

-- what stands before the white space at the end, and that white space, are all characters
pub kept_then_trailing : (cs : List ℕ) → drop_trailing_whitespace cs ++ trailing_whitespace cs ≡ cs
kept_then_trailing [] = refl
kept_then_trailing (c ∷ cs) = trailing_step _ c (drop_trailing_whitespace cs) cs (kept_then_trailing cs)

-- ---- the events have the characters of the literal

characters-in_unit : (cs : List ℕ) → characters (in_unit cs) ≡ cs
characters-in_unit [] = refl
characters-in_unit (c ∷ cs) = simp (characters-append, characters-map_Char, append-nil)

characters-unit_literal : (cs : List ℕ) → characters (unit_literal cs) ≡ cs
characters-unit_literal cs =
    let rest = skip_leading_whitespace cs in
    characters-append (map Char (leading_whitespace cs)) (unit_then_whitespace rest)
    ∙ ap₂ ◌++◌ (characters-map_Char (leading_whitespace cs))
    (characters-append (in_unit (drop_trailing_whitespace rest)) (map Char (trailing_whitespace rest))
    ∙ ap₂ ◌++◌ (characters-in_unit (drop_trailing_whitespace rest)) (characters-map_Char (trailing_whitespace rest)) ∙ kept_then_trailing rest)
    ∙ leading_then_rest cs

characters-literal : (bytes : List ℕ) → characters (unit_literal (chars bytes)) ≡ characters (text_events bytes)
characters-literal bytes = characters-unit_literal (chars bytes) ∙ sym (characters-map_Char (chars bytes))

-- the part of a unit changes no character
pub unit_keeps_characters : (p : PatternText) (es : List Event) → characters (unit_interpolated p es) ≡ characters (interpolated p es)
unit_keeps_characters p es = go p.literal p.placeholder
  where
    go : (literal : List ℕ) (placeholder : Option ℕ) → characters (unit_around literal placeholder es) ≡ characters (around literal placeholder es)
    go literal None = characters-literal literal
    go literal (Some k) =
        let before = take k literal in
        let behind = drop k literal in
        characters-append (unit_literal (chars before)) (es ++ unit_literal (chars behind))
        ∙ ap₂ ◌++◌ (characters-literal before)
        (characters-append es (unit_literal (chars behind)) ∙ ap (λ l. characters es ++ l) (characters-literal behind)
        ∙ sym (characters-append es (text_events behind)))
        ∙ sym (characters-append (text_events before) (es ++ text_events behind))

-- ---- bytes

scalars_left : (xs ys : List ℕ) → scalars (xs ++ ys) ≡ true → scalars xs ≡ true
scalars_left [] ys h = refl
scalars_left (x ∷ xs) ys h = let p = and_parts (scalar x) (scalars (xs ++ ys)) h in ap₂ ◌&&◌ p.0 (scalars_left xs ys p.1)

scalars_right : (xs ys : List ℕ) → scalars (xs ++ ys) ≡ true → scalars ys ≡ true
scalars_right [] ys h = h
scalars_right (x ∷ xs) ys h = scalars_right xs ys (and_parts (scalar x) (scalars (xs ++ ys)) h).1

scalars-leading : (bs : List ℕ) → IsUtf8 bs → scalars (leading_whitespace (chars bs)) ≡ true
scalars-leading bs u = scalars_left (leading_whitespace (chars bs)) (skip_leading_whitespace (chars bs))
    (ap scalars (leading_then_rest (chars bs)) ∙ scalars-chars bs u)

scalars-rest : (bs : List ℕ) → IsUtf8 bs → scalars (skip_leading_whitespace (chars bs)) ≡ true
scalars-rest bs u = scalars_right (leading_whitespace (chars bs)) (skip_leading_whitespace (chars bs))
    (ap scalars (leading_then_rest (chars bs)) ∙ scalars-chars bs u)

scalars-kept : (bs : List ℕ) → IsUtf8 bs → scalars (drop_trailing_whitespace (chars bs)) ≡ true
scalars-kept bs u = scalars_left (drop_trailing_whitespace (chars bs)) (trailing_whitespace (chars bs))
    (ap scalars (kept_then_trailing (chars bs)) ∙ scalars-chars bs u)

scalars-trailing : (bs : List ℕ) → IsUtf8 bs → scalars (trailing_whitespace (chars bs)) ≡ true
scalars-trailing bs u = scalars_right (drop_trailing_whitespace (chars bs)) (trailing_whitespace (chars bs))
    (ap scalars (kept_then_trailing (chars bs)) ∙ scalars-chars bs u)

leading_bytes : (bs : List ℕ) → IsUtf8 bs → encodes (leading_whitespace (chars bs)) ++ trim_start bs ≡ bs
unfolding trim_start
leading_bytes bs u =
    sym (encodes-append (leading_whitespace (chars bs)) (skip_leading_whitespace (chars bs)))
    ∙ ap encodes (leading_then_rest (chars bs)) ∙ encodes-chars bs u

trailing_bytes : (bs : List ℕ) → IsUtf8 bs → trim_end bs ++ encodes (trailing_whitespace (chars bs)) ≡ bs
unfolding trim_end
trailing_bytes bs u =
    sym (encodes-append (drop_trailing_whitespace (chars bs)) (trailing_whitespace (chars bs)))
    ∙ ap encodes (kept_then_trailing (chars bs)) ∙ encodes-chars bs u

-- where what follows the white space at the start begins
leading_length : (bs : List ℕ) → IsUtf8 bs → length bs - length (trim_start bs) ≡ length (encodes (leading_whitespace (chars bs)))
leading_length bs u = omega (arith, ap length (leading_bytes bs u), length-append (encodes (leading_whitespace (chars bs))) (trim_start bs))

chars-trim_start : (bs : List ℕ) → IsUtf8 bs → chars (trim_start bs) ≡ skip_leading_whitespace (chars bs)
unfolding trim_start
chars-trim_start bs u = chars-encodes (skip_leading_whitespace (chars bs)) (scalars-rest bs u)

chars-trim_end : (bs : List ℕ) → IsUtf8 bs → chars (trim_end bs) ≡ drop_trailing_whitespace (chars bs)
unfolding trim_end
chars-trim_end bs u = chars-encodes (drop_trailing_whitespace (chars bs)) (scalars-kept bs u)

-- a text may be cut behind the white space at its start
pub boundary-start : (bs : List ℕ) → IsUtf8 bs → IsUtf8 (trim_start bs) → IsCharBoundary bs (length bs - length (trim_start bs))
boundary-start bs u v = subst (IsCharBoundary bs) (sym (leading_length bs u))
    (IsCharBoundary-at_seam bs (encodes (leading_whitespace (chars bs))) (trim_start bs) (sym (leading_bytes bs u)) v)

-- the characters before that place
pub chars-before_start : (bs : List ℕ) → IsUtf8 bs → chars (take (length bs - length (trim_start bs)) bs) ≡ leading_whitespace (chars bs)
chars-before_start bs u =
    let front = encodes (leading_whitespace (chars bs)) in
    ap (λ k. chars (take k bs)) (leading_length bs u) ∙ ap (λ l. chars (take (length front) l)) (sym (leading_bytes bs u))
    ∙ ap chars (take-append_seam front (trim_start bs)) ∙ chars-encodes (leading_whitespace (chars bs)) (scalars-leading bs u)

-- the characters from there on
pub chars-from_start : (bs : List ℕ) → IsUtf8 bs → chars (drop (length bs - length (trim_start bs)) bs) ≡ skip_leading_whitespace (chars bs)
chars-from_start bs u =
    let front = encodes (leading_whitespace (chars bs)) in
    ap (λ k. chars (drop k bs)) (leading_length bs u) ∙ ap (λ l. chars (drop (length front) l)) (sym (leading_bytes bs u))
    ∙ ap chars (drop-append_seam front (trim_start bs)) ∙ chars-trim_start bs u

-- a text may be cut before the white space at its end
pub boundary-end : (bs : List ℕ) → IsUtf8 bs → IsCharBoundary bs (length (trim_end bs))
boundary-end bs u = IsCharBoundary-at_seam bs (trim_end bs) (encodes (trailing_whitespace (chars bs))) (sym (trailing_bytes bs u))
    (trailing_whitespace (chars bs), (scalars-trailing bs u, refl))

-- the characters before that place
pub chars-before_end : (bs : List ℕ) → IsUtf8 bs → chars (take (length (trim_end bs)) bs) ≡ drop_trailing_whitespace (chars bs)
chars-before_end bs u =
    ap (λ l. chars (take (length (trim_end bs)) l)) (sym (trailing_bytes bs u))
    ∙ ap chars (take-append_seam (trim_end bs) (encodes (trailing_whitespace (chars bs)))) ∙ chars-trim_end bs u

-- the characters from there on
pub chars-from_end : (bs : List ℕ) → IsUtf8 bs → chars (drop (length (trim_end bs)) bs) ≡ trailing_whitespace (chars bs)
chars-from_end bs u =
    ap (λ l. chars (drop (length (trim_end bs)) l)) (sym (trailing_bytes bs u))
    ∙ ap chars (drop-append_seam (trim_end bs) (encodes (trailing_whitespace (chars bs))))
    ∙ chars-encodes (trailing_whitespace (chars bs)) (scalars-trailing bs u)

-- ---- the part of a unit

-- an empty text has none
pub in_unit-empty : (bs : List ℕ) → (length bs == 0) ≡ true → [] ≡ in_unit (chars bs)
in_unit-empty [] h = ap in_unit (sym chars-nil)
in_unit-empty (b ∷ bs) h = absurd (grind arith)

-- a text that isn't empty is written in it
pub in_unit-written : (bs : List ℕ) → IsUtf8 bs → (length bs == 0) ≡ false
    → Open (codes "dimension") (codes "unit") ∷ (text_events bs ++ Close ∷ []) ≡ in_unit (chars bs)
in_unit-written bs u h = go (chars bs) (encodes-chars bs u)
  where
    go : (cs : List ℕ) → encodes cs ≡ bs → Open (codes "dimension") (codes "unit") ∷ (map Char cs ++ Close ∷ []) ≡ in_unit cs
    go [] e = absurd (let n : true ≡ false = ap (λ l. length l == 0) e ∙ h in cc)
    go (c ∷ cs) e = refl
