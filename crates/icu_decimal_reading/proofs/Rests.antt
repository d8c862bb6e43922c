-- Loops over the characters of a text: what they have found is told by the rest of the text.
use Rattle.std.proofs.Common.{◌≡◌, ◌≢◌, ℕ, ◌+◌, ◌<◌, ◌≤◌, refl, sym, ap, ap₂, ◌∙◌, List, []}
use Rattle.std.proofs.Common.{◌∷◌, ◌++◌, length, chars, Bool, true, false}
use Rattle.std.proofs.Common.{arith, subst, add-zero, zero-add, add_assoc, length-append, append_assoc, append-nil, All, Option, Some, None}
use Rattle.std.specs.Prelude.{if◌then◌else◌, is_some, IfSome}
use Rattle.std.specs.Str.{IsUtf8}
use Rattle.std.specs.Char.{encode_utf8, len_utf8}
use Rattle.std.specs.List.{cons_option}
use Rattle.std.proofs.lemmas.List.Elements.{All-nil, All-push}
use Rattle.std.proofs.lemmas.Bool.{eq-eqb, ne_eqb}
use Rattle.std.proofs.lemmas.List.{nil_from_length}
use Rattle.std.proofs.lemmas.Str.{chars_past_char, chars-nil, IsUtf8-past_char, length-encode, len_utf8_bounds}
use Rattle.icu_decimal_reading.specs.declared.digits.Run.{Run}
use Rattle.icu_decimal_reading.specs.Reading.{alike, value_of, values, run_past, run_behind, no_run, last_run}

-- the rest is empty
rest_ends : (rest : List ℕ) → length rest ≡ 0 → chars rest ≡ []
rest_ends rest e = ap chars (nil_from_length rest e) ∙ chars-nil

-- a character takes a byte at least
pub shorter : (rest next : List ℕ) (c : ℕ) → rest ≡ encode_utf8 c ++ next → length next + 1 ≤ length rest
shorter rest next c e =
    let whole : length rest ≡ length (encode_utf8 c) + length next = ap length e ∙ length-append (encode_utf8 c) next in
    omega (arith, length-encode c, (len_utf8_bounds c).0)

-- The rests of two texts, behind so many bytes that are alike.
pub record AreAlike (one other rest rest' : List ℕ) (byte : ℕ) : Type 0 where
  pub utf8 : IsUtf8 rest
  pub utf8' : IsUtf8 rest'
  pub same : byte + alike (chars rest) (chars rest') ≡ alike (chars one) (chars other)
  pub left : byte + length rest ≡ length one

module _ (one other rest rest' : List ℕ) (byte : ℕ) where
  pub alike_begins : IsUtf8 one → IsUtf8 other → rest ≡ one → rest' ≡ other → byte ≡ 0 → AreAlike one other rest rest' byte
  alike_begins u u' e e' z =
      rw (e, e', z) (record { utf8 = u; utf8' = u'; same = zero-add (alike (chars one) (chars other)); left = zero-add (length one) })

  module _ (h : AreAlike one other rest rest' byte) where
    pub alike_ends : length rest ≡ 0 → byte ≡ alike (chars one) (chars other)
    alike_ends e = sym (add-zero byte) ∙ ap (λ cs. byte + alike cs (chars rest')) (sym (rest_ends rest e)) ∙ h.same

    module _ (c : ℕ) (next : List ℕ) (is : rest ≡ encode_utf8 c ++ next) where
      past : chars rest ≡ c ∷ chars next
      past = chars_past_char rest next c h.utf8 is

      pub alike_ends_other : length rest' ≡ 0 → byte ≡ alike (chars one) (chars other)
      alike_ends_other e = sym (add-zero byte) ∙ ap₂ (λ cs ds. byte + alike cs ds) (sym past) (sym (rest_ends rest' e)) ∙ h.same

      module _ (d : ℕ) (next' : List ℕ) (is' : rest' ≡ encode_utf8 d ++ next') where
        past' : chars rest' ≡ d ∷ chars next'
        past' = chars_past_char rest' next' d h.utf8' is'

        pub alike_differs : c ≢ d → byte ≡ alike (chars one) (chars other)
        alike_differs other_character = sym (add-zero byte)
            ∙ ap (λ b. byte + (if b then len_utf8 c + alike (chars next) (chars next') else 0)) (sym (ne_eqb c d other_character))
            ∙ ap₂ (λ cs ds. byte + alike cs ds) (sym past) (sym past') ∙ h.same

        pub alike_goes_on : c ≡ d → AreAlike one other next next' (byte + len_utf8 c)
        alike_goes_on e = record {
          utf8 = IsUtf8-past_char rest next c h.utf8 is;
          utf8' = IsUtf8-past_char rest' next' d h.utf8' is';
          same = add_assoc byte (len_utf8 c) (alike (chars next) (chars next'))
              ∙ ap (λ b. byte + (if b then len_utf8 c + alike (chars next) (chars next') else 0)) (sym (eq-eqb c d e))
              ∙ ap₂ (λ cs ds. byte + alike cs ds) (sym past) (sym past') ∙ h.same;
          left = let whole : length rest ≡ length (encode_utf8 c) + length next = ap length is ∙ length-append (encode_utf8 c) next in
              omega (arith, length-encode c, h.left);
        }

-- The values found in front of the rest of a text.
pub record AreFound (digits text rest found : List ℕ) : Type 0 where
  pub utf8 : IsUtf8 rest
  pub same : found ++ values digits (chars rest) ≡ values digits (chars text)
  pub below_ten : All (λ d. d < 10) found

module _ (digits text rest found : List ℕ) where
  pub found_begins : IsUtf8 text → rest ≡ text → found ≡ [] → AreFound digits text rest found
  found_begins u e z = rw (e, z) (record { utf8 = u; same = refl; below_ten = All-nil (λ d. d < 10) })

  module _ (h : AreFound digits text rest found) where
    pub found_ends : length rest ≡ 0 → found ≡ values digits (chars text)
    found_ends e = sym (append-nil found) ∙ ap (λ cs. found ++ values digits cs) (sym (rest_ends rest e)) ∙ h.same

    module _ (c : ℕ) (next : List ℕ) (is : rest ≡ encode_utf8 c ++ next) where
      found_past : found ++ cons_option (value_of digits c) (values digits (chars next)) ≡ values digits (chars text)
      found_past = ap (λ cs. found ++ values digits cs) (sym (chars_past_char rest next c h.utf8 is)) ∙ h.same

      found_digit : (v : ℕ) → value_of digits c ≡ Some v → v < 10 → AreFound digits text next (found ++ v ∷ [])
      found_digit v e below = record {
        utf8 = IsUtf8-past_char rest next c h.utf8 is;
        same = append_assoc found (v ∷ []) (values digits (chars next))
            ∙ ap (λ o. found ++ cons_option o (values digits (chars next))) (sym e) ∙ found_past;
        below_ten = All-push (λ d. d < 10) found v h.below_ten below;
      }

      found_other : value_of digits c ≡ None → AreFound digits text next found
      found_other e = record {
        utf8 = IsUtf8-past_char rest next c h.utf8 is;
        same = ap (λ o. found ++ cons_option o (values digits (chars next))) (sym e) ∙ found_past;
        below_ten = h.below_ten;
      }

      -- what the next character adds, if anything
      pub found_next : (o : Option ℕ) → o ≡ value_of digits c → IfSome o (λ d. d < 10) → AreFound digits text next (found ++ cons_option o [])
      found_next None e below = subst (AreFound digits text next) (sym (append-nil found)) (found_other (sym e))
      found_next (Some v) e below = found_digit v (sym e) below

-- The last run of digits in front of the rest of a text.
pub record IsCounted (digits text rest : List ℕ) (run : Run) : Type 0 where
  pub utf8 : IsUtf8 rest
  pub same : run_behind digits run (chars rest) ≡ run_behind digits no_run (chars text)
  pub left : run.count + length rest ≤ length text

run_longer : (b : Bool) (run : Run) → (run_past b run).count ≤ run.count + 1
run_longer true run = go run.is_open
  where
    go : (o : Bool) → (if o then run.count + 1 else 1) ≤ run.count + 1
    go true = omega arith
    go false = omega arith
run_longer false run = omega arith

module _ (digits text rest : List ℕ) (run : Run) where
  pub run_begins : IsUtf8 text → rest ≡ text → run ≡ no_run → IsCounted digits text rest run
  run_begins u e z = rw (e, z) (record { utf8 = u; same = refl; left = omega arith })

  module _ (h : IsCounted digits text rest run) where
    pub run_ends : length rest ≡ 0 → run.count ≡ last_run digits (chars text)
    run_ends e = ap (λ cs. (run_behind digits run cs).count) (sym (rest_ends rest e)) ∙ ap (λ (r : Run). r.count) h.same

    pub run_goes_on : (c : ℕ) (next : List ℕ) (b : Bool) → rest ≡ encode_utf8 c ++ next → b ≡ is_some (value_of digits c) →
        IsCounted digits text next (run_past b run)
    run_goes_on c next b is e = record {
      utf8 = IsUtf8-past_char rest next c h.utf8 is;
      same = ap (λ t. run_behind digits (run_past t run) (chars next)) e
          ∙ ap (λ cs. run_behind digits run cs) (sym (chars_past_char rest next c h.utf8 is)) ∙ h.same;
      left = omega (arith, shorter rest next c is, run_longer b run, h.left);
    }

    -- one more digit can be counted
    pub run_room : (c : ℕ) (next : List ℕ) → rest ≡ encode_utf8 c ++ next → run.count + 1 ≤ length text
    run_room c next is = omega (arith, shorter rest next c is, h.left)
