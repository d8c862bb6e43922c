-- Bytes of a field that change nothing of it, and are passed over at once.
use Rattle.std.proofs.Common.{◌≡◌, ℕ, zero, suc, ◌+◌, ◌-◌, ◌<◌, ◌≤◌, Bool, true, false, List}
use Rattle.std.proofs.Common.{[], ◌∷◌, ◌++◌, length, get_or, take, drop, refl, sym, ap, ◌∙◌, arith}
use Rattle.std.specs.Prelude.{◌==◌, if◌then◌else◌}
use Rattle.std.proofs.lemmas.Bool.{eq-eqb, false≢true}
use Rattle.std.proofs.lemmas.List.{drop_more, length-drop, take-append-drop, take_all}
use Rattle.locnum_lines.specs.Fields.{blanks_before, csv_state, ends_field, field_length, is_blank, is_quoted}
use Rattle.locnum_lines.specs.Records.{IsPartLine, state_after, state_behind}
use Rattle.locnum_lines.proofs.Feeding.{state_behind-append}
use Rattle.locnum_lines.proofs.States.{state-end, state-step}
use Rattle.locnum_lines.specs.declared.cutting.FieldState.{FieldState}
use Rattle.locnum_lines.specs.declared.cutting.FieldState.TheVariants.{Front, Plain, Quoted, AfterQuote}
use Rattle.locnum_lines.specs.declared.settings.Delimiter.TheVariants.{Blanks, Byte, Csv}

-- bytes without the delimiter are in the first field
pub field_length-all : (delimiter : ℕ) (state : FieldState) (line : List ℕ) → IsPartLine delimiter line →
    field_length (Byte delimiter) state line ≡ length line
unfolding field_length
field_length-all delimiter state [] part = refl
field_length-all delimiter state (b ∷ bs) part = rw part.0 (ap suc (field_length-all delimiter Plain bs part.1))

-- and the delimiter behind them ends it
pub field_length-front : (delimiter : ℕ) (state : FieldState) (front rest : List ℕ) → IsPartLine delimiter front →
    field_length (Byte delimiter) state (front ++ delimiter ∷ rest) ≡ length front
unfolding field_length
field_length-front delimiter state [] rest part = rw (eq-eqb delimiter delimiter refl) refl
field_length-front delimiter state (b ∷ bs) rest part = rw part.0 (ap suc (field_length-front delimiter Plain bs rest part.1))

-- bytes of which none is a blank are in the word
pub word-at : (text : List ℕ) (n : ℕ) → n ≤ length text → ((k : ℕ) → k < n → is_blank (get_or text k 0) ≡ false) →
    field_length Blanks Plain text ≡ n + field_length Blanks Plain (drop n text)
unfolding field_length
word-at text zero inside h = omega arith
word-at [] (suc n) inside h = absurd (omega (arith, inside))
word-at (b ∷ bs) (suc n) inside h =
    rw (h 0 (omega arith)) (omega (arith, word-at bs n (omega (arith, inside)) (λ k l. h (suc k) (omega (arith, l)))))

-- and a blank ends it
pub word-end : (text : List ℕ) (n : ℕ) → n < length text → is_blank (get_or text n 0) ≡ true → field_length Blanks Plain (drop n text) ≡ 0
unfolding field_length
word-end text n inside h = rw (drop_more text n 0 inside, h) refl

-- blanks, and then a word
pub blank-field : (line : List ℕ) →
    field_length Blanks Front line ≡ blanks_before line + field_length Blanks Plain (drop (blanks_before line) line)
unfolding field_length blanks_before
blank-field [] = refl
blank-field (b ∷ bs) = go (is_blank b) refl (blank-field bs)
  where
    go : (t : Bool) → is_blank b ≡ t →
        field_length Blanks Front bs ≡ blanks_before bs + field_length Blanks Plain (drop (blanks_before bs) bs) →
        field_length Blanks Front (b ∷ bs) ≡ blanks_before (b ∷ bs) + field_length Blanks Plain (drop (blanks_before (b ∷ bs)) (b ∷ bs))
    go true e i = rw e (omega (arith, i))
    go false e i =
        let front : field_length Blanks Front (b ∷ bs) ≡ suc (field_length Blanks Plain bs) = rw e refl in
        let plain : field_length Blanks Plain (b ∷ bs) ≡ suc (field_length Blanks Plain bs) = rw e refl in
        let none : blanks_before (b ∷ bs) ≡ 0 = rw e refl in
        front ∙ sym plain ∙ rw none (omega arith)

-- a byte other than this one doesn't end a field at this place, which stays
module _ (delimiter stop : ℕ) (state : FieldState)
    (stays : (b : ℕ) → (b == stop) ≡ false → (ends_field (Csv delimiter) state b ≡ false) × (csv_state state b ≡ state)) where
  -- so what is in front of the first like it is passed over in the field
  pub field-skipped : (at : FieldState) (text : List ℕ) → field_length (Csv delimiter) state text
      ≡ field_length (Byte stop) at text + field_length (Csv delimiter) state (drop (field_length (Byte stop) at text) text)
  unfolding field_length
  field-skipped at [] = refl
  field-skipped at (b ∷ bs) = go (b == stop) refl (field-skipped Plain bs)
    where
      go : (t : Bool) → (b == stop) ≡ t → field_length (Csv delimiter) state bs
          ≡ field_length (Byte stop) Plain bs + field_length (Csv delimiter) state (drop (field_length (Byte stop) Plain bs) bs) →
          field_length (Csv delimiter) state (b ∷ bs)
          ≡ field_length (Byte stop) at (b ∷ bs) + field_length (Csv delimiter) state (drop (field_length (Byte stop) at (b ∷ bs)) (b ∷ bs))
      go true e i = rw e (omega arith)
      go false e i = rw (e, (stays b e).0, (stays b e).1) (omega (arith, i))

  -- and in the record
  pub state-skipped : (at : FieldState) (text : List ℕ) → state_behind (Csv delimiter) state text
      ≡ state_behind (Csv delimiter) state (drop (field_length (Byte stop) at text) text)
  unfolding field_length state_behind
  state-skipped at [] = refl
  state-skipped at (b ∷ bs) = go (b == stop) refl (state-skipped Plain bs)
    where
      go : (t : Bool) → (b == stop) ≡ t →
          state_behind (Csv delimiter) state bs ≡ state_behind (Csv delimiter) state (drop (field_length (Byte stop) Plain bs) bs) →
          state_behind (Csv delimiter) state (b ∷ bs)
          ≡ state_behind (Csv delimiter) state (drop (field_length (Byte stop) at (b ∷ bs)) (b ∷ bs))
      go true e i = rw e refl
      go false e i = rw (e, (stays b e).0, (stays b e).1) i

-- in a field outside of quotes a byte that isn't the delimiter
pub plain-stays : (delimiter b : ℕ) → (b == delimiter) ≡ false → (ends_field (Csv delimiter) Plain b ≡ false) × (csv_state Plain b ≡ Plain)
plain-stays delimiter b e = (rw e refl, refl)

-- and between quotes one that isn't a quote
pub quoted-stays : (delimiter b : ℕ) → (b == 34) ≡ false → (ends_field (Csv delimiter) Quoted b ≡ false) × (csv_state Quoted b ≡ Quoted)
quoted-stays delimiter b e = (refl, rw e refl)

-- bytes of which none is a quote end no quotes
pub state-quoted : (delimiter : ℕ) (state : FieldState) (bytes : List ℕ) → is_quoted state ≡ true → IsPartLine 34 bytes →
    state_behind (Csv delimiter) state bytes ≡ state
unfolding state_behind
state-quoted delimiter Front bytes in_quotes part = absurd (false≢true in_quotes)
state-quoted delimiter Plain bytes in_quotes part = absurd (false≢true in_quotes)
state-quoted delimiter AfterQuote bytes in_quotes part = absurd (false≢true in_quotes)
state-quoted delimiter Quoted [] in_quotes part = refl
state-quoted delimiter Quoted (b ∷ bs) in_quotes part = rw part.0 (state-quoted delimiter Quoted bs refl part.1)

-- and outside of quotes the last of them determines the place behind them
state-next : (delimiter : ℕ) (state : FieldState) (b : ℕ) → is_quoted state ≡ false → (b == 34) ≡ false →
    state_after (Csv delimiter) state b ≡ (if b == delimiter then Front else Plain)
state-next delimiter Front b out h = rw h refl
state-next delimiter Plain b out h = refl
state-next delimiter Quoted b out h = absurd (false≢true (sym out))
state-next delimiter AfterQuote b out h = rw h refl

stays-out : (t : Bool) → is_quoted (if t then Front else Plain) ≡ false
stays-out true = refl
stays-out false = refl

pub state-unquoted : (delimiter : ℕ) (state : FieldState) (bytes : List ℕ) (last : ℕ) → is_quoted state ≡ false →
    IsPartLine 34 (bytes ++ last ∷ []) →
    state_behind (Csv delimiter) state (bytes ++ last ∷ []) ≡ (if last == delimiter then Front else Plain)
unfolding state_behind
state-unquoted delimiter state [] last out part = state-next delimiter state last out part.0
state-unquoted delimiter state (b ∷ bs) last out part =
    ap (λ p. state_behind (Csv delimiter) p (bs ++ last ∷ [])) (state-next delimiter state b out part.0)
    ∙ (state-unquoted delimiter (if b == delimiter then Front else Plain) bs last (stays-out (b == delimiter)) part.1)

-- a quote behind a byte that is neither one nor the delimiter begins no quotes
state-closed : (delimiter : ℕ) (state : FieldState) (b : ℕ) → (b == 34) ≡ false → (b == delimiter) ≡ false →
    is_quoted (state_after (Csv delimiter) (state_after (Csv delimiter) state b) 34) ≡ false
state-closed delimiter Front b e f = rw (f, e) (stays-out (34 == delimiter))
state-closed delimiter Plain b e f = rw f (stays-out (34 == delimiter))
state-closed delimiter Quoted b e f = rw e refl
state-closed delimiter AfterQuote b e f = rw (f, e) (stays-out (34 == delimiter))

pub ends-outside : (delimiter : ℕ) (bytes : List ℕ) (k : ℕ) (state : FieldState) → k + 2 ≡ length bytes → get_or bytes (k + 1) 0 ≡ 34 →
    (get_or bytes k 0 == 34) ≡ false → (get_or bytes k 0 == delimiter) ≡ false → is_quoted (state_behind (Csv delimiter) state bytes) ≡ false
ends-outside delimiter bytes k state at last e f =
    let d = Csv delimiter in
    let front = state_behind d state (take k bytes) in
    let one = state_after d front (get_or bytes k 0) in
    let two = state_after d one (get_or bytes (k + 1) 0) in
    let is : state_behind d state bytes ≡ two =
    ap (state_behind d state) (sym (take-append-drop k bytes)) ∙ state_behind-append d 0 state (take k bytes) (drop k bytes)
    ∙ state-step d bytes k front (omega (arith, at)) ∙ state-step d bytes (k + 1) one (omega (arith, at))
    ∙ state-end d bytes (k + 1 + 1) two (omega (arith, at)) in
    ap is_quoted is ∙ ap (λ q. is_quoted (state_after d one q)) last ∙ state-closed delimiter front (get_or bytes k 0) e f

-- a place between quotes
pub quoted-is : (state : FieldState) → is_quoted state ≡ true → state ≡ Quoted
quoted-is Front h = absurd (false≢true h)
quoted-is Plain h = absurd (false≢true h)
quoted-is Quoted h = refl
quoted-is AfterQuote h = absurd (false≢true h)

-- what is behind n bytes
pub slice-from : (line : List ℕ) (n : ℕ) → take (length line - n) (drop n line) ≡ drop n line
slice-from line n = take_all (length line - n) (drop n line) (omega (arith, length-drop n line))
