-- What records and parts of records add to what was gathered.
-- A part of a record that ends now is the first record of all that comes (`record-ended`), and what runs for some records and
-- others runs one behind the other (`records_ran-append`), unless the run stops.
use Rattle.std.proofs.Common.{◌≡◌, ℕ, suc, ◌+◌, ◌<◌, Bool, get_or, take, drop, length-take, true, false, eqb}
use Rattle.std.proofs.Common.{arith, length, List, [], ◌∷◌, ◌++◌, refl, sym, ap, ◌∙◌, append_assoc}
use Rattle.std.specs.Prelude.{◌&&◌}
use Rattle.std.proofs.lemmas.Bool.{eqb-true}
use Rattle.std.proofs.lemmas.Bool.Decides.{nat_tests}
use Rattle.std.proofs.lemmas.List.{get_or-take, drop_more, take-append-drop}
use Rattle.memchr.specs.Find.{NoneBefore, Nowhere, Passes, is_byte}
use Rattle.decimal_lines.specs.Lines.{onto_first}
use Rattle.number_forms.specs.Forms.{FormData}
use Rattle.locnum_lines.specs.Fields.{is_quoted}
use Rattle.locnum_lines.specs.Ran.{then_runs, writes}
use Rattle.locnum_lines.specs.RecordRuns.{next_ran, open_ran, record_ran, records_ran}
use Rattle.locnum_lines.specs.Records.{IsPart, IsPartLine, in_front, is_open, last_begun, state_after, state_behind, records_from}
use Rattle.locnum_lines.specs.Settings.{SettingsData}
use Rattle.locnum_lines.specs.Stage.{Stage, stage_after, stage_behind}
use Rattle.locnum_lines.proofs.Adding.{joined_runs-none, then_runs-assoc}
use Rattle.locnum_lines.specs.declared.cutting.FieldState.{FieldState}
use Rattle.locnum_lines.specs.declared.cutting.FieldState.TheVariants.{Front}
use Rattle.locnum_lines.specs.declared.settings.Delimiter.{Delimiter}

-- a byte is the byte that it is
eqb_same : (n : ℕ) → eqb n n ≡ true
eqb_same n = grind (arith, nat_tests)

and_false : (b : Bool) → (b && false) ≡ false
and_false true = refl
and_false false = refl

module _ (delimiter : Delimiter) (end : ℕ) where
  -- a part of a record that is ended now
  pub record-ended : (state : FieldState) (p rest : List ℕ) → IsPart delimiter end state p → is_quoted (state_behind delimiter state p) ≡ false →
      records_from delimiter end state (p ++ end ∷ rest) ≡ p ∷ records_from delimiter end Front rest
  unfolding records_from state_behind
  record-ended state [] rest h closed = rw (eqb_same end, closed) refl
  record-ended state (b ∷ bs) rest h closed = rw (h.0, record-ended (state_after delimiter state b) bs rest h.1 closed) refl

  -- a last record that isn't ended
  pub record-last : (state : FieldState) (b : ℕ) (bs : List ℕ) → IsPart delimiter end state (b ∷ bs) →
      records_from delimiter end state (b ∷ bs) ≡ (b ∷ bs) ∷ []
  unfolding records_from
  record-last state b [] h = rw h.0 refl
  record-last state b (c ∷ bs) h = rw h.0 (ap (onto_first b) (record-last (state_after delimiter state b) c bs h.1))

  -- no byte, no record
  pub no_records : (state : FieldState) → records_from delimiter end state [] ≡ []
  unfolding records_from
  no_records state = refl

  -- the place behind some bytes and others
  pub state_behind-append : (state : FieldState) (p q : List ℕ) →
      state_behind delimiter state (p ++ q) ≡ state_behind delimiter (state_behind delimiter state p) q
  unfolding state_behind
  state_behind-append state [] q = refl
  state_behind-append state (b ∷ p) q = state_behind-append (state_after delimiter state b) p q

  -- the place behind one byte more
  pub state_behind-more : (state : FieldState) (p : List ℕ) (b : ℕ) →
      state_behind delimiter state (p ++ b ∷ []) ≡ state_after delimiter (state_behind delimiter state p) b
  unfolding state_behind
  state_behind-more state p b = state_behind-append state p (b ∷ [])

  -- no byte leaves its place
  pub state_behind-nothing : (state : FieldState) → state_behind delimiter state [] ≡ state
  unfolding state_behind
  state_behind-nothing state = refl

  -- two parts of a record are one part
  pub IsPart-append : (state : FieldState) (p q : List ℕ) → IsPart delimiter end state p → IsPart delimiter end (state_behind delimiter state p) q →
      IsPart delimiter end state (p ++ q)
  unfolding state_behind
  IsPart-append state [] q h k = k
  IsPart-append state (b ∷ p) q h k = (h.0, IsPart-append (state_after delimiter state b) p q h.1 k)

  -- a part of a line ends no record
  pub IsPart-line : (state : FieldState) (p : List ℕ) → IsPartLine end p → IsPart delimiter end state p
  IsPart-line state [] h = tt
  IsPart-line state (b ∷ p) h = (rw h.0 refl, IsPart-line (state_after delimiter state b) p h.1)

  -- nor does the end of a line between quotes
  pub IsPart-end : (state : FieldState) → is_quoted state ≡ true → IsPart delimiter end state (end ∷ [])
  IsPart-end state quoted = (rw quoted (and_false (eqb end end)), tt)

module _ (end : ℕ) where
  -- bytes of which none is the end of a line
  IsPartLine-at : (p : List ℕ) → ((k : ℕ) → k < length p → ¬ (eqb (get_or p k 0) end ≡ true)) → IsPartLine end p
  IsPartLine-at [] h = tt
  IsPartLine-at (b ∷ p) h = (is_false (eqb b end) (h 0 (omega arith)), IsPartLine-at p (λ k l. h (suc k) (omega arith)))
    where
      is_false : (t : Bool) → ¬ (t ≡ true) → t ≡ false
      is_false true n = absurd (n refl)
      is_false false n = refl

  -- up to the first end of a line, and where there is none
  pub IsPartLine-front : (hay : List ℕ) (n : ℕ) → NoneBefore (Passes (is_byte end) hay) 0 (length hay) n → IsPartLine end (take n hay)
  IsPartLine-front hay n f = IsPartLine-at (take n hay) (λ k l.
      let inside : k < n = omega (arith, length-take n hay) in
      rw get_or-take (f.before k (omega arith) inside))

  -- bytes without the end of a line are a part of a line
  pub IsPartLine-all : (hay : List ℕ) → Nowhere (Passes (is_byte end) hay) 0 (length hay) → IsPartLine end hay
  IsPartLine-all hay f = IsPartLine-at hay (λ k l. f k (omega arith) l)

  -- the line, its end and the rest
  pub line_split : (hay : List ℕ) (n : ℕ) → NoneBefore (Passes (is_byte end) hay) 0 (length hay) n → Passes (is_byte end) hay n →
      hay ≡ (take n hay ++ end ∷ []) ++ drop 1 (drop n hay)
  line_split hay n f p =
      let here : get_or hay n 0 ≡ end = eqb-true (get_or hay n 0) end p in
      let tail : drop n hay ≡ end ∷ drop (n + 1) hay = drop_more hay n 0 f.high ∙ ap (λ (x : ℕ). x ∷ drop (n + 1) hay) here in
      let whole : hay ≡ take n hay ++ drop n hay = sym (take-append-drop n hay) in
      whole ∙ ap (λ (l : List ℕ). take n hay ++ l) tail ∙ sym (append_assoc (take n hay) (end ∷ []) (drop (n + 1) hay))
      ∙ ap (λ (l : List ℕ). (take n hay ++ end ∷ []) ++ l) (ap (drop 1) (sym tail))

module _ (settings : SettingsData) where
  -- how far a run is behind no record, behind one, and behind some and others
  pub stage_behind-none : (stage : Stage) → stage_behind settings stage [] ≡ stage
  unfolding stage_behind
  stage_behind-none stage = refl

  pub stage_behind-one : (stage : Stage) (line : List ℕ) → stage_behind settings stage (line ∷ []) ≡ stage_after settings stage line
  unfolding stage_behind
  stage_behind-one stage line = refl

  pub stage_behind-append : (ls ms : List (List ℕ)) (stage : Stage) →
      stage_behind settings stage (ls ++ ms) ≡ stage_behind settings (stage_behind settings stage ls) ms
  unfolding stage_behind
  stage_behind-append [] ms stage = refl
  stage_behind-append (l ∷ ls) ms stage = stage_behind-append ls ms (stage_after settings stage l)

module _ (settings : SettingsData) (form : FormData) where
  -- records and then others: those run too, unless the run has stopped
  pub records_ran-append : (ls ms : List (List ℕ)) (stage : Stage) → records_ran settings form stage (ls ++ ms)
      ≡ then_runs (records_ran settings form stage ls) (records_ran settings form (stage_behind settings stage ls) ms)
  unfolding records_ran stage_behind
  records_ran-append [] ms stage = sym (joined_runs-none (records_ran settings form stage ms))
  records_ran-append (l ∷ ls) ms stage =
      ap (then_runs (record_ran settings form stage l)) (records_ran-append ls ms (stage_after settings stage l))
      ∙ then_runs-assoc (record_ran settings form stage l) (records_ran settings form (stage_after settings stage l) ls)
      (records_ran settings form (stage_behind settings (stage_after settings stage l) ls) ms)

  -- one record
  pub records_ran-one : (line : List ℕ) (stage : Stage) →
      records_ran settings form stage (line ∷ []) ≡ then_runs (record_ran settings form stage line) (writes [])
  unfolding records_ran
  records_ran-one line stage = refl

  -- no record
  pub records_ran-none : (stage : Stage) → records_ran settings form stage [] ≡ writes []
  unfolding records_ran
  records_ran-none stage = refl

  -- a record whose quotes end
  pub record_ran-closed : (stage : Stage) (line : List ℕ) → is_open settings.delimiter line ≡ false →
      record_ran settings form stage line ≡ next_ran settings form stage settings.end line
  unfolding record_ran
  record_ran-closed stage line closed = rw closed refl

  -- and one whose quotes don't
  pub record_ran-open : (stage : Stage) (line : List ℕ) → is_open settings.delimiter line ≡ true → record_ran settings form stage line
      ≡ open_ran settings form stage (last_begun settings.delimiter settings.end Front (stage.lines + 1) (stage.lines + 1) line)
      (in_front settings.delimiter Front line)
  unfolding record_ran
  record_ran-open stage line open' = rw open' refl
