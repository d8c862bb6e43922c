-- A line, field by field.
use Rattle.std.proofs.Common.{◌≡◌, ℕ, zero, suc, ◌+◌, ◌<◌, ◌≤◌, true, false, List, [], ◌∷◌, ◌++◌}
use Rattle.std.proofs.Common.{length, get_or, take, drop, Option, Some, None, ◌⊎◌, inl, inr, length-drop, refl, sym, ap}
use Rattle.std.proofs.Common.{◌∙◌, arith, subst}
use Rattle.std.proofs.Math.Nat.{eq-or-lt_of_le, le-max_left}
use Rattle.std.proofs.Math.Seq.{take-length}
use Rattle.std.specs.Prelude.{max, option_map, if◌then◌else◌}
use Rattle.std.proofs.lemmas.Bool.{false≢true}
use Rattle.locnum_lines.specs.RecordRuns.{line_by, line_ran, named_ran, next_ran, open_ran, unended_ran}
use Rattle.number_forms.specs.Forms.{FormData}
use Rattle.locnum_lines.specs.FieldRuns.{field_ran, fields_ran, picked_ran}
use Rattle.locnum_lines.specs.Fields.{Field, field_length, fields_from}
use Rattle.locnum_lines.specs.Gathered.{Adds, GatheredData, GoesOn, IsFirstOf}
use Rattle.locnum_lines.specs.Ran.{Ran, joined_runs, then_runs, writes}
use Rattle.locnum_lines.specs.Settings.{SettingsData, is_chosen}
use Rattle.locnum_lines.specs.Stage.{Stage, fields_of, header_passed}
use Rattle.locnum_lines.specs.declared.cutting.FieldState.TheVariants.{Front}
use Rattle.locnum_lines.specs.declared.settings.FieldRange.{FieldRange}
use Rattle.locnum_lines.proofs.Adding.{Adds-counted, Adds-joined_runs, Adds-nothing, Adds-within, Adds-writes, joined_runs-assoc}
use Rattle.locnum_lines.proofs.Adding.{then_runs-on, then_runs-stopped}
use Rattle.locnum_lines.proofs.FirstField.{field_length-within, fields-first, fields-last}

module _ (settings : SettingsData) (form : FormData) (stage : Stage) (index : ℕ) where
  -- the first of some fields
  fields_ran-first : (field : Field) (fields : List Field) → fields_ran settings form stage index (field ∷ fields)
      ≡ then_runs (field_ran settings form stage index field.text)
      (joined_runs (writes field.behind) (fields_ran settings form stage (suc index) fields))
  unfolding fields_ran
  fields_ran-first field fields = refl

  -- no fields
  fields_ran-none : fields_ran settings form stage index [] ≡ writes []
  unfolding fields_ran
  fields_ran-none = refl

  -- a field is counted
  field_ran-counted : (text : List ℕ) → index ≤ (field_ran settings form stage index text).most_fields
  unfolding field_ran
  field_ran-counted text = le-max_left index
      (if is_chosen (fields_of settings stage) index then picked_ran settings form stage index settings.delimiter text else writes text).most_fields

module _ (settings : SettingsData) (form : FormData) (stage : Stage) (index : ℕ) (line : List ℕ) (n : ℕ)
    (is : n ≡ field_length settings.delimiter Front line) where
  abbrev r : Ran
  r = field_ran settings form stage index (take n line)

  abbrev later : Ran
  later = fields_ran settings form stage (suc index) (fields_from settings.delimiter Front (drop (n + 1) line))

  -- the first field, and what comes behind it
  starts : (n ≡ length line) → fields_ran settings form stage index (fields_from settings.delimiter Front line)
      ≡ then_runs r (joined_runs (writes []) (writes []))
  starts e =
      let all : take n line ≡ line = take_whole line n e in
      ap (fields_ran settings form stage index) (fields-last settings.delimiter Front line (sym is ∙ e))
      ∙ fields_ran-first settings form stage index (record { text = line; behind = [] }) []
      ∙ rw (fields_ran-none settings form stage (suc index), all) refl
    where
      take_whole : (xs : List ℕ) (n : ℕ) → n ≡ length xs → take n xs ≡ xs
      take_whole xs n e = rw e (take-length xs)

  goes : (n < length line) → fields_ran settings form stage index (fields_from settings.delimiter Front line)
      ≡ then_runs r (joined_runs (writes (get_or line n 0 ∷ [])) later)
  goes inside = ap (fields_ran settings form stage index) (fields-first settings.delimiter Front line n is inside)
      ∙ fields_ran-first settings form stage index (record { text = take n line; behind = get_or line n 0 ∷ [] })
      (fields_from settings.delimiter Front (drop (n + 1) line))

module _ (settings : SettingsData) (form : FormData) (index : ℕ) (line : List ℕ) (n : ℕ) (is : n ≡ field_length settings.delimiter Front line)
    (old new : GatheredData) (adds : Adds old new (field_ran settings form old.stage index (take n line)) old.stage) where
  abbrev first : Ran
  first = field_ran settings form old.stage index (take n line)

  -- the run stops in the first field
  pub goes-stopped : new.is_stopped ≡ true → GoesOn settings form index old new line None
  goes-stopped stops =
      let stopped : first.is_stopped ≡ true = sym adds.is_stopped ∙ stops in
      record {
        ran = first;
        adds = adds;
        counted = field_ran-counted settings form old.stage index (take n line);
        is_first = ends stopped (eq-or-lt_of_le (rw is (field_length-within settings.delimiter Front line)));
        shorter = tt;
      }
    where
      ends : first.is_stopped ≡ true → (n ≡ length line) ⊎ (n < length line) →
          fields_ran settings form old.stage index (fields_from settings.delimiter Front line) ≡ first
      ends stopped (inl e) = starts settings form old.stage index line n is e ∙ then_runs-stopped first (joined_runs (writes []) (writes [])) stopped
      ends stopped (inr inside) = goes settings form old.stage index line n is inside
          ∙ then_runs-stopped first (joined_runs (writes (get_or line n 0 ∷ [])) (later settings form old.stage index line n is)) stopped

  -- the line has one field
  pub goes-last : new.is_stopped ≡ false → n ≡ length line → GoesOn settings form index old new line None
  goes-last on e =
      let going : first.is_stopped ≡ false = sym adds.is_stopped ∙ on in
      let counted : index ≤ first.most_fields = field_ran-counted settings form old.stage index (take n line) in
      record {
        ran = joined_runs first (joined_runs (writes []) (writes []));
        adds = Adds-nothing old new first old.stage adds going;
        counted = omega (arith, counted);
        is_first = starts settings form old.stage index line n is e ∙ then_runs-on first (joined_runs (writes []) (writes [])) going;
        shorter = tt;
      }

  -- the line goes on
  pub goes-on : (newer : GatheredData) → new.is_stopped ≡ false → n < length line → Adds new newer (writes (get_or line n 0 ∷ [])) new.stage →
      GoesOn settings form index old newer line (Some (drop (n + 1) line))
  goes-on newer on inside more =
      let going : first.is_stopped ≡ false = sym adds.is_stopped ∙ on in
      let counted : index ≤ first.most_fields = field_ran-counted settings form old.stage index (take n line) in
      let sep = writes (get_or line n 0 ∷ []) in
      let rest = later settings form old.stage index line n is in
      record {
        ran = joined_runs first sep;
        adds = Adds-within old new newer first sep adds going more;
        counted = omega (arith, counted);
        is_first = (
          refl,
          goes settings form old.stage index line n is inside ∙ then_runs-on first (joined_runs sep rest) going
              ∙ joined_runs-assoc first sep rest,
        );
        shorter = omega (arith, length-drop (n + 1) line);
      }

-- a field was counted first
pub goes-counted : (settings : SettingsData) (form : FormData) (index : ℕ) (old mid new : GatheredData) (line : List ℕ) (rest : Option (List ℕ)) →
    mid ≡ record old { most_fields = max old.most_fields index } → GoesOn settings form index mid new line rest →
    GoesOn settings form index old new line rest
goes-counted settings form index old mid new line rest e g =
    let same : mid.stage ≡ old.stage = ap (λ k. k.stage) e in
    record {
      ran = g.ran;
      adds = Adds-counted old mid new g.ran index old.stage e g.counted (subst (λ (k : Stage). Adds mid new g.ran k) same g.adds);
      counted = g.counted;
      is_first = rw same at g.is_first;
      shorter = g.shorter;
    }

-- of a whole line some fields were run; the others are those of the rest, from this number on
pub record InLine (settings : SettingsData) (form : FormData) (whole : Ran) (old now : GatheredData) (index : ℕ) (rest : Option (List ℕ)) : Type 0 where
  pub ran : Ran
  pub adds : Adds old now ran old.stage
  pub is_first : IsFirstOf ran whole
      (option_map (λ bytes. fields_ran settings form old.stage index (fields_from settings.delimiter Front bytes)) rest)

module _ (settings : SettingsData) (form : FormData) (whole : Ran) (old mid new : GatheredData) (index index' : ℕ) (line : List ℕ)
    (rest : Option (List ℕ)) where
  -- one field more
  pub InLine-goes : InLine settings form whole old mid index (Some line) → GoesOn settings form index mid new line rest → index' ≡ suc index →
      InLine settings form whole old new index' rest
  InLine-goes i g e = record {
    ran = joined_runs i.ran g.ran;
    adds = Adds-within old mid new i.ran g.ran i.adds i.is_first.0 g.adds;
    is_first = first rest (rw same at g.is_first);
  }
    where
      same : mid.stage ≡ old.stage
      same = i.adds.stage (i.adds.is_stopped ∙ i.is_first.0)

      all : ℕ → List ℕ → Ran
      all n bytes = fields_ran settings form old.stage n (fields_from settings.delimiter Front bytes)

      first : (k : Option (List ℕ)) → IsFirstOf g.ran (fields_ran settings form old.stage index (fields_from settings.delimiter Front line))
          (option_map (λ bytes. fields_ran settings form old.stage (suc index) (fields_from settings.delimiter Front bytes)) k) →
          IsFirstOf (joined_runs i.ran g.ran) whole
          (option_map (λ bytes. fields_ran settings form old.stage index' (fields_from settings.delimiter Front bytes)) k)
      first None h = i.is_first.1 ∙ ap (joined_runs i.ran) h
      first (Some bytes) h = (
        h.0,
        rw e (i.is_first.1 ∙ ap (joined_runs i.ran) h.1
            ∙ joined_runs-assoc i.ran g.ran (fields_ran settings form old.stage (suc index) (fields_from settings.delimiter Front bytes))),
      )

-- at its end all of the line was run
pub InLine-ends : (settings : SettingsData) (form : FormData) (whole : Ran) (old new : GatheredData) (index : ℕ) →
    InLine settings form whole old new index None → Adds old new whole old.stage
InLine-ends settings form whole old new index i = rw i.is_first i.adds

module _ (settings : SettingsData) (form : FormData) (last : ℕ) (line : List ℕ) (old : GatheredData) where
  -- a line of the header
  pub Adds-header : (new : GatheredData) → 0 < old.stage.left →
      Adds old new (joined_runs (writes (line ++ last ∷ [])) (named_ran settings old.stage line)) (header_passed settings old.stage line) →
      Adds old new (next_ran settings form old.stage last line) (header_passed settings old.stage line)
  unfolding next_ran
  Adds-header new some adds = rw (header old.stage.left some) adds
    where
      header : (left : ℕ) → 0 < left →
          line_by settings form old.stage last left line ≡ joined_runs (writes (line ++ last ∷ [])) (named_ran settings old.stage line)
      header zero some = absurd (omega arith)
      header (suc left) some = refl

  module _ (mid : GatheredData) (none : old.stage.left ≡ 0)
      (adds : Adds old mid (fields_ran settings form old.stage 1 (fields_from settings.delimiter Front line)) old.stage) where
    abbrev fields : Ran
    fields = fields_ran settings form old.stage 1 (fields_from settings.delimiter Front line)

    next : next_ran settings form old.stage last line ≡ then_runs fields (writes (last ∷ []))
    unfolding next_ran line_ran
    next = rw none refl

    -- behind the header a record changes nothing of it
    passed : header_passed settings old.stage line ≡ old.stage
    passed = unchanged old.stage.left old.stage.lines old.stage.names old.stage.columns none
      where
        unchanged : (left lines : ℕ) (names : List (List ℕ)) (columns : List FieldRange) → left ≡ 0 →
            header_passed settings (record { left = left; lines = lines; names = names; columns = columns }) line
            ≡ record { left = left; lines = lines; names = names; columns = columns }
        unchanged left lines names columns e = rw e refl

    -- a line in which the run stops
    pub Adds-stopped : mid.is_stopped ≡ true →
        Adds old mid (next_ran settings form old.stage last line) (header_passed settings old.stage line)
    Adds-stopped stops = rw (next, then_runs-stopped fields (writes (last ∷ [])) (sym adds.is_stopped ∙ stops)) (record {
      output = adds.output;
      notes = adds.notes;
      is_refused = adds.is_refused;
      is_stopped = adds.is_stopped;
      most_fields = adds.most_fields;
      holding = adds.holding;
      stage = λ on. absurd (false≢true (sym on ∙ stops));
    })

    -- and one in which it doesn't
    pub Adds-line : (new : GatheredData) → mid.is_stopped ≡ false → new ≡ record mid { output = mid.output ++ last ∷ [] } →
        Adds old new (next_ran settings form old.stage last line) (header_passed settings old.stage line)
    Adds-line new on e =
        let going : fields.is_stopped ≡ false = sym adds.is_stopped ∙ on in
        rw (next, then_runs-on fields (writes (last ∷ [])) going, passed)
        (Adds-within old mid new fields (writes (last ∷ [])) adds going (Adds-writes mid new (last ∷ []) on e))

-- a run that has stopped, however far it was
pub Adds-any : (a b : GatheredData) (r : Ran) (n m : Stage) → b.is_stopped ≡ true → Adds a b r n → Adds a b r m
Adds-any a b r n m stops f = record {
  output = f.output;
  notes = f.notes;
  is_refused = f.is_refused;
  is_stopped = f.is_stopped;
  most_fields = f.most_fields;
  holding = f.holding;
  stage = λ on. absurd (false≢true (sym on ∙ stops));
}

module _ (settings : SettingsData) (form : FormData) (begun : ℕ) (old mid new : GatheredData) (front : List ℕ) (last : ℕ) (after : Stage)
    (adds : Adds old mid (next_ran settings form old.stage last front) (header_passed settings old.stage front)) where
  -- quotes that don't end, behind what stands in front of their field
  pub open-behind : mid.is_stopped ≡ false → new.is_stopped ≡ true → Adds mid new (unended_ran begun) mid.stage →
      Adds old new (open_ran settings form old.stage begun (Some (front, last))) after
  open-behind on stops f =
      let going : (next_ran settings form old.stage last front).is_stopped ≡ false = sym adds.is_stopped ∙ on in
      rw (then_runs-on (next_ran settings form old.stage last front) (unended_ran begun) going)
      (Adds-any old new (joined_runs (next_ran settings form old.stage last front) (unended_ran begun)) mid.stage after stops
      (Adds-joined_runs old mid new (next_ran settings form old.stage last front) (unended_ran begun)
      (header_passed settings old.stage front) mid.stage adds going f))

  -- and where the run stops before
  pub open-stopped : mid.is_stopped ≡ true → Adds old mid (open_ran settings form old.stage begun (Some (front, last))) after
  open-stopped stops =
      rw (then_runs-stopped (next_ran settings form old.stage last front) (unended_ran begun) (sym adds.is_stopped ∙ stops))
      (Adds-any old mid (next_ran settings form old.stage last front) (header_passed settings old.stage front) after stops adds)
