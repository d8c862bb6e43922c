-- What a record, a part of a record and many records feed.
use Rattle.std.proofs.Common.{◌≡◌, ℕ, true, false, List, [], ◌∷◌, ◌++◌, refl, sym}
use Rattle.std.proofs.Common.{ap, ◌∙◌, append_assoc}
use Rattle.std.proofs.lemmas.Bool.{false≢true}
use Rattle.std.proofs.lemmas.List.{append-nil}
use Rattle.number_forms.specs.Forms.{FormData}
use Rattle.locnum_lines.specs.Gathered.{Adds, Feeds, GatheredData}
use Rattle.locnum_lines.specs.Ran.{joined_runs}
use Rattle.locnum_lines.specs.RecordRuns.{record_ran, records_ran}
use Rattle.locnum_lines.specs.Records.{IsPart, is_open, records_of}
use Rattle.locnum_lines.specs.Settings.{SettingsData}
use Rattle.locnum_lines.specs.Stage.{stage_after, stage_behind}
use Rattle.locnum_lines.specs.declared.cutting.FieldState.TheVariants.{Front}
use Rattle.locnum_lines.proofs.Adding.{Adds-end, Adds-joined_runs, Adds-start, then_runs-on}
use Rattle.locnum_lines.proofs.Feeding.{record-ended, records_ran-append, records_ran-none, records_ran-one, stage_behind-append, stage_behind-none}
use Rattle.locnum_lines.proofs.Feeding.{stage_behind-one}

module _ (settings : SettingsData) (form : FormData) where
  -- more of a record, held back
  pub Feeds-part : (g : GatheredData) (held more : List ℕ) → g.is_stopped ≡ false →
      IsPart settings.delimiter settings.end Front (held ++ more) → Feeds settings form g g held more (held ++ more)
  Feeds-part g held more going h = record {
    records = [];
    whole = [];
    left = held ++ more;
    are_whole = λ rest. refl;
    parts = refl;
    adds = rw (records_ran-none settings form g.stage, stage_behind-none settings g.stage) (Adds-start g going);
    is_held = λ on. refl;
    is_part = λ on. h;
  }

  -- nothing
  pub Feeds-nothing : (g : GatheredData) (held : List ℕ) → g.is_stopped ≡ false → IsPart settings.delimiter settings.end Front held →
      Feeds settings form g g held [] held
  Feeds-nothing g held going h = record {
    records = [];
    whole = [];
    left = held;
    are_whole = λ rest. refl;
    parts = append-nil held;
    adds = rw (records_ran-none settings form g.stage, stage_behind-none settings g.stage) (Adds-start g going);
    is_held = λ on. refl;
    is_part = λ on. h;
  }

  -- the rest of a record and its end
  pub Feeds-record : (old new : GatheredData) (held more : List ℕ) → IsPart settings.delimiter settings.end Front (held ++ more) →
      is_open settings.delimiter (held ++ more) ≡ false →
      Adds old new (record_ran settings form old.stage (held ++ more)) (stage_after settings old.stage (held ++ more)) →
      Feeds settings form old new held (more ++ settings.end ∷ []) []
  Feeds-record old new held more h closed adds =
      let line = held ++ more in
      record {
        records = line ∷ [];
        whole = line ++ settings.end ∷ [];
        left = [];
        are_whole = λ rest. ap (records_of settings.delimiter settings.end) (append_assoc line (settings.end ∷ []) rest)
            ∙ record-ended settings.delimiter settings.end Front line rest h closed;
        parts = sym (append_assoc held more (settings.end ∷ [])) ∙ sym (append-nil (line ++ settings.end ∷ []));
        adds = rw (records_ran-one settings form line old.stage, stage_behind-one settings old.stage line)
            (Adds-end old new (record_ran settings form old.stage line) (stage_after settings old.stage line) adds);
        is_held = λ on. refl;
        is_part = λ on. tt;
      }

  -- some bytes and then others
  pub Feeds-then : (old mid new : GatheredData) (p a p1 b p2 : List ℕ) → mid.is_stopped ≡ false → Feeds settings form old mid p a p1 →
      Feeds settings form mid new p1 b p2 → Feeds settings form old new p (a ++ b) p2
  Feeds-then old mid new p a p1 b p2 on f s =
      let first = records_ran settings form old.stage f.records in
      let second = records_ran settings form mid.stage s.records in
      let going : first.is_stopped ≡ false = sym f.adds.is_stopped ∙ on in
      let stage : mid.stage ≡ stage_behind settings old.stage f.records = f.adds.stage on in
      let ran : records_ran settings form old.stage (f.records ++ s.records) ≡ joined_runs first second =
      records_ran-append settings form f.records s.records old.stage
      ∙ then_runs-on first (records_ran settings form (stage_behind settings old.stage f.records) s.records) going
      ∙ ap (λ k. joined_runs first (records_ran settings form k s.records)) (sym stage) in
      record {
        records = f.records ++ s.records;
        whole = f.whole ++ s.whole;
        left = s.left;
        are_whole = λ rest. ap (records_of settings.delimiter settings.end) (append_assoc f.whole s.whole rest) ∙ f.are_whole (s.whole ++ rest)
            ∙ ap (λ (k : List (List ℕ)). f.records ++ k) (s.are_whole rest)
            ∙ sym (append_assoc f.records s.records (records_of settings.delimiter settings.end rest));
        parts = sym (append_assoc p a b) ∙ ap (λ (k : List ℕ). k ++ b) f.parts ∙ append_assoc f.whole f.left b
            ∙ ap (λ (k : List ℕ). f.whole ++ (k ++ b)) (sym (f.is_held on)) ∙ ap (λ (k : List ℕ). f.whole ++ k) s.parts
            ∙ sym (append_assoc f.whole s.whole s.left);
        adds = rw (ran, stage_behind-append settings f.records s.records old.stage, ← stage)
            (Adds-joined_runs old mid new first second (stage_behind settings old.stage f.records) (stage_behind settings mid.stage s.records)
            f.adds going s.adds);
        is_held = s.is_held;
        is_part = s.is_part;
      }

  -- the run has stopped, whatever comes behind
  pub Feeds-stopped : (old new : GatheredData) (p a b p1 p2 : List ℕ) → new.is_stopped ≡ true → Feeds settings form old new p a p1 →
      Feeds settings form old new p (a ++ b) p2
  Feeds-stopped old new p a b p1 p2 stops f = record {
    records = f.records;
    whole = f.whole;
    left = f.left ++ b;
    are_whole = f.are_whole;
    parts = sym (append_assoc p a b) ∙ ap (λ (k : List ℕ). k ++ b) f.parts ∙ append_assoc f.whole f.left b;
    adds = f.adds;
    is_held = λ on. absurd (false≢true (sym on ∙ stops));
    is_part = λ on. absurd (false≢true (sym on ∙ stops));
  }
