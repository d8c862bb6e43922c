-- What was written and reported while a run goes on, and when it ends.
-- What was gathered goes to the writers block by block. `Went` says of a run so far that the writers hold what its whole
-- records write and report; each way out of the loop is a lemma on it. A run that stopped writes nothing more, whatever is left to read.
use Rattle.std.proofs.Common.{◌≡◌, ℕ, Bool, true, false, List, [], ◌∷◌, ◌++◌, length, Option, Some, None, eqb}
use Rattle.std.proofs.Common.{refl, sym, ap, ◌∙◌, append_assoc, arith}
use Rattle.std.specs.Prelude.{IfSome, ◌||◌, max, OnErr, Result, Ok, Err}
use Rattle.std.specs.Io.KnownBytes.{Appends, Consumes, IsAtEnd, prepend_known}
use Rattle.std.proofs.Math.Nat.{zero-max}
use Rattle.std.proofs.lemmas.Bool.{eqb-true, false≢true}
use Rattle.std.proofs.lemmas.List.{append-nil}
use Rattle.decimal_lines.specs.Written.{AppendsBeginning}
use Rattle.decimal_lines.proofs.Known.{Appends-nothing, Appends-then, AppendsBeginning-more, AppendsBeginning-then}
use Rattle.number_forms.specs.Forms.{FormData}
use Rattle.locnum_lines.specs.Gathered.{Adds, Feeds, GatheredData}
use Rattle.locnum_lines.specs.Ran.{Ran, first_of, joined_runs, then_runs, writes}
use Rattle.locnum_lines.specs.RecordRuns.{rest_ran, record_ran, records_ran}
use Rattle.locnum_lines.specs.Records.{IsPart, records_of}
use Rattle.locnum_lines.specs.Reported.{Begins, Ends, Finishes, ReportData}
use Rattle.locnum_lines.specs.Settings.{SettingsData}
use Rattle.locnum_lines.specs.Stage.{Stage, stage_behind, start_of}
use Rattle.locnum_lines.specs.declared.cutting.FieldState.TheVariants.{Front}
use Rattle.locnum_lines.proofs.Adding.{Adds-end, then_runs-on, then_runs-stopped}
use Rattle.locnum_lines.proofs.Fed.{Feeds-nothing, Feeds-then}
use Rattle.locnum_lines.proofs.Feeding.{no_records, record-last, records_ran-append, records_ran-none, records_ran-one}

-- all of a text is a beginning of it
whole_appended : (a b : Option (List ℕ)) (x : List ℕ) → Appends a b x → AppendsBeginning a b x
whole_appended a b x p = (x, p, ([], sym (append-nil x)))

-- what is left is known
abbrev pub IsKnown : Option (List ℕ) → Type 0
IsKnown None = ⊥
IsKnown (Some bytes) = Unit {0}

-- where bytes are known behind others, those that are left at the end are none
pub known-end : (rest : List ℕ) (known : Option (List ℕ)) → IsAtEnd known → IsKnown (prepend_known rest known) → known ≡ Some []
known-end rest None e k = absurd k
known-end rest (Some bytes) e k = ap Some e

-- a result that may be an error
pub any_err : {X E : Type 0} {P : Type 0} (r : Result X E) → P → OnErr r P
any_err (Ok x) p = tt
any_err (Err e) p = p

-- a beginning of a part is one of what runs with others behind it
pub begins-then : (a b : Ran) (w w2 n n2 : Option (List ℕ)) → AppendsBeginning w w2 a.output → AppendsBeginning n n2 a.notes →
    Begins (then_runs a b) w w2 n n2
begins-then a b w w2 n n2 p q = go a.is_stopped refl
  where
    go : (t : Bool) → a.is_stopped ≡ t → Begins (then_runs a b) w w2 n n2
    go true e = rw (then_runs-stopped a b e) (record { written = p; reported = q })
    go false e = rw (then_runs-on a b e) (record {
      written = AppendsBeginning-more w w2 a.output b.output p;
      reported = AppendsBeginning-more n n2 a.notes b.notes q;
    })

module _ (settings : SettingsData) (form : FormData) where
  -- nothing is held back
  pub held-none : (held : List ℕ) (stage : Stage) → (eqb (length held) 0 ≡ true) →
      records_ran settings form stage (records_of settings.delimiter settings.end held) ≡ writes []
  held-none [] stage e = rw (no_records settings.delimiter settings.end Front) (records_ran-none settings form stage)
  held-none (b ∷ held) stage e = absurd (omega (arith, eqb-true (length (b ∷ held)) 0 e))

  -- part of a record is
  pub held-ran : (held : List ℕ) (old new : GatheredData) (after : Stage) → (eqb (length held) 0 ≡ false) →
      IsPart settings.delimiter settings.end Front held → Adds old new (record_ran settings form old.stage held) after →
      Adds old new (records_ran settings form old.stage (records_of settings.delimiter settings.end held)) after
  held-ran [] old new after e part adds = absurd cc
  held-ran (b ∷ held) old new after e part adds =
      rw (record-last settings.delimiter settings.end Front b held part, records_ran-one settings form (b ∷ held) old.stage)
      (Adds-end old new (record_ran settings form old.stage (b ∷ held)) after adds)

  -- gathered behind what was written before
  Feeds-shift : (old new : GatheredData) (p a p1 x y : List ℕ) → old.output ≡ [] → old.notes ≡ [] → Feeds settings form old new p a p1 →
      Feeds settings form (record old { output = x; notes = y }) (record new { output = x ++ new.output; notes = y ++ new.notes }) p a p1
  Feeds-shift old new p a p1 x y none none' f = record {
    records = f.records;
    whole = f.whole;
    left = f.left;
    are_whole = f.are_whole;
    parts = f.parts;
    adds = record {
      output = ap (λ (k : List ℕ). x ++ k) (f.adds.output ∙ ap (λ (k : List ℕ). k ++ ran.output) none);
      notes = ap (λ (k : List ℕ). y ++ k) (f.adds.notes ∙ ap (λ (k : List ℕ). k ++ ran.notes) none');
      is_refused = f.adds.is_refused;
      is_stopped = f.adds.is_stopped;
      most_fields = f.adds.most_fields;
      holding = f.adds.holding;
      stage = f.adds.stage;
    };
    is_held = f.is_held;
    is_part = f.is_part;
  }
    where
      ran : Ran
      ran = records_ran settings form old.stage f.records

-- before anything was read
abbrev pub start : SettingsData → GatheredData
start settings =
    record { output = []; notes = []; is_refused = false; is_stopped = false; most_fields = 0; holding = []; stage = start_of settings }

-- what is reported then
abbrev pub report_of : GatheredData → ReportData
report_of now =
    record { is_refused = now.is_refused; is_stopped = now.is_stopped; most_fields = now.most_fields; holding = now.holding }

-- the writers hold what the whole records of what was read write and report, and nothing is gathered besides
pub record Went (settings : SettingsData) (form : FormData) (w w' n n' : Option (List ℕ)) (now : GatheredData) (got held : List ℕ) : Type 0 where
  pub output : List ℕ
  pub notes : List ℕ
  pub written : Appends w w' output
  pub reported : Appends n n' notes
  pub feeds : Feeds settings form (start settings) (record now { output = output; notes = notes }) [] got held

-- of an input that begins with bytes that were fed this much was run
fed-begins : (settings : SettingsData) (form : FormData) (now : GatheredData) (got held : List ℕ)
    (f : Feeds settings form (start settings) now [] got held) (rest : List ℕ) →
    rest_ran settings form (got ++ rest) ≡ then_runs (records_ran settings form (start_of settings) f.records)
    (records_ran settings form (stage_behind settings (start_of settings) f.records)
    (records_of settings.delimiter settings.end (f.left ++ rest)))
unfolding rest_ran
fed-begins settings form now got held f rest =
    let parts : got ++ rest ≡ f.whole ++ (f.left ++ rest) =
    ap (λ (k : List ℕ). k ++ rest) f.parts ∙ append_assoc f.whole f.left rest in
    ap (λ (k : List ℕ). records_ran settings form (start_of settings) (records_of settings.delimiter settings.end k)) parts
    ∙ ap (records_ran settings form (start_of settings)) (f.are_whole (f.left ++ rest))
    ∙ records_ran-append settings form f.records (records_of settings.delimiter settings.end (f.left ++ rest)) (start_of settings)

module _ (settings : SettingsData) (form : FormData) (w n : Option (List ℕ)) where
  -- nothing was read
  pub Went-start : Went settings form w w n n (start settings) [] []
  Went-start = record {
    output = [];
    notes = [];
    written = Appends-nothing w;
    reported = Appends-nothing n;
    feeds = Feeds-nothing settings form (start settings) [] refl tt;
  }

  -- a block was read, run and written
  pub Went-then : (w1 w2 n1 n2 : Option (List ℕ)) (now next : GatheredData) (got held chunk held' : List ℕ) →
      Went settings form w w1 n n1 now got held → now.output ≡ [] → now.notes ≡ [] → now.is_stopped ≡ false →
      Feeds settings form now next held chunk held' → Appends w1 w2 next.output → Appends n1 n2 next.notes →
      Went settings form w w2 n n2 (record next { output = []; notes = [] }) (got ++ chunk) held'
  Went-then w1 w2 n1 n2 now next got held chunk held' went none none' on f p q = record {
    output = went.output ++ next.output;
    notes = went.notes ++ next.notes;
    written = Appends-then w w1 w2 went.output next.output went.written p;
    reported = Appends-then n n1 n2 went.notes next.notes went.reported q;
    feeds = Feeds-then settings form (start settings) (record now { output = went.output; notes = went.notes })
        (record next { output = went.output ++ next.output; notes = went.notes ++ next.notes }) [] got held chunk held' on went.feeds
        (Feeds-shift settings form now next held chunk held' went.output went.notes none none' f);
  }

  module _ (w1 n1 : Option (List ℕ)) (now : GatheredData) (got held : List ℕ) (went : Went settings form w w1 n n1 now got held) where
    abbrev first : Ran
    first = records_ran settings form (start_of settings) went.feeds.records

    abbrev later : List ℕ → Ran
    later rest = records_ran settings form (stage_behind settings (start_of settings) went.feeds.records)
        (records_of settings.delimiter settings.end (went.feeds.left ++ rest))

    -- of an input that begins with what was read, this much was run
    begins : (rest : List ℕ) → rest_ran settings form (got ++ rest) ≡ then_runs first
        (later rest)
    begins rest = fed-begins settings form (record now { output = went.output; notes = went.notes }) got held went.feeds rest

    -- a beginning was written and reported
    begun : (rest : List ℕ) → Begins (rest_ran settings form (got ++ rest)) w w1 n n1
    begun rest =
        rw (begins rest) (begins-then first
        (later rest)
        w w1 n n1 (rw went.feeds.adds.output at (whole_appended w w1 went.output went.written))
        (rw went.feeds.adds.notes at (whole_appended n n1 went.notes went.reported)))

    -- so reading may fail, or memory run out
    pub pauses : (r r' : Option (List ℕ)) → Consumes r r' got → IfSome r (λ input. Begins (rest_ran settings form input) w w1 n n1)
    pauses None r' p = tt
    pauses (Some input) None p = absurd p
    pauses (Some input) (Some rest) p = rw p (begun rest)

    -- the run has stopped
    pub stops : (r r' left : Option (List ℕ)) (report : ReportData) → Consumes r r' got → now.is_stopped ≡ true →
        report ≡ report_of now →
        IfSome r (λ input. Ends (rest_ran settings form input) w w1 n n1 report left)
    stops None r' left report p s e = tt
    stops (Some input) None left report p s e = absurd p
    stops (Some input) (Some rest) left report p s e =
        let stopped : first.is_stopped ≡ true = sym went.feeds.adds.is_stopped ∙ s in
        rw (
          p,
          begins rest,
          then_runs-stopped first (later rest) stopped,
        ) (record {
          written = rw went.feeds.adds.output at went.written;
          reported = rw went.feeds.adds.notes at went.reported;
          is_refused = ap (λ k. k.is_refused) e ∙ went.feeds.adds.is_refused;
          is_stopped = ap (λ k. k.is_stopped) e ∙ went.feeds.adds.is_stopped;
          most_fields = ap (λ k. k.most_fields) e ∙ went.feeds.adds.most_fields ∙ zero-max first.most_fields;
          holding = ap (λ k. k.holding) e ∙ went.feeds.adds.holding;
          all_read = λ on. absurd (false≢true (sym on ∙ stopped));
        })

    module _ (on : now.is_stopped ≡ false) where
      abbrev last : Ran
      last = records_ran settings form now.stage (records_of settings.delimiter settings.end held)

      -- of an input that was read to its end this is all
      all : rest_ran settings form got ≡ joined_runs first last
      all =
          let going : first.is_stopped ≡ false = sym went.feeds.adds.is_stopped ∙ on in
          let stage : now.stage ≡ stage_behind settings (start_of settings) went.feeds.records = went.feeds.adds.stage on in
          let left : went.feeds.left ++ [] ≡ held = append-nil went.feeds.left ∙ sym (went.feeds.is_held on) in
          ap (rest_ran settings form) (sym (append-nil got)) ∙ begins [] ∙ then_runs-on first (later []) going
          ∙ rw (stage, left) refl

      -- at the end of the input what was held back is run
      pub ends : (r r' left w2 n2 : Option (List ℕ)) (report : ReportData) → Consumes r r' got → IsAtEnd r' → (IsKnown r' → left ≡ Some []) →
          Finishes last now w1 w2 n1 n2 report → IfSome r (λ input. Ends (rest_ran settings form input) w w2 n n2 report left)
      ends None r' left w2 n2 report p q e f = tt
      ends (Some input) None left w2 n2 report p q e f = absurd p
      ends (Some input) (Some rest) left w2 n2 report p q known f =
          let e : input ≡ got = p ∙ ap (λ (k : List ℕ). got ++ k) q ∙ append-nil got in
          rw (e, all) (record {
            written = Appends-then w w1 w2 first.output last.output (rw went.feeds.adds.output at went.written) f.written;
            reported = Appends-then n n1 n2 first.notes last.notes (rw went.feeds.adds.notes at went.reported) f.reported;
            is_refused = f.is_refused ∙ ap (λ k. k || last.is_refused) went.feeds.adds.is_refused;
            is_stopped = f.is_stopped;
            most_fields = f.most_fields ∙ ap (λ k. max k last.most_fields) (went.feeds.adds.most_fields ∙ zero-max first.most_fields);
            holding = f.holding ∙ ap (λ (k : List ℕ). first_of k last.holding) went.feeds.adds.holding;
            all_read = λ on. known tt;
          })

      -- or not all of it is written
      pub ends_early : (r r' w2 n2 : Option (List ℕ)) → Consumes r r' got → IsAtEnd r' → Begins last w1 w2 n1 n2 →
          IfSome r (λ input. Begins (rest_ran settings form input) w w2 n n2)
      ends_early None r' w2 n2 p q f = tt
      ends_early (Some input) None w2 n2 p q f = absurd p
      ends_early (Some input) (Some rest) w2 n2 p q f =
          let e : input ≡ got = p ∙ ap (λ (k : List ℕ). got ++ k) q ∙ append-nil got in
          rw (e, all) (record {
            written = AppendsBeginning-then w w1 w2 first.output last.output (rw went.feeds.adds.output at went.written) f.written;
            reported = AppendsBeginning-then n n1 n2 first.notes last.notes (rw went.feeds.adds.notes at went.reported) f.reported;
          })

  -- a block was run, and not all of what it writes and reports was written
  pub breaks : (w1 w2 n1 n2 r r' : Option (List ℕ)) (now next : GatheredData) (got held chunk held' : List ℕ) →
      Went settings form w w1 n n1 now got held → now.output ≡ [] → now.notes ≡ [] → now.is_stopped ≡ false →
      Feeds settings form now next held chunk held' → Consumes r r' (got ++ chunk) →
      AppendsBeginning w1 w2 next.output → AppendsBeginning n1 n2 next.notes →
      IfSome r (λ input. Begins (rest_ran settings form input) w w2 n n2)
  breaks w1 w2 n1 n2 None r' now next got held chunk held' went none none' on f p a b = tt
  breaks w1 w2 n1 n2 (Some input) None now next got held chunk held' went none none' on f p a b = absurd p
  breaks w1 w2 n1 n2 (Some input) (Some rest) now next got held chunk held' went none none' on f p a b' =
      let so_far = record next { output = went.output ++ next.output; notes = went.notes ++ next.notes } in
      let fed : Feeds settings form (start settings) so_far [] (got ++ chunk) held' =
      Feeds-then settings form (start settings) (record now { output = went.output; notes = went.notes }) so_far [] got held chunk held' on
      went.feeds (Feeds-shift settings form now next held chunk held' went.output went.notes none none' f) in
      rw (p, fed-begins settings form so_far (got ++ chunk) held' fed rest)
      (begins-then (records_ran settings form (start_of settings) fed.records)
      (records_ran settings form (stage_behind settings (start_of settings) fed.records)
      (records_of settings.delimiter settings.end (fed.left ++ rest))) w w2 n n2
      (rw fed.adds.output at (AppendsBeginning-then w w1 w2 went.output next.output went.written a))
      (rw fed.adds.notes at (AppendsBeginning-then n n1 n2 went.notes next.notes went.reported b')))
