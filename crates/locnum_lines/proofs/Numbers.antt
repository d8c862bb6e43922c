-- One field: what its number adds.
use Rattle.std.proofs.Common.{◌≡◌, ◌≢◌, ◌≤◌, ℕ, true, false, List, ◌++◌, drop, refl, sym, ap, ◌∙◌, append_assoc}
use Rattle.std.proofs.Common.{subst, inl, inr}
use Rattle.std.specs.Prelude.{Result, Ok, Err, Option, option_map}
use Rattle.std.proofs.Math.Nat.{max-zero}
use Rattle.std.proofs.lemmas.List.{append-nil}
use Rattle.writeable.specs.Events.{Event, text_of}
use Rattle.decimal_lines.specs.SingleText.{AppendsEvents, IsRefusal}
use Rattle.decimal_lines.specs.declared.single_text.TextError.{TextError}
use Rattle.decimal_lines.specs.declared.single_text.TextError.TheVariants.{OutOfMemory}
use Rattle.number_forms.specs.Forms.{FormData, form_events}
use Rattle.locnum_lines.specs.FieldRuns.{blanks_kept, chosen_ran, csv_cut_ran, field_ran, held_by, picked_ran, refused_ran, writes_number}
use Rattle.locnum_lines.specs.Csv.{as_field, core_length, is_in_quotes}
use Rattle.locnum_lines.specs.Fields.{Cut, cut_field}
use Rattle.locnum_lines.specs.Notes.{note, position_text}
use Rattle.locnum_lines.specs.Padding.{padded}
use Rattle.locnum_lines.specs.Settings.{SettingsData, is_chosen}
use Rattle.locnum_lines.specs.declared.settings.Delimiter.{Delimiter}
use Rattle.locnum_lines.specs.Gathered.{Adds, GatheredData}
use Rattle.locnum_lines.specs.Ran.{Ran, first_of, writes}
use Rattle.locnum_lines.specs.Stage.{Stage, fields_of}
use Rattle.locnum_lines.specs.Widths.{padding_width, width_by}
use Rattle.locnum_lines.specs.declared.padding.Width.{Width}
use Rattle.locnum_lines.proofs.Adding.{Adds-recounted, Adds-within, Adds-writes, or_false}

-- what is appended for a text has events
pub shown-events : (shown : Result (List Event) TextError) (old new : List ℕ) → AppendsEvents shown old new →
    (events : List Event) × (shown ≡ Ok events) × (new ≡ old ++ text_of events)
shown-events (Ok events) old new e = (events, refl, e)
shown-events (Err error) old new e = absurd e

-- behind a number that was shown in this width
abbrev pub shown_by : Option Width → Delimiter → List ℕ → List Event → GatheredData → GatheredData
shown_by width delimiter before events old = record old {
  output = old.output ++ (blanks_kept width before ++ padded width (text_of events));
  holding = first_of old.holding (held_by delimiter (text_of events));
}

-- a number was written between other bytes
Adds-number : (old new : GatheredData) (delimiter : Delimiter) (number bytes : List ℕ) → old.is_stopped ≡ false →
    new ≡ record old { output = old.output ++ bytes; holding = first_of old.holding (held_by delimiter number) } →
    Adds old new (writes_number delimiter number bytes) old.stage
Adds-number old new delimiter number bytes going e = record {
  output = ap (λ g. g.output) e;
  notes = ap (λ g. g.notes) e ∙ sym (append-nil old.notes);
  is_refused = ap (λ g. g.is_refused) e ∙ or_false old.is_refused;
  is_stopped = ap (λ g. g.is_stopped) e ∙ going;
  most_fields = ap (λ g. g.most_fields) e ∙ sym (max-zero old.most_fields);
  holding = ap (λ g. g.holding) e;
  stage = λ on. ap (λ g. g.stage) e;
}

module _ (settings : SettingsData) (form : FormData) (stage : Stage) (index : ℕ) (field : Cut) where
  -- how wide its number is
  abbrev pub width : Option Width
  width = width_by settings.delimiter settings.padding index field.before field.number

  -- a number that is shown, in its columns, and then what is behind it
  pub number-shown : (old mid new : GatheredData) (events : List Event) → old.is_stopped ≡ false → form_events form field.number ≡ Ok events →
      mid ≡ shown_by width settings.delimiter field.before events old →
      new ≡ record mid { output = mid.output ++ field.behind } → Adds old new (chosen_ran settings form stage index field) old.stage
  unfolding chosen_ran
  number-shown old mid new events going shown first second =
      let text : List ℕ = blanks_kept width field.before ++ padded width (text_of events) in
      let holding : List ℕ = first_of old.holding (held_by settings.delimiter (text_of events)) in
      rw shown (Adds-number old new settings.delimiter (text_of events) (text ++ field.behind) going
      (second ∙ ap (λ (m : GatheredData). record m { output = m.output ++ field.behind }) first
      ∙ ap (λ (k : List ℕ). record old { output = k; holding = holding }) (append_assoc old.output text field.behind)))

-- a number that is rejected, behind the blanks in front of it
pub number-refused : (settings : SettingsData) (form : FormData) (index : ℕ) (field : Cut) (old mid new : GatheredData) (error : TextError) →
    old.is_stopped ≡ false → IsRefusal (form_events form field.number) error → error ≢ OutOfMemory →
    mid ≡ record old { output = old.output ++ field.before } →
    Adds mid new (refused_ran settings.refusals (field.number ++ field.behind)
    (note (position_text settings.source mid.stage.lines mid.stage.names index) field.number error)) mid.stage →
    Adds old new (chosen_ran settings form old.stage index field) old.stage
unfolding chosen_ran
number-refused settings form index field old mid new error going (inl e) told same adds = absurd (told e)
number-refused settings form index field old mid new error going (inr e) told same adds =
    let refused : Stage → Ran = λ (k : Stage). refused_ran settings.refusals (field.number ++ field.behind)
    (note (position_text settings.source k.lines k.names index) field.number error) in
    let moved : Adds mid new (refused old.stage) mid.stage =
    subst (λ (k : Stage). Adds mid new (refused k) mid.stage) (ap (λ g. g.stage) same) adds in
    rw e (Adds-within old mid new (writes field.before) (refused old.stage) (Adds-writes old mid field.before going same) refl moved)

module _ (settings : SettingsData) (form : FormData) (stage after : Stage) (index : ℕ) (text : List ℕ) where
  -- a field that isn't chosen
  pub field-passed : is_chosen (fields_of settings stage) index ≡ false → (old new : GatheredData) → index ≤ old.most_fields →
      Adds old new (writes text) after →
      Adds old new (field_ran settings form stage index text) after
  unfolding field_ran
  field-passed not_chosen old new counted adds = rw not_chosen (Adds-recounted old new (writes text) index after counted adds)

  -- a field that is
  pub field-picked : is_chosen (fields_of settings stage) index ≡ true → (delimiter : Delimiter) → settings.delimiter ≡ delimiter →
      (old new : GatheredData) →
      index ≤ old.most_fields → Adds old new (picked_ran settings form stage index delimiter text) after →
      Adds old new (field_ran settings form stage index text) after
  unfolding field_ran
  field-picked chosen delimiter is old new counted adds =
      rw chosen (Adds-recounted old new (picked_ran settings form stage index settings.delimiter text) index after counted
      (subst (λ (d : Delimiter). Adds old new (picked_ran settings form stage index d text) after) (sym is) adds))

module _ (settings : SettingsData) (form : FormData) (stage after : Stage) (index : ℕ) (old new : GatheredData) where
  -- by the parts of its text
  pub parts-chosen : (text before number behind : List ℕ) → cut_field text ≡ record { before = before; number = number; behind = behind } →
      Adds old new (chosen_ran settings form stage index (record { before = before; number = number; behind = behind })) after →
      Adds old new (chosen_ran settings form stage index (cut_field text)) after
  parts-chosen text before number behind parts adds =
      subst (λ (field : Cut). Adds old new (chosen_ran settings form stage index field) after) (sym parts) adds

  module _ (delimiter : ℕ) (text : List ℕ) where
    -- of CSV by the parts of its content
    pub parts-csv : (content before number behind : List ℕ) → cut_field content ≡ record { before = before; number = number; behind = behind } →
        Adds old new (csv_cut_ran settings form stage index delimiter text (record { before = before; number = number; behind = behind })) after →
        Adds old new (csv_cut_ran settings form stage index delimiter text (cut_field content)) after
    parts-csv content before number behind parts adds =
        subst (λ (field : Cut). Adds old new (csv_cut_ran settings form stage index delimiter text field) after) (sym parts) adds

    -- a field of CSV whose number is shown
    pub csv-shown : (field : Cut) (events : List Event) (shown : List ℕ) → old.is_stopped ≡ false → old.stage ≡ after →
        form_events form field.number ≡ Ok events →
        shown ≡ (blanks_kept (option_map padding_width settings.padding) field.before
        ++ padded (option_map padding_width settings.padding) (text_of events)) ++ field.behind →
        new ≡ record old {
          output = old.output ++ (as_field delimiter settings.end (is_in_quotes text) shown ++ drop (core_length text) text);
        } → Adds old new (csv_cut_ran settings form stage index delimiter text field) after
    unfolding csv_cut_ran
    csv-shown field events shown going same is_shown is e =
        rw (is_shown, ← is, ← same) (Adds-writes old new (as_field delimiter settings.end (is_in_quotes text) shown ++ drop (core_length text) text)
        going e)

    -- and one whose number is rejected
    pub csv-refused : (field : Cut) (error : TextError) → IsRefusal (form_events form field.number) error → error ≢ OutOfMemory →
        Adds old new (refused_ran settings.refusals text
        (note (position_text settings.source stage.lines stage.names index) field.number error)) after →
        Adds old new (csv_cut_ran settings form stage index delimiter text field) after
    unfolding csv_cut_ran
    csv-refused field error (inl e) told adds = absurd (told e)
    csv-refused field error (inr e) told adds = rw e adds
