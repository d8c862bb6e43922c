-- Fields that go through as they are, and lines that aren't counted byte by byte.
use Rattle.std.proofs.Common.{◌≡◌, ℕ, ◌+◌, ◌≤◌, false, List, [], ◌∷◌, ◌++◌, get_or}
use Rattle.std.proofs.Common.{take, Option, Some, None, refl, sym, ap, ◌∙◌, append_assoc, arith}
use Rattle.std.proofs.lemmas.List.{take_all, take_more}
use Rattle.number_forms.specs.Forms.{FormData}
use Rattle.locnum_lines.specs.Fields.{field_length}
use Rattle.locnum_lines.specs.Gathered.{GatheredData, GoesOn}
use Rattle.locnum_lines.specs.Passed.{IsPassed}
use Rattle.locnum_lines.specs.Records.{IsPartLine, lines_in}
use Rattle.locnum_lines.specs.Settings.{SettingsData, is_chosen}
use Rattle.locnum_lines.specs.Stage.{fields_of}
use Rattle.locnum_lines.specs.declared.cutting.FieldState.TheVariants.{Front}
use Rattle.locnum_lines.proofs.Adding.{Adds-writes}
use Rattle.locnum_lines.proofs.Goes.{goes-last, goes-on}
use Rattle.locnum_lines.proofs.Numbers.{field-passed}

-- bytes without the end of a line are one line
pub one-line : (end : ℕ) (line : List ℕ) → IsPartLine end line → 1 ≡ lines_in end line
one-line end [] part = refl
one-line end (b ∷ bs) part = rw part.0 (one-line end bs part.1)

-- a field that isn't chosen, and the byte behind it
pub passed-goes : (settings : SettingsData) (form : FormData) (index : ℕ) (line : List ℕ) (n : ℕ) (old new : GatheredData) →
    n ≡ field_length settings.delimiter Front line → is_chosen (fields_of settings old.stage) index ≡ false →
    index ≤ old.most_fields → old.is_stopped ≡ false →
    (rest : Option (List ℕ)) → IsPassed old new line n rest → GoesOn settings form index old new line rest
passed-goes settings form index line n old new is not_chosen counted going None passed =
    let all : line ≡ take n line = sym (take_all n line (omega (arith, passed.1))) in
    let written : new ≡ record old { output = old.output ++ take n line } =
    passed.0 ∙ ap (λ (k : List ℕ). record old { output = old.output ++ k }) all in
    let adds = field-passed settings form old.stage old.stage index (take n line) not_chosen old new counted
    (Adds-writes old new (take n line) going written) in
    goes-last settings form index line n is old new adds (ap (λ g. g.is_stopped) passed.0 ∙ going) passed.1
passed-goes settings form index line n old new is not_chosen counted going (Some rest) passed =
    let mid : GatheredData = record old { output = old.output ++ take n line } in
    let adds = field-passed settings form old.stage old.stage index (take n line) not_chosen old mid counted
    (Adds-writes old mid (take n line) going refl) in
    let output : old.output ++ take (n + 1) line ≡ (old.output ++ take n line) ++ get_or line n 0 ∷ [] =
    ap (λ (k : List ℕ). old.output ++ k) (take_more line n 0 passed.1) ∙ sym (append_assoc old.output (take n line) (get_or line n 0 ∷ [])) in
    let written : new ≡ record mid { output = mid.output ++ get_or line n 0 ∷ [] } =
    passed.0 ∙ ap (λ (k : List ℕ). record old { output = k }) output in
    rw passed.2 (goes-on settings form index line n is old mid adds new going passed.1
    (Adds-writes mid new (get_or line n 0 ∷ []) going written))
