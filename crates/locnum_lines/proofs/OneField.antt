-- A text that is shown as a number is a whole field without blanks, unless a byte of numbers ends fields.
use Rattle.std.proofs.Common.{◌≡◌, ◌≤◌, ℕ, suc, Bool, true, false, List, [], ◌∷◌, ◌++◌, length, take, drop}
use Rattle.std.proofs.Common.{Option, Some, None, refl, sym, ap, ◌∙◌, arith}
use Rattle.std.specs.Prelude.{◌&&◌, ◌==◌, Result, Ok, Err, if◌then◌else◌}
use Rattle.std.specs.Char.{is_ascii_digit}
use Rattle.std.proofs.lemmas.Bool.{eqb-true, false≢true}
use Rattle.std.proofs.lemmas.List.{append-nil, drop_all}
use Rattle.std.proofs.Math.Seq.{take-length}
use Rattle.std.proofs.lemmas.Bool.Decides.{nat_tests}
use Rattle.writeable.specs.Events.{Event, text_of}
use Rattle.decimal_lines.specs.SingleText.{decimal_read, within_or}
use Rattle.decimal_lines.specs.declared.single_text.TextError.{TextError}
use Rattle.number_forms.specs.Forms.{FormData, ◌>>=◌, form_events, read_events}
use Rattle.fixed_decimal.specs.declared.signs.Sign.{Sign}
use Rattle.fixed_decimal.specs.declared.signs.Sign.TheVariants.{None as no_sign, Negative, Positive}
use Rattle.fixed_decimal.specs.Reading.{Digits, after_integer, digit_before, leading_digits, reading, signed, unsigned_reading, with_fraction}
use Rattle.fixed_decimal.specs.Unsigned.{Unsigned}
use Rattle.locnum_lines.specs.Fields.{Cut, blanks_before, content_length, cut_field, ends_field, field_length, is_blank, is_blank_behind}
use Rattle.locnum_lines.specs.Fields.{is_plain, next_state, with_byte}
use Rattle.locnum_lines.specs.FieldRuns.{blanks_kept, chosen_ran, field_ran, held_by}
use Rattle.locnum_lines.specs.Gathered.{Adds, GatheredData, GoesOn}
use Rattle.locnum_lines.specs.Padding.{padded}
use Rattle.locnum_lines.specs.Ran.{first_of}
use Rattle.locnum_lines.specs.Settings.{SettingsData, is_chosen}
use Rattle.locnum_lines.specs.Stage.{fields_of}
use Rattle.locnum_lines.specs.Whole.{LeavesNumbers, is_of_numbers}
use Rattle.locnum_lines.proofs.Goes.{goes-last}
use Rattle.locnum_lines.proofs.Numbers.{field-picked, number-shown, parts-chosen, width}
use Rattle.locnum_lines.specs.Widths.{width_by}
use Rattle.locnum_lines.specs.declared.cutting.FieldState.TheVariants.{Front}
use Rattle.locnum_lines.specs.declared.padding.Width.{Width}
use Rattle.locnum_lines.specs.declared.cutting.FieldState.{FieldState}
use Rattle.locnum_lines.specs.declared.settings.Delimiter.{Delimiter}
use Rattle.locnum_lines.specs.declared.settings.Delimiter.TheVariants.{Blanks, Byte, Csv}

-- each byte may stand in a number
abbrev pub AreOfNumbers : List ℕ → Type 0
AreOfNumbers [] = Unit {0}
AreOfNumbers (b ∷ bs) = (is_of_numbers b ≡ true) × AreOfNumbers bs

-- digits may, and so may all if what follows them may
with-digits : (bs : List ℕ) → AreOfNumbers (leading_digits bs).rest → AreOfNumbers bs
with-digits [] h = tt
with-digits (b ∷ bs) h = go (is_ascii_digit b) refl (with-digits bs) h
  where
    go : (t : Bool) → is_ascii_digit b ≡ t → (AreOfNumbers (leading_digits bs).rest → AreOfNumbers bs) →
        (let d : Digits = if t then digit_before b (leading_digits bs) else record { values = []; rest = b ∷ bs } in AreOfNumbers d.rest) →
        AreOfNumbers (b ∷ bs)
    go true e i h = (rw e refl, i h)
    go false e i h = h

-- nothing follows the digits of a fraction
fraction-ends : (before values rest : List ℕ) (d : Unsigned) → with_fraction before values rest ≡ Some d → rest ≡ []
fraction-ends before [] rest d e = absurd cc
fraction-ends before (x ∷ xs) [] d e = refl
fraction-ends before (x ∷ xs) (b ∷ bs) d e = absurd cc

-- what follows the digits in front of the point
behind-integer : (before rest : List ℕ) (d : Unsigned) → after_integer before rest ≡ Some d → AreOfNumbers rest
behind-integer before [] d e = tt
behind-integer before (b ∷ bs) d e = go (b == 46) refl e
  where
    go : (t : Bool) → (b == 46) ≡ t →
        (if t then with_fraction before (leading_digits bs).values (leading_digits bs).rest else None) ≡ Some d → AreOfNumbers (b ∷ bs)
    go true p f =
        let none = fraction-ends before (leading_digits bs).values (leading_digits bs).rest d f in
        let point : is_of_numbers b ≡ true = rw (eqb-true b 46 p) refl in
        (point, with-digits bs (rw none tt))
    go false p f = absurd cc

-- a text without a sign
unsigned-of : (text : List ℕ) (d : Unsigned) → unsigned_reading text ≡ Some d → AreOfNumbers text
unsigned-of text d e = with-digits text (behind-integer (leading_digits text).values (leading_digits text).rest d e)

-- and with one
signed-of : (sign sign' : Sign) (text : List ℕ) (o : Option Unsigned) (d : Unsigned) → unsigned_reading text ≡ o →
    signed sign' o ≡ Some (sign, d) → AreOfNumbers text
signed-of sign sign' text None d e f = absurd cc
signed-of sign sign' text (Some u) d e f = unsigned-of text u e

-- each byte of a text that reads as a decimal may stand in a number
pub reading-of : (text : List ℕ) (sign : Sign) (d : Unsigned) → reading text ≡ Some (sign, d) → AreOfNumbers text
unfolding reading
reading-of [] sign d e = absurd cc
reading-of (b ∷ bs) sign d e = go (b == 45) (b == 43) refl refl e
  where
    go : (t u : Bool) → (b == 45) ≡ t → (b == 43) ≡ u →
        (if t then signed Negative (unsigned_reading bs) else
        (if u then signed Positive (unsigned_reading bs) else signed no_sign (unsigned_reading (b ∷ bs)))) ≡ Some (sign, d) →
        AreOfNumbers (b ∷ bs)
    go true u p q e =
        let minus : is_of_numbers b ≡ true = rw (eqb-true b 45 p) refl in
        (minus, signed-of sign Negative bs (unsigned_reading bs) d refl e)
    go false true p q e =
        let plus : is_of_numbers b ≡ true = rw (eqb-true b 43 q) refl in
        (plus, signed-of sign Positive bs (unsigned_reading bs) d refl e)
    go false false p q e = signed-of sign no_sign (b ∷ bs) (unsigned_reading (b ∷ bs)) d refl e

-- a byte of a number is no blank
no-blank : (b : ℕ) → is_of_numbers b ≡ true → is_blank b ≡ false
no-blank b h = grind (arith, nat_tests)

no-blank-behind : (b : ℕ) → is_of_numbers b ≡ true → is_blank_behind b ≡ false
no-blank-behind b h = grind (arith, nat_tests)

-- and ends no field
goes-on : (delimiter : Delimiter) (state : FieldState) (b : ℕ) → LeavesNumbers delimiter → is_of_numbers b ≡ true →
    ends_field delimiter state b ≡ false
goes-on Blanks state b leaves h = rw (no-blank b h) (neither (is_plain state))
  where
    neither : (t : Bool) → (t && false) ≡ false
    neither true = refl
    neither false = refl
goes-on (Byte delimiter) state b leaves h = go (b == delimiter) refl
  where
    go : (t : Bool) → (b == delimiter) ≡ t → t ≡ false
    go true e = absurd (false≢true (sym leaves ∙ ap is_of_numbers (sym (eqb-true b delimiter e)) ∙ h))
    go false e = refl
goes-on (Csv delimiter) state b leaves h = absurd leaves

-- a number is a whole field
pub whole-field : (delimiter : Delimiter) (state : FieldState) (text : List ℕ) → LeavesNumbers delimiter → AreOfNumbers text →
    field_length delimiter state text ≡ length text
unfolding field_length
whole-field delimiter state [] leaves h = refl
whole-field delimiter state (b ∷ bs) leaves h =
    rw (goes-on delimiter state b leaves h.0) (ap suc (whole-field delimiter (next_state delimiter state b) bs leaves h.1))

no-blanks-before : (text : List ℕ) → AreOfNumbers text → blanks_before text ≡ 0
unfolding blanks_before
no-blanks-before [] h = refl
no-blanks-before (b ∷ bs) h = rw (no-blank b h.0) refl

all-content : (text : List ℕ) → AreOfNumbers text → content_length text ≡ length text
unfolding content_length
all-content [] h = refl
all-content (b ∷ bs) h = rw (all-content bs h.1) (last bs)
  where
    last : (xs : List ℕ) → with_byte b (length xs) ≡ suc (length xs)
    last [] = rw (no-blank-behind b h.0) refl
    last (x ∷ xs) = refl

-- without blanks
pub cut_field-whole : (text : List ℕ) → AreOfNumbers text → cut_field text ≡ record { before = []; number = text; behind = [] }
cut_field-whole text h =
    let none = no-blanks-before text h in
    let all = all-content text h in
    rw (none, all, take-length text, drop_all (length text) text (omega arith)) refl

-- what is read
decimal-of : (text : List ℕ) (read : Sign × Unsigned) → decimal_read text ≡ Ok read → AreOfNumbers text
unfolding decimal_read
decimal-of text read e = go (reading text) refl e
  where
    go : (o : Option (Sign × Unsigned)) → reading text ≡ o → within_or o ≡ Ok read → AreOfNumbers text
    go None r f = absurd cc
    go (Some (sign, d)) r f = reading-of text sign d r

-- and what is shown
shown-of : (form : FormData) (text : List ℕ) (events : List Event) → form_events form text ≡ Ok events → AreOfNumbers text
unfolding form_events
shown-of form text events e = go (decimal_read text) refl e
  where
    go : (r : Result (Sign × Unsigned) TextError) → decimal_read text ≡ r → (r >>= read_events form) ≡ Ok events → AreOfNumbers text
    go (Ok read) r f = decimal-of text read r
    go (Err error) r f = absurd cc

-- a text that takes the width of its field, behind no blanks
filled : (w : Option Width) (text : List ℕ) → padded w text ≡ text → blanks_kept w [] ++ padded w text ≡ text
filled None text e = refl
filled (Some w) text e = e

-- the rest of a record that is shown as a number, which takes the width of its field, is its last field
pub whole-goes : (settings : SettingsData) (form : FormData) (index : ℕ) (line : List ℕ) (old new : GatheredData) →
    LeavesNumbers settings.delimiter → is_chosen (fields_of settings old.stage) index ≡ true → index ≤ old.most_fields →
    old.is_stopped ≡ false → (events : List Event) → form_events form line ≡ Ok events →
    padded (width_by settings.delimiter settings.padding index [] line) (text_of events) ≡ text_of events →
    new ≡ record old { output = old.output ++ text_of events; holding = first_of old.holding (held_by settings.delimiter (text_of events)) } →
    GoesOn settings form index old new line None
whole-goes settings form index line old new leaves chosen counted going events shown stands written =
    let of_numbers = shown-of form line events shown in
    let is : length line ≡ field_length settings.delimiter Front line = sym (whole-field settings.delimiter Front line leaves of_numbers) in
    let field : Cut = record { before = []; number = line; behind = [] } in
    let all : new ≡ record new { output = new.output ++ [] } =
    ap (λ (k : List ℕ). record new { output = k }) (sym (append-nil new.output)) in
    let first : new ≡ record old {
      output = old.output ++ (blanks_kept (width settings form old.stage index field) []
          ++ padded (width settings form old.stage index field) (text_of events));
      holding = first_of old.holding (held_by settings.delimiter (text_of events));
    } =
    rw (filled (width_by settings.delimiter settings.padding index [] line) (text_of events) stands) written in
    let adds = parts-chosen settings form old.stage old.stage index old new line [] line [] (cut_field-whole line of_numbers)
    (number-shown settings form old.stage index field old new new events going shown first all) in
    let picked : Adds old new (field_ran settings form old.stage index line) old.stage = pick settings.delimiter leaves refl adds in
    goes-last settings form index line (length line) is old new (rw (take-length line) picked) (ap (λ g. g.is_stopped) written ∙ going) refl
  where
    pick : (delimiter : Delimiter) → LeavesNumbers delimiter → settings.delimiter ≡ delimiter →
        Adds old new (chosen_ran settings form old.stage index (cut_field line)) old.stage →
        Adds old new (field_ran settings form old.stage index line) old.stage
    pick Blanks l e a = field-picked settings form old.stage old.stage index line chosen Blanks e old new counted a
    pick (Byte delimiter) l e a = field-picked settings form old.stage old.stage index line chosen (Byte delimiter) e old new counted a
    pick (Csv delimiter) l e a = absurd l

-- what was written behind others is forgotten, where blanks end fields
pub forgotten : (old : GatheredData) (text : List ℕ) →
    record old { output = take (length old.output) (old.output ++ text); holding = first_of old.holding [] } ≡ old
forgotten old text =
    rw (take-front old.output text, first_of-nothing old.holding) refl
  where
    take-front : (xs ys : List ℕ) → take (length xs) (xs ++ ys) ≡ xs
    take-front [] ys = refl
    take-front (x ∷ xs) ys = ap (λ (k : List ℕ). x ∷ k) (take-front xs ys)

    first_of-nothing : (xs : List ℕ) → first_of xs [] ≡ xs
    first_of-nothing [] = refl
    first_of-nothing (x ∷ xs) = refl

-- what stands behind others
pub behind-front : (xs ys : List ℕ) → drop (length xs) (xs ++ ys) ≡ ys
behind-front [] ys = refl
behind-front (x ∷ xs) ys = behind-front xs ys
