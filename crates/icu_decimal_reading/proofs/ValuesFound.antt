-- The digits of a written number are found in its text, and its last run of digits is its fraction.
-- A text of a readable formatter is other characters, groups of digits with other characters between two, and, if there is a fraction, the
-- decimal separator and a run of digits; then other characters. Others have no value, and a digit's character has the value of the digit.
-- So the values are the number's digits. A decimal separator isn't empty, so it ends the run before it: the fraction is a run of its own.
use Rattle.std.proofs.Common.{◌≡◌, ◌≢◌, ◌⊎◌, inl, inr, ℕ, zero, suc, ◌+◌, ◌<◌, true, false}
use Rattle.std.proofs.Common.{arith, refl, sym, ap, ap₂, ◌∙◌, subst}
use Rattle.std.proofs.Common.{List, [], ◌∷◌, ◌++◌, length, map, slice_index, Contains, AllPairs, Some, None, append-nil, add-zero, zero-add}
use Rattle.std.specs.Prelude.{if◌then◌else◌, is_some}
use Rattle.std.specs.Str.{chars}
use Rattle.std.specs.List.{cons_option}
use Rattle.std.proofs.lemmas.Bool.{eq-eqb, ne_eqb}
use Rattle.std.proofs.lemmas.List.{take-append-drop}
use Rattle.std.proofs.lemmas.List.Elements.{filter_map-append}
use Rattle.fixed_decimal.specs.declared.signs.Sign.{Sign}
use Rattle.fixed_decimal.specs.Unsigned.{Unsigned, IsUnsigned, integer, fraction, integer_count}
use Rattle.writeable.specs.Events.{characters}
use Rattle.icu_decimal.specs.Decimal.{DecimalFormat, strategy_of, unsigned_events}
use Rattle.icu_decimal_options.specs.Grouping.{concatenated, joined, joined_after}
use Rattle.icu_decimal_options.proofs.GroupingLaws.{concatenated-digit_groups}
use Rattle.icu_decimal_readable.specs.Readable.{IsReadable, affixes}
use Rattle.icu_decimal.proofs.CharactersShown.{digit_characters, groups_of, characters-unsigned, characters-signed}
use Rattle.icu_decimal.proofs.DigitsDistinct.{IsDigit, IsOther, fraction_below, fraction_length, groups_some}
use Rattle.icu_decimal.proofs.Runs.{Every, Runs, every_of_all, fraction_text}
use Rattle.icu_decimal_reading.specs.declared.digits.Run.{Run}
use Rattle.icu_decimal_reading.specs.Reading.{written, value_from, value_of, values, run_past, run_behind, no_run, last_run, number_of}

-- a character that is none of the digits has no value
value_from-other : (digits : List ℕ) (n c : ℕ) → ¬ (Contains digits c) → value_from n digits c ≡ None
value_from-other [] n c other = refl
value_from-other (d ∷ ds) n c other =
    ap (λ b. if b then Some n else value_from (n + 1) ds c) (ne_eqb d c (λ e. other (0, omega arith, e)))
    ∙ value_from-other ds (n + 1) c (λ w. other (suc w.0, omega (arith, w.1), w.2))

-- a digit's character has the digit's value
value_from-digit : (digits : List ℕ) (n x : ℕ) → x < length digits → AllPairs (λ c d. c ≢ d) digits →
    value_from n digits (slice_index digits x) ≡ Some (n + x)
value_from-digit [] n x within different = absurd (omega arith)
value_from-digit (d ∷ ds) n zero within different =
    ap (λ b. if b then Some n else value_from (n + 1) ds d) (eq-eqb d d refl) ∙ ap Some (sym (add-zero n))
value_from-digit (d ∷ ds) n (suc x) within different =
    let sum : n + 1 + x ≡ n + suc x = omega arith in
    ap (λ b. if b then Some n else value_from (n + 1) ds (slice_index ds x)) (ne_eqb d (slice_index ds x) (different 0 (suc x) 0 (omega arith) within))
    ∙ value_from-digit ds (n + 1) x (omega (arith, within)) (λ i j e l k. different (suc i) (suc j) e (omega (arith, l)) (omega (arith, k)))
    ∙ ap Some sum

-- the number is one that the digits of the characters make: with none of them, or with the last run behind the separator
abbrev pub IsMadeBy : DecimalFormat → List ℕ → Unsigned → Type 0
IsMadeBy f cs u = (u ≡ number_of (values f.digits cs) 0) ⊎ (u ≡ number_of (values f.digits cs) (last_run f.digits cs))

module _ (f : DecimalFormat) (h : IsReadable f.symbols.strings f.digits) where
  digit_value : (x : ℕ) → x < 10 → value_of f.digits (slice_index f.digits x) ≡ Some x
  digit_value x below = value_from-digit f.digits 0 x (omega (arith, h.ten)) h.different ∙ ap Some (zero-add x)

  other_value : (c : ℕ) → IsOther f c → value_of f.digits c ≡ None
  other_value c other = value_from-other f.digits 0 c other

  -- ---- the values

  values-append : (xs ys : List ℕ) → values f.digits (xs ++ ys) ≡ values f.digits xs ++ values f.digits ys
  values-append xs ys = filter_map-append (value_of f.digits) xs ys

  values-others : (cs : List ℕ) → Every (IsOther f) cs → values f.digits cs ≡ []
  values-others [] k = refl
  values-others (c ∷ cs) k = ap (λ o. cons_option o (values f.digits cs)) (other_value c k.0) ∙ values-others cs k.1

  values-digits : (ds : List ℕ) → Every IsDigit ds → values f.digits (digit_characters f ds) ≡ ds
  values-digits [] k = refl
  values-digits (d ∷ ds) k =
      ap (λ o. cons_option o (values f.digits (digit_characters f ds))) (digit_value d k.0) ∙ ap (λ l. d ∷ l) (values-digits ds k.1)

  values-after : (group : List ℕ) → Every (IsOther f) group → (gs : List (List ℕ)) → Runs IsDigit gs →
      values f.digits (joined_after group (map (λ g. digit_characters f g) gs)) ≡ concatenated gs
  values-after group none [] k = refl
  values-after group none ([] ∷ gs) k = absurd k
  values-after group none ((x ∷ g) ∷ gs) k =
      values-append group (digit_characters f (x ∷ g) ++ joined_after group (map (λ g. digit_characters f g) gs))
      ∙ ap₂ ◌++◌ (values-others group none)
      (values-append (digit_characters f (x ∷ g)) (joined_after group (map (λ g. digit_characters f g) gs))
      ∙ ap₂ ◌++◌ (values-digits (x ∷ g) (k.0, k.1)) (values-after group none gs k.2))

  values-joined : (group : List ℕ) → Every (IsOther f) group → (gs : List (List ℕ)) → Runs IsDigit gs →
      values f.digits (joined group (map (λ g. digit_characters f g) gs)) ≡ concatenated gs
  values-joined group none [] k = refl
  values-joined group none ([] ∷ gs) k = absurd k
  values-joined group none ((x ∷ g) ∷ gs) k =
      values-append (digit_characters f (x ∷ g)) (joined_after group (map (λ g. digit_characters f g) gs))
      ∙ ap₂ ◌++◌ (values-digits (x ∷ g) (k.0, k.1)) (values-after group none gs k.2)

  values-fraction : (decimal : List ℕ) → Every (IsOther f) decimal → (fs : List ℕ) → Every IsDigit fs →
      values f.digits (fraction_text decimal (digit_characters f fs)) ≡ fs
  values-fraction decimal none [] k = refl
  values-fraction decimal none (x ∷ fs) k =
      values-append decimal (digit_characters f (x ∷ fs)) ∙ ap₂ ◌++◌ (values-others decimal none) (values-digits (x ∷ fs) k)

  -- ---- the last run

  abbrev behind : Run → List ℕ → Run
  behind run cs = run_behind f.digits run cs

  run-append : (run : Run) (xs ys : List ℕ) → behind run (xs ++ ys) ≡ behind (behind run xs) ys
  run-append run [] ys = refl
  run-append run (x ∷ xs) ys = run-append (run_past (is_some (value_of f.digits x)) run) xs ys

  run-others : (run : Run) (cs : List ℕ) → Every (IsOther f) cs → (behind run cs).count ≡ run.count
  run-others run [] k = refl
  run-others run (c ∷ cs) k =
      ap (λ o. (behind (run_past (is_some o) run) cs).count) (other_value c k.0) ∙ run-others (run_past false run) cs k.1

  run-closed : (run : Run) (cs : List ℕ) → run.is_open ≡ false → Every (IsOther f) cs → (behind run cs).is_open ≡ false
  run-closed run [] e k = e
  run-closed run (c ∷ cs) e k =
      ap (λ o. (behind (run_past (is_some o) run) cs).is_open) (other_value c k.0) ∙ run-closed (run_past false run) cs refl k.1

  run-ended : (run : Run) (c : ℕ) (cs : List ℕ) → Every (IsOther f) (c ∷ cs) → (behind run (c ∷ cs)).is_open ≡ false
  run-ended run c cs k =
      ap (λ o. (behind (run_past (is_some o) run) cs).is_open) (other_value c k.0) ∙ run-closed (run_past false run) cs refl k.1

  run-digits : (run : Run) (ds : List ℕ) → run.is_open ≡ true → Every IsDigit ds →
      (behind run (digit_characters f ds)).count ≡ run.count + length ds
  run-digits run [] e k = sym (add-zero run.count)
  run-digits run (d ∷ ds) e k =
      let sum : run.count + 1 + length ds ≡ run.count + length (d ∷ ds) = omega arith in
      ap (λ o. (behind (run_past (is_some o) run) (digit_characters f ds)).count) (digit_value d k.0)
      ∙ run-digits (run_past true run) ds refl k.1 ∙ ap (λ b. (if b then run.count + 1 else 1) + length ds) e ∙ sum

  run-begun : (run : Run) (d : ℕ) (ds : List ℕ) → run.is_open ≡ false → Every IsDigit (d ∷ ds) →
      (behind run (digit_characters f (d ∷ ds))).count ≡ length (d ∷ ds)
  run-begun run d ds e k =
      let sum : 1 + length ds ≡ length (d ∷ ds) = omega arith in
      ap (λ o. (behind (run_past (is_some o) run) (digit_characters f ds)).count) (digit_value d k.0)
      ∙ run-digits (run_past true run) ds refl k.1 ∙ ap (λ b. (if b then run.count + 1 else 1) + length ds) e ∙ sum

  run-fraction : (run : Run) (decimal : List ℕ) → Every (IsOther f) decimal → decimal ≢ [] → (d : ℕ) (ds : List ℕ) →
      Every IsDigit (d ∷ ds) → (behind run (fraction_text decimal (digit_characters f (d ∷ ds)))).count ≡ length (d ∷ ds)
  run-fraction run [] none some d ds k = absurd (some refl)
  run-fraction run (c ∷ cs) none some d ds k =
      ap (λ (r : Run). r.count) (run-append run (c ∷ cs) (digit_characters f (d ∷ ds)))
      ∙ run-begun (behind run (c ∷ cs)) d ds (run-ended run c cs none) k

  -- ---- a written number

  -- a number between two texts without a digit
  module _ (before after : List ℕ) (before_none : Every (IsOther f) before) (after_none : Every (IsOther f) after) (u : Unsigned) (hu : IsUnsigned u) where
    abbrev whole : List ℕ
    whole = joined (chars f.symbols.strings.grouping_separator) (map (λ g. digit_characters f g) (groups_of f u))

    abbrev part : List ℕ
    part = fraction_text (chars f.symbols.strings.decimal_separator) (digit_characters f (fraction u))

    decimal_others : Every (IsOther f) (chars f.symbols.strings.decimal_separator)
    decimal_others = every_of_all (IsOther f) (chars f.symbols.strings.decimal_separator) h.decimal_free

    group_others : Every (IsOther f) (chars f.symbols.strings.grouping_separator)
    group_others = every_of_all (IsOther f) (chars f.symbols.strings.grouping_separator) h.grouping_free

    -- the values that are found are the number's digits
    values-between : values f.digits (before ++ ((whole ++ part) ++ after)) ≡ u.digits
    values-between =
        values-append before ((whole ++ part) ++ after)
        ∙ ap₂ ◌++◌ (values-others before before_none)
        (values-append (whole ++ part) after
        ∙ ap₂ ◌++◌ (values-append whole part
        ∙ ap₂ ◌++◌ (values-joined (chars f.symbols.strings.grouping_separator) group_others (groups_of f u) (groups_some u hu f).0)
        (values-fraction (chars f.symbols.strings.decimal_separator) decimal_others (fraction u) (fraction_below u hu)))
        (values-others after after_none))
        ∙ append-nil (concatenated (groups_of f u) ++ fraction u)
        ∙ ap (λ l. l ++ fraction u) (concatenated-digit_groups (integer u) f.symbols.grouping_sizes (strategy_of f.options))
        ∙ take-append-drop (integer_count u) u.digits

    -- the last run is the fraction, if there is one
    last_run-between : (d : ℕ) (ds : List ℕ) → fraction u ≡ d ∷ ds → last_run f.digits (before ++ ((whole ++ part) ++ after)) ≡ length (d ∷ ds)
    last_run-between d ds e =
        ap (λ (r : Run). r.count) (run-append no_run before ((whole ++ part) ++ after) ∙ run-append (behind no_run before) (whole ++ part) after)
        ∙ run-others (behind (behind no_run before) (whole ++ part)) after after_none
        ∙ ap (λ (r : Run). r.count) (run-append (behind no_run before) whole part)
        ∙ ap (λ fs. (behind (behind (behind no_run before) whole)
        (fraction_text (chars f.symbols.strings.decimal_separator) (digit_characters f fs))).count) e
        ∙ run-fraction (behind (behind no_run before) whole) (chars f.symbols.strings.decimal_separator) decimal_others h.decimal_some d ds
        (subst (Every IsDigit) e (fraction_below u hu))

    read_with : (scale : ℕ) → u.scale ≡ scale → u ≡ number_of (values f.digits (before ++ ((whole ++ part) ++ after))) scale
    read_with scale e =
        let of : List ℕ → ℕ → Unsigned = λ ds n. record { digits = ds; scale = n } in
        ap₂ of (sym values-between) e

    -- the number is one that the digits of the whole text make
    number_between : IsMadeBy f (before ++ ((whole ++ part) ++ after)) u
    number_between = go (fraction u) refl
      where
        go : (fs : List ℕ) → fraction u ≡ fs → IsMadeBy f (before ++ ((whole ++ part) ++ after)) u
        go [] e = inl (read_with 0 (sym (fraction_length u hu) ∙ ap length e))
        go (d ∷ ds) e = inr (read_with (last_run f.digits (before ++ ((whole ++ part) ++ after)))
            (sym (fraction_length u hu) ∙ ap length e ∙ sym (last_run-between d ds e)))

    -- so it is of a text with the characters of the number between these two
    pub number_inside : (cs : List ℕ) → cs ≡ before ++ (characters (unsigned_events f u) ++ after) → IsMadeBy f cs u
    number_inside cs e = subst (λ l. IsMadeBy f l u) (sym (e ∙ ap (λ l. before ++ (l ++ after)) (characters-unsigned f u))) number_between

  -- a written number is one that its text's digits make
  pub number_found : (sign : Sign) (u : Unsigned) → IsUnsigned u → IsMadeBy f (written f sign u) u
  number_found sign u hu =
      let a = affixes f.symbols.strings sign in
      number_inside a.before a.after (every_of_all (IsOther f) a.before (h.affixes_free sign).before_free)
      (every_of_all (IsOther f) a.after (h.affixes_free sign).after_free) u hu (written f sign u) (characters-signed f sign (unsigned_events f u))
