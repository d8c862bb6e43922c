-- A decimal is determined by the characters of its digits on both sides of the point.
use Rattle.std.proofs.Common.{◌≡◌, ◌≢◌, ℕ, ◌<◌, ⊎_elim, arith, refl, sym, ap, ap₂, ◌∙◌, subst, List, [], ◌∷◌, ◌++◌}
use Rattle.std.proofs.Common.{length, map, slice_index, Contains, length-take, length-drop}
use Rattle.std.proofs.lemmas.List.{take-append-drop, get_or_default}
use Rattle.std.proofs.lemmas.Bool.{cases_order}
use Rattle.fixed_decimal.specs.Unsigned.{Unsigned, IsUnsigned, integer_count, integer, fraction}
use Rattle.icu_decimal.specs.Decimal.{DecimalFormat, strategy_of}
use Rattle.icu_decimal_options.specs.Grouping.{concatenated, digit_groups}
use Rattle.icu_decimal_readable.specs.Readable.{IsReadable}
use Rattle.icu_decimal.proofs.CharactersShown.{digit_characters, groups_of}
use Rattle.icu_decimal.proofs.GroupRuns.{runs-groups, some_groups}
use Rattle.icu_decimal_options.proofs.GroupingLaws.{concatenated-digit_groups}
use Rattle.icu_decimal.proofs.Runs.{Every, Runs, every_of_all, every_before, every_after, every_map, runs_map, concatenated-map}

-- a digit
abbrev pub IsDigit : ℕ → Type 0
IsDigit x = x < 10

-- a digit's character, and any other
abbrev pub IsDigitOf : DecimalFormat → ℕ → Type 0
IsDigitOf f c = Contains f.digits c

-- a character that is no digit of the formatter
abbrev pub IsOther : DecimalFormat → ℕ → Type 0
IsOther f c = ¬ (Contains f.digits c)

module _ (f : DecimalFormat) (h : IsReadable f.symbols.strings f.digits) where
  -- ten different characters determine their digits
  character_tells : (x y : ℕ) → x < 10 → y < 10 → slice_index f.digits x ≡ slice_index f.digits y → x ≡ y
  character_tells x y hx hy e =
      ⊎_elim (λ s. s)
      (⊎_elim (λ (l : x < y). absurd (h.different x y 0 l (omega (arith, h.ten)) e))
      (λ (g : y < x). absurd (h.different y x 0 g (omega (arith, h.ten)) (sym e))))
      (cases_order x y)

  -- characters determine their digits
  pub characters_tell : (xs ys : List ℕ) → Every IsDigit xs → Every IsDigit ys → digit_characters f xs ≡ digit_characters f ys → xs ≡ ys
  characters_tell [] [] hx hy e = refl
  characters_tell [] (y ∷ ys) hx hy e = cc
  characters_tell (x ∷ xs) [] hx hy e = cc
  characters_tell (x ∷ xs) (y ∷ ys) hx hy e =
      let heads : slice_index f.digits x ≡ slice_index f.digits y = cc in
      let tails : digit_characters f xs ≡ digit_characters f ys = cc in
      ap₂ ◌∷◌ (character_tells x y hx.0 hy.0 heads) (characters_tell xs ys hx.1 hy.1 tails)

  -- a digit's character is one of the formatter's
  pub character_is : (x : ℕ) → IsDigit x → IsDigitOf f (slice_index f.digits x)
  character_is x hx =
      let within : x < length f.digits = omega (arith, h.ten) in
      (x, within, get_or_default f.digits x (slice_index f.digits x) 0 within)

-- the digits on both sides of the point
module _ (c : Unsigned) (h : IsUnsigned c) where
  both_below : Every IsDigit (integer c ++ fraction c)
  both_below = subst (Every IsDigit) (sym (take-append-drop (integer_count c) c.digits)) (every_of_all IsDigit c.digits h.below_ten)

  -- the integer's digits are digits
  pub integer_below : Every IsDigit (integer c)
  integer_below = every_before IsDigit (integer c) (fraction c) both_below

  -- the fraction's digits are digits
  pub fraction_below : Every IsDigit (fraction c)
  fraction_below = every_after IsDigit (integer c) (fraction c) both_below

  integer_some : 0 < length (integer c)
  integer_some = rw (length-take (integer_count c) c.digits) (omega (arith, h.integer_some))

  -- there are as many fraction digits as the scale says
  pub fraction_length : length (fraction c) ≡ c.scale
  fraction_length = length-drop (integer_count c) c.digits ∙ omega (arith, h.integer_some)

  -- the groups of a decimal have digits, and there is one at least
  pub groups_some : (f : DecimalFormat) → Runs IsDigit (groups_of f c) × (groups_of f c ≢ [])
  groups_some f = go (integer c) integer_below integer_some
    where
      go : (ds : List ℕ) → Every IsDigit ds → 0 < length ds →
          Runs IsDigit (digit_groups ds f.symbols.grouping_sizes (strategy_of f.options))
          × (digit_groups ds f.symbols.grouping_sizes (strategy_of f.options) ≢ [])
      go [] k some = absurd (omega arith)
      go (x ∷ ds) k some = (
        runs-groups IsDigit f.symbols.grouping_sizes (strategy_of f.options) x ds k,
        some_groups _ x ds (concatenated-digit_groups (x ∷ ds) f.symbols.grouping_sizes (strategy_of f.options)),
      )

-- the digits on both sides of the point determine the decimal
pub unsigned_same : (c d : Unsigned) → IsUnsigned c → IsUnsigned d → integer c ≡ integer d → fraction c ≡ fraction d → c ≡ d
unsigned_same c d hc hd i f =
    let digits : c.digits ≡ d.digits = sym (take-append-drop (integer_count c) c.digits) ∙ ap₂ ◌++◌ i f
    ∙ take-append-drop (integer_count d) d.digits in
    let scale : c.scale ≡ d.scale = sym (fraction_length c hc) ∙ ap length f ∙ fraction_length d hd in
    let of : List ℕ → ℕ → Unsigned = λ ds s. record { digits = ds; scale = s } in
    ap₂ of digits scale

-- the groups' characters determine the digits at power 0 and above
pub groups_tell : (f : DecimalFormat) → IsReadable f.symbols.strings f.digits → (c d : Unsigned) → IsUnsigned c → IsUnsigned d
    → concatenated (map (λ g. digit_characters f g) (groups_of f c)) ≡ concatenated (map (λ g. digit_characters f g) (groups_of f d)) →
    integer c ≡ integer d
groups_tell f h c d hc hd e = characters_tell f h (integer c) (integer d) (integer_below c hc) (integer_below d hd) (sym (spelled c) ∙ e ∙ spelled d)
  where
    spelled : (b : Unsigned) → concatenated (map (λ g. digit_characters f g) (groups_of f b)) ≡ digit_characters f (integer b)
    spelled b = concatenated-map (slice_index f.digits) (groups_of f b)
        ∙ ap (digit_characters f) (concatenated-digit_groups (integer b) f.symbols.grouping_sizes (strategy_of f.options))

-- a decimal's groups and fraction, as characters
pub group_characters : (f : DecimalFormat) → IsReadable f.symbols.strings f.digits → (c : Unsigned) → IsUnsigned c →
    Runs (IsDigitOf f) (map (λ g. digit_characters f g) (groups_of f c)) × (map (λ g. digit_characters f g) (groups_of f c) ≢ [])
group_characters f h c hc =
    let gs = groups_some c hc f in
    (runs_map IsDigit (IsDigitOf f) (slice_index f.digits) (character_is f h) (groups_of f c) gs.0, go (groups_of f c) gs.1)
  where
    go : (gs : List (List ℕ)) → gs ≢ [] → map (λ g. digit_characters f g) gs ≢ []
    go [] some e = some refl
    go (g ∷ gs) some e = cc

-- the characters of a fraction are digits of the formatter
pub fraction_characters : (f : DecimalFormat) → IsReadable f.symbols.strings f.digits → (c : Unsigned) → IsUnsigned c →
    Every (IsDigitOf f) (digit_characters f (fraction c))
fraction_characters f h c hc = every_map IsDigit (IsDigitOf f) (slice_index f.digits) (character_is f h) (fraction c) (fraction_below c hc)
