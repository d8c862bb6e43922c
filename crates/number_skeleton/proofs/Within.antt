-- Stems that are read have counts in order.
use Rattle.std.proofs.Common.{◌≡◌, ℕ, suc, zero, ◌+◌, ◌≤◌, List, [], ◌∷◌, length, drop, take, Bool, true, false, refl, arith, subst}
use Rattle.std.proofs.Common.{sym, ◌≢◌, ◌&&◌}
use Rattle.std.proofs.lemmas.Bool.Decides.{nat_tests}
use Rattle.std.specs.Cmp.Lexicographic.{pointwise}
use Rattle.std.specs.Prelude.{Option, Some, None, Result, Ok, Err, ◌==◌, ⊤, get_or, if◌then◌else◌, codes, nat_eq}
use Rattle.number_skeleton.specs.declared.draft.Signs.{Signs}
use Rattle.number_skeleton.specs.declared.fault.FaultKind.{FaultKind}
use Rattle.number_skeleton.specs.declared.fault.FaultKind.TheVariants.{UnknownStem}
use Rattle.skeleton_settings.specs.declared.settings.Grouping.{Grouping}
use Rattle.skeleton_settings.specs.declared.settings.Notation.TheVariants as notation
use Rattle.number_skeleton.specs.declared.stems.Counts.{Counts}
use Rattle.number_skeleton.specs.declared.stems.Stem.{Stem}
use Rattle.number_skeleton.specs.declared.stems.Stem.TheVariants as stem
use Rattle.number_skeleton.specs.Bytes.{is_wild, run_len}
use Rattle.number_skeleton.specs.Laws.{IsLimited, AreSigns}
use Rattle.number_skeleton.specs.Results.{◌>>=◌}
use Rattle.number_skeleton.specs.Stems.{counts_end, counts_of, fraction_counts, fraction_stem, integer_stem, exponent_stem, is_concise, or_next, named_stem}
use Rattle.number_skeleton.specs.Stems.{stem_of}
use Rattle.number_skeleton.specs.Words.{sign_named, grouping_named, mode_named, width_named, precision_named, concise_stem, plain_stem, option_stem}
use Rattle.number_skeleton.proofs.Orders.{taken, one_value}

-- the least count isn't above the greatest
abbrev pub IsOrdered : ℕ → Option ℕ → Type 0
IsOrdered least None = ⊤
IsOrdered least (Some most) = least ≤ most

-- what a stem says may be written
abbrev pub IsStem : Stem → Type 0
IsStem (stem.Notation n) = ⊤
IsStem stem.BaseUnit = ⊤
IsStem stem.Percent = ⊤
IsStem stem.Permille = ⊤
IsStem stem.PercentTimesHundred = ⊤
IsStem stem.Currency = ⊤
IsStem stem.UnitName = ⊤
IsStem (stem.Width w) = ⊤
IsStem stem.Unlimited = ⊤
IsStem (stem.Fraction counts) = IsOrdered counts.least counts.most × IsLimited counts.least counts.most
IsStem (stem.Significant counts) = (1 ≤ counts.least) × IsOrdered counts.least counts.most
IsStem (stem.CurrencyPrecision cash) = ⊤
IsStem stem.Increment = ⊤
IsStem (stem.Mode m) = ⊤
IsStem (stem.IntegerZeros n) = 1 ≤ n
IsStem stem.IntegerWidth = ⊤
IsStem stem.Scale = ⊤
IsStem (stem.Grouping g) = ⊤
IsStem stem.Latin = ⊤
IsStem stem.System = ⊤
IsStem (stem.Sign s) = AreSigns s.display s.is_accounting
IsStem stem.DecimalAuto = ⊤

-- one of two
branch : {A E : Type 0} (P : A → Type 0) (b : Bool) (y : A) (q r : Result A E) → ((b ≡ true) → q ≡ Ok y → P y) → (r ≡ Ok y → P y) → (if b
    then q else r) ≡ Ok y → P y
branch P true y q r f g h = f refl h
branch P false y q r f g h = g h

-- what was made of something
mapped : {A B E : Type 0} (P : B → Type 0) (f : A → B) (r : Result A E) (y : B) → ((x : A) → r ≡ Ok x → P (f x)) → (r >>= λ x. Ok (f x)) ≡ Ok
    y → P y
mapped P f (Err e) y g h = absurd cc
mapped P f (Ok x) y g h = let e : f x ≡ y = cc in subst P e (g x refl)

-- counts of a word
record Counted (n : ℕ) (c : Counts) : Type 0 where
  pub least : c.least ≡ n
  pub ordered : IsOrdered c.least c.most

counted_end : (digits hashes : ℕ) (end : List ℕ) (c : Counts) → counts_end digits hashes end ≡ Ok c → Counted digits c
counted_end digits hashes end c h =
    branch (Counted digits) (length end == 0) c (Ok (record { least = digits; most = Some (digits + hashes) })) _
    (λ t e. let same : record { least = digits; most = Some (digits + hashes) } ≡ c = cc in subst (Counted digits) same (record {
      least = refl;
      ordered =
          omega arith;
    }))
    (λ e. counted_wild (hashes == 0 && length end == 1 && is_wild (get_or end 0 0)) digits c e) h
  where
    counted_wild : (b : Bool) (n : ℕ) (x : Counts) → (if b then Ok (record { least = n; most = None }) else Err UnknownStem) ≡ Ok x → Counted n x
    counted_wild true n x k = let same : record { least = n; most = None } ≡ x = cc in subst (Counted n) same (record { least = refl; ordered = tt })
    counted_wild false n x k = absurd cc

counts_in : (digit : ℕ) (word : List ℕ) (c : Counts) → counts_of digit word ≡ Ok c → Counted (run_len digit word) c
unfolding counts_of
counts_in digit word c h = counted_end (run_len digit word) (run_len 35 (drop (run_len digit word) word)) _ c h

fraction_within : (least : ℕ) (most : Option ℕ) → IsOrdered least most → IsStem (fraction_counts least most)
fraction_within zero None h = tt
fraction_within (suc n) None h = (tt, omega arith)
fraction_within zero (Some most) h = (h, tt)
fraction_within (suc n) (Some most) h = (h, tt)

fraction_stem_within : (word : List ℕ) (s : Stem) → fraction_stem word ≡ Ok s → IsStem s
unfolding fraction_stem
fraction_stem_within word s h =
    let one = taken (counts_of 48 word) _ s h in
    subst IsStem (one_value s (fraction_counts one.0.least one.0.most) (Ok s) refl (sym one.1.1)) (fraction_within one.0.least one.0.most (counts_in 48 word
    one.0 one.1.0).ordered)

-- a word that begins with a byte
begins_some : (digit : ℕ) (word : List ℕ) → 0 ≢ digit → (get_or word 0 0 == digit) ≡ true → 1 ≤ run_len digit word
unfolding run_len
begins_some digit [] other h = absurd (other (grind (arith, nat_tests)))
begins_some digit (b ∷ bs) other h = rw h (omega arith)

some_length : (word : List ℕ) → (get_or word 0 0 == 48) ≡ true → 1 ≤ length word
some_length [] h = absurd cc
some_length (b ∷ bs) h = omega arith

significant_within : (word : List ℕ) (s : Stem) → (get_or word 0 0 == 64) ≡ true → (counts_of 64 word >>= λ counts. Ok (stem.Significant counts)) ≡
    Ok s → IsStem s
significant_within word s first h =
    mapped IsStem stem.Significant (counts_of 64 word) s
    (λ c e. let counted = counts_in 64 word c e in let some = begins_some 64 word (λ z. absurd cc) first in (
      omega (arith, counted.least, some),
      counted.ordered,
    )) h

integer_within : (word : List ℕ) (s : Stem) → (get_or word 0 0 == 48) ≡ true → integer_stem word ≡ Ok s → IsStem s
unfolding integer_stem
integer_within word s first h = zeros (run_len 48 word == length word) (length word) s (some_length word first) h
  where
    zeros : (b : Bool) (n : ℕ) (x : Stem) → 1 ≤ n → (if b then Ok (stem.IntegerZeros n) else Err UnknownStem) ≡ Ok x → IsStem x
    zeros true n x some k = let same : stem.IntegerZeros n ≡ x = cc in subst IsStem same some
    zeros false n x some k = absurd cc

exponent_within : (word : List ℕ) (s : Stem) → exponent_stem word ≡ Ok s → IsStem s
unfolding exponent_stem
exponent_within word s h = grind arith

-- words of a table
concise_within : (word : List ℕ) (s : Stem) → concise_stem word ≡ Ok s → IsStem s
unfolding concise_stem
concise_within word s h = grind arith

sign_within : (word : List ℕ) (s : Signs) → sign_named word ≡ Ok s → AreSigns s.display s.is_accounting
unfolding sign_named
sign_within word s h = grind arith

precision_within : (word : List ℕ) (s : Stem) → precision_named word ≡ Ok s → IsStem s
unfolding precision_named
precision_within word s h = grind arith

word_step : (b : Bool) (x s : Stem) (r : Result Stem FaultKind) → IsStem x → (r ≡ Ok s → IsStem s) → (if b then Ok x else r) ≡ Ok s → IsStem s
word_step true x s r i f h = let same : x ≡ s = cc in subst IsStem same i
word_step false x s r i f h = f h

-- the rest of the table from each word on
abbrev plain_11 : List ℕ → Result Stem FaultKind
plain_11 word = if pointwise nat_eq word (codes "decimal-auto") then Ok stem.DecimalAuto else Err UnknownStem

abbrev plain_10 : List ℕ → Result Stem FaultKind
plain_10 word = if pointwise nat_eq word (codes "latin") then Ok stem.Latin else plain_11 word

abbrev plain_9 : List ℕ → Result Stem FaultKind
plain_9 word = if pointwise nat_eq word (codes "%x100") then Ok stem.PercentTimesHundred else plain_10 word

abbrev plain_8 : List ℕ → Result Stem FaultKind
plain_8 word = if pointwise nat_eq word (codes "permille") then Ok stem.Permille else plain_9 word

abbrev plain_7 : List ℕ → Result Stem FaultKind
plain_7 word = if pointwise nat_eq word (codes "%") then Ok stem.Percent else plain_8 word

abbrev plain_6 : List ℕ → Result Stem FaultKind
plain_6 word = if pointwise nat_eq word (codes "percent") then Ok stem.Percent else plain_7 word

abbrev plain_5 : List ℕ → Result Stem FaultKind
plain_5 word = if pointwise nat_eq word (codes "base-unit") then Ok stem.BaseUnit else plain_6 word

abbrev plain_4 : List ℕ → Result Stem FaultKind
plain_4 word = if pointwise nat_eq word (codes "KK") then Ok (stem.Notation notation.CompactLong) else plain_5 word

abbrev plain_3 : List ℕ → Result Stem FaultKind
plain_3 word = if pointwise nat_eq word (codes "compact-long") then Ok (stem.Notation notation.CompactLong) else plain_4 word

abbrev plain_2 : List ℕ → Result Stem FaultKind
plain_2 word = if pointwise nat_eq word (codes "K") then Ok (stem.Notation notation.CompactShort) else plain_3 word

abbrev plain_1 : List ℕ → Result Stem FaultKind
plain_1 word = if pointwise nat_eq word (codes "compact-short") then Ok (stem.Notation notation.CompactShort) else plain_2 word

abbrev plain_0 : List ℕ → Result Stem FaultKind
plain_0 word = if pointwise nat_eq word (codes "notation-simple") then Ok (stem.Notation notation.Simple) else plain_1 word

plain_within : (word : List ℕ) (s : Stem) → plain_stem word ≡ Ok s → IsStem s
unfolding plain_stem
plain_within word s h =
    word_step (pointwise nat_eq word (codes "notation-simple")) (stem.Notation notation.Simple) s (plain_1 word) tt
    (word_step (pointwise nat_eq word (codes "compact-short")) (stem.Notation notation.CompactShort) s (plain_2 word) tt
    (word_step (pointwise nat_eq word (codes "K")) (stem.Notation notation.CompactShort) s (plain_3 word) tt
    (word_step (pointwise nat_eq word (codes "compact-long")) (stem.Notation notation.CompactLong) s (plain_4 word) tt
    (word_step (pointwise nat_eq word (codes "KK")) (stem.Notation notation.CompactLong) s (plain_5 word) tt
    (word_step (pointwise nat_eq word (codes "base-unit")) stem.BaseUnit s (plain_6 word) tt
    (word_step (pointwise nat_eq word (codes "percent")) stem.Percent s (plain_7 word) tt
    (word_step (pointwise nat_eq word (codes "%")) stem.Percent s (plain_8 word) tt
    (word_step (pointwise nat_eq word (codes "permille")) stem.Permille s (plain_9 word) tt
    (word_step (pointwise nat_eq word (codes "%x100")) stem.PercentTimesHundred s (plain_10 word) tt
    (word_step (pointwise nat_eq word (codes "latin")) stem.Latin s (plain_11 word) tt
    (word_step (pointwise nat_eq word (codes "decimal-auto")) stem.DecimalAuto s (Err UnknownStem) tt
    (λ e. absurd cc)))))))))))) h

option_within : (word : List ℕ) (s : Stem) → option_stem word ≡ Ok s → IsStem s
unfolding option_stem
option_within word s h = grind arith

next_within : (q r : Result Stem FaultKind) (s : Stem) → (q ≡ Ok s → IsStem s) → (r ≡ Ok s → IsStem s) → or_next q r ≡ Ok s → IsStem s
next_within (Ok x) r s f g h = f h
next_within (Err e) r s f g h = g h

-- what is left of the choices
abbrev no_width : List ℕ → Result Stem FaultKind
no_width word = if pointwise nat_eq (take 10 word) (codes "precision-") then precision_named (drop 10 word) else or_next (plain_stem word) (option_stem word)

abbrev no_mode : List ℕ → Result Stem FaultKind
no_mode word = if pointwise nat_eq (take 11 word) (codes "unit-width-") then width_named (drop 11 word) >>= (λ width. Ok (stem.Width width)) else no_width word

abbrev no_group : List ℕ → Result Stem FaultKind
no_group word = if pointwise nat_eq (take 14 word) (codes "rounding-mode-") then mode_named (drop 14 word) >>= (λ mode. Ok (stem.Mode mode)) else no_mode word

abbrev no_sign : List ℕ → Result Stem FaultKind
no_sign word = if pointwise nat_eq (take 6 word) (codes "group-") then grouping_named (drop 6 word) >>= (λ grouping. Ok (stem.Grouping grouping)) else
    no_group word

named_within : (word : List ℕ) (s : Stem) → named_stem word ≡ Ok s → IsStem s
unfolding named_stem
named_within word s h =
    branch IsStem (pointwise nat_eq (take 5 word) (codes "sign-")) s (sign_named (drop 5 word) >>= (λ signs. Ok (stem.Sign signs))) (no_sign word)
    (λ t. mapped IsStem stem.Sign (sign_named (drop 5 word)) s (sign_within (drop 5 word)))
    (branch IsStem (pointwise nat_eq (take 6 word) (codes "group-")) s (grouping_named (drop 6 word) >>= (λ grouping. Ok (stem.Grouping grouping))) (no_group
    word)
    (λ t. mapped IsStem stem.Grouping (grouping_named (drop 6 word)) s (λ x e. tt))
    (branch IsStem (pointwise nat_eq (take 14 word) (codes "rounding-mode-")) s (mode_named (drop 14 word) >>= (λ mode. Ok (stem.Mode mode))) (no_mode word)
    (λ t. mapped IsStem stem.Mode (mode_named (drop 14 word)) s (λ x e. tt))
    (branch IsStem (pointwise nat_eq (take 11 word) (codes "unit-width-")) s (width_named (drop 11 word) >>= (λ width. Ok (stem.Width width))) (no_width word)
    (λ t. mapped IsStem stem.Width (width_named (drop 11 word)) s (λ x e. tt))
    (branch IsStem (pointwise nat_eq (take 10 word) (codes "precision-")) s (precision_named (drop 10 word)) (or_next (plain_stem word) (option_stem word))
    (λ t. precision_within (drop 10 word) s)
    (next_within (plain_stem word) (option_stem word) s (plain_within word s) (option_within word s)))))) h

abbrev no_exponent : List ℕ → Result Stem FaultKind
no_exponent word = if is_concise (get_or word 0 0) then concise_stem word else named_stem word

abbrev no_zero : List ℕ → Result Stem FaultKind
no_zero word = if get_or word 0 0 == 69 then exponent_stem word else no_exponent word

abbrev no_at : List ℕ → Result Stem FaultKind
no_at word = if get_or word 0 0 == 48 then integer_stem word else no_zero word

abbrev no_dot : List ℕ → Result Stem FaultKind
no_dot word = if get_or word 0 0 == 64 then counts_of 64 word >>= (λ counts. Ok (stem.Significant counts)) else no_at word

-- a stem that is read
pub stem_within : (word : List ℕ) (s : Stem) → stem_of word ≡ Ok s → IsStem s
unfolding stem_of
stem_within word s h =
    branch IsStem (get_or word 0 0 == 46) s (fraction_stem (drop 1 word)) (no_dot word) (λ t. fraction_stem_within (drop 1 word) s)
    (branch IsStem (get_or word 0 0 == 64) s (counts_of 64 word >>= (λ counts. Ok (stem.Significant counts))) (no_at word) (significant_within word s)
    (branch IsStem (get_or word 0 0 == 48) s (integer_stem word) (no_zero word) (integer_within word s)
    (branch IsStem (get_or word 0 0 == 69) s (exponent_stem word) (no_exponent word) (λ t. exponent_within word s)
    (branch IsStem (is_concise (get_or word 0 0)) s (concise_stem word) (named_stem word) (λ t. concise_within word s) (named_within word s))))) h
