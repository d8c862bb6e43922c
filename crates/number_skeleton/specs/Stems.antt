-- Stems of tokens.
use Rattle.std.specs.Prelude.{ℕ, zero, suc, Bool, not, ◌+◌, ◌||◌, ◌==◌, ◌&&◌, List, Option, Some, None, Result, Ok, Err, codes, nat_eq}
use Rattle.std.specs.Prelude.{take, drop}
use Rattle.std.specs.Prelude.{get_or, length, if◌then◌else◌}
use Rattle.std.specs.Cmp.Lexicographic.{pointwise}
use Rattle.number_skeleton.specs.declared.fault.FaultKind.{FaultKind}
use Rattle.number_skeleton.specs.declared.fault.FaultKind.TheVariants.{UnknownStem, LeftOut}
use Rattle.number_skeleton.specs.declared.fault.Thing.TheVariants as thing
use Rattle.number_skeleton.specs.declared.stems.Counts.{Counts}
use Rattle.number_skeleton.specs.declared.stems.Stem.{Stem}
use Rattle.number_skeleton.specs.declared.stems.Stem.TheVariants as stem
use Rattle.number_skeleton.specs.Bytes.{is_wild, run_len}
use Rattle.number_skeleton.specs.Results.{◌>>=◌}
use Rattle.number_skeleton.specs.Words.{sign_named, grouping_named, mode_named, width_named, precision_named, concise_stem, plain_stem, option_stem}

-- that many digits, that many `#` behind them, and then the end; or digits, a wild byte, and then the end
abbrev pub counts_end : ℕ → ℕ → List ℕ → Result Counts FaultKind
counts_end digits hashes end =
    if length end == 0 then Ok (record { least = digits; most = Some (digits + hashes) })
    else if hashes == 0 && length end == 1 && is_wild (get_or end 0 0) then Ok (record { least = digits; most = None })
    else Err UnknownStem

-- the counts of a word of this digit
unfoldable pub counts_of : ℕ → List ℕ → Result Counts FaultKind
counts_of digit word =
    let digits = run_len digit word in
    let hashes = run_len 35 (drop digits word) in
    counts_end digits hashes (drop hashes (drop digits word))

-- without a least and a greatest count nothing is limited
abbrev pub fraction_counts : ℕ → Option ℕ → Stem
fraction_counts zero None = stem.Unlimited
fraction_counts (suc n) None = stem.Fraction (record { least = suc n; most = None })
fraction_counts n (Some most) = stem.Fraction (record { least = n; most = Some most })

-- the fraction digits of what stands behind `.`
unfoldable pub fraction_stem : List ℕ → Result Stem FaultKind
fraction_stem word = counts_of 48 word >>= λ counts. Ok (fraction_counts counts.least counts.most)

-- the integer digits of a word of zeros
unfoldable pub integer_stem : List ℕ → Result Stem FaultKind
integer_stem word = if run_len 48 word == length word then Ok (stem.IntegerZeros (length word)) else Err UnknownStem

-- how many bytes `+!` or `+?` take in front of the digits of an exponent
unfoldable pub exponent_len : List ℕ → ℕ
exponent_len word = if get_or word 0 0 == 43 && (get_or word 1 0 == 33 || get_or word 1 0 == 63) then 2 else 0

-- zeros, with one of these in front or none
unfoldable pub digits_of_exponent : List ℕ → Bool
digits_of_exponent word =
    let digits = drop (exponent_len word) word in
    not (length digits == 0) && run_len 48 digits == length digits

-- what ICU reads as an exponent behind `E` or `EE` is left out
unfoldable pub exponent_stem : List ℕ → Result Stem FaultKind
exponent_stem word =
    if get_or word 1 0 == 69 then
    (if digits_of_exponent (drop 2 word) then Err (LeftOut thing.Engineering) else Err UnknownStem)
    else if digits_of_exponent (drop 1 word) then Err (LeftOut thing.Scientific)
    else Err UnknownStem

-- `,`, `(` or `+`
abbrev pub is_concise : ℕ → Bool
is_concise b = b == 44 || b == 40 || b == 43

-- the first, or else the second
abbrev pub or_next : Result Stem FaultKind → Result Stem FaultKind → Result Stem FaultKind
or_next (Ok stem) next = Ok stem
or_next (Err kind) next = next

-- the stem of a word of small letters, by its beginning
unfoldable pub named_stem : List ℕ → Result Stem FaultKind
named_stem word =
    if pointwise nat_eq (take 5 word) (codes "sign-") then sign_named (drop 5 word) >>= (λ signs. Ok (stem.Sign signs))
    else if pointwise nat_eq (take 6 word) (codes "group-") then grouping_named (drop 6 word) >>= (λ grouping. Ok (stem.Grouping grouping))
    else if pointwise nat_eq (take 14 word) (codes "rounding-mode-") then mode_named (drop 14 word) >>= (λ mode. Ok (stem.Mode mode))
    else if pointwise nat_eq (take 11 word) (codes "unit-width-") then width_named (drop 11 word) >>= (λ width. Ok (stem.Width width))
    else if pointwise nat_eq (take 10 word) (codes "precision-") then precision_named (drop 10 word)
    else or_next (plain_stem word) (option_stem word)

-- what a stem says, by its first byte
unfoldable pub stem_of : List ℕ → Result Stem FaultKind
stem_of word =
    if get_or word 0 0 == 46 then fraction_stem (drop 1 word)
    else if get_or word 0 0 == 64 then counts_of 64 word >>= (λ counts. Ok (stem.Significant counts))
    else if get_or word 0 0 == 48 then integer_stem word
    else if get_or word 0 0 == 69 then exponent_stem word
    else if is_concise (get_or word 0 0) then concise_stem word
    else named_stem word
