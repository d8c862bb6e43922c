-- Short texts in arrays of bytes: their lengths, and zeros after them.
use Rattle.std.proofs.Common.{◌≡◌, ℕ, ◌-◌, ◌≤◌, List, ◌++◌, length, take, drop, replicate, refl, sym, ap, ◌∙◌, arith}
use Rattle.std.specs.Prelude.{IsUtf8}
use Rattle.std.proofs.lemmas.Bool.Decides.{nat_tests}
use Rattle.std.proofs.lemmas.List.{drop-replicate, take_at, length-replicate, length-append}
use Rattle.icu_provider.specs.NumberingSystem.{is_numbering_system, IsNumberingSystem}
use Rattle.icu_provider.specs.Locale.{is_locale, IsLocale}
use Rattle.icu_provider.specs.Padded.{IsPadded}

-- a name of a numbering system has three to eight bytes
pub length-of_name : (text : List ℕ) → IsNumberingSystem text → (3 ≤ length text) × (length text ≤ 8)
unfolding is_numbering_system
length-of_name text h = grind (arith, nat_tests)

-- the text of a locale has one to sixty-three bytes
pub length-of_locale : (text : List ℕ) → IsLocale text → (1 ≤ length text) × (length text ≤ 63)
unfolding is_locale
length-of_locale text h = grind (arith, nat_tests)

-- a text and zeros after it
pub IsPadded-of : (size : ℕ) (text : List ℕ) → length text ≤ size → IsUtf8 text →
    IsPadded size (text ++ drop (length text) (replicate size 0)) (length text)
IsPadded-of size text fits h =
    let more : ℕ = size - length text in
    let zeros : List ℕ = replicate size 0 in
    let rest : drop (length text) zeros ≡ replicate more 0 = drop-replicate (length text) size 0 in
    let same : take (length text) (text ++ drop (length text) zeros) ≡ text = take_at text (drop (length text) zeros) (length text) refl in
    let size_of_rest : length (drop (length text) zeros) ≡ size - length text = ap length rest ∙ length-replicate more 0 in
    record {
      long = omega (arith, fits, size_of_rest, length-append text (drop (length text) zeros));
      fits = fits;
      padded = ap (λ (t : List ℕ). text ++ t) rest ∙ ap (λ (t : List ℕ). t ++ replicate more 0) (sym same);
      text = rw same h;
    }
