-- What was written of what a form shows, by what a formatter says.
use Rattle.std.proofs.Common.{◌≡◌, inl, inr, List, Result, Ok, Err, refl, sym, ap, subst}
use Rattle.std.specs.Prelude.{IsErrOf, IsOk}
use Rattle.std.proofs.lemmas.Bool.{false≢true}
use Rattle.writeable.specs.Events.{Event}
use Rattle.writeable.specs.declared.sink.WriteFault.{WriteFault}
use Rattle.icu_decimal_interface.specs.Shown.{Shown}
use Rattle.icu_decimal_interface.specs.UsesShown.{WroteSuch}
use Rattle.icu_decimal.specs.declared.error.FormatError.{FormatError}
use Rattle.icu_decimal.specs.declared.error.FormatError.TheVariants as format
use Rattle.decimal_lines.specs.SingleText.{WroteEvents}
use Rattle.decimal_lines.specs.declared.single_text.TextError.{TextError}
use Rattle.decimal_lines.specs.declared.single_text.TextError.TheVariants.{Overflow}
use Rattle.number_forms.specs.WrittenOr.{written_or}

-- a success is no overflow
pub no_overflow : {T : Type 0} (r : Result T FormatError) → IsOk r → IsErrOf r format.Overflow → ⊥
no_overflow (Ok x) is error = cc error
no_overflow (Err e) is error = absurd (false≢true is)

-- what is shown was written, if a formatter wrote one of such values, each of which is what is shown
pub shown-written : {K N : Type 0} (wrote : K → Result (Unit {0}) WriteFault → List Event → K → Type 0) (k l : K)
    (written : Result (Unit {0}) FormatError) (Such : N → Type 0) (text : N → List Event) (shown : Result (List Event) TextError)
    (result : Result (Unit {0}) TextError) → result ≡ written_or written → (IsOk written → IsOk shown)
    → ((n : N) → Such n → IsOk shown → shown ≡ Ok (text n))
    → (IsErrOf written format.Overflow → shown ≡ Err Overflow) → WroteSuch wrote k written Such text l → WroteEvents wrote k result shown l
shown-written {K} {N} wrote k l written Such text shown result is some fits past w =
    subst (λ (r : Result (Unit {0}) TextError). WroteEvents wrote k r shown l) (sym is) (go written some past w)
  where
    go : (r : Result (Unit {0}) FormatError) → (IsOk r → IsOk shown) → (IsErrOf r format.Overflow → shown ≡ Err Overflow)
        → WroteSuch wrote k r Such text l → WroteEvents wrote k (written_or r) shown l
    go (Ok x) some past (n, such, w) = (text n, fits n such (some refl), w)
    go (Err format.Overflow) some past same = (inr (past refl), inl same)
    go (Err format.OutOfMemory) some past same = (inl refl, inl same)
    go (Err format.Sink) some past (n, such, w) = (inl refl, inr (refl, (text n, fits n such, w)))

-- the same of a number in full
pub plain-written : {K : Type 0} (wrote : K → Result (Unit {0}) WriteFault → List Event → K → Type 0) (k l : K)
    (written : Result (Unit {0}) FormatError) (text : Shown → List Event) (shown : Shown) (result : Result (Unit {0}) TextError)
    → result ≡ written_or written → (IsErrOf written format.Overflow → ⊥) → WroteSuch wrote k written (λ n. n ≡ shown) text l
    → WroteEvents wrote k result (Ok (text shown)) l
plain-written wrote k l written text shown result is no_overflow w = shown-written wrote k l written (λ n. n ≡ shown) text (Ok (text shown)) result
    is (λ some. refl) (λ n same some. ap (λ (m : Shown). Ok (text m)) (sym same)) (λ over. absurd (no_overflow over)) w
