-- Rejected texts: what holds of two attempts holds of the number that is no nearer.
use Rattle.std.proofs.Common.{◌≡◌, ◌≢◌, ⊎_elim, ℕ, sym, ap, ◌∙◌, subst, max, List, Result, Ok, Err, IfOk, IfErr}
use Rattle.fixed_decimal.specs.declared.signs.Sign.{Sign}
use Rattle.fixed_decimal.specs.declared.signed.Decimal.{Decimal}
use Rattle.fixed_decimal.specs.Unsigned.{IsUnsigned}
use Rattle.icu_decimal.specs.Decimal.{DecimalFormat}
use Rattle.icu_decimal_readable.specs.Readable.{IsReadable}
use Rattle.icu_decimal_reading.specs.declared.error.NotRead.{NotRead}
use Rattle.icu_decimal_reading.specs.declared.error.NotRead.TheVariants.{NoNumber, OutOfMemory}
use Rattle.icu_decimal_reading.specs.Reading.{written, ungrouped, values, last_run, number_of, IsNotWritten, IsNoText, IfNoNumber, IsAt, no_nearer}
use Rattle.icu_decimal_reading.proofs.ValuesFound.{number_found}

-- what is read is read, whatever byte is nearer
pub read_kept : (n : ℕ) (r : Result Decimal NotRead) (P Q : Decimal → Type 0) → ((d : Decimal) → P d → Q d) → IfOk r P → IfOk (no_nearer n r) Q
read_kept n (Ok d) P Q g h = g d h
read_kept n (Err (NoNumber byte)) P Q g h = tt
read_kept n (Err OutOfMemory) P Q g h = tt

-- a second attempt that fails rejects what its failure rejects
pub refused_kept : (n : ℕ) (r : Result Decimal NotRead) (P Q : Type 0) → (P → Q) → IfErr r (IfNoNumber P) → IfErr (no_nearer n r) (IfNoNumber Q)
refused_kept n (Ok d) P Q g h = tt
refused_kept n (Err (NoNumber byte)) P Q g h = g h
refused_kept n (Err OutOfMemory) P Q g h = tt

-- the byte is the greater of both
pub byte_kept : (n m k : ℕ) (r : Result Decimal NotRead) → n ≡ k → IfErr r (IsAt m) → IfErr (no_nearer n r) (IsAt (max k m))
byte_kept n m k (Ok d) e h = tt
byte_kept n m k (Err (NoNumber byte)) e h = ap (λ x. max x byte) e ∙ ap (λ x. max k x) h
byte_kept n m k (Err OutOfMemory) e h = tt

-- the text is of no number with these digits, so many of them behind the separator
abbrev pub IsNoneOf : DecimalFormat → List ℕ → List ℕ → ℕ → Type 0
IsNoneOf f cs ds scale = (sign : Sign) → IsUnsigned (number_of ds scale) → cs ≢ written f sign (number_of ds scale)

-- the same of the digits of the text
abbrev pub IsNone : DecimalFormat → List ℕ → ℕ → Type 0
IsNone f cs scale = IsNoneOf f cs (values f.digits cs) scale

-- a text that is of neither number that its digits make is no text of a readable formatter
pub not_written : (f : DecimalFormat) (cs : List ℕ) → IsReadable f.symbols.strings f.digits → IsNone f cs 0 → IsNone f cs (last_run f.digits cs) →
    IsNotWritten f cs
not_written f cs h whole part sign u hu e =
    subst (λ xs. IsNone f xs 0 → IsNone f xs (last_run f.digits xs) → xs ≢ written f sign u) (sym e) clash whole part e
  where
    none : (scale : ℕ) → IsNone f (written f sign u) scale → u ≡ number_of (values f.digits (written f sign u)) scale → ⊥
    none scale out is = out sign (subst IsUnsigned is hu) (ap (written f sign) is)

    clash : IsNone f (written f sign u) 0 → IsNone f (written f sign u) (last_run f.digits (written f sign u)) → written f sign u ≢ written f sign u
    clash a b same = ⊎_elim (none 0 a) (none (last_run f.digits (written f sign u)) b) (number_found f h sign u hu)

-- a text that is written neither with groups nor with none is no number's
pub no_text : (f : DecimalFormat) (cs : List ℕ) → IsNotWritten f cs → IsNotWritten (ungrouped f) cs → IsNoText f cs
no_text f cs a b sign u hu t = ⊎_elim (a sign u hu) (b sign u hu) t

-- what an error says of a text holds of it
pub at_no_number : (r : Result Decimal NotRead) (byte : ℕ) (P : Type 0) → r ≡ Err (NoNumber byte) → IfErr r (IfNoNumber P) → P
at_no_number r byte P e h = subst (λ x. IfErr x (IfNoNumber P)) e h

-- where both attempts with the digits of a text fail, it is no text of a readable formatter
pub digits_rejected : (f : DecimalFormat) (cs ds : List ℕ) (scale n : ℕ) (r : Result Decimal NotRead) → IsReadable f.symbols.strings f.digits →
    ds ≡ values f.digits cs → scale ≡ last_run f.digits cs → IsNoneOf f cs ds 0 → IfErr r (IfNoNumber (IsNoneOf f cs ds scale)) →
    IfErr (no_nearer n r) (IfNoNumber (IsNotWritten f cs))
digits_rejected f cs ds scale n r h d s whole part =
    refused_kept n r (IsNoneOf f cs ds scale) (IsNotWritten f cs) (λ out. not_written f cs h (subst (λ xs. IsNoneOf f cs xs 0) d whole)
    (subst (λ m. IsNone f cs m) s (subst (λ xs. IsNoneOf f cs xs scale) d out))) part
