-- Rejected compact texts: a text of neither significand that its digits make is no compact text.
use Rattle.std.proofs.Common.{◌≡◌, ⊎_elim, ℕ, subst, List}
use Rattle.fixed_decimal.specs.declared.signs.Sign.{Sign}
use Rattle.fixed_decimal.specs.Unsigned.{Unsigned, IsUnsigned}
use Rattle.icu_decimal.specs.CompactFormat.{CompactFormat}
use Rattle.icu_decimal.specs.Readable.{IsReadableCompact}
use Rattle.icu_decimal_reading.specs.declared.error.NotRead.{NotRead}
use Rattle.icu_decimal_reading.specs.declared.error.NotRead.TheVariants.{NoNumber, OutOfMemory}
use Rattle.icu_decimal_reading.specs.Reading.{last_run, number_of, values, IfNoNumber}
use Rattle.icu_decimal_reading.specs.CompactReading.{IsCompactTextOf, IsNoCompactText, IsOfNoSign}
use Rattle.icu_decimal_reading.proofs.CompactFound.{compact_found}

-- the text is of no compact number with these digits, so many of them behind the separator
abbrev pub IsNoneWith : CompactFormat → List ℕ → List ℕ → ℕ → Type 0
IsNoneWith f cs ds scale = (n : ℕ) → IsUnsigned (number_of ds scale) → IsOfNoSign f cs (number_of ds scale) n

-- a text that is of neither number that its digits make is no text of a readable compact formatter
pub no_compact_text : (f : CompactFormat) (cs ds : List ℕ) (scale : ℕ) → IsReadableCompact f → ds ≡ values f.decimal.digits cs →
    scale ≡ last_run f.decimal.digits cs → IsNoneWith f cs ds 0 → IsNoneWith f cs ds scale → IsNoCompactText f cs
no_compact_text f cs ds scale h d s whole part sign u n hu t =
    ⊎_elim (none 0 (subst (λ xs. IsNoneWith f cs xs 0) d whole))
    (none (last_run f.decimal.digits cs) (subst (λ m. IsNoneWith f cs (values f.decimal.digits cs) m) s (subst (λ xs. IsNoneWith f cs xs scale) d part)))
    (compact_found f sign u n cs h hu t.text)
  where
    none : (m : ℕ) → IsNoneWith f cs (values f.decimal.digits cs) m → u ≡ number_of (values f.decimal.digits cs) m → ⊥
    none m out is = out n (subst IsUnsigned is hu) sign (subst (λ v. IsCompactTextOf f cs sign v n) is t)

-- an error that says one thing of a text says what follows
pub refused_so : (e : NotRead) (P Q : Type 0) → (P → Q) → IfNoNumber P e → IfNoNumber Q e
refused_so (NoNumber byte) P Q g h = g h
refused_so OutOfMemory P Q g h = tt
