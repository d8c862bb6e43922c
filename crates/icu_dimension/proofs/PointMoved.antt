-- The text of a hundred times a number.
use Rattle.std.proofs.Common.{◌≡◌, ℕ, ◌<◌, inl, inr, List, [], ◌∷◌, ◌++◌, All, length, refl, sym, ap, arith, nat_eq, length-append}
use Rattle.std.specs.Prelude.{negsuc}
use Rattle.std.proofs.lemmas.Bool.{cases_Bool}
use Rattle.fixed_decimal.specs.declared.signs.Sign.TheVariants.{None as no_sign}
use Rattle.fixed_decimal.specs.Text.{Reads, ReadsPastLimits, digits_text, fraction_text, integer_of}
use Rattle.fixed_decimal.specs.Unsigned.{Unsigned, IsUnsigned, IsWithinLimits, digit_at, integer}
use Rattle.fixed_decimal.specs.declared.signs.Sign.{Sign}
use Rattle.fixed_decimal.proofs.Numerals.{Reads-one}
use Rattle.icu_dimension.specs.Percent.{trimmed, hundredfold, integer_hundredfold, fraction_hundredfold}

-- some digit is left without zeros at the front
trimmed_some : (d : ℕ) (ds : List ℕ) → (integer_of (trimmed (d ∷ ds)) ≡ trimmed (d ∷ ds)) × (0 < length (trimmed (d ∷ ds)))
trimmed_some d [] = (refl, omega arith)
trimmed_some d (e ∷ ds) = elim (cases_Bool (nat_eq d 0)) [ inl t ↦ rw t (trimmed_some e ds) | inr f ↦ rw f (refl, omega arith) ]

trimmed_left : (ds : List ℕ) → 0 < length ds → (integer_of (trimmed ds) ≡ trimmed ds) × (0 < length (trimmed ds))
trimmed_left [] h = absurd (omega arith)
trimmed_left (d ∷ ds) h = trimmed_some d ds

-- of digits with two more behind them some are left
pub integer_left : (ds : List ℕ) (a b : ℕ)
    → (integer_of (trimmed (ds ++ a ∷ b ∷ [])) ≡ trimmed (ds ++ a ∷ b ∷ []))
    × (0 < length (trimmed (ds ++ a ∷ b ∷ [])))
integer_left ds a b = trimmed_left (ds ++ a ∷ b ∷ []) (omega (arith, length-append ds (a ∷ b ∷ [])))

-- the text with these digits spells a hundred times the number
pub reads_hundredfold : (text : List ℕ) (u : Unsigned)
    → text ≡ digits_text (integer_hundredfold u) ++ fraction_text (fraction_hundredfold u)
    → All (λ d. d < 10) (integer_hundredfold u) → All (λ d. d < 10) (fraction_hundredfold u)
    → Reads text no_sign (hundredfold u)
reads_hundredfold text u e before after =
    let left = integer_left (integer u) (digit_at u (negsuc 0)) (digit_at u (negsuc 1)) in
    record {
      numeral = text;
      before = integer_hundredfold u;
      after = fraction_hundredfold u;
      signed = refl;
      spelled = record { spelled = e; some_digit = omega (arith, left.1); before_digits = before; after_digits = after };
      digits = ap (λ (l : List ℕ). l ++ fraction_hundredfold u) (sym left.0);
      scale = refl;
    }

-- so what is read of it is that
pub read_is_hundredfold : (text : List ℕ) (u d : Unsigned) (sign : Sign) → Reads text no_sign (hundredfold u) → Reads text sign d → d ≡ hundredfold u
read_is_hundredfold text u d sign is r = (Reads-one text sign no_sign d (hundredfold u) r is).1

-- and it is within the limits where it can be read
pub within_hundredfold : (u d : Unsigned) → d ≡ hundredfold u → IsUnsigned d → IsWithinLimits (hundredfold u)
within_hundredfold u d e is = rw (← e) (record { high_limit = is.high_limit; low_limit = is.low_limit })

-- past the limits only where it is
pub past_hundredfold : (text : List ℕ) (u : Unsigned) → Reads text no_sign (hundredfold u) → ReadsPastLimits text → ¬ (IsWithinLimits (hundredfold u))
past_hundredfold text u is (sign, d, r, past) within = past (rw (read_is_hundredfold text u d sign is r) within)
