-- What a text of a percent determines. A hundred times a number is a number like any other, so its text determines it as a text of
-- money does; and it determines the size of the number, since it is exactly a hundred times as large.
use Rattle.std.proofs.Common.{◌≡◌, ℕ, ◌*◌, ◌<◌, arith, sym, ap, ◌∙◌, true, false, ◌==◌, zero, suc}
use Rattle.std.proofs.Common.{List, [], ◌∷◌, ◌++◌, drop, slice_index, All, if◌then◌else◌, length-append}
use Rattle.std.specs.Prelude.{negsuc}
use Rattle.std.proofs.lemmas.List.Elements.{All-cons, All-nil}
use Rattle.fixed_decimal.specs.Size.{size}
use Rattle.fixed_decimal.specs.Unsigned.{Unsigned, IsUnsigned, IsWithinLimits, digit_at, fraction, integer}
use Rattle.icu_decimal.proofs.DigitsDistinct.{IsDigit, fraction_below, integer_below}
use Rattle.icu_decimal.proofs.Runs.{Every, every-append}
use Rattle.icu_dimension.specs.Percent.{fraction_hundredfold, hundredfold, integer_hundredfold, trimmed}
use Rattle.icu_dimension.specs.MoneyLaws.{EqualPercentTextsTell, PercentTextTells}
use Rattle.icu_dimension.proofs.Hundred.{size-hundredfold}
use Rattle.icu_dimension.proofs.MoneyDistinct.{equal_texts_tell, money_tells}
use Rattle.icu_dimension.proofs.PointMoved.{integer_left}

all_of_every : (P : ℕ → Type 0) (xs : List ℕ) → Every P xs → All P xs
all_of_every P [] h = All-nil P
all_of_every P (x ∷ xs) h = All-cons P x xs h.0 (all_of_every P xs h.1)

-- digits without zeros at their front are digits
trimmed_below : (ds : List ℕ) → Every IsDigit ds → Every IsDigit (trimmed ds)
trimmed_below [] h = tt
trimmed_below (d ∷ []) h = h
trimmed_below (d ∷ e ∷ ds) h = elim (d == 0) as (λ b. Every IsDigit (if b then trimmed (e ∷ ds) else d ∷ e ∷ ds))
    [ true ↦ trimmed_below (e ∷ ds) h.1 | false ↦ h ]

-- a digit, or 0 outside the digits
digit_below : (ds : List ℕ) (n : ℕ) → Every IsDigit ds → slice_index ds n < 10
digit_below [] n h = omega arith
digit_below (d ∷ ds) zero h = h.0
digit_below (d ∷ ds) (suc n) h = digit_below ds n h.1

rest_below : (ds : List ℕ) → Every IsDigit ds → Every IsDigit (drop 2 ds)
rest_below [] h = tt
rest_below (d ∷ []) h = tt
rest_below (d ∷ e ∷ ds) h = h.1.1

-- a hundred times a number is a number, if it is within the limits
pub unsigned_hundredfold : (u : Unsigned) → IsUnsigned u → IsWithinLimits (hundredfold u) → IsUnsigned (hundredfold u)
unsigned_hundredfold u is within =
    let left = integer_left (integer u) (digit_at u (negsuc 0)) (digit_at u (negsuc 1)) in
    record {
      below_ten = all_of_every IsDigit (hundredfold u).digits (every-append IsDigit (integer_hundredfold u) (fraction_hundredfold u)
          (trimmed_below (integer u ++ digit_at u (negsuc 0) ∷ digit_at u (negsuc 1) ∷ [])
          (every-append IsDigit (integer u) (digit_at u (negsuc 0) ∷ digit_at u (negsuc 1) ∷ []) (integer_below u is)
          (digit_below (fraction u) 0 (fraction_below u is), (digit_below (fraction u) 1 (fraction_below u is), tt))))
          (rest_below (fraction u) (fraction_below u is)));
      integer_some = omega (arith, left.1, length-append (integer_hundredfold u) (fraction_hundredfold u));
      high_limit = within.high_limit;
      low_limit = within.low_limit;
    }

-- equal hundredfolds are of equal sizes
same_size : (c d : Unsigned) → IsUnsigned c → IsUnsigned d → hundredfold c ≡ hundredfold d → size c ≡ size d
same_size c d hc hd e =
    let hundred : 100 * size c ≡ 100 * size d = sym (size-hundredfold c hc) ∙ ap size e ∙ size-hundredfold d hd in omega (arith, hundred)

-- percents with equal characters have equal signs and sizes
pub percent_tells : PercentTextTells
percent_tells f s t c d h hc hd wc wd e =
    let distinct = money_tells f s t (hundredfold c) (hundredfold d) h (unsigned_hundredfold c hc wc) (unsigned_hundredfold d hd wd) e in
    (distinct.0, distinct.1, same_size c d hc hd distinct.1)

-- so have those with equal texts
pub equal_percent_texts_tell : EqualPercentTextsTell
equal_percent_texts_tell f s t c d one other h hc hd wc wd first second same =
    let distinct = equal_texts_tell f s t (hundredfold c) (hundredfold d) one other h (unsigned_hundredfold c hc wc) (unsigned_hundredfold d hd wd)
    first second same in
    (distinct.0, distinct.1, same_size c d hc hd distinct.1)
