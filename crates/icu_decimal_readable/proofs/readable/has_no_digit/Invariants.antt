use Rattle.std.proofs.Common.{ℕ, All, Contains, chars, List}
use Rattle.std.specs.Str.{IsUtf8}
use Rattle.std.specs.Str.Iter.{chars_rest}
use Rattle.icu_decimal_readable.proofs.readable.has_no_digit.Given as goal

-- the rest of the text is text, and it has a digit where the whole has one
pub record Goes (digits bytes rest : List ℕ) : Type 0 where
  pub utf8 : IsUtf8 rest
  pub on : All (λ c. ¬ (Contains digits c)) (chars bytes) → All (λ c. ¬ (Contains digits c)) (chars rest)
  pub back : All (λ c. ¬ (Contains digits c)) (chars rest) → All (λ c. ¬ (Contains digits c)) (chars bytes)

abbrev pub invariant-loop-c : goal.invariant-loop-c
invariant-loop-c l =
    (goal.iterator-loop-c).can_next l.c-iterator × (goal.iterator-loop-c).is_finite l.c-iterator
    × Goes l.digits l.text (chars_rest l.c-iterator)
