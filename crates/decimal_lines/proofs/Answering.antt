-- The answer to a text, by what the text reads as.
-- The relation `IsTextResult` says what a text reads as, and `text_result` computes it with `reading`; fixed_decimal's Readings tie the two. So
-- each lemma is a case of what is read: no decimal, one within the limits, one past them. Limits are tested by a Boolean, carried to and
-- from the relation by `is_within-limits` and `limits-is_within`. What a mode shows of a decimal comes from Displaying.
use Rattle.std.proofs.Common.{
  ◌≡◌,
  ℕ,
  ◌+◌,
  ◌<◌,
  Bool,
  true,
  false,
  List,
  [],
  ◌∷◌,
  length,
  length-append,
  Option,
  Some,
  None,
  refl,
  sym,
  ap,
  ◌∙◌,
  arith,
  inl,
  inr,
}
use Rattle.std.specs.Prelude.{◌++◌, Result, Ok, Err, is_ok, OnOk, codes, ◌&&◌, nat_le, if◌then◌else◌}
use Rattle.std.specs.Str.{IsUtf8}
use Rattle.std.proofs.lemmas.Bool.{false≢true}
use Rattle.std.proofs.lemmas.List.Elements.{All-append, All-cons}
use Rattle.std.proofs.lemmas.Bool.Decides.{nat_tests}
use Rattle.fixed_decimal.specs.declared.signs.Sign.{Sign}
use Rattle.fixed_decimal.specs.Unsigned.{Unsigned, IsUnsigned, AreDigits}
use Rattle.fixed_decimal.specs.Text.{Reads, ReadsNothing, ReadsPastLimits, integer_of}
use Rattle.fixed_decimal.specs.Unsigned.{IsWithinLimits}
use Rattle.decimal_lines.specs.declared.mode.Mode.{Mode}
use Rattle.decimal_lines.specs.declared.mode.Mode.TheVariants.{Plain, Compact}
use Rattle.fixed_decimal.specs.Reading.{reading}
use Rattle.decimal_lines.specs.LineResults.{HasTable, IsTextBy, IsTextResult, is_within_limits, text_by, reading_result, text_result}
use Rattle.decimal_lines.proofs.Displaying.{compact-is, compact-only}
use Rattle.fixed_decimal.proofs.Readings.{reading-reads, reading-spells, reading-nothing, nothing-reading, reads_nothing}

-- a number within the limits passes the test
pub is_within-limits : (d : Unsigned) → IsWithinLimits d → is_within_limits d ≡ true
is_within-limits d w =
    let high : nat_le (length d.digits) (d.scale + 32768) ≡ true = grind (arith, nat_tests, w.high_limit) in
    let low : nat_le d.scale 32768 ≡ true = grind (arith, nat_tests, w.low_limit) in
    rw (high, low) refl

-- and one that passes it is within them
pub limits-is_within : (d : Unsigned) → is_within_limits d ≡ true → IsWithinLimits d
limits-is_within d e = go (nat_le (length d.digits) (d.scale + 32768)) (nat_le d.scale 32768) refl refl e
  where
    go : (a b : Bool) → nat_le (length d.digits) (d.scale + 32768) ≡ a → nat_le d.scale 32768 ≡ b → (a && b) ≡ true → IsWithinLimits d
    go true true p q e = record { high_limit = grind (arith, nat_tests); low_limit = grind (arith, nat_tests) }
    go true false p q e = absurd cc
    go false b p q e = absurd cc

-- a decimal that is read within the limits
reads-unsigned : (text : List ℕ) (s : Sign) (d : Unsigned) → Reads text s d → IsWithinLimits d → IsUnsigned d
reads-unsigned text s d r w = record {
  below_ten = rw r.digits (All-append (λ x. x < 10) (integer_of r.before) r.after (before_digits r.before r.spelled.before_digits) r.spelled.after_digits);
  integer_some = omega (arith, r.scale, ap (λ ds. length {A = ℕ} ds) r.digits, length-append (integer_of r.before) r.after, some r.before);
  high_limit = w.high_limit;
  low_limit = w.low_limit;
}
  where
    before_digits : (ds : List ℕ) → AreDigits ds → AreDigits (integer_of ds)
    before_digits [] h = All-cons (λ x. x < 10) 0 [] (omega arith) h
    before_digits (x ∷ xs) h = h

    some : (ds : List ℕ) → 0 < length (integer_of ds)
    some [] = omega arith
    some (x ∷ xs) = omega arith

-- what a mode shows is the one thing that it may show
text_by-is : (mode : Mode) → HasTable mode → (s : Sign) (d : Unsigned) → IsUnsigned d → IsTextBy mode s d (text_by mode s d)
text_by-is (Plain format) has s d is = refl
text_by-is (Compact format) has s d is = compact-is format s d is has

-- and nothing else
text_by-only : (mode : Mode) (s : Sign) (d : Unsigned) (result : List ℕ) → IsTextBy mode s d result → result ≡ text_by mode s d
text_by-only (Plain format) s d result shows = shows
text_by-only (Compact format) s d result shows = compact-only format s d result shows

module _ (mode : Mode) (text : List ℕ) where
  -- the answer is that to what is read
  by_reading : (o : Option (Sign × Unsigned)) → reading text ≡ o → text_result mode text ≡ reading_result mode o
  unfolding text_result
  by_reading o e = ap (reading_result mode) e

  -- the answer to a decimal within the limits
  pub text_result-within : (s : Sign) (d : Unsigned) → Reads text s d → IsWithinLimits d → text_result mode text ≡ text_by mode s d
  text_result-within s d r w = by_reading (Some (s, d)) (reading-reads text s d r) ∙ rw (is_within-limits d w) refl

  -- the answer to a text that spells no decimal
  pub text_result-nothing : ReadsNothing text → text_result mode text ≡ codes "error: not a decimal"
  text_result-nothing none = by_reading None (reading-nothing text none)

  -- and to one that needs a power of ten past the limits
  pub text_result-past : ReadsPastLimits text → text_result mode text ≡ codes "error: too many digits"
  text_result-past (s, d, r, past) = by_reading (Some (s, d)) (reading-reads text s d r) ∙ go (is_within_limits d) refl
    where
      go : (b : Bool) → is_within_limits d ≡ b → (if b then text_by mode s d else codes "error: too many digits") ≡ codes "error: too many digits"
      go true e = absurd (past (limits-is_within d e))
      go false e = refl

  -- a decimal that isn't past the limits
  pub text_result-decimal : (s : Sign) (d : Unsigned) → Reads text s d → ¬ (ReadsPastLimits text) → text_result mode text ≡ text_by mode s d
  text_result-decimal s d r not_past = go (is_within_limits d) refl
    where
      go : (b : Bool) → is_within_limits d ≡ b → text_result mode text ≡ text_by mode s d
      go true e = text_result-within s d r (limits-is_within d e)
      go false e = absurd (not_past (s, d, r, λ w. absurd (false≢true (sym e ∙ is_within-limits d w))))

  -- bytes that are no text spell no decimal
  pub text_result-no_text : ¬ (IsUtf8 text) → text_result mode text ≡ codes "error: not a decimal"
  text_result-no_text not_text = text_result-nothing (reads_nothing text not_text)

  -- it is an answer, and the only one
  pub text_result-is : HasTable mode → IsTextResult mode text (text_result mode text)
  text_result-is has = go (reading text) refl
    where
      limited : (s : Sign) (d : Unsigned) → reading text ≡ Some (s, d) → (b : Bool) → is_within_limits d ≡ b →
          IsTextResult mode text (text_result mode text)
      limited s d e true f =
          let r = reading-spells text s d e in
          let w = limits-is_within d f in
          inl (record {
            sign = s;
            absolute = d;
            reads = r;
            within = w;
            shown =
                rw (text_result-within s d r w) (text_by-is mode has s d (reads-unsigned text s d r w));
          })
      limited s d e false f =
          let past : ReadsPastLimits text = (s, d, reading-spells text s d e, λ w. absurd (false≢true (sym f ∙ is_within-limits d w))) in
          inr (inr (past, text_result-past past))

      go : (o : Option (Sign × Unsigned)) → reading text ≡ o → IsTextResult mode text (text_result mode text)
      go None e =
          let none = nothing-reading text e in
          inr (inl (none, text_result-nothing none))
      go (Some (s, d)) e = limited s d e (is_within_limits d) refl

  -- the computed answer is the only one
  pub text_result-only : (result : List ℕ) → IsTextResult mode text result → result ≡ text_result mode text
  text_result-only result (inl shows) = text_by-only mode shows.sign shows.absolute result shows.shown
      ∙ sym (text_result-within shows.sign shows.absolute shows.reads shows.within)
  text_result-only result (inr (inl (none, e))) = e ∙ sym (text_result-nothing none)
  text_result-only result (inr (inr (past, e))) = e ∙ sym (text_result-past past)

-- what a call added, if it did
pub appended : {T E : Type 0} (r : Result T E) (new old more : List ℕ) → new ≡ (if is_ok r then old ++ more else old) → OnOk r (new ≡ old ++ more)
appended (Ok v) new old more h = h
appended (Err e) new old more h = tt

-- the answers that the proof of `push_result` cites
pub ruleset answering = (text_result-nothing, text_result-past, text_result-decimal, text_result-no_text)
