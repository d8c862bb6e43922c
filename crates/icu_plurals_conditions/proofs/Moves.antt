-- Which tokens may follow what, each case once.
use Rattle.std.proofs.Common.{◌≡◌, ℕ, zero, suc, ◌==◌, false, Some, arith}
use Rattle.std.proofs.lemmas.Bool.Decides.{nat_tests}
use Rattle.icu_plurals_conditions.specs.declared.condition.Operand.{Operand}
use Rattle.icu_plurals_conditions.specs.declared.lexer.Token.{Token}
use Rattle.icu_plurals_conditions.specs.declared.lexer.Token.TheVariants.{Letter, And, Or, Number, Percent, Equals, NotEquals, Comma, Dots, Unknown}
use Rattle.icu_plurals_conditions.specs.declared.progress.Progress.{Progress}
use Rattle.icu_plurals_conditions.specs.declared.progress.Progress.TheVariants.{Nothing, Joined, AfterOperand, Divided, Reduced, Listed, Valued, Ranged, Ended}
use Rattle.icu_plurals_conditions.specs.Reading.{progress_at_operand, progress_after_operand, progress_at_modulus, progress_at_sign, progress_at_value}
use Rattle.icu_plurals_conditions.specs.Reading.{progress_at_end, progress_after_item, progress_after_value, next_progress}
use Rattle.icu_plurals_conditions.proofs.Answered.{some, some_is, none_is}

-- a property of each move: what was read ends so, then the token, and then what is read ends so
pub record EachMove (P : Progress → Token → Progress → Type 0) : Type 0 where
  pub first : (o : Operand) → P Nothing (Letter o) AfterOperand
  pub next : (o : Operand) → P Joined (Letter o) AfterOperand
  pub percent : P AfterOperand Percent Divided
  pub equals : P AfterOperand Equals Listed
  pub differs : P AfterOperand NotEquals Listed
  pub modulus : (n : ℕ) → P Divided (Number (suc n)) Reduced
  pub reduced_equals : P Reduced Equals Listed
  pub reduced_differs : P Reduced NotEquals Listed
  pub value : (n : ℕ) → P Listed (Number n) Valued
  pub dots : P Valued Dots Ranged
  pub value_comma : P Valued Comma Listed
  pub value_and : P Valued And Joined
  pub value_or : P Valued Or Joined
  pub range : (n : ℕ) → P Ranged (Number n) Ended
  pub range_comma : P Ended Comma Listed
  pub range_and : P Ended And Joined
  pub range_or : P Ended Or Joined

-- a successor is not zero
pub not_zero : (n : ℕ) → (suc n == 0) ≡ false
not_zero n = grind (arith, nat_tests)

operands : (Q : Token → Progress → Type 0) → ((o : Operand) → Q (Letter o) AfterOperand) → (t : Token) (n : Progress) →
    progress_at_operand t ≡ some n → Q t n
operands Q f (Letter o) n e = rw (← some_is e) (f o)
operands Q f And n e = absurd (none_is e)
operands Q f Or n e = absurd (none_is e)
operands Q f (Number k) n e = absurd (none_is e)
operands Q f Percent n e = absurd (none_is e)
operands Q f Equals n e = absurd (none_is e)
operands Q f NotEquals n e = absurd (none_is e)
operands Q f Comma n e = absurd (none_is e)
operands Q f Dots n e = absurd (none_is e)
operands Q f Unknown n e = absurd (none_is e)

after_operands : (Q : Token → Progress → Type 0) → Q Percent Divided → Q Equals Listed → Q NotEquals Listed → (t : Token) (n : Progress) →
    progress_after_operand t ≡ some n → Q t n
after_operands Q p a b (Letter o) n e = absurd (none_is e)
after_operands Q p a b And n e = absurd (none_is e)
after_operands Q p a b Or n e = absurd (none_is e)
after_operands Q p a b (Number k) n e = absurd (none_is e)
after_operands Q p a b Percent n e = rw (← some_is e) (p)
after_operands Q p a b Equals n e = rw (← some_is e) (a)
after_operands Q p a b NotEquals n e = rw (← some_is e) (b)
after_operands Q p a b Comma n e = absurd (none_is e)
after_operands Q p a b Dots n e = absurd (none_is e)
after_operands Q p a b Unknown n e = absurd (none_is e)

moduli : (Q : Token → Progress → Type 0) → ((k : ℕ) → Q (Number (suc k)) Reduced) → (t : Token) (n : Progress) →
    progress_at_modulus t ≡ some n → Q t n
moduli Q f (Letter o) n e = absurd (none_is e)
moduli Q f And n e = absurd (none_is e)
moduli Q f Or n e = absurd (none_is e)
moduli Q f (Number zero) n e = absurd (none_is e)
moduli Q f (Number (suc k)) n e = let same : some Reduced ≡ some n = rw (not_zero k) at e in rw (← some_is same) (f k)
moduli Q f Percent n e = absurd (none_is e)
moduli Q f Equals n e = absurd (none_is e)
moduli Q f NotEquals n e = absurd (none_is e)
moduli Q f Comma n e = absurd (none_is e)
moduli Q f Dots n e = absurd (none_is e)
moduli Q f Unknown n e = absurd (none_is e)

signs : (Q : Token → Progress → Type 0) → Q Equals Listed → Q NotEquals Listed → (t : Token) (n : Progress) → progress_at_sign t ≡ some n →
    Q t n
signs Q a b (Letter o) n e = absurd (none_is e)
signs Q a b And n e = absurd (none_is e)
signs Q a b Or n e = absurd (none_is e)
signs Q a b (Number k) n e = absurd (none_is e)
signs Q a b Percent n e = absurd (none_is e)
signs Q a b Equals n e = rw (← some_is e) (a)
signs Q a b NotEquals n e = rw (← some_is e) (b)
signs Q a b Comma n e = absurd (none_is e)
signs Q a b Dots n e = absurd (none_is e)
signs Q a b Unknown n e = absurd (none_is e)

values : (Q : Token → Progress → Type 0) → ((k : ℕ) → Q (Number k) Valued) → (t : Token) (n : Progress) → progress_at_value t ≡ some n → Q t n
values Q f (Letter o) n e = absurd (none_is e)
values Q f And n e = absurd (none_is e)
values Q f Or n e = absurd (none_is e)
values Q f (Number k) n e = rw (← some_is e) (f k)
values Q f Percent n e = absurd (none_is e)
values Q f Equals n e = absurd (none_is e)
values Q f NotEquals n e = absurd (none_is e)
values Q f Comma n e = absurd (none_is e)
values Q f Dots n e = absurd (none_is e)
values Q f Unknown n e = absurd (none_is e)

ends : (Q : Token → Progress → Type 0) → ((k : ℕ) → Q (Number k) Ended) → (t : Token) (n : Progress) → progress_at_end t ≡ some n → Q t n
ends Q f (Letter o) n e = absurd (none_is e)
ends Q f And n e = absurd (none_is e)
ends Q f Or n e = absurd (none_is e)
ends Q f (Number k) n e = rw (← some_is e) (f k)
ends Q f Percent n e = absurd (none_is e)
ends Q f Equals n e = absurd (none_is e)
ends Q f NotEquals n e = absurd (none_is e)
ends Q f Comma n e = absurd (none_is e)
ends Q f Dots n e = absurd (none_is e)
ends Q f Unknown n e = absurd (none_is e)

joins : (Q : Token → Progress → Type 0) → Q Comma Listed → Q And Joined → Q Or Joined → (t : Token) (n : Progress) →
    progress_after_item t ≡ some n → Q t n
joins Q a b c (Letter o) n e = absurd (none_is e)
joins Q a b c And n e = rw (← some_is e) (b)
joins Q a b c Or n e = rw (← some_is e) (c)
joins Q a b c (Number k) n e = absurd (none_is e)
joins Q a b c Percent n e = absurd (none_is e)
joins Q a b c Equals n e = absurd (none_is e)
joins Q a b c NotEquals n e = absurd (none_is e)
joins Q a b c Comma n e = rw (← some_is e) (a)
joins Q a b c Dots n e = absurd (none_is e)
joins Q a b c Unknown n e = absurd (none_is e)

after_values : (Q : Token → Progress → Type 0) → Q Dots Ranged → Q Comma Listed → Q And Joined → Q Or Joined → (t : Token) (n : Progress) →
    progress_after_value t ≡ some n → Q t n
after_values Q d a b c (Letter o) n e = joins Q a b c (Letter o) n e
after_values Q d a b c And n e = joins Q a b c And n e
after_values Q d a b c Or n e = joins Q a b c Or n e
after_values Q d a b c (Number k) n e = joins Q a b c (Number k) n e
after_values Q d a b c Percent n e = joins Q a b c Percent n e
after_values Q d a b c Equals n e = joins Q a b c Equals n e
after_values Q d a b c NotEquals n e = joins Q a b c NotEquals n e
after_values Q d a b c Comma n e = joins Q a b c Comma n e
after_values Q d a b c Dots n e = rw (← some_is e) d
after_values Q d a b c Unknown n e = joins Q a b c Unknown n e

-- what holds of each move holds of every token that may follow
pub by_move : (P : Progress → Token → Progress → Type 0) → EachMove P → (g n : Progress) (t : Token) → next_progress g t ≡ Some n → P g t n
by_move P m Nothing n t e = operands (λ t n. P Nothing t n) m.first t n e
by_move P m Joined n t e = operands (λ t n. P Joined t n) m.next t n e
by_move P m AfterOperand n t e = after_operands (λ t n. P AfterOperand t n) m.percent m.equals m.differs t n e
by_move P m Divided n t e = moduli (λ t n. P Divided t n) m.modulus t n e
by_move P m Reduced n t e = signs (λ t n. P Reduced t n) m.reduced_equals m.reduced_differs t n e
by_move P m Listed n t e = values (λ t n. P Listed t n) m.value t n e
by_move P m Valued n t e = after_values (λ t n. P Valued t n) m.dots m.value_comma m.value_and m.value_or t n e
by_move P m Ranged n t e = ends (λ t n. P Ranged t n) m.range t n e
by_move P m Ended n t e = joins (λ t n. P Ended t n) m.range_comma m.range_and m.range_or t n e
