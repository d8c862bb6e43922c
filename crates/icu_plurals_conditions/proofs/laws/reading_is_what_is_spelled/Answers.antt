use Rattle.std.proofs.Common.{◌≡◌, ℕ, List, Ok, Err, Result, refl, ap, ◌∙◌}
use Rattle.icu_plurals_conditions.specs.Grammar.{Condition, IsTextFault}
use Rattle.icu_plurals_conditions.specs.Reading.{condition_of, fault_byte}
use Rattle.icu_plurals_conditions.proofs.Answered.{some, fault, some_is, none_is}
use Rattle.icu_plurals_conditions.proofs.Judged.{read_is_text, text_is_read, refused_is_fault, fault_is_found}
use Rattle.icu_plurals_conditions.proofs.laws.reading_is_what_is_spelled.Goals as goal

-- a text is rejected at its first fault
fault_is_refused : (text : List ℕ) (b : ℕ) → IsTextFault text b → condition_of text ≡ Err b
fault_is_refused text b p = by (condition_of text) refl (fault_is_found text b p)
  where
    by : (x : Result Condition ℕ) → condition_of text ≡ x → fault_byte x ≡ some b → condition_of text ≡ fault b
    by (Ok c) h k = absurd (none_is k)
    by (Err a) h k = h ∙ ap fault (some_is k)

pub returns-clause-spelled : goal.returns-clause-spelled
returns-clause-spelled c = λ text condition. (read_is_text text condition, text_is_read text condition)

pub returns-clause-refused : goal.returns-clause-refused
returns-clause-refused c = λ text byte. (refused_is_fault text byte, fault_is_refused text byte)
