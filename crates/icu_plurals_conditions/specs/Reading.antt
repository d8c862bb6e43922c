-- Reading a condition token by token: which tokens may follow, what was read so far, and the place of the first token that
-- may not follow. It is proved to agree with the grammar: what is read is spelled by the text, what is spelled is read, and
-- an error is the first fault.
use Rattle.std.specs.Prelude.{◌==◌, ℕ, List, [], ◌∷◌, Bool, true, false, Option, Some, None, Result, Ok, Err, length, if◌then◌else◌}
use Rattle.icu_plurals_conditions.specs.declared.lexer.Token.{Token}
use Rattle.icu_plurals_conditions.specs.declared.lexer.Token.TheVariants.{Letter, And, Or, Number, Percent, Equals, NotEquals, Comma, Dots}
use Rattle.icu_plurals_conditions.specs.declared.progress.Progress.{Progress}
use Rattle.icu_plurals_conditions.specs.declared.progress.Progress.TheVariants.{Nothing, Joined, AfterOperand, Divided, Reduced, Listed, Valued, Ranged, Ended}
use Rattle.icu_plurals_conditions.specs.Tokens.{part_of}
use Rattle.icu_plurals_conditions.specs.Grammar.{Condition, PositionedToken, text_tokens}
use Rattle.icu_plurals_conditions.specs.Drafts.{Drafted, empty_draft, with_token, completed}

-- an operand
abbrev pub progress_at_operand : Token → Option Progress
progress_at_operand (Letter o) = Some AfterOperand
progress_at_operand _ = None

-- a modulus or a sign, after an operand
abbrev pub progress_after_operand : Token → Option Progress
progress_after_operand Percent = Some Divided
progress_after_operand Equals = Some Listed
progress_after_operand NotEquals = Some Listed
progress_after_operand _ = None

-- the value of a modulus, which is not zero
abbrev pub progress_at_modulus : Token → Option Progress
progress_at_modulus (Number n) = if n == 0 then None else Some Reduced
progress_at_modulus _ = None

-- a sign, after a modulus
abbrev pub progress_at_sign : Token → Option Progress
progress_at_sign Equals = Some Listed
progress_at_sign NotEquals = Some Listed
progress_at_sign _ = None

-- a value, after a sign or a comma
abbrev pub progress_at_value : Token → Option Progress
progress_at_value (Number n) = Some Valued
progress_at_value _ = None

-- the other end of a range
abbrev pub progress_at_end : Token → Option Progress
progress_at_end (Number n) = Some Ended
progress_at_end _ = None

-- what joins, after an item
abbrev pub progress_after_item : Token → Option Progress
progress_after_item Comma = Some Listed
progress_after_item And = Some Joined
progress_after_item Or = Some Joined
progress_after_item _ = None

-- the dots of a range, or what joins, after a value
abbrev pub progress_after_value : Token → Option Progress
progress_after_value Dots = Some Ranged
progress_after_value t = progress_after_item t

-- the progress after a token, or none if the token may not follow
abbrev pub next_progress : Progress → Token → Option Progress
next_progress Nothing t = progress_at_operand t
next_progress Joined t = progress_at_operand t
next_progress AfterOperand t = progress_after_operand t
next_progress Divided t = progress_at_modulus t
next_progress Reduced t = progress_at_sign t
next_progress Listed t = progress_at_value t
next_progress Valued t = progress_after_value t
next_progress Ranged t = progress_at_end t
next_progress Ended t = progress_after_item t

-- the text may end here
abbrev pub may_end : Progress → Bool
may_end Nothing = true
may_end Valued = true
may_end Ended = true
may_end _ = false

-- the condition that the tokens complete, or the place of the first token that may not follow
unfoldable pub reading_from : ℕ → Progress → Drafted → List PositionedToken → Result Condition ℕ
reading_from end g d [] = if may_end g then Ok (completed g d) else Err end
reading_from end g d (t ∷ ts) = elim (next_progress g t.1) [ None ↦ Err t.0 | Some next ↦ reading_from end next (with_token g t.1 d) ts ]

-- the condition of the tokens, or the place of the first token that may not follow
unfoldable pub reading : ℕ → List PositionedToken → Result Condition ℕ
reading end ts = reading_from end Nothing empty_draft ts

-- the condition of a text, or the byte of its first fault
unfoldable pub condition_of : List ℕ → Result Condition ℕ
condition_of text = reading (length (part_of text)) (text_tokens text)

-- where a rejected text has its first fault
abbrev pub fault_byte : Result Condition ℕ → Option ℕ
fault_byte (Ok c) = None
fault_byte (Err byte) = Some byte
