use Rattle.std.proofs.Common.{◌≡◌, drop}
use Rattle.icu_message.specs.Words.{all_digits}
use Rattle.icu_message.proofs.words.has_digits_alone.Given as goal

-- what is left has the answer
abbrev pub invariant-loop-byte : goal.invariant-loop-byte
invariant-loop-byte l = all_digits (drop l.byte-index l.word) ≡ all_digits l.word
