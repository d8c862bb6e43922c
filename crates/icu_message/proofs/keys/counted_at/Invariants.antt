use Rattle.std.proofs.Common.{◌≡◌, drop}
use Rattle.icu_message.specs.Keys.{counted_at, counted_from}
use Rattle.icu_message.proofs.keys.counted_at.Given as goal

-- the choices that are left have the answer, or what was found
abbrev pub invariant-loop-choice : goal.invariant-loop-choice
invariant-loop-choice l = counted_from l.found l.level (drop l.choice-index l.choices) ≡ counted_at l.level l.choices
