use Rattle.std.proofs.Common.{◌≡◌, drop}
use Rattle.icu_message.specs.Keys.{has_other_kind}
use Rattle.icu_message.proofs.keys.has_other_kind.Given as goal

-- the choices that are left have the answer
abbrev pub invariant-loop-choice : goal.invariant-loop-choice
invariant-loop-choice l = has_other_kind l.text l.kind l.name (drop l.choice-index l.choices) ≡ has_other_kind l.text l.kind l.name l.choices
