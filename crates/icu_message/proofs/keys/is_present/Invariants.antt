use Rattle.std.proofs.Common.{◌≡◌, drop}
use Rattle.icu_message.specs.Keys.{has_key}
use Rattle.icu_message.proofs.keys.is_present.Given as goal

-- the keys that are left have the answer
abbrev pub invariant-loop-key : goal.invariant-loop-key
invariant-loop-key l = has_key l.text l.level l.word (drop l.key-index l.keys) ≡ has_key l.text l.level l.word l.keys
