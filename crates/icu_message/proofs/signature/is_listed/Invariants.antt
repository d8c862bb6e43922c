use Rattle.std.proofs.Common.{◌≡◌, drop}
use Rattle.icu_message.specs.Signature.{is_listed}
use Rattle.icu_message.proofs.signature.is_listed.Given as goal

-- the names that are left have the answer
abbrev pub invariant-loop-listed : goal.invariant-loop-listed
invariant-loop-listed l = is_listed l.text l.name (drop l.listed-index l.names) ≡ is_listed l.text l.name l.names
