use Rattle.std.proofs.Common.{◌≡◌, ◌++◌, take, map}
use Rattle.locnum_options.specs.Locale.{cased_byte}
use Rattle.locnum_options.proofs.locale.push_letters.Given as goal

-- the bytes so far are written
abbrev pub invariant-loop-byte : goal.invariant-loop-byte
invariant-loop-byte l = l.out.items ≡ l.initial.out.items ++ map (cased_byte l.is_large) (take l.byte-index l.bytes)
