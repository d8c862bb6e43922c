use Rattle.std.proofs.Common.{◌≡◌, ◌++◌, map, take}
use Rattle.number_forms.specs.Characters.{from_byte, visible_text}
use Rattle.number_forms.proofs.characters.push_bytes.Given as goal

abbrev pub invariant-loop-byte : goal.invariant-loop-byte
invariant-loop-byte l = l.out.items ≡ l.fn.out.items ++ visible_text (map from_byte (take l.byte-index l.bytes))
