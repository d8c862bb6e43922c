use Rattle.std.proofs.Common.{◌≡◌, ◌≤◌, take, map, length}
use Rattle.std.specs.Prelude.{vec_capacity}
use Rattle.icu_decimal_symbols.proofs.symbol_bytes.lengths.Given as goal

abbrev pub invariant-loop-text : goal.invariant-loop-text
invariant-loop-text l = (l.bytes.items ≡ map length (map (λ t. t.now) (take l.text-index l.texts))) × (l.capacity ≤ vec_capacity l.bytes)
