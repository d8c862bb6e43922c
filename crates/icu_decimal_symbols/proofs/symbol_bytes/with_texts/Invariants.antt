use Rattle.std.proofs.Common.{◌≡◌, take, map, ◌++◌, All, IsTrue}
use Rattle.std.specs.List.{concat}
use Rattle.std.specs.Str.{is_utf8}
use Rattle.icu_decimal_symbols.proofs.symbol_bytes.with_texts.Given as goal

abbrev pub invariant-loop-text : goal.invariant-loop-text
invariant-loop-text l = (l.all.items ≡ l.fn.bytes.items ++ concat (map (λ t. t.now) (take l.text-index l.texts)))
    × All (λ t. IsTrue (is_utf8 t.now)) (take l.text-index l.texts)
