use Rattle.std.proofs.Common.{◌≡◌, ◌≤◌, take, length, sum_by}
use Rattle.icu_decimal_symbols.specs.declared.symbol_bytes.TheConstants.{MAX_LEN}
use Rattle.icu_decimal_symbols.proofs.symbol_bytes.short_len.Given as goal

abbrev pub invariant-loop-text : goal.invariant-loop-text
invariant-loop-text l = (l.len ≡ sum_by (λ t. length t.now) (take l.text-index l.texts)) × (l.len ≤ MAX_LEN)
