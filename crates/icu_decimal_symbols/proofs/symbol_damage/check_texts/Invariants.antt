use Rattle.std.proofs.Common.{◌≡◌, ◌-◌}
use Rattle.icu_decimal_symbols.specs.SymbolBytes.{text_start, first_no_text}
use Rattle.icu_decimal_symbols.proofs.symbol_damage.check_texts.Given as goal

abbrev pub invariant-loop-index : goal.invariant-loop-index
invariant-loop-index l = (l.start ≡ text_start l.bytes l.index) × (first_no_text l.bytes l.index (7 - l.index) ≡ first_no_text l.bytes 0 7)
