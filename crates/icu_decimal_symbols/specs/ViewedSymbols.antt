-- What a view of symbols shows.
use Rattle.icu_decimal_symbols.specs.Symbols.{SymbolTexts}
use Rattle.icu_decimal_symbols.specs.SymbolBytes.{texts_in}
use Rattle.icu_decimal_symbols.specs.declared.symbols_view.SymbolsView.{SymbolsView}

-- the seven texts in its bytes
abbrev pub viewed_texts : SymbolsView → SymbolTexts
viewed_texts v = texts_in v.bytes.now
