-- The texts that a builder of symbols was given.
use Rattle.icu_decimal_symbols.specs.Symbols.{SymbolTexts}
use Rattle.icu_decimal_symbols.specs.declared.symbols.DecimalSymbolStrsBuilder.{DecimalSymbolStrsBuilder}

-- each field's text
abbrev pub lent_texts : DecimalSymbolStrsBuilder → SymbolTexts
lent_texts b = record {
  minus_sign_prefix = b.minus_sign_prefix.now;
  minus_sign_suffix = b.minus_sign_suffix.now;
  plus_sign_prefix = b.plus_sign_prefix.now;
  plus_sign_suffix = b.plus_sign_suffix.now;
  decimal_separator = b.decimal_separator.now;
  grouping_separator = b.grouping_separator.now;
  numsys = b.numsys.now;
}
