pub mod Symbols
pub mod SymbolBytes
pub mod ViewedSymbols
pub mod LentTexts
pub mod DecimalSymbols
