pub mod TextStarts
pub mod SymbolReading
pub mod SymbolPacking
pub mod SymbolDamage
pub mod SymbolsBuilt
pub mod SameBytes
