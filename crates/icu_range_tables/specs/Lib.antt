pub mod RangePatterns
pub mod PluralRanges
pub mod RangeTables
