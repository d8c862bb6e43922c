pub mod Values
pub mod Recordings
pub mod PluralStyle
pub mod UnitRanges
pub mod NameRanges
