pub mod Groupings
pub mod GroupingLaws
pub mod Separators
