pub mod Grouping
pub mod GroupingLaws
pub mod Preferences
