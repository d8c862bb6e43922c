pub mod Settings
pub mod Grouped
pub mod Skeleton
pub mod Loaded
