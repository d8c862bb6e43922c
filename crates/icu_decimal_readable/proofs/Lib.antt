pub mod ReadableParts
pub mod Joined
pub mod ReadableTables
