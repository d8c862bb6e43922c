pub mod Splits
pub mod Lists
mod Pairs
mod OneMember
