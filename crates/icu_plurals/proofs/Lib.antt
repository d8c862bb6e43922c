pub mod DigitNumbers
pub mod MovedPoint
pub mod Holding
pub mod BadRules
pub mod SelectedSlots
