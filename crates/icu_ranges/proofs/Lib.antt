pub mod Heavier
pub mod SizesTold
pub mod EdgeSteps
pub mod MarkSteps
pub mod PatternCuts
pub mod ShownOrder
