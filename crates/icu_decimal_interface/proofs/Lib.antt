pub mod NestedSteps
pub mod ShownOnce
