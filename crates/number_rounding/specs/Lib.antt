pub mod Steps
pub mod Showable
pub mod Laws
pub mod LeastDigits
pub mod Shown
pub mod ShownLaws
