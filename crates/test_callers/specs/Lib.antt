pub mod OneAmount
pub mod OneSize
