pub mod Fields
pub mod Contents
pub mod Placed
pub mod Written
