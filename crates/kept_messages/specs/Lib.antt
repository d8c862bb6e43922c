pub mod Arguments
pub mod Messages
pub mod Opening
pub mod Picking
pub mod Places
pub mod Writing
