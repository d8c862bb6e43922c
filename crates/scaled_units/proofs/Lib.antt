pub mod Products
pub mod Spelled
pub mod Results
pub mod Texts
pub mod Wholes
pub mod Quotients
pub mod Shows
pub mod Bounds
