pub mod Readable
pub mod ReadableTable
