pub mod Characters
pub mod ReadableRange
pub mod RangeLaws
