pub mod Reading
pub mod ReadingLaws
pub mod CompactReading
pub mod CompactReadingLaws
