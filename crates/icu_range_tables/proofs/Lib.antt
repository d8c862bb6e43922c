pub mod Patterns
pub mod Triples
