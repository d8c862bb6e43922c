pub mod Backends
pub mod Filled
pub mod Patterns
pub mod Refs
pub use Rattle.writeable.specs.Events
pub use Rattle.writeable.specs.Sink
