pub mod Reading
pub mod Shelf
pub mod Sink
pub mod Store
