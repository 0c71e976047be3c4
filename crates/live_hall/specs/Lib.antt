pub mod Boxed
pub mod Lines
pub mod Houses
pub mod Doors
pub mod Sighting
pub mod Turned
