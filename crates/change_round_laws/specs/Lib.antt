pub mod SoundStatements
pub mod Described
pub mod Courses
pub mod Engaged
pub mod Existing
pub mod Waits
pub mod Roots
