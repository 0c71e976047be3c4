pub mod Hearing
pub mod Replacing
pub mod Doing
pub mod Ran
