pub mod Looks
pub mod Entries
pub mod Notes
pub mod Records
