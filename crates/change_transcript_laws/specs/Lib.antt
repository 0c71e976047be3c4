pub mod Pieces
pub mod Joining
pub mod Reports
pub mod Rests
pub mod Hearing
