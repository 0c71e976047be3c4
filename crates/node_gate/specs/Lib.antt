pub mod Seats
pub mod Moves
pub mod Answers
pub mod Loads
pub mod Noting
pub mod Core
pub mod Looks
