pub mod Tables
pub mod Makeable
pub mod Leading
pub mod RightAlone
pub mod Showing
pub mod Ahead
pub mod Going
pub mod Ways
