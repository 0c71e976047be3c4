pub mod Agreeing
pub mod Coming
pub mod Crews
pub mod Doing
pub mod Exits
pub mod Notes
