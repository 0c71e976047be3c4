pub mod Behind
pub mod Rolling
pub mod RoundRolling
