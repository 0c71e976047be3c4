pub mod Outcomes
pub mod Replay
pub mod ReplayText
