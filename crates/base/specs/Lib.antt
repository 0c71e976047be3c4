pub mod Answers
pub mod Count
pub mod Each
pub mod Telling
pub mod Paired
