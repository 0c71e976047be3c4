pub mod Asking
pub mod Bodies
pub mod Changes
pub mod Parting
pub mod Refusals
pub mod SessionLaws
pub mod WordsLaws
