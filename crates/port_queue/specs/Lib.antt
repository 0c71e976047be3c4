pub mod Inboxes
pub mod Plain
