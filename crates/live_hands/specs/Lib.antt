pub mod Inbox
pub mod Hands
pub mod Opens
