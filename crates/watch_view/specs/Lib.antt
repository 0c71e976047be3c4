pub mod Known
pub mod Rule
pub mod Hearing
pub mod Noted
