pub mod Reordering
pub mod Accepted
