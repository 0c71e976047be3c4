pub mod Checks
pub mod Elaborations
pub mod Texts
pub mod Plans
