pub mod Scope
pub mod NameUses
pub mod Primitive
pub mod Faults
pub mod FaultCases
pub mod Checked
pub mod Check
pub mod Within
