pub mod Views
pub mod Traces
pub mod Steps
pub mod Merging
pub mod Growth
