pub mod Testing
pub mod Sorting
pub mod Fronts
pub mod Readers
