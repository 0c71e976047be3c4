pub mod Tree
pub mod Language
pub mod Grammar
pub mod Refusals
pub mod Reading
pub mod Views
pub mod Trees
