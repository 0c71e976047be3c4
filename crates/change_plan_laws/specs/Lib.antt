pub mod Systems
pub mod Commit
pub mod Committing
pub mod Rows
