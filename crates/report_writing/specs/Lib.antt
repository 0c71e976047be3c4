pub mod Writing
pub mod Reports
pub mod MadeNodes
