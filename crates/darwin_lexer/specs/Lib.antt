pub mod Keywords
pub mod Positions
pub mod Fronts
pub mod Tokens
pub mod Naming
pub mod Spelling
