pub mod Packs
pub mod Phases
pub mod Words
pub mod SlotWords
pub mod Operands
