pub mod PackLaws
pub mod WordLaws
pub mod SlotWordLaws
pub mod OperandLaws
pub mod PhaseLaws
