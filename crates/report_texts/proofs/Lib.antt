pub mod LineLemmas
pub mod GraphLemmas
pub mod HistoryLemmas
pub mod LogLemmas
pub mod SlotLemmas
pub mod TextLemmas
pub mod CycleLemmas
pub mod DrawingLemmas
pub mod PastLemmas
pub mod ShowingLemmas
pub mod ParsingLemmas
pub mod FaultLemmas
pub mod PendingLaws
mod GraphFaultLemmas
