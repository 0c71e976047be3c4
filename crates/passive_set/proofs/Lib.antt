pub mod MarkLemmas
pub mod PortLemmas
pub mod FeedingLemmas
