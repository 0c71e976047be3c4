pub mod WorldLaws
pub mod WaitLaws
pub mod PieceLaws
pub mod CountLaws
pub mod RunLaws
pub mod RestedLaws
pub mod FinishLaws
pub mod SerialLaws
mod Lawfulness
pub mod RollLemmas
pub mod BeginLemmas
pub mod PieceLemmas
pub mod PlayedLemmas
