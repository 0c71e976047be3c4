pub mod DenialLaws
pub mod SettledLemmas
