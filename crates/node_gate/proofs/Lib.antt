mod CoreLemmas
mod NotingLaws
pub mod AllowedLaws
pub mod SeatLaws
