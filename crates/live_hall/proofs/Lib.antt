pub mod LineLaws
mod Cells
mod HandedLaws
mod Missed
pub mod PastLaws
mod Elsewhere
