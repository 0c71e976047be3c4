pub mod BehindLaws
pub mod BoardLaws
pub mod BoardLemmas
pub mod ChainLemmas
pub mod EndLemmas
pub mod GatherLemmas
pub mod GrowLemmas
pub mod HeirLemmas
pub mod KeptLaws
pub mod LengthLaws
pub mod LineLaws
pub mod LookLaws
pub mod MakeLemmas
pub mod PartLemmas
pub mod PlaceLemmas
pub mod QuietLaws
pub mod ScanLaws
pub mod SeenLaws
pub mod SightingLaws
pub mod TakenLemmas
pub mod TellLemmas
mod LineFolds
mod SeenLines
mod ApartLemmas
mod CutLaws
mod ThreadReports
mod RecordLemmas
mod CarriedLemmas
mod FirstSights
