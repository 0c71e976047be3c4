pub mod Counts
pub mod Observers
pub mod Sightings
pub mod WatchText
pub mod Lists
