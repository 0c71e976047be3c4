pub mod Bytes
pub mod FilesLemmas
mod Known
