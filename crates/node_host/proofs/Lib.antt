mod ActLaws
mod Asked
mod Asking
mod EventLaws
mod Exactly
mod Growing
mod Hinting
mod InService
mod Loading
mod Moving
mod Permitted
mod Refused
mod Replying
mod Tries
pub mod HostedLaws
pub mod LineLaws
