pub mod Applying
pub mod Requests
pub use Rattle.change_apply.specs.Talks
pub use Rattle.command_program.specs.Coming
pub use Rattle.command_program.specs.Preparing
