pub mod ApplyLaws
pub use Rattle.command_program.proofs.ComingLaws
pub use Rattle.command_program.proofs.KnowingLaws
pub use Rattle.command_program.proofs.ReportingLaws
pub use Rattle.command_program.proofs.RunningLaws
