use Rattle.command_spec.proofs.EachCommand as promises
use Rattle.command_spec.proofs.promises.own_texts_are_written.Goals as goal

pub returns : goal.returns
returns c = record { helped = promises.helped; versioned = promises.versioned }
