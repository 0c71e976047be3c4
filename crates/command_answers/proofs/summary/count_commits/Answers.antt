use Rattle.std.proofs.Common.{rules}
use Rattle.std.proofs.iter.runs.Made.{chains}
use Rattle.command_answers.proofs.summary.count_commits.Goals as goal

pub returns : goal.returns
returns c = search (rules, chains)
