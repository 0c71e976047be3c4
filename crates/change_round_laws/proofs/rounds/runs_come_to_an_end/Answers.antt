use Rattle.change_round_laws.proofs.EndingRoundLaws.{runs_end}
use Rattle.change_round_laws.proofs.rounds.runs_come_to_an_end.Goals as goal

pub returns : goal.returns
returns c = record { ends = runs_end c.rest_falls_by_steps.ensures.falls c.rest_falls_by_steps.ensures.rises }
