use Rattle.change_round_laws.proofs.RoundLemmas.{drained}
use Rattle.change_round_laws.proofs.waiting.rounds_drain_what_is_left.Goals as goal

pub returns : goal.returns
returns c = record {
  drained = λ w reached posted.
      drained c.rounds_move_what_is_open.ensures.idle c.hints_are_posted_in_rounds.ensures.round c.rest_falls_by_steps.ensures.falls
      c.nothing_is_left_where_none_is_open.ensures.all w reached posted;
}
