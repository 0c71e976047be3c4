use Rattle.std.proofs.Common.{◌∙◌, ◌++◌, refl}
use Rattle.step_runner.proofs.PlayedLemmas.{leaves, may_roll, rolls}
use Rattle.step_runner.proofs.round_rolling.roll_in_rounds.Goals as goal

pub roll_part-requires : goal.roll_part-requires
roll_part-requires g c =
    let x = c.in_ok-engine.ensures in
    record {
      here = (x.begun ++ x.ran, x.idle, may_roll _ c.args.asked.start c.args.asked.run c.in_ok-engine.engine x c.args.asked.parts.items c.requires.parts);
      few = c.requires.few;
    }

pub returns-clause-rounds : goal.returns-clause-rounds
returns-clause-rounds g c =
    let a = c.args.asked in
    let x = c.in_ok-engine.ensures in
    let can = may_roll _ a.start a.run c.in_ok-engine.engine x a.parts.items c.requires.parts in
    rolls _ refl a.start a.run c.in_ok-engine.engine x a.name a.args a.within c.roll_part.new.engine c.close_down-graph.ensures.rounds c.worlds_at_rest_stay.ensures.stays
    c.states_are_folds_of_own_events.ensures.one a.parts.items c.into_vec.result.items c.into_vec.ensures c.in_ok-given_up.given_up
    (c.in_ok-given_up.ensures (x.begun ++ x.ran) x.idle can)

pub returns-clause-graph : goal.returns-clause-graph
returns-clause-graph g c =
    let a = c.args.asked in
    let x = c.in_ok-engine.ensures in
    let can = may_roll _ a.start a.run c.in_ok-engine.engine x a.parts.items c.requires.parts in
    c.close_down-graph.ensures.graph
    ∙ leaves _ refl a.start a.run c.in_ok-engine.engine x a.name a.args a.within c.roll_part.new.engine c.close_down-graph.ensures.rounds c.worlds_at_rest_stay.ensures.stays
    c.states_are_folds_of_own_events.ensures.one a.parts.items c.into_vec.result.items c.in_ok-given_up.given_up
    (c.in_ok-given_up.ensures (x.begun ++ x.ran) x.idle can)
