use Rattle.std.proofs.Common.{◌≤◌, ◌+◌, Result, Ok, Err, length, sym, subst}
use Rattle.std.specs.Prelude.{OnOk}
use Rattle.config_graph.specs.declared.TheConstants.{MAX_NODES}
use Rattle.step_board.specs.Agreeing.{config_at}
use Rattle.step_board.specs.RunFacts.{config_here, rounds_play}
use Rattle.step_board.specs.Playing.{played}
use Rattle.step_board.proofs.standing.StepBoardBoard.reserve.Goals as goal

on_ok : {A E P Q : Type 0} → (P → Q) → (r : Result A E) → OnOk r P → OnOk r Q
on_ok f (Ok x) h = f h
on_ok f (Err e) h = tt

pub reserve-requires : goal.reserve-requires
reserve-requires g c =
    let h = c.requires.few in
    record {
      few = (played h.0, h.1.shows, subst (λ d. length d.slots + c.args.nodes ≤ MAX_NODES) (config_here h.0 (played h.0) (rounds_play h.0 h.1.rounds)) h.2);
    }

pub returns-clause-sources : goal.returns-clause-sources
returns-clause-sources g c =
    on_ok
    (λ most r s.
    subst (λ d. length d.slots ≤ (g.N.Nodes.room c.reserve.new.self).sources) (sym (config_at g.N.Nodes.shows g.N.Nodes.machine g.met.N.Nodes.machine_is c.args.self.now.nodes r s)) most)
    c.reserve.result c.reserve.ensures.sources
