use Rattle.std.proofs.Common.{true, refl, sym, ◌∙◌}
use Rattle.std.proofs.lemmas.Bool.{both_ways}
use Rattle.step_board.specs.Seeing.{found_all, sights_of}
use Rattle.step_board.proofs.BoardLemmas.{looked_at_all, scan_entries_added, seen_at_rest, sighted_all, some_after}
use Rattle.step_board.proofs.standing.StepBoardBoard.scan.Goals as goal

pub invariant_of-self : goal.invariant_of-self
invariant_of-self g c =
    record { some = some_after g.N.Nodes.shows c.args.self.now.nodes c.give_turns.new.nodes c.args.begins c.give_turns.result c.give_turns.ensures.ok c.give_turns.ensures.err c.args.self.now.some }

pub returns-clause-ok : goal.returns-clause-ok
returns-clause-ok g c =
    let S = g.N.Nodes.shows in
    let machine = g.N.Nodes.machine in
    let is = g.met.N.Nodes.machine_is in
    let reached = g.met.N.Nodes.are_reached in
    let folds = c.states_are_folds_of_own_events.ensures.one in
    let logs = g.N.Nodes.logs in
    let logs_are = g.met.N.Nodes.logs_are in
    let old = c.args.self.now.nodes in
    let new = c.give_turns.new.nodes in
    let moved = c.in_ok-moved.moved in
    let gave = c.in_ok-moved.ensures.ok in
    let ports = c.look_at_ports-ports in
    let exact = seen_at_rest S machine is reached folds logs logs_are old new c.args.begins moved ports.result.idle c.rests-done.result gave c.rests-done.ensures ports.ensures.idle in
    record {
      sights = sights_of (logs new);
      found = found_all (machine new);
      adds = scan_entries_added S machine is reached folds logs logs_are old new c.args.begins moved gave;
      all_sighted = λ alone. sighted_all S machine is reached folds logs logs_are old new c.args.begins moved gave;
      at_ports = looked_at_all S machine is reached folds logs logs_are old new c.args.begins moved gave;
      done = λ alone. exact;
      at_rest = λ r h done. sym (exact r h) ∙ done;
      twice = λ crowded. absurd (both_ways true crowded refl);
      ended = ports.ensures.ended;
    }
