use Rattle.std.proofs.Common.{◌∙◌, [], length, map, ap, sym, subst}
use Rattle.std.specs.Prelude.{All}
use Rattle.std.specs.List.{range_with_len}
use Rattle.change_board.specs.Collecting.{IsEndOf}
use Rattle.txn_records.specs.Entries.{config_of}
use Rattle.report_types.specs.declared.report.NodeLog.{NodeLog}
use Rattle.step_board.specs.Agreeing.{config_at}
use Rattle.step_board.proofs.BoardLemmas.{ends_so, undone_so}
use Rattle.step_board.proofs.StandingLemmas.{adds_none}
use Rattle.step_board.proofs.standing.StepBoardBoard.collect.Goals as goal

pub returns-clause-ok : goal.returns-clause-ok
returns-clause-ok g c =
    let S = g.N.Nodes.shows in
    let machine = g.N.Nodes.machine in
    let is = g.met.N.Nodes.machine_is in
    let reached = g.met.N.Nodes.are_reached in
    let folds = c.states_are_folds_of_own_events.ensures.one in
    let logs = g.N.Nodes.logs in
    let logs_are = g.met.N.Nodes.logs_are in
    let b = c.args.self.now.nodes in
    let given = c.in_ok-logs.logs.items in
    let h = c.in_ok-logs.ensures in
    record {
      sights = [];
      adds = adds_none S b b (λ w s. s);
      events = ap (map (λ (l : NodeLog). l.events)) c.of.ensures ∙ h.events_are;
      slots = λ r s. ap (map (λ (l : NodeLog). l.slot)) c.of.ensures ∙ h.slots ∙ ap (λ d. range_with_len 0 (length d.slots)) (sym (config_at S machine is b r s));
      ends = λ r s. subst (All (IsEndOf (config_of r) (logs b))) (sym c.of.ensures) (ends_so S machine is reached folds logs logs_are b given h r s);
      undone = undone_so S machine is reached folds logs logs_are b c.first_undone-undone.result c.first_undone-undone.ensures;
    }
