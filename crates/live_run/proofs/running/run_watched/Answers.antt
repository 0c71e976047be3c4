use Rattle.std.proofs.Common.{ℕ, ◌<◌, IsTrue, length, subst, sym}
use Rattle.std.proofs.lemmas.List.Elements.{All-weaker}
use Rattle.change_spec.specs.Asked.{statements_of}
use Rattle.live_board.specs.Ended.{CarriedOutOnThreads}
use Rattle.txn_gate.specs.Seats.{collected_in}
use Rattle.txn_spec.specs.Views.{is_among}
use Rattle.txn_records.specs.Entries.{config_of}
use Rattle.watch_lines.specs.Observers.{AreToldOf}
use Rattle.watch_lines.specs.Sightings.{AreSightingsOf}
use Rattle.live_run.proofs.running.run_watched.Goals as goal

pub returns-clause-carried : goal.returns-clause-carried
returns-clause-carried g c =
    let statements = statements_of c.args.start c.args.steps.items in
    let x = c.in_ok-report in
    let left = c.scripts_leave_all_taken_in.ensures in
    let nodes = collected_in c.into_seat.result in
    let carried : CarriedOutOnThreads statements x.report x.board.entries x.board.nodes = left.carried statements x.report x.board x.ensures.ok in
    record {
      here = c.into_seat.ensures.here;
      carried =
          subst (λ r. CarriedOutOnThreads statements x.report r nodes) (sym c.into_seat.ensures.record)
          (subst (λ ns. CarriedOutOnThreads statements x.report x.board.entries ns) (sym c.into_seat.ensures.nodes) carried);
      all_taken_in =
          subst (λ r. (n : ℕ) → n < length (config_of r).slots → IsTrue (is_among nodes n)) (sym c.into_seat.ensures.record)
          (subst (λ ns. (n : ℕ) → n < length (config_of x.board.entries).slots → IsTrue (is_among ns n)) (sym c.into_seat.ensures.nodes)
          (left.all statements x.report x.board x.ensures.ok));
      logs = x.ensures.logs;
    }

pub returns-clause-seen : goal.returns-clause-seen
returns-clause-seen g c =
    let history = c.in_ok-report.report.history in
    let heard = c.in_ok-report.ensures.heard in
    All-weaker (AreSightingsOf heard.0) (AreToldOf history) (λ lines are. c.what_was_seen_is_told.ensures history heard.0 lines heard.2 are) _
    (c.in_ok-seen.ensures.told heard.0 heard.1)
