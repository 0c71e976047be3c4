-- A second finish makes no round, and the first one isn't like it.
use Rattle.std.proofs.Common.{◌≡◌, ◌<◌, true, false, List, [], ◌∷◌, ◌++◌, drop, map, take, Option, Some, None, refl, ap, subst, ⊎_elim, arith}
use Rattle.std.specs.Prelude.{codes, pos, slice_get}
use Rattle.std.specs.Option.{option_map_or}
use Rattle.base.specs.Each.{Each}
use Rattle.base.proofs.EachLaws.{each_at}
use Rattle.component_trait.specs.Moves as moves
use Rattle.component_trait.specs.States.{NodeState}
use Rattle.component_trait.specs.Tables.{opening}
use Rattle.config_graph.specs.declared.kind.Kind.TheVariants as kind
use Rattle.quiesce_core.specs.Runs.{done_by, state_after}
use Rattle.quiesce_core.specs.State.{slot}
use Rattle.quiesce_core.specs.declared.event.Event.{Event}
use Rattle.quiesce_core.specs.declared.event.Event.TheVariants.{Close}
use Rattle.quiesce_core.specs.declared.state.Slot.{Slot}
use Rattle.node_turn_laws.specs.Round.{after_rounds}
use Rattle.node_turn_laws.specs.World.{World}
use Rattle.report_types.specs.declared.report.HistoryLine.{HistoryLine}
use Rattle.report_types.specs.declared.report.HistoryLine.TheVariants as to
use Rattle.report_types.specs.declared.report.Report.{Report}
use Rattle.change_spec.specs.Lawful.{CameToRest, IsFinishAt, Merge, is_done}
use Rattle.change_spec.specs.Members.{Member, of_history}
use Rattle.change_spec.specs.Serial.{Serial, after_changes, finish_ends, is_none_left}
use Rattle.change_spec.specs.Statements.{finish, start}
use Rattle.change_spec.proofs.MemberLaws.{at_line}
use Rattle.change_spec.proofs.SerialLaws.{one_serial}
use Rattle.worked_report_laws.specs.FinishedTwice.{finished_at_once, finished_later, report, script}
use Rattle.worked_report_laws.specs.Ran as ran
use Rattle.worked_report_laws.specs.WrongRuns.{rested_partly}
use Rattle.change_plan_laws.specs.Systems.{source_at}
use Rattle.worked_report_laws.specs.Systems.{two_of}
use Rattle.worked_report_laws.proofs.LaterSerialLemmas.{two_started}
use Rattle.worked_report_laws.proofs.SerialLemmas.{first_at, ran_is_serial}
use Rattle.worked_report_laws.proofs.WrongLineLemmas.{never_rests, rounds_in}
use Rattle.worked_report_laws.proofs.WrongLogLemmas.{some_log}
use Rattle.worked_report_laws.proofs.WrongRunLemmas.{first_source, never_done}
use Rattle.worked_report_laws.proofs.WrongStateLemmas.{folds_so}

abbrev two_rested : World
two_rested = after_rounds true two_started 6

abbrev two_closed : World
two_closed = after_changes two_rested (map Close (0 ∷ 1 ∷ []))

pub finished_twice : Serial script report
finished_twice = record {
  parts = record { statement = start (codes "Two") (pos 2 ∷ []) (two_of 2); lines = take 10 report.history; world = two_started }
      ∷ record { statement = finish 9; lines = to.Finish 9 6 ∷ []; world = two_rested }
      ∷ record { statement = finish 9; lines = to.Finish 9 0 ∷ []; world = two_rested } ∷ [];
  statements_are = refl;
  played = (
    (refl, refl),
    (
      record { rounds = 6; number = first_at (finish_ends two_started 9) 6 refl refl; world = refl; are = refl },
      (record { rounds = 0; number = first_at (finish_ends two_rested 9) 0 refl refl; world = refl; are = refl }, tt),
    ),
  );
  stop = drop 12 report.history;
  world = two_closed;
  stops = record { waiting = two_closed; waits = refl; rounds = 0; number = first_at (is_none_left two_closed (0 ∷ 1 ∷ [])) 0 refl refl; world = refl; are = refl };
  report_is = refl;
}

abbrev starts : List HistoryLine
starts = take 10 report.history

pub not_at_once_in_rounds : Serial script finished_at_once → ⊥
not_at_once_in_rounds serial =
    let made : 0 ≡ 6 = ap (λ (r : Report). rounds_in (slice_get r.history 10)) (one_serial script finished_at_once report serial finished_twice) in omega (arith, made)

pub not_finished_at_once : (m : List Member) → Merge m finished_at_once → Each IsFinishAt m → ⊥
not_finished_at_once m merge finishes =
    let line_ = to.Finish 9 0 in
    let w = at_line m starts line_ (drop 11 finished_at_once.history) merge.history in
    let said : IsFinishAt w.before (of_history line_) = each_at IsFinishAt w.before w.after (of_history line_) (subst (Each IsFinishAt) w.parts finishes) in
    ⊎_elim (λ (all : 0 ≡ 9). absurd (omega (arith, all)))
    (λ (early : (0 < 9) × CameToRest w.before).
    never_rests 0 first_source never_done starts refl refl m w.before w.after line_ w.parts merge.by_nodes (merge.logs 0 some_log (omega arith)) w.lines_before early.1) said

-- nor is the second finish one of three rounds

pub not_later_in_rounds : Serial script finished_later → ⊥
not_later_in_rounds serial =
    let made : 3 ≡ 0 = ap (λ (r : Report). rounds_in (slice_get r.history 11)) (one_serial script finished_later report serial finished_twice) in omega (arith, made)

pub not_finished_later : (m : List Member) → Merge m finished_later → Each IsFinishAt m → ⊥
not_finished_later m merge finishes =
    let line_ = to.Finish 9 3 in
    let front = starts ++ to.Finish 9 9 ∷ [] in
    let w = at_line m front line_ (drop 12 finished_later.history) merge.history in
    let said : IsFinishAt w.before (of_history line_) = each_at IsFinishAt w.before w.after (of_history line_) (subst (Each IsFinishAt) w.parts finishes) in
    ⊎_elim (λ (all : 3 ≡ 9). absurd (omega (arith, all)))
    (λ (early : (3 < 9) × CameToRest w.before).
    never_rests 0 first_source never_done front refl refl m w.before w.after line_ w.parts merge.by_nodes (merge.logs 0 some_log (omega arith)) w.lines_before early.1) said

-- a source doesn't rest, though the map before it does

abbrev second_source : Slot
second_source = record { node = source_at (codes "s") 3; first_port = 1; from = None; live = true }

source_undone : (es : List Event) → slot (state_after es).config 1 ≡ Some second_source → done_by 1 es ≡ [] → is_done es 1 ≡ false
source_undone es there did = ap (λ (o : Option NodeState). option_map_or moves.is_done o false) (folds_so es 1 1 second_source [] (opening kind.Source 3) there did refl)

pub not_partly_in_rounds : Serial ran.script rested_partly → ⊥
not_partly_in_rounds serial =
    let made : 0 ≡ 18 = ap (λ (r : Report). rounds_in (slice_get r.history 9)) (one_serial ran.script rested_partly ran.report serial ran_is_serial) in omega (arith, made)

pub not_rested_partly : (m : List Member) → Merge m rested_partly → Each IsFinishAt m → ⊥
not_rested_partly m merge finishes =
    let line_ = to.Finish 100 0 in
    let front = take 9 ran.history in
    let w = at_line m front line_ (drop 10 rested_partly.history) merge.history in
    let said : IsFinishAt w.before (of_history line_) = each_at IsFinishAt w.before w.after (of_history line_) (subst (Each IsFinishAt) w.parts finishes) in
    ⊎_elim (λ (all : 0 ≡ 100). absurd (omega (arith, all)))
    (λ (early : (0 < 100) × CameToRest w.before).
    never_rests 1 second_source source_undone front refl refl m w.before w.after line_ w.parts merge.by_nodes (merge.logs 1 some_log (omega arith)) w.lines_before early.1) said
