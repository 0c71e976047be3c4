-- There is one report of the rounds of a script.
use Rattle.std.proofs.Common.{◌≡◌, ◌∙◌, ℕ, ◌-◌, true, false, List, [], ◌∷◌, ◌++◌, map, refl, sym, ap, subst, ⊎_elim}
use Rattle.std.specs.Prelude.{ℤ}
use Rattle.std.specs.List.{list_any}
use Rattle.std.proofs.lemmas.Bool.{cases_Bool}
use Rattle.base.specs.Each.{EachAfter}
use Rattle.base.proofs.PlaceLaws.{heads_are, tails_are}
use Rattle.config_graph.specs.Graph.{Graph}
use Rattle.config_graph.proofs.GraphByLaws.{one_graph}
use Rattle.change_plan.specs.Plans.{IsPlanOf}
use Rattle.change_plan.specs.declared.plan_data.Move.{Move}
use Rattle.change_plan_laws.specs.Commit.{ports_to_close}
use Rattle.quiesce_core.specs.Live.{AreLinked, IsLiveNode}
use Rattle.quiesce_core.specs.declared.event.Event.TheVariants.{Close}
use Rattle.node_turn_laws.specs.Round.{FirstAt, after_rounds, ended}
use Rattle.node_turn_laws.specs.World.{World}
use Rattle.report_types.specs.declared.report.HistoryLine.{HistoryLine}
use Rattle.report_types.specs.declared.report.HistoryLine.TheVariants as to
use Rattle.report_types.specs.declared.report.Report.{Report}
use Rattle.change_spec.specs.Changes.{drained_lines, opening_lines}
use Rattle.change_spec.specs.Members.{is_pending}
use Rattle.quiesce_laws.specs.Steps.{live_ports}
use Rattle.change_spec.specs.Serial.{ChangesTo, FinishesAt, IsPlayed, Played, Plays, RunsTo, Serial, ShowsGraph, StopsAt, after_changes, end_events, end_lines, finish_ends, is_none_left, lines_played, looks_after, report_of, run_ends, wait_ends, world_after, seen_at}
use Rattle.change_spec.specs.Statements.{Statement, start, change, run, finish, show}
use Rattle.change_plan.proofs.PlanLaws.{one_plan}
use Rattle.change_spec.proofs.FirstLemmas.{one_first}
use Rattle.change_spec.specs.Scene.{Seen}

-- a change that was tried, by its rounds
module _ (w : World) (name : List ℕ) (args : List ℤ) (new : Graph) (within : ℕ) (moves : List Move) (lines : List HistoryLine) (v : World) (c : ChangesTo w name args new within moves lines v) where
  pub changed_lines : lines ≡ opening_lines name args c.old c.plan w.machine.config
      ++ end_lines c.old new c.plan within c.closed (after_rounds false c.waiting c.rounds) (looks_after c.waiting c.closed c.rounds)
  changed_lines = c.are ∙ (λ i. opening_lines name args c.old c.plan w.machine.config ++ end_lines c.old new c.plan within c.closed (c.end_is i) (c.found_is i))

  pub changed_world : v ≡ after_changes (after_rounds false c.waiting c.rounds)
      (end_events c.old new c.plan c.closed (after_rounds false c.waiting c.rounds) (looks_after c.waiting c.closed c.rounds))
  changed_world = c.world ∙ (λ i. after_changes (c.end_is i) (end_events c.old new c.plan c.closed (c.end_is i) (c.found_is i)))

-- what two ways to play come to is the same
record Same (lines lines' : List HistoryLine) (v v' : World) : Type 0 where
  lines_are : lines ≡ lines'
  worlds_are : v ≡ v'

module _ (w : World) (lines lines' : List HistoryLine) (v v' : World) where
  one_run : (k : ℕ) → RunsTo w k lines v → RunsTo w k lines' v' → Same lines lines' v v'
  one_run k a b =
      let rounds = one_first (run_ends w k) a.rounds b.rounds a.number b.number in
      let world : v ≡ v' = a.world ∙ ap (after_rounds true w) rounds ∙ sym b.world in
      record { lines_are = a.are ∙ ap (λ u. to.Run k (ended u - ended w) ∷ []) world ∙ sym b.are; worlds_are = world }

  one_finish : (n : ℕ) → FinishesAt w n lines v → FinishesAt w n lines' v' → Same lines lines' v v'
  one_finish n a b =
      let rounds = one_first (finish_ends w n) a.rounds b.rounds a.number b.number in
      record { lines_are = a.are ∙ ap (λ r. to.Finish n r ∷ []) rounds ∙ sym b.are; worlds_are = a.world ∙ ap (after_rounds true w) rounds ∙ sym b.world }

  one_change : (name : List ℕ) (args : List ℤ) (new : Graph) (within : ℕ) (moves : List Move) → ChangesTo w name args new within moves lines v → ChangesTo w name args new within moves lines' v' → Same lines lines' v v'
  one_change name args new within moves a b =
      let old : a.old ≡ b.old = one_graph (IsLiveNode w.machine.config) (AreLinked w.machine.config) a.old b.old a.is_old b.is_old in
      let plan : a.plan ≡ b.plan = one_plan b.old new moves a.plan b.plan (subst (λ g. IsPlanOf g new moves a.plan) old a.is_plan) b.is_plan in
      let closed : a.closed ≡ b.closed = a.closed_are ∙ (λ i. ports_to_close (old i) (plan i) w.machine.config) ∙ sym b.closed_are in
      let waiting : a.waiting ≡ b.waiting = a.waits ∙ ap (λ ports. after_changes w (map Close ports)) closed ∙ sym b.waits in
      let rounds : a.rounds ≡ b.rounds =
      one_first (wait_ends b.waiting b.closed within) a.rounds b.rounds (subst (λ t. FirstAt t a.rounds) (λ i. wait_ends (waiting i) (closed i) within) a.number) b.number in
      let at_end : a.at_end ≡ b.at_end = a.end_is ∙ (λ i. after_rounds false (waiting i) (rounds i)) ∙ sym b.end_is in
      let found : a.found ≡ b.found = a.found_is ∙ (λ i. looks_after (waiting i) (closed i) (rounds i)) ∙ sym b.found_is in
      record {
        lines_are = a.are ∙ (λ i. opening_lines name args (old i) (plan i) w.machine.config ++ end_lines (old i) new (plan i) within (closed i) (at_end i) (found i)) ∙ sym b.are;
        worlds_are = a.world ∙ (λ i. after_changes (at_end i) (end_events (old i) new (plan i) (closed i) (at_end i) (found i))) ∙ sym b.world;
      }

  one_show : ShowsGraph w lines × (v ≡ w) → ShowsGraph w lines' × (v' ≡ w) → Same lines lines' v v'
  one_show a b =
      let graph : a.0.graph ≡ b.0.graph = one_graph (IsLiveNode w.machine.config) (AreLinked w.machine.config) a.0.graph b.0.graph a.0.is_graph b.0.is_graph in
      record { lines_are = a.0.are ∙ ap (λ g. to.Show g ∷ []) graph ∙ sym b.0.are; worlds_are = a.1 ∙ sym b.1 }

  one_stop : StopsAt w lines v → StopsAt w lines' v' → Same lines lines' v v'
  one_stop a b =
      let ports = live_ports w.machine.config in
      let waiting : a.waiting ≡ b.waiting = a.waits ∙ sym b.waits in
      let rounds : a.rounds ≡ b.rounds = one_first (is_none_left b.waiting ports) a.rounds b.rounds (subst (λ t. FirstAt t a.rounds) (λ i. is_none_left (waiting i) ports) a.number) b.number in
      record {
        lines_are = a.are ∙ (λ i. to.Stop ∷ map to.Close ports ++ drained_lines (looks_after (waiting i) ports (rounds i)).seen) ∙ sym b.are;
        worlds_are = a.world ∙ (λ i. after_rounds false (waiting i) (rounds i)) ∙ sym b.world;
      }

  one_play : (before : List HistoryLine) (s : Statement) → Plays before w s lines v → Plays before w s lines' v' → Same lines lines' v v'
  one_play before (start name args g) a b = record { lines_are = a.0 ∙ sym b.0; worlds_are = a.1 ∙ sym b.1 }
  one_play before (change name args g within moves) a b = ⊎_elim
      (λ (skipped : list_any is_pending before ≡ true).
      record { lines_are = (a.0 skipped).are ∙ sym (b.0 skipped).are; worlds_are = (a.0 skipped).world ∙ sym (b.0 skipped).world })
      (λ (tried : list_any is_pending before ≡ false). one_change name args g within moves (a.1 tried) (b.1 tried))
      (cases_Bool (list_any is_pending before))
  one_play before (run k) a b = one_run k a b
  one_play before (finish n) a b = one_finish n a b
  one_play before show a b = one_show a b

-- statements lead through one course of lines and worlds
pub one_course : (before parts parts' : List Played) → EachAfter IsPlayed before parts → EachAfter IsPlayed before parts'
    → map (λ (p : Played). p.statement) parts ≡ map (λ (p : Played). p.statement) parts' → parts ≡ parts'
one_course before [] [] a b same = refl
one_course before [] (q ∷ parts') a b same = absurd (cc same)
one_course before (p ∷ parts) [] a b same = absurd (cc same)
one_course before (p ∷ parts) (q ∷ parts') a b same =
    let statement : p.statement ≡ q.statement = heads_are p.statement q.statement (map (λ (x : Played). x.statement) parts) (map (λ (x : Played). x.statement) parts') same in
    let both = one_play (world_after before) p.lines q.lines p.world q.world (lines_played before) q.statement
    (subst (λ s. Plays (lines_played before) (world_after before) s p.lines p.world) statement a.0) b.0 in
    let first : p ≡ q = λ i. record { statement = statement i; lines = both.lines_are i; world = both.worlds_are i } in
    let rest = one_course (before ++ q ∷ []) parts parts' (subst (λ x. EachAfter IsPlayed (before ++ x ∷ []) parts) first a.1) b.1
    (tails_are p.statement q.statement (map (λ (x : Played). x.statement) parts) (map (λ (x : Played). x.statement) parts') same) in
    λ i. first i ∷ rest i

module _ (statements : List Statement) (r s : Report) (a : Serial statements r) (b : Serial statements s) where
  one_parts : a.parts ≡ b.parts
  one_parts = one_course [] a.parts b.parts a.played b.played (a.statements_are ∙ sym b.statements_are)

  one_end : Same a.stop b.stop a.world b.world
  one_end = one_stop (world_after b.parts) a.stop b.stop a.world b.world (subst (λ ps. StopsAt (world_after ps) a.stop a.world) one_parts a.stops) b.stops

  pub one_world : a.world ≡ b.world
  one_world = one_end.worlds_are

  pub one_serial : r ≡ s
  one_serial = a.report_is ∙ (λ i. report_of statements (lines_played (one_parts i) ++ one_end.lines_are i) (one_world i)) ∙ sym b.report_is

pub ports_seen : (w : World) (ds : List ℕ) → map (λ (d : Seen). d.port) (map (seen_at w) ds) ≡ ds
ports_seen w [] = refl
ports_seen w (x ∷ ds) = ap (λ xs. x ∷ xs) (ports_seen w ds)
