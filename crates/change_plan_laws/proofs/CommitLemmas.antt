-- The commit of a plan after a run, whatever nodes do in between.
use Rattle.std.proofs.Common.{sym, ◌≡◌, ℕ, ◌<◌, ◌≤◌, true, false, not, ◌&&◌, ◌||◌, List, ◌∷◌, ◌++◌, length, None, ap, ◌∙◌, ⊎_elim, arith, lt-ltb, subst}
use Rattle.std.specs.Prelude.{◌⊎◌, filter, is_some, nat_lt, map}
use Rattle.std.proofs.lemmas.Bool.{both_ways, cases_lt, not-true, or_cases}
use Rattle.std.proofs.lemmas.List.{get_or_past}
use Rattle.change_plan.specs.declared.plan_data.Move.{Move}
use Rattle.change_plan.specs.declared.plan_data.Plan.{Plan}
use Rattle.config_graph.specs.Graph.{Graph}
use Rattle.quiesce_core.specs.declared.event.Event.{Event}
use Rattle.quiesce_core.specs.declared.event.Event.TheVariants.{Reopen}
use Rattle.quiesce_core.specs.declared.state.Exchange.{Exchange}
use Rattle.quiesce_core.specs.declared.state.Gate.{Gate}
use Rattle.quiesce_core.specs.Doers.{is_of_change}
use Rattle.quiesce_core.specs.Live.{IsGraphOf}
use Rattle.quiesce_word.specs.Phases.{is_idle}
use Rattle.quiesce_core.specs.Rules.{denial}
use Rattle.quiesce_core.specs.Runs.{IsRun, state_after}
use Rattle.quiesce_core.specs.Settled.{Settled}
use Rattle.quiesce_core.specs.State.{exchange, fresh_exchange, fresh_gate, gate, is_live, owner, target}
use Rattle.quiesce_core.proofs.RunLaws.{runs_are_well_formed}
use Rattle.quiesce_laws.specs.Drained.{is_drained}
use Rattle.quiesce_laws.specs.Fitting.{IsPart}
use Rattle.quiesce_laws.specs.Lists.{In}
use Rattle.quiesce_laws.specs.Steps.{MayStepAll, change_all}
use Rattle.quiesce_laws.specs.Work.{work_of}
use Rattle.quiesce_laws.proofs.CarryingLaws as carrying
use Rattle.quiesce_laws.specs.Commits.{IsCommit}
use Rattle.quiesce_laws.proofs.MeanwhileLaws.{front_is_of_change, runs_on}
use Rattle.quiesce_laws.proofs.PartLaws.{part_of_one}
use Rattle.quiesce_laws.proofs.TurningLaws.{IsLivePort, SameLinks}
use Rattle.change_plan_laws.specs.Commit.{commit_events, commit_steps, is_frozen_or_new, is_one_of, new_links, ports_to_reopen, work}
use Rattle.change_plan_laws.specs.Committing.{IsTouchedSlot, MayCommit}
use Rattle.change_plan_laws.proofs.ReadyLemmas.{IsReady, ready}
use Rattle.change_plan_laws.proofs.PlannedLemmas.{linked_if, old_link}
use Rattle.change_plan_laws.proofs.WholeLemmas.{commit, reopened_live, unopened, untouched}

-- what isn't made yet is closed and idle
unmade_drained : (es : List Event) → IsRun es → (p : ℕ) → length (state_after es).config.gates ≤ p → is_drained (state_after es) p ≡ true
unmade_drained es run p past =
    let s = state_after es in
    let fresh_g : gate s.config p ≡ fresh_gate = get_or_past s.config.gates p fresh_gate past in
    let long = (runs_are_well_formed es run).exchanges in
    let fresh_x : exchange s p ≡ fresh_exchange = get_or_past s.traffic.exchanges p fresh_exchange (omega (arith, past, long)) in
    ap (λ (g : Gate). g.closed && (is_idle (exchange s p).phase || is_some (exchange s p).within)) fresh_g ∙ ap (λ (x : Exchange). is_idle x.phase || is_some x.within) fresh_x

module _ (old new : Graph) (moves : List Move) (plan : Plan) (es : List Event) (may : MayCommit old new moves plan es) where
  is_ready : IsReady old new plan (state_after es).config
  is_ready = ready old new moves plan es may

  -- what it does is a commit
  pub whole : IsCommit (state_after es).config new (IsTouchedSlot old new (state_after es).config) (is_frozen_or_new old plan (state_after es).config) (work old new plan (state_after es).config)
      (new_links new plan (change_all (state_after es).config (work_of (work old new plan (state_after es).config))))
  whole = commit old new plan (state_after es).config (ready old new moves plan es may)

  all_drained : (p : ℕ) → is_frozen_or_new old plan (state_after es).config p ≡ true → is_drained (state_after es) p ≡ true
  all_drained p h =
      let c = (state_after es).config in
      ⊎_elim
      (λ (low : p < length c.gates). ⊎_elim
      (λ (past : not (nat_lt p (length c.gates)) ≡ true). absurd (both_ways (nat_lt p (length c.gates)) (not-true (nat_lt p (length c.gates)) past) (lt-ltb p (length c.gates) low)))
      (λ (frozen : is_one_of old plan.freeze c (owner c p) ≡ true). may.drained p low frozen)
      (or_cases (not (nat_lt p (length c.gates))) (is_one_of old plan.freeze c (owner c p)) h))
      (λ (past : length c.gates ≤ p). unmade_drained es may.run p past)
      (cases_lt p (length c.gates))

  reopens_live : (p : ℕ) → In (ports_to_reopen old plan (state_after es).config (change_all (state_after es).config (commit_steps old new plan (state_after es).config))) p
      → IsLivePort (change_all (state_after es).config (commit_steps old new plan (state_after es).config)) p
  reopens_live p i = reopened_live old plan (state_after es).config (change_all (state_after es).config (commit_steps old new plan (state_after es).config)) p i

  -- each event may be done by the configuration, where the ports of frozen nodes and new ones are known to be drained
  pub events_may : MayStepAll (is_frozen_or_new old plan (state_after es).config) (state_after es).config (commit_events old new plan (state_after es).config)
  events_may =
      let c = (state_after es).config in
      let w = work old new plan c in
      carrying.events_may c new (IsTouchedSlot old new c) (is_frozen_or_new old plan c) w (new_links new plan (change_all c (work_of w))) is_ready.after whole
      (ports_to_reopen old plan c (change_all c (commit_steps old new plan c))) reopens_live

  pub settled_at : (more_ left : List Event) (n : ℕ) → IsRun (es ++ more_) → filter is_of_change more_ ++ left ≡ commit_steps old new plan (state_after es).config
      → IsTouchedSlot old new (state_after es).config n → is_live (state_after (es ++ more_)).config n ≡ true → Settled (state_after (es ++ more_)) n
  settled_at more_ left n run is touched live =
      let c = (state_after es).config in
      let w = work old new plan c in
      carrying.settled_at es new (IsTouchedSlot old new c) (is_frozen_or_new old plan c) w (new_links new plan (change_all c (work_of w))) may.run whole all_drained more_ left n run is touched live

  pub allowed_at : (more_ left : List Event) (e : Event) → IsRun (es ++ more_) → filter is_of_change more_ ++ e ∷ left ≡ commit_events old new plan (state_after es).config → denial (state_after (es ++ more_)) e ≡ None
  allowed_at more_ left e run is =
      let c = (state_after es).config in
      let w = work old new plan c in
      carrying.allowed_at es new (IsTouchedSlot old new c) (is_frozen_or_new old plan c) w (new_links new plan (change_all c (work_of w))) may.run whole all_drained
      (ports_to_reopen old plan c (change_all c (commit_steps old new plan c))) reopens_live more_ left e run is

  -- so the commit goes on with the run to its end, where nodes do nothing in between
  pub runs_to_its_end : IsRun (es ++ commit_events old new plan (state_after es).config)
  runs_to_its_end =
      let c = (state_after es).config in
      runs_on es (commit_events old new plan c) may.run
      (λ d l e is run. allowed_at d l e run (ap (λ xs. xs ++ e ∷ l) (front_is_of_change (is_frozen_or_new old plan c) c d (e ∷ l) (subst (MayStepAll (is_frozen_or_new old plan c) c) (sym is) events_may)) ∙ is))

  pub graph_linked : (more_ : List Event) → filter is_of_change more_ ≡ commit_steps old new plan (state_after es).config → IsGraphOf (state_after (es ++ more_)).config new
  graph_linked more_ is =
      let c = (state_after es).config in
      let w = work old new plan c in
      carrying.graph_linked es new (IsTouchedSlot old new c) (is_frozen_or_new old plan c) w (new_links new plan (change_all c (work_of w))) may.run whole more_ is

  pub graph_reopening : (more_ done left : List Event) → filter is_of_change more_ ≡ commit_steps old new plan (state_after es).config ++ done
      → done ++ left ≡ map Reopen (ports_to_reopen old plan (state_after es).config (change_all (state_after es).config (commit_steps old new plan (state_after es).config))) → IsGraphOf (state_after (es ++ more_)).config new
  graph_reopening more_ done left is parts =
      let c = (state_after es).config in
      let w = work old new plan c in
      carrying.graph_reopening es new (IsTouchedSlot old new c) (is_frozen_or_new old plan c) w (new_links new plan (change_all c (work_of w))) may.run whole
      (ports_to_reopen old plan c (change_all c (commit_steps old new plan c))) reopens_live more_ done left is parts

  was_part : IsPart (state_after es).config old
  was_part =
      let c = (state_after es).config in
      record {
        nodes = λ n node l. (may.graph.nodes_are node).1 (n, l);
        links = λ p t e.
            let was = old_link old new plan c is_ready p t e in
            record {
              i = was.link.from;
              r = was.link.require;
              j = was.link.to;
              x = was.link.provide;
              stands = record { from_there = was.port.from_there; requirement = was.port.require; to_there = was.port.to_there; provision = was.port.provide };
              linked = linked_if old may.old_graph was.link was.there;
            };
      }

  pub part_at : (more_ left : List Event) → filter is_of_change more_ ++ left ≡ commit_steps old new plan (state_after es).config → IsPart (state_after (es ++ more_)).config old ⊎ IsPart (state_after (es ++ more_)).config new
  part_at more_ left is =
      let c = (state_after es).config in
      let w = work old new plan c in
      let Touched = IsTouchedSlot old new c in
      carrying.in_steps es new Touched (is_frozen_or_new old plan c) w (new_links new plan (change_all c (work_of w))) may.run whole (λ d. IsPart d old ⊎ IsPart d new) (part_of_one c old new Touched w was_part) more_ left is

  module _ (p : ℕ) (low : p < length (state_after es).config.gates) (unfrozen : is_one_of old plan.freeze (state_after es).config (owner (state_after es).config p) ≡ false) where
    pub target_stays : (more_ left : List Event) → filter is_of_change more_ ++ left ≡ commit_events old new plan (state_after es).config → target (state_after (es ++ more_)).config p ≡ target (state_after es).config p
    target_stays more_ left is =
        let c = (state_after es).config in
        let w = work old new plan c in
        carrying.target_stays es new (IsTouchedSlot old new c) (is_frozen_or_new old plan c) w (new_links new plan (change_all c (work_of w))) may.run whole
        (ports_to_reopen old plan c (change_all c (commit_steps old new plan c))) reopens_live p low (untouched old new plan c is_ready (owner c p) unfrozen) more_ left is

    pub flag_stays : (more_ left : List Event) → filter is_of_change more_ ++ left ≡ commit_events old new plan (state_after es).config → (gate (state_after (es ++ more_)).config p).closed ≡ (gate (state_after es).config p).closed
    flag_stays more_ left is =
        let c = (state_after es).config in
        let w = work old new plan c in
        let d = change_all c (commit_steps old new plan c) in
        carrying.flag_stays es new (IsTouchedSlot old new c) (is_frozen_or_new old plan c) w (new_links new plan (change_all c (work_of w))) may.run whole
        (ports_to_reopen old plan c d) reopens_live p low (untouched old new plan c is_ready (owner c p) unfrozen) (unopened old plan c d p low unfrozen) more_ left is

  pub opened_at : (p : ℕ) → In (ports_to_reopen old plan (state_after es).config (change_all (state_after es).config (commit_steps old new plan (state_after es).config))) p
      → (more_ : List Event) → filter is_of_change more_ ≡ commit_events old new plan (state_after es).config → (gate (state_after (es ++ more_)).config p).closed ≡ false
  opened_at p i more_ is =
      let c = (state_after es).config in
      let w = work old new plan c in
      carrying.opened_at es new (IsTouchedSlot old new c) (is_frozen_or_new old plan c) w (new_links new plan (change_all c (work_of w))) may.run whole
      (ports_to_reopen old plan c (change_all c (commit_steps old new plan c))) reopens_live p i more_ is

  -- each node and port is live after the commit that was so after the last link
  pub same_links : (more_ : List Event) → filter is_of_change more_ ≡ commit_events old new plan (state_after es).config
      → SameLinks (change_all (state_after es).config (commit_steps old new plan (state_after es).config)) (state_after (es ++ more_)).config
  same_links more_ is =
      let c = (state_after es).config in
      let w = work old new plan c in
      carrying.same_links es new (IsTouchedSlot old new c) (is_frozen_or_new old plan c) w (new_links new plan (change_all c (work_of w))) may.run whole
      (ports_to_reopen old plan c (change_all c (commit_steps old new plan c))) reopens_live more_ is
