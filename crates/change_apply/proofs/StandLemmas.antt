-- What a desk stands for, behind events of nodes and of a change.
use Rattle.std.proofs.Common.{◌≡◌, ◌∙◌, ℕ, ◌<◌, true, false, List, [], ◌∷◌, ◌++◌, append_assoc, get_or, length, map, Option, Some, None, refl, sym, ap, subst}
use Rattle.std.specs.Prelude.{All, Contains, ◌&&◌, ◌||◌, filter, fold, nat_lt}
use Rattle.std.specs.List.{list_all, list_any}
use Rattle.std.proofs.lemmas.Bool.{and_from, and_parts, both_ways}
use Rattle.std.proofs.lemmas.List.{append-nil, get_or-map, length-map, same_lists}
use Rattle.std.proofs.lemmas.List.Elements.{All-contains, All-head, All-tail}
use Rattle.std.proofs.lemmas.List.Sums.{AllPass-from_list_all}
use Rattle.change_lists.specs.Layouts.{IsLayoutOf, place_in, port_of}
use Rattle.change_lists.specs.declared.layout.Layout.{Layout}
use Rattle.change_plan.specs.Refusals.{CanPlan}
use Rattle.change_plan_laws.specs.Commit.{commit_events, commit_steps, is_frozen_or_new, is_one_of, ports_to_close, reopened_ports}
use Rattle.change_plan.specs.declared.plan_data.Plan.{Plan}
use Rattle.change_plan_laws.specs.Committing.{MayCommit, made_in}
use Rattle.change_spec.proofs.PortLaws.{same_here, closed_live}
use Rattle.config_graph.specs.Graph.{Graph}
use Rattle.config_graph.specs.declared.node.Port.{Port}
use Rattle.quiesce_laws.specs.Steps.{MayStepAll, change_all}
use Rattle.quiesce_laws.proofs.MeanwhileLaws.{after_more, front_is_of_change, now_is}
use Rattle.quiesce_laws.proofs.TurningLaws.{SameLinks, live_port, live_still, same_graph, same_then, same_turned}
use Rattle.quiesce_core.specs.declared.event.Event.{Event}
use Rattle.quiesce_core.specs.declared.event.Event.TheVariants.{Begin, Call, Take, Give, End, More, Ask, Hear, Miss, Close, Reopen, Make, Link, Unlink, Remove}
use Rattle.quiesce_core.specs.declared.state.Slot.{Slot}
use Rattle.quiesce_core.specs.CoreState.{CoreState}
use Rattle.quiesce_core.specs.Doers.{is_of_change}
use Rattle.quiesce_core.specs.Effect.{change_next, effect, with_closed}
use Rattle.quiesce_core.specs.Rules.{denial, is_live_port}
use Rattle.quiesce_core.specs.Runs.{IsRun, Steps, state_after}
use Rattle.quiesce_core.specs.State.{Configuration, State, empty, fresh_gate, gate, is_live, owner}
use Rattle.quiesce_core.proofs.LegalLaws.{allowed, legal}
use Rattle.quiesce_core.proofs.RunLaws.{effect_config, fronts_are_runs, runs_grow, state_more}
use Rattle.quiesce_core.proofs.StepsLaws.{run_goes_on, run_is_steps}
use Rattle.quiesce_laws.specs.Drained.{is_drained}
use Rattle.quiesce_laws.specs.Events.{reopens}
use Rattle.quiesce_laws.proofs.DrainingLaws.{drained_stays}
use Rattle.change_spec.specs.Members.{lines_of_events}
use Rattle.report_types.specs.declared.report.HistoryLine.TheVariants as to
use Rattle.change_apply.specs.Courses.{is_told}
use Rattle.change_apply.specs.Sessions.{Change, events_told, happened, happened_by}
use Rattle.change_apply.specs.Standing.{CanDo, Holds, IsOver, IsPlanned, Stands, after_told, is_leaving}
use Rattle.change_apply.specs.declared.said.Answer.{Answer}
use Rattle.change_apply.specs.declared.said.Answer.TheVariants as answer
use Rattle.change_apply.specs.declared.said.Said.{Said}
use Rattle.change_apply.specs.declared.said.Said.TheVariants as says
use Rattle.change_apply.specs.declared.session.Session.{Session}

-- a layout tells no gate's being closed or open
pub same_laid : (l : Layout) (c d : Configuration) (g : Graph) → SameLinks c d → IsLayoutOf l c g → IsLayoutOf l d g
same_laid l c d g same h = record {
  places_are = h.places_are ∙ ap (map (place_in g)) (sym same.slots);
  ports_are = h.ports_are ∙ sym (same_lists (map port_of d.gates) (map port_of c.gates) long each);
}
  where
    long : length (map port_of d.gates) ≡ length (map port_of c.gates)
    long = length-map d.gates port_of ∙ same.long ∙ sym (length-map c.gates port_of)

    each : (k : ℕ) (x : Port) → k < length (map port_of d.gates) → get_or (map port_of d.gates) k x ≡ get_or (map port_of c.gates) k x
    each k x low =
        let below : k < length d.gates = subst (λ n. k < n) (length-map d.gates port_of) low in
        let under : k < length c.gates = subst (λ n. k < n) same.long below in
        get_or-map port_of d.gates k fresh_gate x below
        ∙ ap (λ n. record { node = n; require = (gate d k).require }) (same.owners k) ∙ ap (λ r. record { node = owner c k; require = r }) (same.requirements k)
        ∙ sym (get_or-map port_of c.gates k fresh_gate x under)

-- the steps with which a run goes on
pub steps_on : (es more_ : List Event) → IsRun (es ++ more_) → Steps (state_after es) more_ (fold effect (state_after es) more_)
steps_on es more_ run = (run_goes_on es more_ (state_after es) ((run_is_steps es).0 (fronts_are_runs es more_ run))).0 run

-- such an event leaves all but gates, and reopens none
told_links : (s : State) (e : Event) → is_told e ≡ true → denial s e ≡ None → SameLinks s.config (change_next s.config e)
told_links s (Begin p k v) may n = same_here s.config
told_links s (Call p k v) may n = same_here s.config
told_links s (Miss p) may n = same_here s.config
told_links s (Take p k v) may n = same_here s.config
told_links s (Give p k v) may n = same_here s.config
told_links s (More p k v) may n = same_here s.config
told_links s (Ask p k v) may n = same_here s.config
told_links s (Hear p k v) may n = same_here s.config
told_links s (End p k v) may n = same_here s.config
told_links s (Close p) may n = same_turned s.config s.config p true (live_port s.config p (legal s (Close p) n).live).made (same_here s.config)
told_links s (Reopen p) may n = absurd (both_ways false refl may)
told_links s (Make m node from) may n = absurd (both_ways false refl may)
told_links s (Link p m x) may n = absurd (both_ways false refl may)
told_links s (Unlink p) may n = absurd (both_ways false refl may)
told_links s (Remove m) may n = absurd (both_ways false refl may)

told_opens_none : (p : ℕ) (e : Event) → is_told e ≡ true → reopens p e ≡ false
told_opens_none p (Reopen q) may = absurd (both_ways false refl may)
told_opens_none p _ may = refl

-- what happens of a line's events goes on as a run, leaves all but gates, and reopens none
pub record Grown (es done : List Event) : Type 0 where
  pub run : IsRun (es ++ done)
  pub links : SameLinks (state_after es).config (state_after (es ++ done)).config
  pub free : (p : ℕ) → list_any (reopens p) done ≡ false

grown_none : (es : List Event) → IsRun es → Grown es []
grown_none es run = record {
  run = subst IsRun (sym (append-nil es)) run;
  links = subst (λ xs. SameLinks (state_after es).config (state_after xs).config) (sym (append-nil es)) (same_here (state_after es).config);
  free = λ p. refl;
}

grown_on : (es : List Event) (e : Event) (done : List Event) → IsRun es → is_told e ≡ true → denial (state_after es) e ≡ None → Grown (es ++ e ∷ []) done → Grown es (e ∷ done)
grown_on es e done run told n rest =
    let s = state_after es in
    let config : (state_after (es ++ e ∷ [])).config ≡ change_next s.config e = ap (λ (t : State). t.config) (state_more es e) ∙ effect_config s e in
    let first : SameLinks s.config (state_after (es ++ e ∷ [])).config = subst (SameLinks s.config) (sym config) (told_links s e told n) in
    let parts = append_assoc es (e ∷ []) done in
    record {
      run = subst IsRun parts rest.run;
      links = subst (λ xs. SameLinks s.config (state_after xs).config) parts (same_then s.config (state_after (es ++ e ∷ [])).config (state_after ((es ++ e ∷ []) ++ done)).config first rest.links);
      free = λ p. ap (λ b. b || list_any (reopens p) done) (told_opens_none p e told) ∙ rest.free p;
    }

grow_by : (es : List Event) (e : Event) (more_ : List Event) → IsRun es → is_told e ≡ true → (o : Option ℕ) → denial (state_after es) e ≡ o
    → (denial (state_after es) e ≡ None → Grown (es ++ e ∷ []) (happened (state_after (es ++ e ∷ [])) more_))
    → Grown es (happened_by o e (happened (effect (state_after es) e) more_))
grow_by es e more_ run told (Some rule) is rest = grown_none es run
grow_by es e more_ run told None is rest =
    grown_on es e (happened (effect (state_after es) e) more_) run told is
    (subst (λ (x : State). Grown (es ++ e ∷ []) (happened x more_)) (state_more es e) (rest is))

pub grow : (es told : List Event) → list_all is_told told ≡ true → IsRun es → Grown es (happened (state_after es) told)
grow es [] t run = grown_none es run
grow es (e ∷ more_) t run =
    let parts = and_parts (is_told e) (list_all is_told more_) t in
    grow_by es e more_ run parts.0 (denial (state_after es) e) refl
    (λ is. grow (es ++ e ∷ []) more_ parts.1 ((runs_grow es e).1 (run, is)))

pub are_told : (s : State) (said : Said) → list_all is_told (events_told s said) ≡ true
are_told s (says.Busy p) = refl
are_told s (says.Closed p) = refl
are_told s (says.Idle p) = refl
are_told s _ = refl

-- all that was drained is drained still
pub still_drained : (es done : List Event) → Grown es done → (ps : List ℕ) → list_all (is_drained (state_after es)) ps ≡ true → list_all (is_drained (state_after (es ++ done))) ps ≡ true
still_drained es done h [] all = refl
still_drained es done h (p ∷ ps) all =
    let parts = and_parts (is_drained (state_after es) p) (list_all (is_drained (state_after es)) ps) all in
    and_from (is_drained (state_after (es ++ done)) p) (list_all (is_drained (state_after (es ++ done))) ps)
    (drained_stays es done p h.run (h.free p) parts.0) (still_drained es done h ps parts.1)

pub same_made : (c d : Configuration) → SameLinks c d → made_in c ≡ made_in d
same_made c d same = ap (λ (s : List Slot). record { nodes = length s; ports = length c.gates }) (sym same.slots) ∙ ap (λ n. record { nodes = length d.slots; ports = n }) (sym same.long)

same_planned : (old new : Graph) (plan : Plan) (c d : Configuration) → SameLinks c d → IsPlanned old new [] plan c → IsPlanned old new [] plan d
same_planned old new plan c d same h = record {
  new_graph = h.new_graph;
  new_sound = h.new_sound;
  is_plan = h.is_plan;
  can_plan = subst (λ m. CanPlan old new [] m) (same_made c d same) h.can_plan;
}

-- a session behind what has happened
stands_grown : (d : Session) (es done : List Event) (x : CoreState) → Stands d es → Grown es done → x.state ≡ state_after (es ++ done) → Stands (record d { core = x }) (es ++ done)
stands_grown d es done x h g is = record {
  going = h.going;
  state = is;
  run = g.run;
  graph = same_graph (state_after es).config (state_after (es ++ done)).config d.request.from.graph g.links h.graph;
  is_graph = h.is_graph;
  layout = same_laid d.layout (state_after es).config (state_after (es ++ done)).config d.request.from.graph g.links h.layout;
  planned = same_planned d.request.from.graph d.request.to.graph d.request.plan (state_after es).config (state_after (es ++ done)).config g.links h.planned;
  asked_are = h.asked_are;
  closed = h.closed;
  ready = λ r. still_drained es done g d.asked.items (h.ready r);
}

done_state : (es done : List Event) (t : State) → t ≡ fold effect (state_after es) done → t ≡ state_after (es ++ done)
done_state es done t is = is ∙ sym (after_more empty es done)

-- a session behind what a line told
pub stands_told : (d : Session) (es : List Event) (x : CoreState) (said : Said) → Stands d es
    → x.state ≡ after_told d.core.state (events_told d.core.state said)
    → Stands (record d { core = x }) (es ++ happened (state_after es) (events_told (state_after es) said))
stands_told d es x said h is =
    stands_grown d es (happened (state_after es) (events_told (state_after es) said)) x h
    (grow es (events_told (state_after es) said) (are_told (state_after es) said) h.run)
    (done_state es (happened (state_after es) (events_told (state_after es) said)) x.state
    (subst (λ (y : State). x.state ≡ after_told y (events_told y said)) h.state is))

-- Ports of live nodes may be opened one after the other.
pub record Opens (es : List Event) (ps : List ℕ) : Type 0 where
  pub run : IsRun (es ++ map Reopen ps)
  pub links : SameLinks (state_after es).config (state_after (es ++ map Reopen ps)).config

live_port_same : (c d : Configuration) (p : ℕ) → SameLinks c d → is_live_port d p ≡ is_live_port c p
live_port_same c d p same =
    ap (λ n. nat_lt p n && is_live d (owner d p)) same.long
    ∙ ap (λ n. nat_lt p (length c.gates) && is_live d n) (same.owners p)
    ∙ ap (λ b. nat_lt p (length c.gates) && b) (live_still c d same (owner c p))

opens_next : (es : List Event) (p : ℕ) → IsRun es → is_live_port (state_after es).config p ≡ true → Opens es (p ∷ [])
opens_next es p run live =
    let s = state_after es in
    let config : (state_after (es ++ Reopen p ∷ [])).config ≡ with_closed s.config p false = ap (λ (t : State). t.config) (state_more es (Reopen p)) in
    record {
      run = (runs_grow es (Reopen p)).1 (run, allowed s (Reopen p) (record { live = live }));
      links = subst (SameLinks s.config) (sym config) (same_turned s.config s.config p false (live_port s.config p live).made (same_here s.config));
    }

pub are_opened : (es : List Event) (ps : List ℕ) → IsRun es → All (λ p. is_live_port (state_after es).config p ≡ true) ps → Opens es ps
are_opened es [] run live = record {
  run = subst IsRun (sym (append-nil es)) run;
  links = subst (λ xs. SameLinks (state_after es).config (state_after xs).config) (sym (append-nil es)) (same_here (state_after es).config);
}
are_opened es (p ∷ ps) run live =
    let c = (state_after es).config in
    let first = opens_next es p run (All-head (λ q. is_live_port c q ≡ true) p ps live) in
    let d = (state_after (es ++ Reopen p ∷ [])).config in
    let rest = are_opened (es ++ Reopen p ∷ []) ps first.run (still c d first.links ps (All-tail (λ q. is_live_port c q ≡ true) p ps live)) in
    let parts = append_assoc es (Reopen p ∷ []) (map Reopen ps) in
    record {
      run = subst IsRun parts rest.run;
      links = subst (λ xs. SameLinks c (state_after xs).config) parts (same_then c d (state_after ((es ++ Reopen p ∷ []) ++ map Reopen ps)).config first.links rest.links);
    }
  where
    still : (c d : Configuration) → SameLinks c d → (qs : List ℕ) → All (λ q. is_live_port c q ≡ true) qs → All (λ q. is_live_port d q ≡ true) qs
    still c d same qs h k x lt = live_port_same c d (get_or qs k x) same ∙ h k x lt

module _ (d : Session) (es : List Event) (h : Stands d es) where
  abbrev pub c : Configuration
  c = (state_after es).config

  pub closed_are_live : d.asked.items ≡ ports_to_close d.request.from.graph d.request.plan c → All (λ p. is_live_port c p ≡ true) d.asked.items
  closed_are_live is = subst (λ ps. All (λ p. is_live_port c p ≡ true) ps) (sym is) (closed_live d.request.from.graph d.request.plan c)

  pub may_commit : d.asked.items ≡ ports_to_close d.request.from.graph d.request.plan c
      → ((p : ℕ) → p < length c.gates → is_one_of d.request.from.graph d.request.plan.freeze c (owner c p) ≡ true → Contains (ports_to_close d.request.from.graph d.request.plan c) p)
      → list_all (is_drained (state_after es)) d.asked.items ≡ true → MayCommit d.request.from.graph d.request.to.graph [] d.request.plan es
  may_commit is all drained = record {
    old_graph = h.is_graph;
    new_graph = h.planned.new_graph;
    new_sound = h.planned.new_sound;
    is_plan = h.planned.is_plan;
    can_plan = h.planned.can_plan;
    run = h.run;
    graph = h.graph;
    drained = λ p made frozen. All-contains (λ q. is_drained (state_after es) q ≡ true) d.asked.items p
        (AllPass-from_list_all (is_drained (state_after es)) d.asked.items drained)
        (subst (λ ps. Contains ps p) (sym is) (all p made frozen));
  }

module _ (g new : Graph) (plan : Plan) (es : List Event) where
  abbrev pub d : Configuration
  d = (state_after es).config

  abbrev pub ce : List Event
  ce = commit_events g new plan d

  pub all_change : MayStepAll (is_frozen_or_new g plan d) d ce → filter is_of_change ce ≡ ce
  all_change may = front_is_of_change (is_frozen_or_new g plan d) d ce [] (subst (MayStepAll (is_frozen_or_new g plan d) d) (sym (append-nil ce)) may)

  pub commit_parts : MayStepAll (is_frozen_or_new g plan d) d ce
      → filter is_of_change ce ≡ commit_steps g new plan d ++ map Reopen (reopened_ports g new plan d)
  commit_parts may = all_change may

  pub config_committed : MayStepAll (is_frozen_or_new g plan d) d ce → change_all d ce ≡ (state_after (es ++ ce)).config
  config_committed may = sym (now_is es ce ∙ ap (change_all d) (all_change may))

pub state_done : (es ce done : List Event) (s t : State) → s ≡ state_after es → done ≡ ce → t ≡ fold effect s done → t ≡ state_after (es ++ ce)
state_done es ce done s t is same h = h ∙ ap (λ x. fold effect x done) is ∙ ap (fold effect (state_after es)) same ∙ sym (after_more empty es ce)

pub can_do : (es ce done : List Event) (s : State) → s ≡ state_after es → done ≡ ce → IsRun (es ++ ce) → CanDo s done
can_do es ce done s is same run = subst (λ x. CanDo x done) (sym is) (subst (CanDo (state_after es)) (sym same) (steps_on es ce run))

pub five : {A : Type 0} (t p r l a : List A) → (((t ++ p) ++ r) ++ l) ++ a ≡ t ++ (p ++ (r ++ (l ++ a)))
five t p r l a = append_assoc ((t ++ p) ++ r) l a ∙ append_assoc (t ++ p) r (l ++ a) ∙ append_assoc t p (r ++ (l ++ a))

pub reopen_lines : (ps : List ℕ) → lines_of_events (map Reopen ps) ≡ map to.Reopen ps
reopen_lines [] = refl
reopen_lines (p ∷ ps) = ap (λ ls. to.Reopen p ∷ ls) (reopen_lines ps)

-- behind an answer by which the change isn't made
pub holds_left : (a : Answer) (d : Session) (es : List Event) (c : Change) → is_leaving a ≡ true → IsOver d es c.old → Holds a d es c
holds_left answer.Waits d es c is h = absurd (both_ways false refl is)
holds_left answer.Ready d es c is h = absurd (both_ways false refl is)
holds_left answer.Committed d es c is h = absurd (both_ways false refl is)
holds_left answer.GivenUp d es c is h = h
holds_left (answer.Denied rule) d es c is h = h
holds_left answer.Bad d es c is h = h
holds_left answer.Unread d es c is h = h
