-- A session keeps its course at each turn.
use Rattle.std.proofs.Common.{◌≡◌, ◌∙◌, ℕ, zero, suc, ◌-◌, ◌<◌, Bool, true, false, cond, List, [], ◌∷◌, ◌++◌, append_assoc, length, map, Option, Some, None, filter, fold, get_or-set_other, refl, sym, ap, subst, arith, inl, inr, ⊎_elim}
use Rattle.std.specs.Prelude.{◌⊎◌, ⊤, slice_index_or, All, Contains, ◌==◌, nat_le}
use Rattle.std.specs.List.{list_all, list_any, range_with_len}
use Rattle.std.proofs.lemmas.Bool.{and_from, and_parts, both_ways, cases_eq, eqb-true, leb-false}
use Rattle.std.proofs.lemmas.List.{append-nil}
use Rattle.std.proofs.lemmas.List.Elements.{All-contains, filter_agree}
use Rattle.std.proofs.lemmas.List.Sums.{AllPass-from_list_all}
use Rattle.change_plan.specs.Refusals.{CanPlan}
use Rattle.change_plan_laws.specs.Commit.{commit_events, is_frozen_or_new, is_one_of, ports_to_close}
use Rattle.change_plan_laws.specs.Committing.{MayCommit, made_in}
use Rattle.change_spec.proofs.PortLaws.{closed_live, same_here}
use Rattle.config_graph.specs.Graph.{Graph, ports}
use Rattle.config_graph.specs.declared.node.Port.{Port}
use Rattle.change_plan.specs.declared.plan_data.Plan.{Plan}
use Rattle.quiesce_core.specs.declared.event.Event.{Event}
use Rattle.quiesce_core.specs.declared.event.Event.TheVariants.{Close, Reopen}
use Rattle.quiesce_core.specs.declared.state.Gate.{Gate}
use Rattle.quiesce_core.specs.declared.state.Slot.{Slot}
use Rattle.quiesce_core.specs.Effect.{change_next, effect, with_closed}
use Rattle.quiesce_core.specs.Live.{IsGraphOf}
use Rattle.quiesce_core.specs.Rules.{denial, is_live_port, is_open}
use Rattle.quiesce_core.specs.Runs.{IsRun, state_after}
use Rattle.quiesce_core.specs.Start.{gate_of, started}
use Rattle.quiesce_core.specs.State.{Configuration, State, fresh_gate, gate, owner}
use Rattle.quiesce_core.proofs.RunLaws.{effect_config, state_more}
use Rattle.quiesce_laws.specs.Drained.{is_drained}
use Rattle.quiesce_laws.specs.Lists.{In}
use Rattle.quiesce_laws.specs.Starts.{start_of}
use Rattle.quiesce_laws.specs.Steps.{MayStepAll}
use Rattle.quiesce_laws.proofs.GateLaws.{all_open}
use Rattle.quiesce_laws.proofs.MemberLaws.{contains_in, in_contains}
use Rattle.quiesce_laws.proofs.TurningLaws.{IsLivePort, SameLinks, live_port, same_graph, same_then}
use Rattle.change_apply.specs.Courses.{Course, EndsIn, IsLeft, IsMade, IsReady, IsWaiting, all_drained, is_told, scene_after}
use Rattle.change_apply.specs.Sessions.{CanChange, Change, Scene, asked, commits, denied, events_told, first_scene, gets_ready, gives_up, goes_on, goes_on_in, happened, happened_by, hears, is_over, is_ready, leaves, may_say, settles, state_of, tells, tells_by, turn, waits}
use Rattle.change_apply.specs.declared.said.Answer.TheVariants as answer
use Rattle.change_apply.specs.declared.said.Phase.{Phase}
use Rattle.change_apply.specs.declared.said.Phase.TheVariants as phase
use Rattle.change_apply.specs.declared.said.Said.{Said}
use Rattle.change_apply.specs.declared.said.Said.TheVariants as says
use Rattle.change_apply.proofs.ReopenLemmas.{closed_is_frozen, open_then, reopens_of_change}
use Rattle.change_apply.proofs.StandLemmas.{are_told, grow, are_opened, same_made, still_drained}
use Rattle.base.proofs.ContainsLaws.{any_of}

-- what is known of the plan, from the laws of commits
pub record Plans (c : Change) : Type 0 where
  pub listed : (d : Configuration) (p : ℕ) → p < length d.gates → is_one_of c.old c.plan.freeze d (owner d p) ≡ true → Contains (ports_to_close c.old c.plan d) p
  pub runs : (es : List Event) → MayCommit c.old c.new [] c.plan es → IsRun (es ++ commit_events c.old c.new c.plan (state_after es).config)
  pub graph : (es : List Event) → MayCommit c.old c.new [] c.plan es → IsGraphOf (state_after (es ++ commit_events c.old c.new c.plan (state_after es).config)).config c.new
  pub by_steps :
      (es : List Event) → MayCommit c.old c.new [] c.plan es
      → MayStepAll (is_frozen_or_new c.old c.plan (state_after es).config) (state_after es).config (commit_events c.old c.new c.plan (state_after es).config)
  pub left :
      (es : List Event) (p : ℕ) → MayCommit c.old c.new [] c.plan es → p < length (state_after es).config.gates
      → is_one_of c.old c.plan.freeze (state_after es).config (owner (state_after es).config p) ≡ false
      → (gate (state_after (es ++ commit_events c.old c.new c.plan (state_after es).config)).config p).closed ≡ (gate (state_after es).config p).closed
  pub closes : (d : Configuration) → SameLinks (state_after (start_of c.old)).config d → ports_to_close c.old c.plan d ≡ asked c
  pub first_run : IsRun (start_of c.old)
  pub first_is : state_after (start_of c.old) ≡ started c.old
  pub first_graph : IsGraphOf (state_after (start_of c.old)).config c.old
  pub first_open : (p : ℕ) → p < length (state_after (start_of c.old)).config.gates → (gate (state_after (start_of c.old)).config p).closed ≡ false

abbrev first : Change → Configuration
first c = (state_after (start_of c.old)).config

-- which ports are to be closed is told by links alone
pub same_asked : (old : Graph) (plan : Plan) (c d : Configuration) → SameLinks c d → ports_to_close old plan d ≡ ports_to_close old plan c
same_asked old plan c d same =
    ap (λ k. filter (λ p. is_one_of old plan.freeze d (owner d p)) (range_with_len 0 k)) same.long
    ∙ filter_agree (λ p. is_one_of old plan.freeze d (owner d p)) (λ p. is_one_of old plan.freeze c (owner c p))
    (λ p. ap (is_one_of old plan.freeze d) (same.owners p) ∙ ap (λ (s : List Slot). is_one_of old plan.freeze (record { slots = s; gates = [] }) (owner c p)) same.slots)
    (range_with_len 0 (length c.gates))

-- a system that was started has its gates open

open_there : (g : Graph) (ps : List Port) (p : ℕ) → p < length (map (gate_of g) ps) → (slice_index_or (map (gate_of g) ps) p fresh_gate).closed ≡ false
open_there g [] p made = absurd (omega (arith, made))
open_there g (x ∷ xs) zero made = refl
open_there g (x ∷ xs) (suc p) made = open_there g xs p (omega (arith, made))

pub open_at_first : (g : Graph) (p : ℕ) → p < length (started g).config.gates → (gate (started g).config p).closed ≡ false
open_at_first g p made = open_there g (ports g.nodes) p made

pub asked_made : (c : Change) (p : ℕ) → In (asked c) p → p < length (first c).gates
asked_made c p i =
    (live_port (first c) p (All-contains (λ q. is_live_port (first c) q ≡ true) (asked c) p (closed_live c.old c.plan (first c)) (in_contains (asked c) p i))).made

-- a session that isn't over
record Open (c : Change) (s : Scene) : Type 0 where
  told : List Event
  are : s.events ≡ start_of c.old ++ told
  by_lines : list_all is_told told ≡ true
  run : IsRun s.events
  links : SameLinks (first c) (state_of s).config
  others : (p : ℕ) → (In (asked c) p → ⊥) → (gate (state_of s).config p).closed ≡ (gate (first c) p).closed

-- where it is ready all is drained, and where it waits it did before
record Kept (c : Change) (s : Scene) : Type 0 where
  open_ : Open c s
  going : is_over s.phase ≡ false
  ready : s.phase ≡ phase.Ready → all_drained c s.events ≡ true

-- Each scene has its course, and one that isn't over is kept.
record Stays (c : Change) (s : Scene) : Type 0 where
  course : Course c s
  kept : is_over s.phase ≡ false → Kept c s

graph_of : (c : Change) (s : Scene) → Plans c → Open c s → IsGraphOf (state_of s).config c.old
graph_of c s h o = same_graph (first c) (state_of s).config c.old o.links h.first_graph

open_first : (c : Change) → Plans c → Open c (first_scene c)
open_first c h = record {
  told = [];
  are = sym (append-nil (start_of c.old));
  by_lines = refl;
  run = h.first_run;
  links = same_here (first c);
  others = λ p out. refl;
}

-- the course of an open session
waiting_course : (c : Change) (s : Scene) → Plans c → (o : Open c s) → s.phase ≡ phase.Waiting → all_drained c s.events ≡ false → 0 < s.left → Course c s
waiting_course c s h o is undrained some = record {
  told = o.told;
  ended = [];
  are = o.are ∙ sym (append-nil (start_of c.old ++ o.told));
  by_lines = o.by_lines;
  run = o.run;
  ends = subst (λ q. EndsIn q c s.left (start_of c.old ++ o.told) []) (sym is) (subst (λ es. IsWaiting c es [] s.left) o.are
      (record { none_yet = refl; undrained = undrained; rounds_left = some; graph = graph_of c s h o }));
}

ready_course : (c : Change) (s : Scene) → Plans c → (o : Open c s) → s.phase ≡ phase.Ready → all_drained c s.events ≡ true → Course c s
ready_course c s h o is drained = record {
  told = o.told;
  ended = [];
  are = o.are ∙ sym (append-nil (start_of c.old ++ o.told));
  by_lines = o.by_lines;
  run = o.run;
  ends = subst (λ q. EndsIn q c s.left (start_of c.old ++ o.told) []) (sym is) (subst (λ es. IsReady c es []) o.are
      (record { none_yet = refl; drained = drained; graph = graph_of c s h o }));
}

-- it is left

asked_live : (c : Change) (s : Scene) → Plans c → Open c s → All (λ p. is_live_port (state_of s).config p ≡ true) (asked c)
asked_live c s h o = subst (λ ps. All (λ p. is_live_port (state_of s).config p ≡ true) ps) (h.closes (state_of s).config o.links) (closed_live c.old c.plan (state_of s).config)

live_in : (c : Change) (s : Scene) → Plans c → Open c s → (p : ℕ) → In (asked c) p → IsLivePort (state_of s).config p
live_in c s h o p i = live_port (state_of s).config p (All-contains (λ q. is_live_port (state_of s).config q ≡ true) (asked c) p (asked_live c s h o) (in_contains (asked c) p i))

in_or_out : (ps : List ℕ) (p : ℕ) → In ps p ⊎ (In ps p → ⊥)
in_or_out [] p = inr (λ i. i)
in_or_out (q ∷ ps) p = ⊎_elim
    (λ (same : q ≡ p). inl (inl same))
    (λ (other : q ≡ p → ⊥). ⊎_elim (λ (i : In ps p). inl (inr i)) (λ (out : In ps p → ⊥). inr (λ i. ⊎_elim other out i)) (in_or_out ps p))
    (cases_eq q p)

left_course : (c : Change) (s : Scene) → Plans c → Open c s → (e : List Event) (n : ℕ) → e ≡ s.events ++ map Reopen (asked c) → Course c (record { events = e; left = n; phase = phase.Left })
left_course c s h o e n is =
    let on = are_opened s.events (asked c) o.run (asked_live c s h o) in
    let turned = all_open s.events (asked c) (live_in c s h o) (map Reopen (asked c)) (reopens_of_change (asked c)) in
    let before = start_of c.old ++ o.told in
    record {
      told = o.told;
      ended = map Reopen (asked c);
      are = is ∙ ap (λ es. es ++ map Reopen (asked c)) o.are;
      by_lines = o.by_lines;
      run = subst IsRun (sym is) on.run;
      ends = subst (λ es. IsLeft c es (map Reopen (asked c))) o.are (record {
        reopens = refl;
        graph = same_graph (state_of s).config (state_after (s.events ++ map Reopen (asked c))).config c.old on.links (graph_of c s h o);
        gates = λ p. ⊎_elim
            (λ (i : In (asked c) p). ⊎_elim (λ (j : In [] p). absurd j)
            (λ (x : (gate (state_after (s.events ++ map Reopen (asked c))).config p).closed ≡ false). x ∙ sym (h.first_open p (asked_made c p i))) (turned.turned p i))
            (λ (out : In (asked c) p → ⊥). turned.others p out ∙ o.others p out)
            (in_or_out (asked c) p);
      });
    }

-- it is committed

may_commit_at : (c : Change) (s : Scene) → CanChange c → Plans c → Open c s → all_drained c s.events ≡ true → MayCommit c.old c.new [] c.plan s.events
may_commit_at c s can h o drained = record {
  old_graph = can.old_graph;
  new_graph = can.new_graph;
  new_sound = can.new_sound;
  is_plan = can.is_plan;
  can_plan = subst (λ m. CanPlan c.old c.new [] m) (ap (λ (x : State). made_in x.config) (sym h.first_is) ∙ same_made (first c) (state_of s).config o.links) can.can_plan;
  run = o.run;
  graph = graph_of c s h o;
  drained = λ p made frozen. All-contains (λ q. is_drained (state_of s) q ≡ true) (asked c) p
      (AllPass-from_list_all (is_drained (state_of s)) (asked c) drained)
      (subst (λ ps. Contains ps p) (h.closes (state_of s).config o.links) (h.listed (state_of s).config p made frozen));
}

-- a gate that isn't to be closed was open, and still is
open_still : (c : Change) (s : Scene) → Plans c → Open c s → (p : ℕ) → p < length (state_of s).config.gates
    → is_one_of c.old c.plan.freeze (state_of s).config (owner (state_of s).config p) ≡ false → (gate (state_of s).config p).closed ≡ false
open_still c s h o p made unfrozen =
    let d = (state_of s).config in
    let long = o.links.long in
    o.others p (λ i. both_ways (is_one_of c.old c.plan.freeze d (owner d p)) unfrozen (closed_is_frozen c.old c.plan d p (subst (λ ps. In ps p) (sym (h.closes d o.links)) i)))
    ∙ h.first_open p (omega (arith, made, long))

open_then_at : (c : Change) (s : Scene) → Plans c → Open c s → MayCommit c.old c.new [] c.plan s.events → (p : ℕ)
    → is_live_port (state_after (s.events ++ commit_events c.old c.new c.plan (state_of s).config)).config p ≡ true
    → (gate (state_after (s.events ++ commit_events c.old c.new c.plan (state_of s).config)).config p).closed ≡ false
open_then_at c s h o may p live =
    open_then c.old c.new c.plan s.events (h.by_steps s.events may)
    (λ q made unfrozen. h.left s.events q may made unfrozen ∙ open_still c s h o q made unfrozen) p live

committed_course : (c : Change) (s : Scene) → CanChange c → Plans c → Open c s → all_drained c s.events ≡ true → Course c (commits c s).next
committed_course c s can h o drained =
    let may = may_commit_at c s can h o drained in
    let ce = commit_events c.old c.new c.plan (state_of s).config in
    record {
      told = o.told;
      ended = ce;
      are = ap (λ es. es ++ ce) o.are;
      by_lines = o.by_lines;
      run = h.runs s.events may;
      ends = subst (λ es. IsMade c es ce) o.are (record { drained = drained; commit = refl; graph = h.graph s.events may; gates = open_then_at c s h o may });
    }

-- and what stays

waiting_then : (c : Change) (s : Scene) → Plans c → (o : Open c s) → s.phase ≡ phase.Waiting → all_drained c s.events ≡ false → 0 < s.left → Stays c s
waiting_then c s h o is undrained some = record {
  course = waiting_course c s h o is undrained some;
  kept = λ going. record { open_ = o; going = going; ready = λ r. absurd (both_ways false refl (ap is_ready (sym is ∙ r))) };
}

ready_then : (c : Change) (s : Scene) → Plans c → (o : Open c s) → s.phase ≡ phase.Ready → all_drained c s.events ≡ true → Stays c s
ready_then c s h o is drained = record { course = ready_course c s h o is drained; kept = λ going. record { open_ = o; going = going; ready = λ r. drained } }

left_then : (c : Change) (s : Scene) → Plans c → Open c s → (e : List Event) (n : ℕ) → e ≡ s.events ++ map Reopen (asked c) → Stays c (record { events = e; left = n; phase = phase.Left })
left_then c s h o e n is = record { course = left_course c s h o e n is; kept = λ going. absurd (both_ways true going refl) }

committed_then : (c : Change) (s : Scene) → CanChange c → Plans c → Open c s → all_drained c s.events ≡ true → Stays c (commits c s).next
committed_then c s can h o drained = record { course = committed_course c s can h o drained; kept = λ going. absurd (both_ways true going refl) }

-- what lines tell leaves the gates of others

abbrev LeavesGate : ℕ → Event → Type 0
LeavesGate q e = (d : Configuration) → (gate (change_next d e) q).closed ≡ (gate d q).closed

abbrev LeaveGate : ℕ → List Event → Type 0
LeaveGate q [] = ⊤
LeaveGate q (e ∷ es) = LeavesGate q e × LeaveGate q es

gates_by : (q : ℕ) (es : List Event) (e : Event) (more_ : List Event) (o : Option ℕ) → LeavesGate q e
    → ((gate (state_after ((es ++ e ∷ []) ++ happened (state_after (es ++ e ∷ [])) more_)).config q).closed ≡ (gate (state_after (es ++ e ∷ [])).config q).closed)
    → (gate (state_after (es ++ happened_by o e (happened (effect (state_after es) e) more_))).config q).closed ≡ (gate (state_after es).config q).closed
gates_by q es e more_ (Some rule) leaves_ rest = ap (λ xs. (gate (state_after xs).config q).closed) (append-nil es)
gates_by q es e more_ None leaves_ rest =
    ap (λ xs. (gate (state_after xs).config q).closed) (ap (λ x. es ++ e ∷ happened x more_) (sym (state_more es e)) ∙ sym (append_assoc es (e ∷ []) (happened (state_after (es ++ e ∷ [])) more_)))
    ∙ rest
    ∙ ap (λ (x : State). (gate x.config q).closed) (state_more es e) ∙ ap (λ d. (gate d q).closed) (effect_config (state_after es) e) ∙ leaves_ (state_after es).config

gates_left : (q : ℕ) (es more_ : List Event) → LeaveGate q more_ → (gate (state_after (es ++ happened (state_after es) more_)).config q).closed ≡ (gate (state_after es).config q).closed
gates_left q es [] h = ap (λ xs. (gate (state_after xs).config q).closed) (append-nil es)
gates_left q es (e ∷ more_) h = gates_by q es e more_ (denial (state_after es) e) h.0 (gates_left q (es ++ e ∷ []) more_ h.1)

close_leaves : (p q : ℕ) → (q ≡ p → ⊥) → LeavesGate q (Close p)
close_leaves p q other d = ap (λ (x : Gate). x.closed) (put_other d p q other)
  where
    put_other : (d : Configuration) (p q : ℕ) → (q ≡ p → ⊥) → gate (with_closed d p true) q ≡ gate d q
    put_other d p q other = get_or-set_other d.gates p q (record (gate d p) { closed = true }) fresh_gate other

told_leave : (c : Change) (s : Scene) (x : Said) (q : ℕ) → may_say c s x ≡ true → (In (asked c) q → ⊥) → LeaveGate q (events_told (state_of s) x)
told_leave c s (says.Busy p) q may out = (λ d. refl, tt)
told_leave c s (says.Idle p) q may out = (λ d. refl, (λ d. refl, (λ d. refl, tt)))
told_leave c s (says.Closed p) q may out =
    let there = any_of (λ k. k == p) (asked c) (and_parts (list_any (λ k. k == p) (asked c)) (is_open (state_of s).config p) may).0 in
    (close_leaves p q (λ same. out (subst (In (asked c)) (eqb-true there.0 p there.2 ∙ sym same) (contains_in (asked c) there.0 there.1))), tt)
told_leave c s _ q may out = tt

all_told_by : (s : State) (e : Event) (rest : List Event) (o : Option ℕ) → is_told e ≡ true → list_all is_told rest ≡ true → list_all is_told (happened_by o e rest) ≡ true
all_told_by s e rest None h k = and_from (is_told e) (list_all is_told rest) h k
all_told_by s e rest (Some rule) h k = refl

pub happened_told : (s : State) (es : List Event) → list_all is_told es ≡ true → list_all is_told (happened s es) ≡ true
happened_told s [] h = refl
happened_told s (e ∷ es) h =
    let parts = and_parts (is_told e) (list_all is_told es) h in
    all_told_by s e (happened (effect s e) es) (denial s e) parts.0 (happened_told (effect s e) es parts.1)

all_told : (xs ys : List Event) → list_all is_told xs ≡ true → list_all is_told ys ≡ true → list_all is_told (xs ++ ys) ≡ true
all_told [] ys h k = k
all_told (x ∷ xs) ys h k =
    let parts = and_parts (is_told x) (list_all is_told xs) h in
    and_from (is_told x) (list_all is_told (xs ++ ys)) parts.0 (all_told xs ys parts.1 k)

-- the scene behind what a line told
abbrev pub told_in : Scene → Said → Scene
told_in s x = record s { events = s.events ++ happened (state_of s) (events_told (state_of s) x) }

open_told : (c : Change) (s : Scene) (x : Said) → Open c s → may_say c s x ≡ true → Open c (told_in s x)
open_told c s x o may =
    let es = events_told (state_of s) x in
    let done = happened (state_of s) es in
    let g = grow s.events es (are_told (state_of s) x) o.run in
    record {
      told = o.told ++ done;
      are = ap (λ l. l ++ done) o.are ∙ append_assoc (start_of c.old) o.told done;
      by_lines = all_told o.told done o.by_lines (happened_told (state_of s) es (are_told (state_of s) x));
      run = g.run;
      links = same_then (first c) (state_of s).config (state_after (s.events ++ done)).config o.links g.links;
      others = λ q out. gates_left q s.events es (told_leave c s x q may out) ∙ o.others q out;
    }

still : (c : Change) (s : Scene) (x : Said) → Open c s → all_drained c s.events ≡ true → all_drained c (told_in s x).events ≡ true
still c s x o drained = still_drained s.events (happened (state_of s) (events_told (state_of s) x)) (grow s.events (events_told (state_of s) x) (are_told (state_of s) x) o.run) (asked c) drained

-- an open session that goes on

settled_by : (c : Change) (s : Scene) → Plans c → Open c s → s.phase ≡ phase.Waiting → (b d : Bool) → all_drained c s.events ≡ b → nat_le s.left 0 ≡ d
    → Stays c (cond b (gets_ready c s) (cond d (gives_up c s) (waits s))).next
settled_by c s h o is true d drained none_ = ready_then c (gets_ready c s).next h (record { told = o.told; are = o.are; by_lines = o.by_lines; run = o.run; links = o.links; others = o.others }) refl drained
settled_by c s h o is false true drained none_ = left_then c s h o (s.events ++ map Reopen (asked c)) s.left refl
settled_by c s h o is false false drained none_ = waiting_then c s h o is drained (leb-false s.left 0 none_)

settled : (c : Change) (s : Scene) → Plans c → Open c s → s.phase ≡ phase.Waiting → Stays c (settles c s).next
settled c s h o is = settled_by c s h o is (all_drained c s.events) (nat_le s.left 0) refl refl

gone_on : (c : Change) (s : Scene) → Plans c → Kept c s → (p : Phase) → s.phase ≡ p → Stays c (goes_on_in p c s).next
gone_on c s h k phase.Waiting is = settled c s h k.open_ is
gone_on c s h k phase.Ready is = ready_then c s h k.open_ is (k.ready is)
gone_on c s h k phase.Committed is = absurd (both_ways (is_over s.phase) k.going (ap is_over is))
gone_on c s h k phase.Left is = absurd (both_ways (is_over s.phase) k.going (ap is_over is))

told_by : (c : Change) (s : Scene) → Plans c → Kept c s → (o : Option ℕ) → Stays c (tells_by o c s).next
told_by c s h k None = gone_on c s h k s.phase refl
told_by c s h k (Some rule) = left_then c s h k.open_ (s.events ++ map Reopen (asked c)) s.left refl

kept_told : (c : Change) (s : Scene) (x : Said) → Kept c s → may_say c s x ≡ true → Kept c (told_in s x)
kept_told c s x k may = record { open_ = open_told c s x k.open_ may; going = k.going; ready = λ is. still c s x k.open_ (k.ready is) }

told_then : (c : Change) (s : Scene) (x : Said) → Plans c → Kept c s → may_say c s x ≡ true → Stays c (tells c s (events_told (state_of s) x)).next
told_then c s x h k may = told_by c (told_in s x) h (kept_told c s x k may) (denied (state_of s) (events_told (state_of s) x))

given_up : (c : Change) (s : Scene) → Plans c → Open c s → Stays c (gives_up c s).next
given_up c s h o = left_then c s h o (s.events ++ map Reopen (asked c)) s.left refl

is_ready_then : (p : Phase) → is_ready p ≡ true → p ≡ phase.Ready
is_ready_then phase.Ready h = refl
is_ready_then phase.Waiting h = absurd (both_ways false refl h)
is_ready_then phase.Committed h = absurd (both_ways false refl h)
is_ready_then phase.Left h = absurd (both_ways false refl h)

fewer : (c : Change) (s : Scene) → Kept c s → Kept c (record s { left = s.left - 1 })
fewer c s k = record {
  open_ = record { told = k.open_.told; are = k.open_.are; by_lines = k.open_.by_lines; run = k.open_.run; links = k.open_.links; others = k.open_.others };
  going = k.going;
  ready = k.ready;
}

heard_then : (c : Change) (s : Scene) (x : Said) → CanChange c → Plans c → Kept c s → Stays c s → may_say c s x ≡ true → Stays c (hears c s x).next
heard_then c s says.Round can h k w may = gone_on c (record s { left = s.left - 1 }) h (fewer c s k) s.phase refl
heard_then c s says.Stop can h k w may = given_up c s h k.open_
heard_then c s says.Over can h k w may = given_up c s h k.open_
heard_then c s says.Broken can h k w may = given_up c s h k.open_
heard_then c s says.Go can h k w may = committed_then c s can h k.open_ (k.ready (is_ready_then s.phase may))
heard_then c s says.Silent can h k w may = w
heard_then c s says.Senseless can h k w may = absurd (both_ways false refl may)
heard_then c s (says.Busy p) can h k w may = told_then c s (says.Busy p) h k may
heard_then c s (says.Closed p) can h k w may = told_then c s (says.Closed p) h k may
heard_then c s (says.Idle p) can h k w may = told_then c s (says.Idle p) h k may

said_by_ : (c : Change) (s : Scene) (x : Said) → CanChange c → Plans c → Kept c s → Stays c s → (b : Bool) → may_say c s x ≡ b → Stays c (cond b (hears c s x) (leaves c s answer.Bad [])).next
said_by_ c s x can h k w true is = heard_then c s x can h k w is
said_by_ c s x can h k w false is = given_up c s h k.open_

turned : (c : Change) (s : Scene) (x : Said) → CanChange c → Plans c → Stays c s → (b : Bool) → is_over s.phase ≡ b
    → Stays c (cond b (waits s) (cond (may_say c s x) (hears c s x) (leaves c s answer.Bad []))).next
turned c s x can h w true is = w
turned c s x can h w false is = said_by_ c s x can h (w.kept is) w (may_say c s x) refl

turn_stays : (c : Change) (s : Scene) (x : Said) → CanChange c → Plans c → Stays c s → Stays c (turn c s x).next
turn_stays c s x can h w = turned c s x can h w (is_over s.phase) refl

first_stays : (c : Change) → Plans c → Stays c (goes_on c (first_scene c)).next
first_stays c h = settled c (first_scene c) h (open_first c h) refl

all_stay : (c : Change) (s : Scene) (xs : List Said) → CanChange c → Plans c → Stays c s → Stays c (fold (λ t x. (turn c t x).next) s xs)
all_stay c s [] can h w = w
all_stay c s (x ∷ xs) can h w = all_stay c (turn c s x).next xs can h (turn_stays c s x can h w)

pub course_after : (c : Change) (xs : List Said) → CanChange c → Plans c → Course c (scene_after c xs)
course_after c xs can h = (all_stay c (goes_on c (first_scene c)).next xs can h (first_stays c h)).course
