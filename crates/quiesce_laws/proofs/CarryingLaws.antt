-- A commit as it is carried out: each event may happen in its order, and what holds at each place.
use Rattle.std.proofs.Common.{◌≡◌, ℕ, ◌<◌, ◌≤◌, Bool, true, false, List, [], ◌∷◌, ◌++◌, map, length, Option, Some, None, refl, sym, ap, ◌∙◌, subst, inl, inr, ⊎_elim, arith, Contains}
use Rattle.std.specs.Prelude.{◌⊎◌, ◌||◌, filter}
use Rattle.std.specs.List.{list_any}
use Rattle.std.proofs.lemmas.Bool.{both_ways, or_parts}
use Rattle.config_graph.specs.Graph.{Graph}
use Rattle.config_graph.specs.declared.node.Target.{Target}
use Rattle.quiesce_core.specs.declared.event.Event.{Event}
use Rattle.quiesce_core.specs.declared.event.Event.TheVariants.{Reopen, Unlink, Remove}
use Rattle.quiesce_core.specs.Doers.{is_of_change}
use Rattle.quiesce_core.specs.Live.{IsGraphOf}
use Rattle.quiesce_core.specs.Rules.{denial}
use Rattle.quiesce_core.specs.Runs.{IsRun, state_after}
use Rattle.quiesce_core.specs.Settled.{Settled}
use Rattle.quiesce_core.specs.State.{Configuration, gate, is_live, owner, target}
use Rattle.quiesce_core.proofs.CycleLaws.{made_below}
use Rattle.quiesce_laws.specs.Drained.{is_drained}
use Rattle.quiesce_laws.specs.Events.{reopens}
use Rattle.quiesce_laws.proofs.DrainingLaws.{drained_stays, settled_if_drained}
use Rattle.quiesce_laws.specs.Fitting.{KeptLink}
use Rattle.quiesce_laws.specs.Lists.{In}
use Rattle.quiesce_laws.specs.Steps.{MayStep, MayStepAll, change_all}
use Rattle.quiesce_laws.specs.Work.{NewLink, NewNode, Work, events_of, link_new, make_new, steps_of, work_of}
use Rattle.quiesce_laws.proofs.AllowedLemmas.{step_allowed}
use Rattle.quiesce_laws.proofs.BetweenLaws.{Between, Ground, is_noted}
use Rattle.quiesce_laws.proofs.CommitLaws.{after_both, commit_each, commit_graph, commit_may}
use Rattle.quiesce_laws.proofs.LinkingLemmas.{Linking}
use Rattle.quiesce_laws.proofs.MakingLaws.{Making}
use Rattle.quiesce_laws.proofs.MeanwhileLaws.{allowed_meanwhile, may_at, none_reopened, now_is}
use Rattle.quiesce_laws.proofs.PhaseLemmas.{EachConfig, each_place, each_then, may_then, phase_each, phase_ends, phase_may}
use Rattle.quiesce_laws.proofs.RemovingLemmas.{Removing}
use Rattle.quiesce_laws.proofs.TurningLaws.{IsLivePort, SameLinks, Turning, same_graph, turn_may, turn_next, turn_start}
use Rattle.quiesce_laws.proofs.AfterRunLaws.{IsAfterRun, after_run}
use Rattle.quiesce_laws.proofs.UnlinkingLemmas.{Unlinking}
use Rattle.quiesce_laws.specs.Commits.{Changed, IsCommit}

-- nothing is reopened before the last phase

pub append_closed : (p : ℕ) (es fs : List Event) → list_any (reopens p) es ≡ false → list_any (reopens p) fs ≡ false → list_any (reopens p) (es ++ fs) ≡ false
append_closed p [] fs h k = k
append_closed p (e ∷ es) fs h k =
    let parts = or_parts (reopens p e) (list_any (reopens p) es) h in
    ap (λ b. b || list_any (reopens p) (es ++ fs)) parts.0 ∙ append_closed p es fs parts.1 k

front_closed : (p : ℕ) (es fs : List Event) → list_any (reopens p) (es ++ fs) ≡ false → list_any (reopens p) es ≡ false
front_closed p [] fs h = refl
front_closed p (e ∷ es) fs h =
    let parts = or_parts (reopens p e) (list_any (reopens p) (es ++ fs)) h in
    ap (λ b. b || list_any (reopens p) es) parts.0 ∙ front_closed p es fs parts.1

pub map_closed : {A : Type 0} (p : ℕ) (f : A → Event) → ((x : A) → reopens p (f x) ≡ false) → (xs : List A) → list_any (reopens p) (map f xs) ≡ false
map_closed p f h [] = refl
map_closed p f h (x ∷ xs) = ap (λ b. b || list_any (reopens p) (map f xs)) (h x) ∙ map_closed p f h xs

steps_closed : (w : Work) (links : List NewLink) (p : ℕ) → list_any (reopens p) (steps_of w links) ≡ false
steps_closed w links p = append_closed p (work_of w) (map link_new links)
    (append_closed p (map Unlink w.unlinks) (map Remove w.removes ++ map make_new w.makes) (map_closed p Unlink (λ x. refl) w.unlinks)
    (append_closed p (map Remove w.removes) (map make_new w.makes) (map_closed p Remove (λ x. refl) w.removes) (map_closed p make_new (λ x. refl) w.makes)))
    (map_closed p link_new (λ x. refl) links)

-- an event that stands among events each of which is a reopening
in_reopens : {A : Type 0} (f : A → Event) → ((x : A) → (q : ℕ) × (f x ≡ Reopen q)) → (xs : List A) (done : List Event) (e : Event) (left : List Event) → done ++ e ∷ left ≡ map f xs → (q : ℕ) × (e ≡ Reopen q)
in_reopens f is [] [] e left h = absurd (cc (h))
in_reopens f is [] (d ∷ done) e left h = absurd (cc (h))
in_reopens f is (x ∷ xs) [] e left h = let same : e ≡ f x = cc (h) in let w = is x in (w.0, same ∙ w.1)
in_reopens f is (x ∷ xs) (d ∷ done) e left h = let rest : done ++ e ∷ left ≡ map f xs = cc (h) in in_reopens f is xs done e left rest

-- where reopenings stand at the end alone, an event is one of them, or none came before it
pub before_reopens : {A : Type 0} (f : A → Event) → ((x : A) → (q : ℕ) × (f x ≡ Reopen q)) → (steps : List Event) (xs : List A) (done : List Event) (e : Event) (left : List Event)
    → done ++ e ∷ left ≡ steps ++ map f xs → ((p : ℕ) → list_any (reopens p) steps ≡ false) → ((q : ℕ) × (e ≡ Reopen q)) ⊎ ((p : ℕ) → list_any (reopens p) done ≡ false)
before_reopens f is [] xs done e left h k = inl (in_reopens f is xs done e left h)
before_reopens f is (s ∷ steps) xs [] e left h k = inr (λ p. refl)
before_reopens f is (s ∷ steps) xs (d ∷ done) e left h k =
    let same : d ≡ s = cc (h) in
    let rest : done ++ e ∷ left ≡ steps ++ map f xs = cc (h) in
    ⊎_elim
    (λ (w : (q : ℕ) × (e ≡ Reopen q)). inl w)
    (λ (w : (p : ℕ) → list_any (reopens p) done ≡ false). inr (λ p. ap (λ b. b || list_any (reopens p) done) (ap (reopens p) same ∙ (or_parts (reopens p s) (list_any (reopens p) steps) (k p)).0) ∙ w p))
    (before_reopens f is steps xs done e left rest (λ p. (or_parts (reopens p s) (list_any (reopens p) steps) (k p)).1))

-- Steps that may be made, with reopenings at the end alone: each is allowed after those before it, whatever nodes do in between.
pub allowed_in_order : {A : Type 0} (f : A → Event) → ((x : A) → (q : ℕ) × (f x ≡ Reopen q)) → (noted : ℕ → Bool) (es : List Event) → ((p : ℕ) → noted p ≡ true → is_drained (state_after es) p ≡ true)
    → (steps : List Event) (xs : List A) → ((p : ℕ) → list_any (reopens p) steps ≡ false) → MayStepAll noted (state_after es).config (steps ++ map f xs)
    → (more_ left : List Event) (e : Event) → IsRun (es ++ more_) → filter is_of_change more_ ++ e ∷ left ≡ steps ++ map f xs → denial (state_after (es ++ more_)) e ≡ None
allowed_in_order f of noted es drained steps xs unopened all_may more_ left e run is =
    let c = (state_after es).config in
    let may = subst (MayStepAll noted c) (sym is) all_may in
    ⊎_elim
    (λ (q : (q : ℕ) × (e ≡ Reopen q)).
    let here = may_at noted c (filter is_of_change more_) (Reopen q.0) left (subst (λ g. MayStepAll noted c (filter is_of_change more_ ++ g ∷ left)) q.1 may) in
    ap (denial (state_after (es ++ more_))) q.1
    ∙ step_allowed (λ x. false) (es ++ more_) run (λ x h. absurd (both_ways false refl h)) (Reopen q.0) (subst (λ d. MayStep (λ x. false) d (Reopen q.0)) (sym (now_is es more_)) here))
    (λ (closed_ : (p : ℕ) → list_any (reopens p) (filter is_of_change more_) ≡ false). allowed_meanwhile noted es more_ left e run drained closed_ may)
    (before_reopens f of steps xs (filter is_of_change more_) e left is unopened)

-- a fact at each place of a commit, by its phases
pub record InPhases (P : Configuration → Type 0) (c : Configuration) (new : Graph) (Touched : ℕ → Type 0) (w : Work) : Type 0 where
  pub unlinking : (d : Configuration) (left : List ℕ) → Unlinking c new Touched d left → P d
  pub removing : (d : Configuration) (left : List ℕ) → Removing c new Touched w.removes d left → P d
  pub making : (d : Configuration) (left : List NewNode) → Making c new Touched d left → P d
  pub linking : (d : Configuration) (left : List NewLink) → Linking c new Touched d left → P d

module _ (c : Configuration) (new : Graph) (Touched : ℕ → Type 0) (noted : ℕ → Bool) (w : Work) (links : List NewLink) (after : IsAfterRun c) (k : IsCommit c new Touched noted w links) where
  pub ground : Ground c Touched noted
  ground = record { sound = after.sound; are_noted = k.are_noted }

  steps_may : MayStepAll noted c (steps_of w links)
  steps_may = commit_may c new k.sound Touched noted ground after.owners_live after.gone after.named w k.is_work links k.are_links

  pub steps_graph : IsGraphOf (change_all c (steps_of w links)) new
  steps_graph = commit_graph c new k.sound Touched noted ground after.owners_live after.gone after.named w k.is_work links k.are_links

  pub steps_each : (P : Configuration → Type 0) → InPhases P c new Touched w → EachConfig P c (steps_of w links)
  steps_each P h = commit_each c new k.sound Touched noted ground after.owners_live after.gone after.named w k.is_work links k.are_links P h.unlinking h.removing h.making h.linking

  betweens : InPhases (Between c Touched) c new Touched w
  betweens = record { unlinking = λ d left h. h.between; removing = λ d left h. h.between; making = λ d left h. h.between; linking = λ d left h. h.between }

  -- a node that isn't touched keeps the targets of its ports and their gates as they are
  record Keeps (p : ℕ) (d : Configuration) : Type 0 where
    same_target : target d p ≡ target c p
    same_flag : (gate d p).closed ≡ (gate c p).closed

  module _ (p : ℕ) (low : p < length c.gates) (untouched : Touched (owner c p) → ⊥) where
    target_kept : (d : Configuration) → Between c Touched d → ((p : ℕ) (t : Target) → KeptLink c new p t → target d p ≡ Some t) → (o : Option Target) → target c p ≡ o → (u : Option Target) → target d p ≡ u → u ≡ o
    target_kept d b kept (Some t) e u f = ⊎_elim
        (λ (i : Contains w.unlinks p). absurd (untouched (k.is_work.unlinks p i).touched))
        (λ (l : KeptLink c new p t). sym f ∙ kept p t l)
        (k.is_work.all_unlinks p t e)
    target_kept d b kept None e None f = refl
    target_kept d b kept None e (Some u) f =
        let own = after.sound.ports p low in
        ⊎_elim
        (λ (was : target c p ≡ Some u). absurd (cc (e, was)))
        (λ (h : Changed c Touched (owner d p)). ⊎_elim
        (λ (t : Touched (owner c p)). absurd (untouched t))
        (λ (past : length c.slots ≤ owner c p). let below = made_below c (owner c p) own.node own.made in absurd (omega arith))
        (subst (Changed c Touched) (b.owners p low) h))
        (b.links p u f)

    keeps : (d : Configuration) → Between c Touched d → ((p : ℕ) (t : Target) → KeptLink c new p t → target d p ≡ Some t) → Keeps p d
    keeps d b kept = record { same_target = target_kept d b kept (target c p) refl (target d p) refl; same_flag = b.flags p low }

    keeps_in_phases : InPhases (Keeps p) c new Touched w
    keeps_in_phases = record {
      unlinking = λ d left h. keeps d h.between h.kept;
      removing = λ d left h. keeps d h.between h.kept;
      making = λ d left h. keeps d h.between h.kept;
      linking = λ d left h. keeps d h.between h.kept;
    }

  module _ (ports : List ℕ) (live : (p : ℕ) → In ports p → IsLivePort (change_all c (steps_of w links)) p) where
    reopening : Turning (change_all c (steps_of w links)) false ports (change_all c (steps_of w links)) ports
    reopening = turn_start (change_all c (steps_of w links)) false ports live

    pub events_may : MayStepAll noted c (events_of w links ports)
    events_may =
        let d = change_all c (steps_of w links) in
        may_then noted c (steps_of w links) (map Reopen ports) steps_may
        (phase_may noted Reopen (Turning d false ports) (turn_may d false ports) (turn_next d false ports) d ports reopening)

    pub last : Turning (change_all c (steps_of w links)) false ports (change_all (change_all c (steps_of w links)) (map Reopen ports)) []
    last =
        let d = change_all c (steps_of w links) in
        phase_ends noted Reopen (Turning d false ports) (turn_may d false ports) (turn_next d false ports) d ports reopening

    reopens_each : (P : Configuration → Type 0) → ((d : Configuration) (left : List ℕ) → Turning (change_all c (steps_of w links)) false ports d left → P d) → EachConfig P (change_all c (steps_of w links)) (map Reopen ports)
    reopens_each P so =
        let d = change_all c (steps_of w links) in
        phase_each noted Reopen (Turning d false ports) (turn_may d false ports) (turn_next d false ports) P so d ports reopening

    -- at each place, to the last reopening
    events_each : (P : Configuration → Type 0) → InPhases P c new Touched w → ((d : Configuration) (left : List ℕ) → Turning (change_all c (steps_of w links)) false ports d left → P d) → EachConfig P c (events_of w links ports)
    events_each P h so = each_then P c (steps_of w links) (map Reopen ports) (steps_each P h) (reopens_each P so)

    opened_last : (p : ℕ) → In ports p → (gate (change_all c (events_of w links ports)) p).closed ≡ false
    opened_last p i =
        ap (λ d. (gate d p).closed) (after_both c (steps_of w links) (map Reopen ports))
        ∙ ⊎_elim (λ (j : In [] p). absurd j) (λ (e : (gate (change_all (change_all c (steps_of w links)) (map Reopen ports)) p).closed ≡ false). e) (last.turned p i)

    kept_each : (p : ℕ) → p < length c.gates → (Touched (owner c p) → ⊥) → (In ports p → ⊥) → EachConfig (Keeps p) c (events_of w links ports)
    kept_each p low untouched out =
        let d = change_all c (steps_of w links) in
        let there : Keeps p d = each_place (Keeps p) c (steps_of w links) [] (subst (EachConfig (Keeps p) c) (end (steps_of w links)) (steps_each (Keeps p) (keeps_in_phases p low untouched))) in
        events_each (Keeps p) (keeps_in_phases p low untouched) (λ x left h. record { same_target = h.same.targets p ∙ there.same_target; same_flag = h.others p out ∙ there.same_flag })
      where
        end : (es : List Event) → es ≡ es ++ []
        end [] = refl
        end (e ∷ es) = ap (λ xs. e ∷ xs) (end es)

    targets_each : (p : ℕ) → p < length c.gates → (Touched (owner c p) → ⊥) → EachConfig (λ d. target d p ≡ target c p) c (events_of w links ports)
    targets_each p low untouched =
        let d = change_all c (steps_of w links) in
        let h = keeps_in_phases p low untouched in
        let there : target d p ≡ target c p = (each_place (Keeps p) c (steps_of w links) [] (subst (EachConfig (Keeps p) c) (end (steps_of w links)) (steps_each (Keeps p) h))).same_target in
        events_each (λ x. target x p ≡ target c p)
        (record { unlinking = λ x left y. (h.unlinking x left y).same_target; removing = λ x left y. (h.removing x left y).same_target; making = λ x left y. (h.making x left y).same_target; linking = λ x left y. (h.linking x left y).same_target })
        (λ x left y. y.same.targets p ∙ there)
      where
        end : (es : List Event) → es ≡ es ++ []
        end [] = refl
        end (e ∷ es) = ap (λ xs. e ∷ xs) (end es)

-- The commit after a run, whatever nodes do in between.
module _ (es : List Event) (new : Graph) (Touched : ℕ → Type 0) (noted : ℕ → Bool) (w : Work) (links : List NewLink) (run_before : IsRun es) (k : IsCommit (state_after es).config new Touched noted w links) where
  at_steps : (P : Configuration → Type 0) → EachConfig P (state_after es).config (steps_of w links) → (more_ left : List Event) → filter is_of_change more_ ++ left ≡ steps_of w links → P (state_after (es ++ more_)).config
  at_steps P each more_ left is = subst P (sym (now_is es more_)) (each_place P (state_after es).config (filter is_of_change more_) left (subst (EachConfig P (state_after es).config) (sym is) each))

  -- what is true in each phase is true at each place up to the last link
  pub in_steps : (P : Configuration → Type 0) → InPhases P (state_after es).config new Touched w → (more_ left : List Event) → filter is_of_change more_ ++ left ≡ steps_of w links → P (state_after (es ++ more_)).config
  in_steps P h = at_steps P (steps_each (state_after es).config new Touched noted w links (after_run es run_before) k P h)

  module _ (drained : (p : ℕ) → noted p ≡ true → is_drained (state_after es) p ≡ true) where
    -- a touched node that is live is settled at each place up to the last link
    pub settled_at : (more_ left : List Event) (n : ℕ) → IsRun (es ++ more_) → filter is_of_change more_ ++ left ≡ steps_of w links → Touched n → is_live (state_after (es ++ more_)).config n ≡ true → Settled (state_after (es ++ more_)) n
    settled_at more_ left n run is touched live =
        let c = (state_after es).config in
        let b = in_steps (Between c Touched) (betweens c new Touched noted w links (after_run es run_before) k) more_ left is in
        let seen = is_noted c Touched noted (ground c new Touched noted w links (after_run es run_before) k) (state_after (es ++ more_)).config b n (inl touched) live in
        let still : (p : ℕ) → noted p ≡ true → is_drained (state_after (es ++ more_)) p ≡ true =
        λ p h. drained_stays es more_ p run (none_reopened p more_ (front_closed p (filter is_of_change more_) left (ap (list_any (reopens p)) is ∙ steps_closed w links p))) (drained p h) in
        settled_if_drained (es ++ more_) n run live (λ p o. still p (seen.own p o)) (λ p r. still p (seen.reaching p r))

    -- each event is allowed after those before it
    pub allowed_at : (ports : List ℕ) → ((p : ℕ) → In ports p → IsLivePort (change_all (state_after es).config (steps_of w links)) p)
        → (more_ left : List Event) (e : Event) → IsRun (es ++ more_) → filter is_of_change more_ ++ e ∷ left ≡ events_of w links ports → denial (state_after (es ++ more_)) e ≡ None
    allowed_at ports live = allowed_in_order Reopen (λ p. (p, refl)) noted es drained (steps_of w links) ports (steps_closed w links) (events_may (state_after es).config new Touched noted w links (after_run es run_before) k ports live)

  -- once the last link is made, the graph is the new one
  pub graph_linked : (more_ : List Event) → filter is_of_change more_ ≡ steps_of w links → IsGraphOf (state_after (es ++ more_)).config new
  graph_linked more_ is = subst (λ d. IsGraphOf d new) (sym (now_is es more_ ∙ ap (change_all (state_after es).config) is)) (steps_graph (state_after es).config new Touched noted w links (after_run es run_before) k)

  module _ (ports : List ℕ) (live : (p : ℕ) → In ports p → IsLivePort (change_all (state_after es).config (steps_of w links)) p) where
    at_events : (P : Configuration → Type 0) → EachConfig P (state_after es).config (events_of w links ports) → (more_ left : List Event) → filter is_of_change more_ ++ left ≡ events_of w links ports → P (state_after (es ++ more_)).config
    at_events P each more_ left is = subst P (sym (now_is es more_)) (each_place P (state_after es).config (filter is_of_change more_) left (subst (EachConfig P (state_after es).config) (sym is) each))

    -- and so it is at each place among the reopenings
    pub graph_reopening : (more_ done left : List Event) → filter is_of_change more_ ≡ steps_of w links ++ done → done ++ left ≡ map Reopen ports → IsGraphOf (state_after (es ++ more_)).config new
    graph_reopening more_ done left is parts =
        let c = (state_after es).config in
        let d = change_all c (steps_of w links) in
        let each = reopens_each c new Touched noted w links (after_run es run_before) k ports live (λ x. IsGraphOf x new) (λ x xs h. same_graph d x new h.same (steps_graph c new Touched noted w links (after_run es run_before) k)) in
        subst (λ x. IsGraphOf x new) (sym (now_is es more_ ∙ ap (change_all c) is ∙ after_both c (steps_of w links) done))
        (each_place (λ x. IsGraphOf x new) d done left (subst (EachConfig (λ x. IsGraphOf x new) d) (sym parts) each))

    -- a port of a node that isn't touched keeps its target, and its gate as it is unless it is reopened
    pub target_stays : (p : ℕ) → p < length (state_after es).config.gates → (Touched (owner (state_after es).config p) → ⊥) → (more_ left : List Event) → filter is_of_change more_ ++ left ≡ events_of w links ports
        → target (state_after (es ++ more_)).config p ≡ target (state_after es).config p
    target_stays p low untouched = at_events (λ d. target d p ≡ target (state_after es).config p) (targets_each (state_after es).config new Touched noted w links (after_run es run_before) k ports live p low untouched)

    pub flag_stays : (p : ℕ) → p < length (state_after es).config.gates → (Touched (owner (state_after es).config p) → ⊥) → (In ports p → ⊥) → (more_ left : List Event) → filter is_of_change more_ ++ left ≡ events_of w links ports
        → (gate (state_after (es ++ more_)).config p).closed ≡ (gate (state_after es).config p).closed
    flag_stays p low untouched out more_ left is =
        (at_events (Keeps (state_after es).config new Touched noted w links (after_run es run_before) k p) (kept_each (state_after es).config new Touched noted w links (after_run es run_before) k ports live p low untouched out) more_ left is).same_flag

    -- a port that is reopened is open in the end
    pub opened_at : (p : ℕ) → In ports p → (more_ : List Event) → filter is_of_change more_ ≡ events_of w links ports → (gate (state_after (es ++ more_)).config p).closed ≡ false
    opened_at p i more_ is = ap (λ d. (gate d p).closed) (now_is es more_ ∙ ap (change_all (state_after es).config) is) ∙ opened_last (state_after es).config new Touched noted w links (after_run es run_before) k ports live p i

    -- and each node and port is live there that was so after the last link
    pub same_links : (more_ : List Event) → filter is_of_change more_ ≡ events_of w links ports → SameLinks (change_all (state_after es).config (steps_of w links)) (state_after (es ++ more_)).config
    same_links more_ is =
        let c = (state_after es).config in
        subst (SameLinks (change_all c (steps_of w links))) (sym (now_is es more_ ∙ ap (change_all c) is ∙ after_both c (steps_of w links) (map Reopen ports)))
        (last c new Touched noted w links (after_run es run_before) k ports live).same
