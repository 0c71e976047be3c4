-- Behind a commit the gates of live nodes are open.
use Rattle.std.proofs.Common.{◌≡◌, ◌∙◌, ℕ, ◌<◌, true, false, not, ◌&&◌, List, [], ◌∷◌, ◌++◌, append_assoc, length, map, refl, sym, ap, subst, arith, ⊎_elim}
use Rattle.std.specs.Prelude.{filter, nat_lt}
use Rattle.std.proofs.lemmas.Bool.{and_from, and_parts, cases_Bool, ltb-true, not-false, or_parts}
use Rattle.change_plan.specs.declared.plan_data.Plan.{Plan}
use Rattle.change_plan_laws.specs.Commit.{commit_events, commit_steps, is_frozen_or_new, is_one_of, ports_to_close, ports_to_reopen, reopened_ports}
use Rattle.config_graph.specs.Graph.{Graph}
use Rattle.quiesce_core.specs.declared.event.Event.{Event}
use Rattle.quiesce_core.specs.declared.event.Event.TheVariants.{Reopen}
use Rattle.quiesce_core.specs.Doers.{is_of_change}
use Rattle.quiesce_core.specs.Rules.{is_live_port}
use Rattle.quiesce_core.specs.Runs.{state_after}
use Rattle.quiesce_core.specs.State.{Configuration, gate, is_live, owner}
use Rattle.quiesce_laws.specs.Lists.{In}
use Rattle.quiesce_laws.specs.Steps.{MayStepAll, change_all}
use Rattle.quiesce_laws.proofs.GateLaws.{all_open}
use Rattle.quiesce_laws.proofs.MeanwhileLaws.{front_is_of_change, now_is}
use Rattle.quiesce_laws.proofs.MemberLaws.{select, selected}
use Rattle.quiesce_laws.proofs.TurningLaws.{IsLivePort, Turning, live_port, live_still}

pub reopens_of_change : (ps : List ℕ) → filter is_of_change (map Reopen ps) ≡ map Reopen ps
reopens_of_change [] = refl
reopens_of_change (p ∷ ps) = ap (λ es. Reopen p ∷ es) (reopens_of_change ps)

-- ports to be closed are of frozen nodes
pub closed_is_frozen : (old : Graph) (plan : Plan) (c : Configuration) (p : ℕ) → In (ports_to_close old plan c) p → is_one_of old plan.freeze c (owner c p) ≡ true
closed_is_frozen old plan c p i = (selected (λ q. is_one_of old plan.freeze c (owner c q)) 0 (length c.gates) p i).passes

reopened_live : (old : Graph) (plan : Plan) (c d : Configuration) (p : ℕ) → In (ports_to_reopen old plan c d) p → IsLivePort d p
reopened_live old plan c d p i =
    let s = selected (λ q. is_live d (owner d q) && is_frozen_or_new old plan c q) 0 (length d.gates) p i in
    record { made = let low = s.below in omega arith; live = (and_parts (is_live d (owner d p)) (is_frozen_or_new old plan c p) s.passes).0 }

module _ (old new : Graph) (plan : Plan) (es : List Event) (may : MayStepAll (is_frozen_or_new old plan (state_after es).config) (state_after es).config (commit_events old new plan (state_after es).config)) where
  abbrev c : Configuration
  c = (state_after es).config

  abbrev steps : List Event
  steps = commit_steps old new plan c

  abbrev ports : List ℕ
  ports = reopened_ports old new plan c

  abbrev linked : Configuration
  linked = (state_after (es ++ steps)).config

  linked_is : linked ≡ change_all c steps
  linked_is = now_is es steps ∙ ap (change_all c) (front_is_of_change (is_frozen_or_new old plan c) c steps (map Reopen ports) may)

  abbrev now : Configuration
  now = (state_after (es ++ commit_events old new plan c)).config

  turned : Turning linked false ports now []
  turned =
      subst (λ xs. Turning linked false ports (state_after xs).config []) (append_assoc es steps (map Reopen ports))
      (all_open (es ++ steps) ports (λ p i. subst (λ d. IsLivePort d p) (sym linked_is) (reopened_live old plan c (change_all c steps) p i)) (map Reopen ports) (reopens_of_change ports))

  -- one of a frozen node or a new one is reopened
  chosen : (p : ℕ) → is_live_port now p ≡ true → is_frozen_or_new old plan c p ≡ true → In ports p
  chosen p live h =
      let here = live_port now p live in
      let same = turned.same in
      let d = change_all c steps in
      let made : p < length linked.gates = let long = same.long in let low = here.made in omega (arith, long, low) in
      let lives : is_live linked (owner linked p) ≡ true = ap (is_live linked) (sym (same.owners p)) ∙ sym (live_still linked now same (owner now p)) ∙ here.live in
      let made_ : p < length d.gates = subst (λ (x : Configuration). p < length x.gates) linked_is made in
      let lives_ : is_live d (owner d p) ≡ true = subst (λ (x : Configuration). is_live x (owner x p) ≡ true) linked_is lives in
      select (λ q. is_live d (owner d q) && is_frozen_or_new old plan c q) 0 (length d.gates) p (omega arith) (omega (arith, made_))
      (and_from (is_live d (owner d p)) (is_frozen_or_new old plan c p) lives_ h)

  opened : (p : ℕ) → In ports p → (gate now p).closed ≡ false
  opened p i = ⊎_elim (λ (j : In [] p). absurd j) (λ (e : (gate now p).closed ≡ false). e) (turned.turned p i)

  -- the others are as they were
  pub open_then : ((p : ℕ) → p < length c.gates → is_one_of old plan.freeze c (owner c p) ≡ false → (gate now p).closed ≡ false) → (p : ℕ) → is_live_port now p ≡ true → (gate now p).closed ≡ false
  open_then others p live = ⊎_elim
      (λ (h : is_frozen_or_new old plan c p ≡ true). opened p (chosen p live h))
      (λ (h : is_frozen_or_new old plan c p ≡ false).
      let parts = or_parts (not (nat_lt p (length c.gates))) (is_one_of old plan.freeze c (owner c p)) h in
      others p (ltb-true p (length c.gates) (not-false (nat_lt p (length c.gates)) parts.0)) parts.1)
      (cases_Bool (is_frozen_or_new old plan c p))
