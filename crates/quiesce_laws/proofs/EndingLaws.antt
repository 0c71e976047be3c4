-- How changes that are given up end, and how a system stops.
use Rattle.std.proofs.Common.{◌≡◌, ℕ, ◌<◌, Bool, true, false, not, ◌&&◌, List, [], ◌++◌, length, map, Some, refl, sym, ap, ◌∙◌, subst, ⊎_elim, arith}
use Rattle.std.specs.Prelude.{◌==◌}
use Rattle.std.specs.List.{list_any}
use Rattle.std.proofs.lemmas.Bool.{and_parts, both_ways, cases_Bool}
use Rattle.config_graph.specs.Graph.{Graph}
use Rattle.config_graph.specs.declared.node.Target.{Target}
use Rattle.quiesce_core.specs.declared.event.Event.{Event}
use Rattle.quiesce_core.specs.declared.event.Event.TheVariants.{Begin, Call, Take, Give, End, More, Ask, Hear, Miss, Close, Reopen, Make, Link, Unlink, Remove}
use Rattle.quiesce_core.specs.Effect.{with_closed, effect}
use Rattle.quiesce_core.specs.Legal.{Legal}
use Rattle.quiesce_core.specs.Live.{IsGraphOf}
use Rattle.quiesce_word.specs.Phases.{is_idle}
use Rattle.quiesce_core.specs.Reach.{IsPortOf, wiring_of}
use Rattle.config_graph.specs.Wiring.{Reach}
use Rattle.quiesce_core.specs.Runs.{IsRun, is_open_after, state_after}
use Rattle.quiesce_core.specs.State.{Configuration, State, exchange, gate, is_live, owner, target}
use Rattle.base.proofs.OptionLaws.{Some-from_is_some}
use Rattle.config_graph.proofs.WiringLaws.{reach_linked}
use Rattle.quiesce_core.proofs.TableLaws.{gate_place}
use Rattle.quiesce_core.proofs.RunLaws.{runs_are_consistent, runs_are_well_formed}
use Rattle.quiesce_laws.specs.Drained.{is_drained}
use Rattle.quiesce_core.proofs.ReachLaws.{owner_of}
use Rattle.quiesce_laws.proofs.DrainingLaws.{settled_if_drained}
use Rattle.quiesce_core.proofs.InductionLaws.{along}
use Rattle.quiesce_laws.proofs.OrderLaws.{open_is_seen}
use Rattle.quiesce_laws.specs.Lists.{In}
use Rattle.quiesce_laws.specs.Steps.{change_all, is_shaping}
use Rattle.quiesce_core.proofs.ConfigurationLaws.{linked_made}
use Rattle.quiesce_laws.proofs.TurningLaws.{IsLivePort, SameLinks, Turning, live_still, same_graph, same_then, same_turned, turn_may, turn_next, turn_start}
use Rattle.quiesce_laws.proofs.AfterRunLaws.{owners_live}
use Rattle.quiesce_laws.proofs.CommitLaws.{after_both}
use Rattle.quiesce_laws.proofs.GateLaws.{none_noted}
use Rattle.quiesce_laws.proofs.PhaseLemmas.{phase_ends}

turned_graph : (g : Graph) (c : Configuration) (p : ℕ) (flag : Bool) → p < length c.gates → IsGraphOf c g → IsGraphOf (with_closed c p flag) g
turned_graph g c p flag made is = same_graph c (with_closed c p flag) g (same_turned c c p flag made (record { slots = refl; long = refl; owners = λ q. refl; requirements = λ q. refl; targets = λ q. refl })) is

graph_next : (g : Graph) (s : State) (e : Event) → Legal s e → is_shaping e ≡ false → IsGraphOf s.config g → IsGraphOf (effect s e).config g
graph_next g s (Begin p k v) l h is = is
graph_next g s (Call p k v) l h is = is
graph_next g s (Miss p) l h is = is
graph_next g s (Take p k v) l h is = is
graph_next g s (Give p k v) l h is = is
graph_next g s (More p k v) l h is = is
graph_next g s (Ask p k v) l h is = is
graph_next g s (Hear p k v) l h is = is
graph_next g s (End p k v) l h is = is
graph_next g s (Close p) l h is = turned_graph g s.config p true (gate_place s p l.live) is
graph_next g s (Reopen p) l h is = turned_graph g s.config p false (gate_place s p l.live) is
graph_next g s (Make n node from) l h is = absurd (both_ways true h refl)
graph_next g s (Link p n x) l h is = absurd (both_ways true h refl)
graph_next g s (Unlink p) l h is = absurd (both_ways true h refl)
graph_next g s (Remove n) l h is = absurd (both_ways true h refl)

-- where nothing is made, removed, linked or unlinked, the graph stays
pub graph_stays : (g : Graph) (es more_ : List Event) → IsRun (es ++ more_) → list_any is_shaping more_ ≡ false → IsGraphOf (state_after es).config g → IsGraphOf (state_after (es ++ more_)).config g
graph_stays g es more_ run h is = along (λ xs. IsGraphOf (state_after xs).config g) is_shaping
    (λ before e here free k. subst (λ (s : State). IsGraphOf s.config g) (sym here.next) (graph_next g (state_after before) e here.legal free k)) es more_ run h is

-- where all live ports are drained, no transaction is open
pub none_open : (es : List Event) → IsRun es → ((p : ℕ) → p < length (state_after es).config.gates → is_live (state_after es).config (owner (state_after es).config p) ≡ true → is_drained (state_after es) p ≡ true)
    → (p k : ℕ) → is_open_after es p k ≡ false
none_open es run drained p k =
    let s = state_after es in
    let c = (state_after es).config in
    let linked_drained : (q : ℕ) (t : Target) → target c q ≡ Some t → is_drained s q ≡ true = λ q t e. drained q (linked_made c q t e) (owners_live es run q t e) in
    let port_made : (q : ℕ) → IsPortOf c (owner c p) q → q < length c.gates = λ q o. let w = ((runs_are_well_formed es run).sound.rows (owner c p) o.node o.made).within in let below = o.below in omega arith in
    let reach_drained : (q : ℕ) → Reach (wiring_of c) (owner c p) q → is_drained s q ≡ true = λ q w. let t = reach_linked (wiring_of c) (owner c p) q w in linked_drained q (record { node = t.0; provide = t.1 }) t.2 in
    let idle : is_idle (exchange s p).phase ≡ true = ⊎_elim (λ (h : is_idle (exchange s p).phase ≡ true). h)
    (λ (busy : is_idle (exchange s p).phase ≡ false).
    let t = Some-from_is_some (target c p) ((runs_are_consistent es run).linked p busy) in
    let sound = (runs_are_well_formed es run).sound in
    let settled = settled_if_drained es (owner c p) run (owners_live es run p t.0 t.1)
    (λ q o. drained q (port_made q o) (ap (is_live c) (owner_of c sound (owner c p) q o) ∙ owners_live es run p t.0 t.1))
    (λ q w. reach_drained q w) in
    (and_parts (gate c p).closed (is_idle (exchange s p).phase) (settled.own p (sound.ports p (linked_made c p t.0 t.1)))).1)
    (cases_Bool (is_idle (exchange s p).phase)) in
    open_is_seen es p k run ∙ ap (λ b. not b && (exchange s p).serial == k) idle

-- A change that closes ports and opens them again.
module _ (c : Configuration) (ports : List ℕ) (live : (p : ℕ) → In ports p → IsLivePort c p) where
  abbrev closed_config : Configuration
  closed_config = change_all c (map Close ports)

  closing : Turning c true ports closed_config []
  closing = phase_ends none_noted Close (Turning c true ports) (turn_may c true ports) (turn_next c true ports) c ports (turn_start c true ports live)

  live_when_closed : (p : ℕ) → In ports p → IsLivePort closed_config p
  live_when_closed p i =
      let port = live p i in
      record {
        made = let low = port.made in let long = closing.same.long in omega (arith, low, long);
        live = live_still c closed_config closing.same (owner closed_config p) ∙ ap (is_live c) (closing.same.owners p) ∙ port.live;
      }

  opening : Turning closed_config false ports (change_all closed_config (map Reopen ports)) []
  opening = phase_ends none_noted Reopen (Turning closed_config false ports) (turn_may closed_config false ports) (turn_next closed_config false ports)
      closed_config ports (turn_start closed_config false ports live_when_closed)

  pub given_up_links : SameLinks c (change_all c (map Close ports ++ map Reopen ports))
  given_up_links = subst (SameLinks c) (sym (after_both c (map Close ports) (map Reopen ports))) (same_then c closed_config (change_all closed_config (map Reopen ports)) closing.same opening.same)

  pub given_up_opens : (p : ℕ) → In ports p → (gate (change_all c (map Close ports ++ map Reopen ports)) p).closed ≡ false
  given_up_opens p i =
      ap (λ d. (gate d p).closed) (after_both c (map Close ports) (map Reopen ports))
      ∙ ⊎_elim (λ (j : In [] p). absurd j) (λ (e : (gate (change_all closed_config (map Reopen ports)) p).closed ≡ false). e) (opening.turned p i)

  pub given_up_leaves : (p : ℕ) → (In ports p → ⊥) → (gate (change_all c (map Close ports ++ map Reopen ports)) p).closed ≡ (gate c p).closed
  given_up_leaves p out = ap (λ d. (gate d p).closed) (after_both c (map Close ports) (map Reopen ports)) ∙ opening.others p out ∙ closing.others p out
