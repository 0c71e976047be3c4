-- Which nodes a transaction engages, and how much a service does.
use Rattle.std.proofs.Common.{◌≡◌, ◌∙◌, ℕ, ◌<◌, ◌≤◌, true, false, List, length, Some, refl, ap, sym, subst, ⊎_elim}
use Rattle.std.specs.Prelude.{◌==◌, option_map}
use Rattle.std.proofs.lemmas.Bool.{and_parts, both_ways, eqb-true}
use Rattle.std.proofs.lemmas.Option.{same_Some}
use Rattle.config_graph.specs.Kinds.{row, depends_on}
use Rattle.config_graph.specs.Wiring.{MayCall}
use Rattle.config_graph.specs.Walks.{step}
use Rattle.config_graph.specs.declared.kind.Kind.TheVariants.{Buffer}
use Rattle.config_graph.specs.declared.node.Target.{Target}
use Rattle.config_graph.proofs.KindLaws.{depends_on_all, buffer_or}
use Rattle.quiesce_core.specs.declared.event.Event.{Event}
use Rattle.quiesce_core.specs.declared.event.Event.TheVariants.{Begin, Call}
use Rattle.quiesce_core.specs.declared.state.Service.{Service}
use Rattle.quiesce_core.specs.declared.state.Slot.{Slot}
use Rattle.quiesce_core.specs.State.{Configuration, State, calls_allowed, gate, mores_allowed, owner, provides, provision, service, slot, target}
use Rattle.quiesce_core.specs.Legal.{Legal}
use Rattle.quiesce_core.specs.Reach.{wiring_of}
use Rattle.quiesce_core.specs.Runs.{Begun, IsRun, initiator, is_begin_of, state_after, target_at_begin}
use Rattle.quiesce_core.specs.WellFormed.{IsSound}
use Rattle.quiesce_core.proofs.ConfigurationLaws.{linked_made, port_is}
use Rattle.quiesce_core.proofs.CycleLaws.{cycles_are_found}
use Rattle.quiesce_core.proofs.InductionLaws.{place}
use Rattle.quiesce_core.proofs.RunLaws.{runs_are_consistent}
use Rattle.quiesce_core.proofs.StateLaws.{provision_is}
use Rattle.base.proofs.OptionLaws.{Some-from_is_some, map_or_at}

-- Only a buffer is linked to itself: what another kind provides depends on all that it requires, so that such a link would be a cycle.
pub self_links_are_buffers : (c : Configuration) → IsSound c → (p : ℕ) (t : Target) → target c p ≡ Some t → t.node ≡ owner c p → (m : Slot) → slot c (owner c p) ≡ Some m → m.node.kind ≡ Buffer
self_links_are_buffers c sound p t leads same m there = ⊎_elim
    (λ (is : m.node.kind ≡ Buffer). is)
    (λ (other : m.node.kind ≡ Buffer → ⊥).
    let made = linked_made c p t leads in
    let here = port_is c sound p m made there in
    let provided : t.provide < length (row m.node.kind).provides =
    subst (λ i. t.provide < i) (map_or_at (λ (j : Slot). length (row j.node.kind).provides) (slot c (owner c p)) 0 m there) (subst (λ n. t.provide < provides c n) same (sound.targets p t leads).provided) in
    let call : MayCall (wiring_of c) (owner c p) (owner c p) = record {
      port = p;
      serves = t.provide;
      provide = t.provide;
      depends = (
        sound.ports p made,
        map_or_at (λ (j : Slot). depends_on j.node.kind t.provide (gate c p).require) (slot c (owner c p)) false m there
            ∙ depends_on_all m.node.kind t.provide (gate c p).require provided here.1 other,
      );
      linked = leads ∙ ap (λ n. Some (record { node = n; provide = t.provide })) same;
    } in
    absurd ((cycles_are_found c).0 sound.no_cycle (owner c p) (step call)))
    (buffer_or m.node.kind)

-- the event that begins a transaction finds its port linked
linked_at_begin : (s : State) (e : Event) (p k : ℕ) → Legal s e → is_begin_of p k e ≡ true → (t : Target) × (target s.config p ≡ Some t)
linked_at_begin s (Begin q j v) p k l h =
    let t = Some-from_is_some (target s.config q) l.linked in (t.0, ap (λ i. target s.config i) (sym (eqb-true q p (and_parts (q == p) (j == k) h).0)) ∙ t.1)
linked_at_begin s (Call q j v) p k l h =
    let t = Some-from_is_some (target s.config q) l.linked in (t.0, ap (λ i. target s.config i) (sym (eqb-true q p (and_parts (q == p) (j == k) h).0)) ∙ t.1)
linked_at_begin s _ p k l h = absurd (both_ways false refl h)

pub targets_are_engaged : (es : List Event) (p k : ℕ) (b : Begun es p k) → IsRun es → (n : ℕ) × (target_at_begin es p k b ≡ Some n)
targets_are_engaged es p k b run =
    let here = place b.before b.after b.event (subst (λ xs. IsRun xs) b.parts run) in
    let t = linked_at_begin (state_after b.before) b.event p k here.legal b.begins in
    (t.0.node, ap (λ o. option_map (λ (u : Target). u.node) o) t.1)

pub two_nodes_or_a_buffer : (es : List Event) (p k : ℕ) (b : Begun es p k) → IsRun es → target_at_begin es p k b ≡ Some (initiator es p k b) → (m : Slot)
    → slot (state_after b.before).config (initiator es p k b) ≡ Some m → m.node.kind ≡ Buffer
two_nodes_or_a_buffer es p k b run same m there =
    let here = place b.before b.after b.event (subst (λ xs. IsRun xs) b.parts run) in
    let t = linked_at_begin (state_after b.before) b.event p k here.legal b.begins in
    let one : t.0.node ≡ initiator es p k b = same_Some t.0.node (initiator es p k b) (sym (ap (λ o. option_map (λ (u : Target). u.node) o) t.1) ∙ same) in
    self_links_are_buffers (state_after b.before).config here.well.sound p t.0 t.1 one m there

-- a service makes no more calls and replies than its kind allows
pub services_keep_bounds : (es : List Event) → IsRun es → (n : ℕ) (v : Service) → service (state_after es) n ≡ Some v
    → (v.calls ≤ calls_allowed (state_after es).config n (provision (state_after es).config v.port)) × (v.mores ≤ mores_allowed (state_after es).config n (provision (state_after es).config v.port))
services_keep_bounds es run n v serves =
    let h = (runs_are_consistent es run).serving n v serves in
    let by : provision (state_after es).config v.port ≡ h.provide = provision_is (state_after es).config v.port n h.provide h.linked in
    (subst (λ x. v.calls ≤ calls_allowed (state_after es).config n x) (sym by) h.calls, subst (λ x. v.mores ≤ mores_allowed (state_after es).config n x) (sym by) h.mores)
