-- What the state has of a node whose seat fits.
use Rattle.std.proofs.Common.{◌≡◌, ◌∙◌, ℕ, ◌+◌, ◌-◌, ◌^◌, ◌<◌, true, false, length, Option, Some, None, refl, ap, sym, subst, arith, rules}
use Rattle.std.specs.Prelude.{slice_get}
use Rattle.std.specs.Option.{option_map_or}
use Rattle.std.proofs.lemmas.Bool.{false≢true, lt-ltb}
use Rattle.std.proofs.lemmas.Option.{slice_get-get_or, slice_get_within}
use Rattle.config_graph.proofs.KindLaws.{two_requires}
use Rattle.quiesce_core.specs.Effect.{effect}
use Rattle.quiesce_core.specs.Doers.{is_of_change}
use Rattle.quiesce_core.specs.Knowledge.{IsKnown, IsPortKnown, known_next, port_at_start}
use Rattle.quiesce_core.specs.Legal.{Legal}
use Rattle.quiesce_core.specs.Reach.{IsPortOf}
use Rattle.quiesce_core.specs.Rules.{is_live_port}
use Rattle.quiesce_core.specs.Runs.{is_doer}
use Rattle.quiesce_core.specs.State.{Configuration, State, is_live, owner, slot}
use Rattle.quiesce_core.specs.Traffic.{IsConsistent}
use Rattle.quiesce_core.specs.WellFormed.{IsWellFormed}
use Rattle.quiesce_core.specs.declared.event.Event.{Event}
use Rattle.quiesce_core.specs.declared.known.Known.{Known}
use Rattle.quiesce_core.specs.declared.state.Slot.{Slot}
use Rattle.quiesce_core.proofs.KnownLaws.{known_by_others, known_by_own, same_ports}
use Rattle.quiesce_core.proofs.ReachLaws.{owner_of}
use Rattle.quiesce_core.proofs.RunLaws.{node_events_keep_the_configuration}
use Rattle.node_gate.specs.Core.{FitsCore, node_at, node_in}
use Rattle.node_gate.specs.Seats.{IsOwn, IsWithinLimits, NodeAt, port_known}

pub live_in : (o : Option Slot) → option_map_or (λ (m : Slot). m.live) o false ≡ true → (m : Slot) × (o ≡ Some m)
live_in None e = absurd (false≢true e)
live_in (Some m) e = (m, refl)

ports_stay_two : (first : ℕ) (w : Known) (e : Event) → length w.ports ≡ 2 → length (known_next first w e).ports ≡ 2
ports_stay_two first w e two = same_ports first w.ports e ∙ two

pub first_small : (s : State) (n : ℕ) (m : Slot) → IsWellFormed s → Some m ≡ slot s.config n → m.first_port < 2 ^ 31
first_small s n m wf there = omega (arith, (wf.sound.rows n m (sym there)).within, wf.sound.few_ports)

module _ (s : State) (wf : IsWellFormed s) (con : IsConsistent s) where
  module _ (n : ℕ) (w : Known) (fits : FitsCore s n w) where
    pub made_slot : (m : Slot) × (slot s.config n ≡ Some m)
    made_slot = live_in (slot s.config n) fits.live

    pub node_is : node_at s.config n ≡ record { slot = n; kind = made_slot.0.node.kind; first = made_slot.0.first_port }
    node_is = ap (node_in n) made_slot.1

    pub known_there : IsKnown s n made_slot.0.first_port w
    known_there = subst (λ (x : NodeAt). IsKnown s n x.first w) node_is fits.known

    pub own_port : (p : ℕ) → IsOwn (node_at s.config n) p → IsPortOf s.config n p
    own_port p own =
        let o : IsOwn (record { slot = n; kind = made_slot.0.node.kind; first = made_slot.0.first_port }) p = subst (λ (x : NodeAt). IsOwn x p) node_is own in
        record { node = made_slot.0; made = made_slot.1; from = o.from; below = o.below }

    pub owner_is : (p : ℕ) → IsOwn (node_at s.config n) p → owner s.config p ≡ n
    owner_is p own = owner_of s.config wf.sound n p (own_port p own)

    pub own_live : (p : ℕ) → IsOwn (node_at s.config n) p → is_live_port s.config p ≡ true
    own_live p own =
        let o = own_port p own in
        let within : p < length s.config.gates = omega (arith, o.below, (wf.sound.rows n o.node o.made).within) in
        search (rules, lt-ltb p (length s.config.gates) within, ap (is_live s.config) (owner_is p own) ∙ fits.live)

    -- what is known of a port of its own is so
    pub own_known : (p : ℕ) → IsOwn (node_at s.config n) p → IsPortKnown s p (port_known (node_at s.config n) w p)
    own_known p own =
        let f : ℕ = (node_at s.config n).first in
        let there : f + (p - f) ≡ p = omega (arith, own.from) in
        let few : p - f < length w.ports = omega (arith, own.from, own.below, two_requires (node_at s.config n).kind, fits.two) in
        let at : slice_get w.ports (p - f) ≡ Some (port_known (node_at s.config n) w p) = slice_get-get_or w.ports (p - f) port_at_start few in
        subst (λ q. IsPortKnown s q (port_known (node_at s.config n) w p)) there
        (fits.known.ports (p - f) (port_known (node_at s.config n) w p) at (subst (λ q. IsPortOf s.config n q) (sym there) (own_port p own)))

    -- an event of nodes leaves it so, with what it makes known: to the node that does it, and to no other
    node_stays : (e : Event) → is_of_change e ≡ false → (effect s e).config ≡ s.config
    node_stays = node_events_keep_the_configuration s

    pub fits_by_own : (e : Event) → Legal s e → is_of_change e ≡ false → is_doer s n e ≡ true → FitsCore (effect s e) n (known_next (node_at s.config n).first w e)
    fits_by_own e l kept does =
        record {
          live = ap (λ c. is_live c n) (node_stays e kept) ∙ fits.live;
          known =
              subst (λ (c : Configuration). IsKnown (effect s e) n (node_at c n).first (known_next (node_at s.config n).first w e)) (sym (node_stays e kept))
              (known_by_own s e n (node_at s.config n).first w wf con l (slice_get_within s.config.slots n made_slot.0 made_slot.1) does fits.known);
          within = subst (λ (c : Configuration). IsWithinLimits (node_at c n)) (sym (node_stays e kept)) fits.within;
          two = ports_stay_two (node_at s.config n).first w e fits.two;
        }

    pub fits_by_others : (e : Event) → Legal s e → is_of_change e ≡ false → is_doer s n e ≡ false → FitsCore (effect s e) n w
    fits_by_others e l kept does =
        record {
          live = ap (λ c. is_live c n) (node_stays e kept) ∙ fits.live;
          known =
              subst (λ (c : Configuration). IsKnown (effect s e) n (node_at c n).first w) (sym (node_stays e kept))
              (known_by_others s e n (node_at s.config n).first w wf con l (slice_get_within s.config.slots n made_slot.0 made_slot.1) does fits.known);
          within = subst (λ (c : Configuration). IsWithinLimits (node_at c n)) (sym (node_stays e kept)) fits.within;
          two = fits.two;
        }

    pub own_at : (p : ℕ) → IsOwn (node_at s.config n) p → slice_get w.ports (p - (node_at s.config n).first) ≡ Some (port_known (node_at s.config n) w p)
    own_at p own =
        slice_get-get_or w.ports (p - (node_at s.config n).first) port_at_start
        (omega (arith, own.from, own.below, two_requires (node_at s.config n).kind, fits.two))

    pub own_from : (p : ℕ) → IsPortOf s.config n p → IsOwn (node_at s.config n) p
    own_from p o = subst (λ (x : NodeAt). IsOwn x p) (sym (ap (node_in n) o.made)) (record { from = o.from; below = o.below })
