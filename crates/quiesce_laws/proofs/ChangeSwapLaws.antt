-- An event of a change and one of a node: each may be done behind the other, and either order comes to the same, but for
-- a close and a begin at one port. A link, an unlink and a removal are of a settled node, which nothing is open with and
-- no node may turn to; a make adds behind all that is there.
use Rattle.std.proofs.Common.{◌≡◌, ◌∙◌, ℕ, ◌+◌, ◌<◌, Bool, true, false, cond, not, ◌&&◌, length, Option, Some, None, refl, sym, ap, ap₂, subst, ⊎_elim, inl, inr, arith}
use Rattle.std.specs.Prelude.{◌==◌, nat_le, nat_lt, is_none, is_some, option_and_then}
use Rattle.std.specs.List.{list_all}
use Rattle.std.specs.Option.{option_map_or}
use Rattle.std.proofs.lemmas.Bool.{and_from, and_parts, both_ways, cases_eq, leb-true, lt-ltb, not-true, true_from_ne_false}
use Rattle.base.proofs.OptionLaws.{map_or_at, map_or_true}
use Rattle.config_graph.specs.Kinds.{calls_of, mores_of, row}
use Rattle.config_graph.specs.declared.node.Node.{Node}
use Rattle.config_graph.specs.declared.node.Target.{Target}
use Rattle.quiesce_word.specs.Phases.{is_asked, is_answered, is_idle, is_in_more}
use Rattle.quiesce_word.specs.Words as words
use Rattle.quiesce_word.proofs.PhaseLaws.{answered_busy, asked_busy, more_busy, serving_busy}
use Rattle.quiesce_core.specs.declared.event.Event.{Event}
use Rattle.quiesce_core.specs.declared.event.Event.TheVariants.{Begin, Call, Take, Give, End, More, Ask, Hear, Miss, Close, Reopen, Make, Link, Unlink, Remove}
use Rattle.quiesce_core.specs.declared.state.Exchange.{Exchange}
use Rattle.quiesce_core.specs.declared.state.Gate.{Gate}
use Rattle.quiesce_core.specs.declared.state.Service.{Service}
use Rattle.quiesce_core.specs.declared.state.Slot.{Slot}
use Rattle.quiesce_core.specs.State.{Configuration, State, calls_allowed, depends, exchange, gate, is_live, mores_allowed, owner, ports_of, provision, service, target, target_service}
use Rattle.quiesce_core.specs.Alters.{exchange_by, exchange_next, gate_next, is_message_at, service_by}
use Rattle.quiesce_core.specs.Doers.{is_of_change}
use Rattle.quiesce_core.specs.Effect.{change_next, effect, with_target}
use Rattle.quiesce_core.specs.Legal.{Legal}
use Rattle.quiesce_core.specs.Reach.{has_no_cycle}
use Rattle.quiesce_core.specs.Rules.{can_move, has_its_argument, has_provision, has_room, is_apart, is_called_within, is_linked, is_live_port, is_open, is_path_taken, is_settled, is_taken, last_serial, was_heard}
use Rattle.quiesce_core.specs.Runs.{doer, is_doer}
use Rattle.quiesce_core.specs.Traffic.{IsConsistent}
use Rattle.quiesce_core.specs.WellFormed.{IsWellFormed}
use Rattle.quiesce_core.proofs.AlterLaws.{exchanges_next, reconfigured, services_next}
use Rattle.quiesce_core.proofs.CycleLaws.{all_of, of_all}
use Rattle.quiesce_core.proofs.LegalLaws.{allowed, legal}
use Rattle.quiesce_core.proofs.RunLaws.{effect_config, node_events_keep_the_configuration, steps_keep_consistency, no_node_if}
use Rattle.quiesce_core.proofs.SettledLaws.{if_settled, settled_if}
use Rattle.quiesce_core.proofs.SoundnessLaws.{well_formed_next}
use Rattle.quiesce_core.proofs.StabilityLaws.{busy_is_live, busy_ports_stay, serving_nodes_stay, unsettled_ports_stay}
use Rattle.quiesce_core.proofs.StateLaws.{taken_busy, taken_is}
use Rattle.quiesce_core.proofs.TableLaws.{gate_place, live_made}
use Rattle.quiesce_laws.specs.Configurations.{Extends}
use Rattle.quiesce_laws.specs.Events.{is_reopen_or_link}
use Rattle.quiesce_laws.proofs.ExtensionLaws.{depends_before, extends_next, owned_before, read_before}
use Rattle.quiesce_laws.proofs.QuiescenceLaws.{still_if}
use Rattle.quiesce_laws.proofs.StillLaws.{still_next}
use Rattle.quiesce_laws.specs.Independence.{AreIndependent, MayBeDoneBy, MayBeDoneByChange, clashes}
use Rattle.quiesce_laws.proofs.SwapDoerLaws.{doer_alike, nodes_do_no_change, port_of}
use Rattle.quiesce_laws.proofs.NodeSwapLaws.{by_alike_all, same_state}
use Rattle.quiesce_laws.proofs.TurnLemmas.{elsewhere}

-- what is known of the two
record AreBeside (s : State) (x e : Event) : Type 0 where
  formed : IsWellFormed s
  consistent : IsConsistent s
  legal_x : Legal s x
  legal_e : Legal s e
  change_x : is_of_change x ≡ true
  node_e : is_of_change e ≡ false
  apart : clashes x e ≡ false

-- ---- what an event of the change leaves

no_message : (x : Event) → is_of_change x ≡ true → (q : ℕ) → is_message_at q x ≡ false
no_message (Begin p k v) h q = absurd (both_ways false refl h)
no_message (Call p k v) h q = absurd (both_ways false refl h)
no_message (Give p k v) h q = absurd (both_ways false refl h)
no_message (More p k v) h q = absurd (both_ways false refl h)
no_message (Ask p k v) h q = absurd (both_ways false refl h)
no_message (End p k v) h q = absurd (both_ways false refl h)
no_message _ h q = refl

no_node : (s : State) (x : Event) → is_of_change x ≡ true → (n : ℕ) → is_doer s n x ≡ false
no_node s x h n = ap (λ o. option_map_or (λ m. m == n) o false) (no_node_if s x h)

pub exchange_same : (s : State) (x : Event) → IsWellFormed s → Legal s x → is_of_change x ≡ true → (q : ℕ) → exchange (effect s x) q ≡ exchange s q
exchange_same s x w l h q = exchanges_next s x w l q ∙ ap (λ b. cond b (exchange_by (service s (owner s.config q)) (exchange s q) x) (exchange s q)) (no_message x h q)

pub service_same : (s : State) (x : Event) → IsWellFormed s → Legal s x → is_of_change x ≡ true → (n : ℕ) → service (effect s x) n ≡ service s n
service_same s x w l h n = services_next s x w l n ∙ ap (λ b. cond b (service_by (service s n) x) (service s n)) (no_node s x h n)

-- an open gate stays so, but for its close
closed_of : (b : Bool) (g h : Gate) → g.closed ≡ h.closed → (cond b g h).closed ≡ h.closed
closed_of true g h same = same
closed_of false g h same = refl

reopened_of : (b : Bool) (g h : Gate) → g.closed ≡ false → h.closed ≡ false → (cond b g h).closed ≡ false
reopened_of true g h a b = a
reopened_of false g h a b = b

behind : (b : Bool) (g h : Gate) → (b ≡ true → ⊥) → h.closed ≡ false → (cond b g h).closed ≡ false
behind true g h never opened = absurd (never refl)
behind false g h never opened = opened

open_next : (c : Configuration) (x : Event) (p k v : ℕ) → p < length c.gates → clashes x (Begin p k v) ≡ false → (gate c p).closed ≡ false → (gate_next c p x).closed ≡ false
open_next c (Close q) p k v made clash opened = ap (λ b. (cond b (record (gate c p) { closed = true }) (gate c p)).closed) clash ∙ opened
open_next c (Reopen q) p k v made clash opened = reopened_of (q == p) _ (gate c p) refl opened
open_next c (Make n node from) p k v made clash opened =
    behind (nat_le (length c.gates) p && nat_lt p (length c.gates + length (row node.kind).requires_)) _ (gate c p) (λ h.
    let past = leb-true (length c.gates) p (and_parts (nat_le (length c.gates) p) (nat_lt p (length c.gates + length (row node.kind).requires_)) h).0 in
    omega (arith, past, made)) opened
open_next c (Link q n y) p k v made clash opened = closed_of (q == p) _ (gate c p) refl ∙ opened
open_next c (Unlink q) p k v made clash opened = closed_of (q == p) _ (gate c p) refl ∙ opened
open_next c _ p k v made clash opened = opened

-- ---- what an event of a node goes by, while the change does something

live_of : (s : State) (e : Event) → is_of_change e ≡ false → Legal s e → is_live_port s.config (port_of e) ≡ true
live_of s (Begin p k v) n l = l.live
live_of s (Call p k v) n l = l.live
live_of s (Miss p) n l = l.live
live_of s (Take p k v) n l = l.live
live_of s (Give p k v) n l = l.live
live_of s (More p k v) n l = l.live
live_of s (Ask p k v) n l = l.live
live_of s (Hear p k v) n l = l.live
live_of s (End p k v) n l = l.live
live_of s _ n l = absurd (both_ways true n refl)

module _ {s : State} {x e : Event} (a : AreBeside s x e) where
  formed_then : IsWellFormed (effect s x)
  formed_then = well_formed_next s x a.formed a.legal_x

  consistent_then : IsConsistent (effect s x)
  consistent_then = (steps_keep_consistency s (effect s x) x a.formed a.consistent (record { allowed = allowed s x a.legal_x; changed = refl })).1

  grown : Extends s.config (effect s x).config
  grown = extends_next s x a.legal_x

  ex : (q : ℕ) → exchange (effect s x) q ≡ exchange s q
  ex q = exchange_same s x a.formed a.legal_x a.change_x q

  sv : (m : ℕ) → service (effect s x) m ≡ service s m
  sv m = service_same s x a.formed a.legal_x a.change_x m

  -- a port that isn't idle leads where it led, and its owner is live
  busy_leads : (p : ℕ) → is_idle (exchange s p).phase ≡ false → target (effect s x).config p ≡ target s.config p
  busy_leads p busy = busy_ports_stay s x a.formed a.consistent a.legal_x p busy

  busy_live : (p : ℕ) → is_idle (exchange s p).phase ≡ false → is_live_port (effect s x).config p ≡ true
  busy_live p busy = busy_is_live (effect s x) p consistent_then (ap (λ (y : Exchange). is_idle y.phase) (ex p) ∙ busy)

  made_owner : (p : ℕ) → p < length s.config.gates → owner (effect s x).config p ≡ owner s.config p
  made_owner p made = grown.owners p made

  live_again : (p : ℕ) → p < length s.config.gates → is_live (effect s x).config (owner s.config p) ≡ true → is_live_port (effect s x).config p ≡ true
  live_again p made live =
      and_from (nat_lt p (length (effect s x).config.gates)) (is_live (effect s x).config (owner (effect s x).config p))
      (lt-ltb p (length (effect s x).config.gates) (omega (arith, made, grown.many)))
      (ap (λ i. is_live (effect s x).config i) (made_owner p made) ∙ live)

  -- what a node services leads to it still, so it is live still
  served_busy_at : (m : ℕ) (v : Service) → service s m ≡ Some v → is_idle (exchange s v.port).phase ≡ false
  served_busy_at m v is = serving_busy (exchange s v.port).phase (a.consistent.serving m v is).busy

  served_leads : (m : ℕ) (v : Service) → service s m ≡ Some v → target (effect s x).config v.port ≡ target s.config v.port
  served_leads m v is = busy_leads v.port (served_busy_at m v is)

  serving_live : (m : ℕ) (v : Service) → service s m ≡ Some v → is_live (effect s x).config m ≡ true
  serving_live m v is =
      let k = a.consistent.serving m v is in
      (formed_then.sound.targets v.port (record { node = m; provide = k.provide }) (served_leads m v is ∙ k.linked)).live

  -- the tables of a node that was made
  live_is_made : (p : ℕ) → is_live_port s.config p ≡ true → owner s.config p < length s.config.slots
  live_is_made p live = live_made s.config (owner s.config p) (and_parts (nat_lt p (length s.config.gates)) (is_live s.config (owner s.config p)) live).1

  calls_same : (m y : ℕ) → m < length s.config.slots → calls_allowed (effect s x).config m y ≡ calls_allowed s.config m y
  calls_same m y made = read_before s.config (effect s x).config grown m made (λ (k : Slot). calls_of k.node.kind y) 0 (λ g h same first. ap (λ (k : Node). calls_of k.kind y) same)

  mores_same : (m y : ℕ) → m < length s.config.slots → mores_allowed (effect s x).config m y ≡ mores_allowed s.config m y
  mores_same m y made = read_before s.config (effect s x).config grown m made (λ (k : Slot). mores_of k.node.kind y) 0 (λ g h same first. ap (λ (k : Node). mores_of k.kind y) same)

  -- who calls or misses goes by its service
  own_service : (p : ℕ) → p < length s.config.gates → service (effect s x) (owner (effect s x).config p) ≡ service s (owner s.config p)
  own_service p made = ap (λ i. service (effect s x) i) (made_owner p made) ∙ sv (owner s.config p)

  serves_still : (p : ℕ) → is_live_port s.config p ≡ true
      → option_map_or (λ (v : Service). depends s.config (owner s.config p) (provision s.config v.port) p) (service s (owner s.config p)) false ≡ true
      → option_map_or (λ (v : Service). depends (effect s x).config (owner (effect s x).config p) (provision (effect s x).config v.port) p) (service (effect s x) (owner (effect s x).config p)) false ≡ true
  serves_still p live h =
      let made = gate_place s p live in
      let v = map_or_true (λ (v : Service). depends s.config (owner s.config p) (provision s.config v.port) p) (service s (owner s.config p)) h in
      let d = (effect s x).config in
      map_or_at (λ (v : Service). depends d (owner d p) (provision d v.port) p) (service (effect s x) (owner d p)) false v.0 (own_service p made ∙ v.1)
      ∙ ap₂ (λ i y. depends d i y p) (made_owner p made) (ap (λ o. option_map_or (λ (t : Target). t.provide) o 0) (served_leads (owner s.config p) v.0 v.1))
      ∙ depends_before s.config d a.formed.sound grown (owner s.config p) (provision s.config v.0.port) p (live_is_made p live) (a.formed.sound.ports p made)
      ∙ v.2

  calls_still : (p : ℕ) → is_live_port s.config p ≡ true
      → option_map_or (λ (v : Service). nat_lt v.calls (calls_allowed s.config (owner s.config p) (provision s.config v.port))) (service s (owner s.config p)) false ≡ true
      → option_map_or (λ (v : Service). nat_lt v.calls (calls_allowed (effect s x).config (owner (effect s x).config p) (provision (effect s x).config v.port)))
      (service (effect s x) (owner (effect s x).config p)) false ≡ true
  calls_still p live h =
      let made = gate_place s p live in
      let v = map_or_true (λ (v : Service). nat_lt v.calls (calls_allowed s.config (owner s.config p) (provision s.config v.port))) (service s (owner s.config p)) h in
      let d = (effect s x).config in
      map_or_at (λ (v : Service). nat_lt v.calls (calls_allowed d (owner d p) (provision d v.port))) (service (effect s x) (owner d p)) false v.0 (own_service p made ∙ v.1)
      ∙ ap (λ k. nat_lt v.0.calls k)
      (ap₂ (λ i y. calls_allowed d i y) (made_owner p made) (ap (λ o. option_map_or (λ (t : Target). t.provide) o 0) (served_leads (owner s.config p) v.0 v.1))
      ∙ calls_same (owner s.config p) (provision s.config v.0.port) (live_is_made p live))
      ∙ v.2

  caller_stays : (p : ℕ) → is_live_port s.config p ≡ true
      → option_map_or (λ (v : Service). depends s.config (owner s.config p) (provision s.config v.port) p) (service s (owner s.config p)) false ≡ true
      → (target (effect s x).config p ≡ target s.config p) × (is_live_port (effect s x).config p ≡ true)
  caller_stays p live h =
      let v = map_or_true (λ (v : Service). depends s.config (owner s.config p) (provision s.config v.port) p) (service s (owner s.config p)) h in
      (serving_nodes_stay s x a.formed a.legal_x (owner s.config p) v.0 v.1 p refl, live_again p (gate_place s p live) (serving_live (owner s.config p) v.0 v.1))

  -- who begins has an open gate, so isn't settled
  beginner_leads : (p : ℕ) → is_live_port s.config p ≡ true → is_open s.config p ≡ true → target (effect s x).config p ≡ target s.config p
  beginner_leads p live opened = unsettled_ports_stay s x a.legal_x p (λ settled.
      both_ways (gate s.config p).closed (not-true (gate s.config p).closed opened)
      (and_parts (gate s.config p).closed (is_idle (exchange s p).phase)
      ((settled_if s a.formed.sound (owner s.config p) settled).own p (a.formed.sound.ports p (gate_place s p live)))).0)

  linked_live : (p : ℕ) → p < length s.config.gates → is_linked (effect s x).config p ≡ true → is_live_port (effect s x).config p ≡ true
  linked_live p made linked = live_again p made (true_from_ne_false (is_live (effect s x).config (owner s.config p)) (λ gone.
      both_ways (is_linked (effect s x).config p)
      (ap is_some ((consistent_then.removed p (ap (λ i. is_live (effect s x).config i) (made_owner p made) ∙ gone)).1)) linked))

  -- where a port leads to what its target services
  target_same_at : (o : Option Target) → option_and_then (λ (t : Target). service (effect s x) t.node) o ≡ option_and_then (λ (t : Target). service s t.node) o
  target_same_at None = refl
  target_same_at (Some t) = sv t.node

  target_services : (p : ℕ) → target (effect s x).config p ≡ target s.config p → target_service (effect s x) p ≡ target_service s p
  target_services p leads = ap (λ o. option_and_then (λ (t : Target). service (effect s x) t.node) o) leads ∙ target_same_at (target s.config p)

  taken_same : (p : ℕ) → target (effect s x).config p ≡ target s.config p → is_taken (effect s x) p ≡ is_taken s p
  taken_same p leads = ap (λ r. option_map_or (λ (w : Service). w.port == p) r false) (target_services p leads)

  target_made : (p : ℕ) (t : Target) → target s.config p ≡ Some t → t.node < length s.config.slots
  target_made p t leads = live_made s.config t.node (a.formed.sound.targets p t leads).live

  ended_still : (p : ℕ) (t : Target) → target s.config p ≡ Some t → target (effect s x).config p ≡ target s.config p
      → option_map_or (λ (d : Target). list_all (λ q. not (is_called_within s p q)) (ports_of s.config d.node)) (target s.config p) true ≡ true
      → option_map_or (λ (d : Target). list_all (λ q. not (is_called_within (effect s x) p q)) (ports_of (effect s x).config d.node)) (target (effect s x).config p) true ≡ true
  ended_still p t leads same h =
      let here = sym (map_or_at (λ (d : Target). list_all (λ q. not (is_called_within s p q)) (ports_of s.config d.node)) (target s.config p) true t leads) ∙ h in
      map_or_at (λ (d : Target). list_all (λ q. not (is_called_within (effect s x) p q)) (ports_of (effect s x).config d.node)) (target (effect s x).config p) true t (same ∙ leads)
      ∙ of_all (effect s x).config t.node (λ q. not (is_called_within (effect s x) p q)) (λ q is.
      ap (λ (y : Exchange). not (option_map_or (λ w. w == p) y.within false)) (ex q)
      ∙ all_of s.config t.node (λ q. not (is_called_within s p q)) q here (owned_before s.config (effect s x).config grown t.node q (target_made p t leads) is))

  mores_still : (p : ℕ) (t : Target) → target s.config p ≡ Some t → target (effect s x).config p ≡ target s.config p
      → option_map_or (λ (d : Target). option_map_or (λ (v : Service). nat_lt v.mores (mores_allowed s.config d.node d.provide)) (service s d.node) false) (target s.config p) false ≡ true
      → option_map_or (λ (d : Target). option_map_or (λ (v : Service). nat_lt v.mores (mores_allowed (effect s x).config d.node d.provide)) (service (effect s x) d.node) false)
      (target (effect s x).config p) false ≡ true
  mores_still p t leads same h =
      map_or_at (λ (d : Target). option_map_or (λ (v : Service). nat_lt v.mores (mores_allowed (effect s x).config d.node d.provide)) (service (effect s x) d.node) false)
      (target (effect s x).config p) false t (same ∙ leads)
      ∙ ap₂ (λ k o. option_map_or (λ (v : Service). nat_lt v.mores k) o false) (mores_same t.node t.provide (target_made p t leads)) (sv t.node)
      ∙ sym (map_or_at (λ (d : Target). option_map_or (λ (v : Service). nat_lt v.mores (mores_allowed s.config d.node d.provide)) (service s d.node) false) (target s.config p) false t leads)
      ∙ h

  -- ---- the event may be done still
  may_still : (f : Event) → is_of_change f ≡ false → clashes x f ≡ false → Legal s f → Legal (effect s x) f
  may_still (Begin p k v) nf ap_ l =
      let leads = beginner_leads p l.live l.opened in
      let made = gate_place s p l.live in
      let linked : is_linked (effect s x).config p ≡ true = ap is_some leads ∙ l.linked in
      record {
        live = linked_live p made linked;
        opened = ap not (ap (λ (g : Gate). g.closed) ((reconfigured s x a.legal_x).gates p) ∙ open_next s.config x p k v made ap_ (not-true (gate s.config p).closed l.opened));
        linked = linked;
        idle = ap (λ (y : Exchange). is_idle y.phase) (ex p) ∙ l.idle;
        next_serial = ap (λ (y : Exchange). k == y.serial + 1 && nat_le k last_serial) (ex p) ∙ l.next_serial;
        value = l.value;
      }
  may_still (Call p k v) nf ap_ l =
      let stay = caller_stays p l.live l.serves_through in
      record {
        live = stay.1;
        serves_through = serves_still p l.live l.serves_through;
        calls_left = calls_still p l.live l.calls_left;
        heard = ap was_heard (own_service p (gate_place s p l.live)) ∙ l.heard;
        linked = ap is_some stay.0 ∙ l.linked;
        idle = ap (λ (y : Exchange). is_idle y.phase) (ex p) ∙ l.idle;
        next_serial = ap (λ (y : Exchange). k == y.serial + 1 && nat_le k last_serial) (ex p) ∙ l.next_serial;
        value = l.value;
      }
  may_still (Miss p) nf ap_ l =
      let stay = caller_stays p l.live l.serves_through in
      record {
        live = stay.1;
        serves_through = serves_still p l.live l.serves_through;
        calls_left = calls_still p l.live l.calls_left;
        heard = ap was_heard (own_service p (gate_place s p l.live)) ∙ l.heard;
        idle = ap (λ (y : Exchange). is_idle y.phase) (ex p) ∙ l.idle;
        missing = ap₂ (λ (t : Option Target) (y : Exchange). words.is_missing (record {
          closed = true;
          phase = y.phase;
          consequent = is_some y.within;
          target = t;
          serial = y.serial;
          value = y.value;
        })) stay.0 (ex p) ∙ l.missing;
      }
  may_still (Ask p k v) nf ap_ l = record {
    live = busy_live p (more_busy (exchange s p).phase l.in_more);
    in_more = ap (λ (y : Exchange). is_in_more y.phase) (ex p) ∙ l.in_more;
    serial = ap (λ (y : Exchange). k == y.serial) (ex p) ∙ l.serial;
    value = l.value;
  }
  may_still (End p k v) nf ap_ l = record {
    live = busy_live p (answered_busy (exchange s p).phase l.answered);
    answered = ap (λ (y : Exchange). is_answered y.phase) (ex p) ∙ l.answered;
    message = ap (λ (y : Exchange). k == y.serial && v == y.value) (ex p) ∙ l.message;
  }
  may_still (Take p k v) nf ap_ l =
      let busy = asked_busy (exchange s p).phase l.asked in
      let leads = busy_leads p busy in
      record {
        live = busy_live p busy;
        asked = ap (λ (y : Exchange). is_asked y.phase) (ex p) ∙ l.asked;
        untaken = ap not (taken_same p leads) ∙ l.untaken;
        free = ap is_none (target_services p leads) ∙ l.free;
        message = ap (λ (y : Exchange). k == y.serial && v == y.value) (ex p) ∙ l.message;
      }
  may_still (Give p k v) nf ap_ l =
      let busy = taken_busy s p a.consistent l.taken in
      let leads = busy_leads p busy in
      let t = taken_is s p l.taken in
      record {
        live = busy_live p busy;
        taken = taken_same p leads ∙ l.taken;
        heard = ap was_heard (target_services p leads) ∙ l.heard;
        serial = ap (λ (y : Exchange). k == y.serial) (ex p) ∙ l.serial;
        calls_ended = ended_still p t.to t.leads leads l.calls_ended;
        value = l.value;
      }
  may_still (More p k v) nf ap_ l =
      let busy = taken_busy s p a.consistent l.taken in
      let leads = busy_leads p busy in
      let t = taken_is s p l.taken in
      record {
        live = busy_live p busy;
        taken = taken_same p leads ∙ l.taken;
        heard = ap was_heard (target_services p leads) ∙ l.heard;
        serial = ap (λ (y : Exchange). k == y.serial) (ex p) ∙ l.serial;
        calls_ended = ended_still p t.to t.leads leads l.calls_ended;
        mores_left = mores_still p t.to t.leads leads l.mores_left;
        value = l.value;
      }
  may_still (Hear p k v) nf ap_ l =
      let busy = asked_busy (exchange s p).phase l.asked in
      let leads = busy_leads p busy in
      record {
        live = busy_live p busy;
        asked = ap (λ (y : Exchange). is_asked y.phase) (ex p) ∙ l.asked;
        taken = taken_same p leads ∙ l.taken;
        unheard = ap (λ r. not (was_heard r)) (target_services p leads) ∙ l.unheard;
        message = ap (λ (y : Exchange). k == y.serial && v == y.value) (ex p) ∙ l.message;
      }
  may_still _ nf ap_ l = absurd (both_ways true nf refl)

  node_may_still : Legal (effect s x) e
  node_may_still = may_still e a.node_e a.apart a.legal_e

  -- ---- the event of the change may be done still

  kept : (effect s e).config ≡ s.config
  kept = node_events_keep_the_configuration s e a.node_e

  no_opening : (f : Event) → is_of_change f ≡ false → is_reopen_or_link f ≡ false
  no_opening (Reopen p) h = absurd (both_ways true h refl)
  no_opening (Link p m y) h = absurd (both_ways true h refl)
  no_opening _ h = refl

  settled_still : (m : ℕ) → is_settled s m ≡ true → is_settled (effect s e) m ≡ true
  settled_still m h =
      let was = settled_if s a.formed.sound m h in
      let now = still_next s e m a.formed a.consistent a.legal_e (no_opening e a.node_e) (still_if s m was) in
      if_settled (effect s e) m (record {
        live = ap (λ c. is_live c m) kept ∙ was.live;
        own = λ p o. now.quiet p (inl o);
        services_nothing = now.services_nothing;
        reaching = λ p r. now.quiet p (inr r);
      })

  change_still : (y : Event) → is_of_change y ≡ true → Legal s y → Legal (effect s e) y
  change_still (Close p) h l = record { live = ap (λ c. is_live_port c p) kept ∙ l.live }
  change_still (Reopen p) h l = record { live = ap (λ c. is_live_port c p) kept ∙ l.live }
  change_still (Make k node from) h l = record {
    room = ap (λ c. has_room c k node) kept ∙ l.room;
    new_path = ap (λ c. not (is_path_taken c node.path) && has_its_argument node) kept ∙ l.new_path;
    moves = ap (λ c. option_map_or (λ i. can_move c i node.kind) from true) kept ∙ l.moves;
  }
  change_still (Link p k y) h l = record {
    live = ap (λ c. is_live_port c p) kept ∙ l.live;
    unlinked = ap (λ c. not (is_linked c p)) kept ∙ l.unlinked;
    provision = ap (λ c. has_provision c k y) kept ∙ l.provision;
    settled = ap (λ c. is_settled (effect s e) (owner c p)) kept ∙ settled_still (owner s.config p) l.settled;
    no_cycle = ap (λ c. has_no_cycle (with_target c p (Some (record { node = k; provide = y })))) kept ∙ l.no_cycle;
  }
  change_still (Unlink p) h l = record {
    live = ap (λ c. is_live_port c p) kept ∙ l.live;
    linked = ap (λ c. is_linked c p) kept ∙ l.linked;
    settled = ap (λ c. is_settled (effect s e) (owner c p)) kept ∙ settled_still (owner s.config p) l.settled;
  }
  change_still (Remove k) h l = record {
    live = ap (λ c. is_live c k) kept ∙ l.live;
    settled = settled_still k l.settled;
    apart = ap (λ c. is_apart c k) kept ∙ l.apart;
  }
  change_still _ h l = absurd (both_ways false refl h)

  change_may_still : Legal (effect s e) x
  change_may_still = change_still x a.change_x a.legal_x

  -- ---- and either order comes to the same

  -- where the port of the event leads, and whose it is
  port_leads : (f : Event) → is_of_change f ≡ false → Legal s f → target (effect s x).config (port_of f) ≡ target s.config (port_of f)
  port_leads (Begin p k v) h l = beginner_leads p l.live l.opened
  port_leads (Call p k v) h l = (caller_stays p l.live l.serves_through).0
  port_leads (Miss p) h l = (caller_stays p l.live l.serves_through).0
  port_leads (Ask p k v) h l = busy_leads p (more_busy (exchange s p).phase l.in_more)
  port_leads (End p k v) h l = busy_leads p (answered_busy (exchange s p).phase l.answered)
  port_leads (Take p k v) h l = busy_leads p (asked_busy (exchange s p).phase l.asked)
  port_leads (Give p k v) h l = busy_leads p (taken_busy s p a.consistent l.taken)
  port_leads (More p k v) h l = busy_leads p (taken_busy s p a.consistent l.taken)
  port_leads (Hear p k v) h l = busy_leads p (asked_busy (exchange s p).phase l.asked)
  port_leads _ h l = absurd (both_ways true h refl)

  doer_still : doer (effect s x) e ≡ doer s e
  doer_still = doer_alike s (effect s x) e a.node_e (made_owner (port_of e) (gate_place s (port_of e) (live_of s e a.node_e a.legal_e))) (port_leads e a.node_e a.legal_e)

  does_still : (m : ℕ) → is_doer (effect s x) m e ≡ is_doer s m e
  does_still m = ap (λ o. option_map_or (λ k. k == m) o false) doer_still

  services_both : (m : ℕ) → service (effect (effect s e) x) m ≡ service (effect (effect s x) e) m
  services_both m =
      service_same (effect s e) x (well_formed_next s e a.formed a.legal_e) change_may_still a.change_x m
      ∙ services_next s e a.formed a.legal_e m
      ∙ sym (services_next (effect s x) e formed_then node_may_still m ∙ ap₂ (λ b v. cond b (service_by v e) v) (does_still m) (sv m))

  message_at : (q : ℕ) → exchange_next (effect s x) q e ≡ exchange_next s q e
  message_at q = ⊎_elim
      (λ (at : port_of e ≡ q).
      let made = gate_place s (port_of e) (live_of s e a.node_e a.legal_e) in
      let owned : owner (effect s x).config q ≡ owner s.config q = subst (λ i. owner (effect s x).config i ≡ owner s.config i) at (made_owner (port_of e) made) in
      ap₂ (λ g h. cond (is_message_at q e) g h)
      (by_alike_all (service (effect s x) (owner (effect s x).config q)) (service s (owner s.config q)) (exchange (effect s x) q) (exchange s q) e
      (λ o. ap (λ i. service (effect s x) i) owned ∙ sv (owner s.config q)) (ex q)) (ex q))
      (λ (other : port_of e ≡ q → ⊥).
      ap (λ b. cond b (exchange_by (service (effect s x) (owner (effect s x).config q)) (exchange (effect s x) q) e) (exchange (effect s x) q)) (elsewhere e q other)
      ∙ ex q ∙ sym (ap (λ b. cond b (exchange_by (service s (owner s.config q)) (exchange s q) e) (exchange s q)) (elsewhere e q other)))
      (cases_eq (port_of e) q)

  exchanges_both : (q : ℕ) → exchange (effect (effect s e) x) q ≡ exchange (effect (effect s x) e) q
  exchanges_both q =
      exchange_same (effect s e) x (well_formed_next s e a.formed a.legal_e) change_may_still a.change_x q
      ∙ exchanges_next s e a.formed a.legal_e q
      ∙ sym (exchanges_next (effect s x) e formed_then node_may_still q ∙ message_at q)

  either_order : effect (effect s e) x ≡ effect (effect s x) e
  either_order = same_state (effect (effect s e) x) (effect (effect s x) e)
      (well_formed_next (effect s e) x (well_formed_next s e a.formed a.legal_e) change_may_still)
      (well_formed_next (effect s x) e formed_then node_may_still)
      (effect_config (effect s e) x ∙ ap (λ c. change_next c x) kept ∙ sym (node_events_keep_the_configuration (effect s x) e a.node_e ∙ effect_config s x))
      services_both exchanges_both

-- so they are independent
pub changes_are_independent_of_nodes : (s : State) (n : ℕ) (x e : Event) → IsWellFormed s → IsConsistent s → MayBeDoneByChange s x → MayBeDoneBy s n e
    → clashes x e ≡ false → AreIndependent s x e
changes_are_independent_of_nodes s n x e w c m k no_ =
    let node = nodes_do_no_change s n e k.done_by_it in
    let a : AreBeside s x e = record {
      formed = w;
      consistent = c;
      legal_x = legal s x m.allowed;
      legal_e = legal s e k.allowed;
      change_x = m.of_change;
      node_e = node;
      apart = no_;
    } in
    record {
      second_behind = allowed (effect s x) e (node_may_still a);
      first_behind = allowed (effect s e) x (change_may_still a);
      second_doer = doer_still a;
      first_doer = no_node_if (effect s e) x m.of_change ∙ sym (no_node_if s x m.of_change);
      one_state = sym (either_order a);
    }
