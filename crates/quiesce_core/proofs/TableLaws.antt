-- Where in the tables a legal event writes, and that what it counts stays small.
use Rattle.std.proofs.Common.{◌≡◌, ℕ, ◌+◌, ◌<◌, ◌≤◌, true, false, List, [], ◌∷◌, ◌++◌, append_assoc, length, length-append, Option, Some, None, refl, sym, ap, ◌∙◌, subst, arith}
use Rattle.std.specs.Prelude.{nat_lt}
use Rattle.std.specs.Option.{option_map_or}
use Rattle.std.proofs.lemmas.Bool.{and_parts, ltb-true}
use Rattle.std.proofs.lemmas.Option.{slice_get_within}
use Rattle.config_graph.specs.Kinds.{row, calls_of, mores_of}
use Rattle.config_graph.specs.declared.node.Target.{Target}
use Rattle.quiesce_core.specs.declared.state.Slot.{Slot}
use Rattle.quiesce_core.specs.declared.state.Service.{Service}
use Rattle.quiesce_core.specs.declared.state.Gate.{Gate}
use Rattle.quiesce_core.specs.Effect.{new_gates}
use Rattle.std.proofs.lemmas.List.FromFn.{map-range_with_len_more, length-map-range_with_len}
use Rattle.quiesce_core.specs.State.{Configuration, State, slot, is_live, owner, target, provision, calls_allowed, mores_allowed, service}
use Rattle.quiesce_core.specs.Rules.{is_live_port, has_calls_left, has_mores_left}
use Rattle.quiesce_word.specs.Words.{FitsTarget}
use Rattle.quiesce_core.specs.WellFormed.{IsWellFormed}
use Rattle.base.proofs.OptionLaws.{map_or_true, map_or_at}
use Rattle.config_graph.proofs.KindLaws.{few_calls, few_mores, one_provision}

pub live_made : (c : Configuration) (n : ℕ) → is_live c n ≡ true → n < length c.slots
live_made c n h = let m = map_or_true (λ (m : Slot). m.live) (slot c n) h in slice_get_within c.slots n m.0 m.1

pub gate_place : (s : State) (p : ℕ) → is_live_port s.config p ≡ true → p < length s.config.gates
gate_place s p h = ltb-true p (length s.config.gates) (and_parts (nat_lt p (length s.config.gates)) (is_live s.config (owner s.config p)) h).0

pub exchange_place : (s : State) (p : ℕ) → IsWellFormed s → is_live_port s.config p ≡ true → p < length s.traffic.exchanges
exchange_place s p w h = omega (arith, gate_place s p h, w.exchanges)

pub owner_place : (s : State) (p : ℕ) → IsWellFormed s → is_live_port s.config p ≡ true → owner s.config p < length s.traffic.services
owner_place s p w h =
    omega (arith, live_made s.config (owner s.config p) (and_parts (nat_lt p (length s.config.gates)) (is_live s.config (owner s.config p)) h).1, w.services)

pub target_place : (s : State) (p : ℕ) (t : Target) → IsWellFormed s → target s.config p ≡ Some t → t.node < length s.traffic.services
target_place s p t w e = omega (arith, live_made s.config t.node (w.sound.targets p t e).live, w.services)

allowed_few : (c : Configuration) (n x : ℕ) (o : Option Slot) → slot c n ≡ o → calls_allowed c n x ≤ 4
allowed_few c n x None e = rw (ap (λ o. option_map_or (λ (m : Slot). calls_of m.node.kind x) o 0) e) (omega arith)
allowed_few c n x (Some m) e = rw (ap (λ o. option_map_or (λ (m : Slot). calls_of m.node.kind x) o 0) e) (few_calls m.node.kind x)

pub calls_fit : (s : State) (n : ℕ) (v : Service) → has_calls_left s n ≡ true → service s n ≡ Some v → v.calls < 4
calls_fit s n v h e =
    let below : nat_lt v.calls (calls_allowed s.config n (provision s.config v.port)) ≡ true =
    sym (map_or_at (λ (v : Service). nat_lt v.calls (calls_allowed s.config n (provision s.config v.port))) (service s n) false v e) ∙ h in
    omega (arith, ltb-true v.calls (calls_allowed s.config n (provision s.config v.port)) below, allowed_few s.config n (provision s.config v.port) (slot s.config n) refl)

mores_few : (c : Configuration) (n x : ℕ) (o : Option Slot) → slot c n ≡ o → mores_allowed c n x ≤ 1
mores_few c n x None e = rw (ap (λ o. option_map_or (λ (m : Slot). mores_of m.node.kind x) o 0) e) (omega arith)
mores_few c n x (Some m) e = rw (ap (λ o. option_map_or (λ (m : Slot). mores_of m.node.kind x) o 0) e) (few_mores m.node.kind x)

pub mores_fit : (s : State) (p : ℕ) (t : Target) (v : Service) → has_mores_left s p ≡ true → target s.config p ≡ Some t → service s t.node ≡ Some v → v.mores < 1
mores_fit s p t v h e f =
    let one = map_or_at (λ (u : Target). option_map_or (λ (v : Service). nat_lt v.mores (mores_allowed s.config u.node u.provide)) (service s u.node) false) (target s.config p) false t e in
    let two = map_or_at (λ (v : Service). nat_lt v.mores (mores_allowed s.config t.node t.provide)) (service s t.node) false v f in
    omega (arith, ltb-true v.mores (mores_allowed s.config t.node t.provide) (sym two ∙ sym one ∙ h), mores_few s.config t.node t.provide (slot s.config t.node) refl)

pub ruleset places = (gate_place, exchange_place, owner_place, target_place, calls_fit, mores_fit)

pub new_gates_more : (gates : List Gate) (n k : ℕ) → (gates ++ new_gates n k) ++ record { owner = n; require = k; closed = true; target = None } ∷ [] ≡ gates ++ new_gates n (k + 1)
new_gates_more gates n k =
    append_assoc gates (new_gates n k) (record { owner = n; require = k; closed = true; target = None } ∷ [])
    ∙ ap (λ ys. gates ++ ys) (sym (map-range_with_len_more (λ r. record { owner = n; require = r; closed = true; target = None }) 0 k k (omega arith)))

pub new_gates_length : (gates : List Gate) (n k : ℕ) → length (gates ++ new_gates n k) ≡ length gates + k
new_gates_length gates n k =
    length-append gates (new_gates n k) ∙ ap (λ i. length gates + i) (length-map-range_with_len (λ r. record { owner = n; require = r; closed = true; target = None }) 0 k)

-- the target of a port has its room in a word
pub fits_target : (s : State) → IsWellFormed s → (p : ℕ) (t : Target) → target s.config p ≡ Some t → FitsTarget t
fits_target s w p t e =
    let l = w.sound.targets p t e in
    let m = map_or_true (λ (m : Slot). m.live) (slot s.config t.node) l.live in
    let inside : t.provide < length (row m.0.node.kind).provides =
    subst (λ i. t.provide < i) (map_or_at (λ (m : Slot). length (row m.node.kind).provides) (slot s.config t.node) 0 m.0 m.1) l.provided in
    record {
      node = omega (arith, live_made s.config t.node l.live, w.sound.few_nodes);
      provide = omega (arith, inside, one_provision m.0.node.kind);
    }
