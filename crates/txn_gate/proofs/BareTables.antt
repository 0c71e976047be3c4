-- A configuration without paths, arguments and sources tells of live nodes, ports and links what the whole one tells.
use Rattle.std.proofs.Common.{◌≡◌, ℕ, ◌<◌, ◌≤◌, ◌+◌, Bool, true, false, not, ◌&&◌, ◌||◌, [], ◌∷◌, ◌++◌, length, map, set, Option, Some, None, refl, sym, ap, ◌∙◌, subst, ⊎_elim, arith}
use Rattle.std.specs.Prelude.{◌↔◌, nat_lt, option_map, IsTrue}
use Rattle.std.specs.List.{list_all, range_with_len}
use Rattle.std.specs.Option.{option_map_or}
use Rattle.std.proofs.lemmas.Bool.{and_from, and_parts, both_ways, cases_Bool, ltb-true, not-true, not_from_false, or_cases, or_left, or_right}
use Rattle.std.proofs.lemmas.List.{length-map, map-append, map-set}
use Rattle.std.proofs.lemmas.Option.{slice_get-map}
use Rattle.base.proofs.OptionLaws.{map_or_at, map_or_true}
use Rattle.base.proofs.PlaceLaws.{slice_get-map_at, slice_get-map_some}
use Rattle.base.proofs.RangeLaws.{all_in_range, range_all}
use Rattle.quiesce_laws.specs.Steps.{IsNoted}
use Rattle.config_graph.specs.Kinds.{depends_on, row}
use Rattle.config_graph.specs.Wiring.{MayCall, Reach, direct, through}
use Rattle.config_graph.specs.declared.node.Node.{Node}
use Rattle.config_graph.specs.declared.node.Target.{Target}
use Rattle.config_graph.proofs.KindLaws.{one_provision}
use Rattle.quiesce_word.specs.Words.{FitsTarget}
use Rattle.quiesce_core.specs.Effect.{new_gates, with_node, with_removed}
use Rattle.quiesce_core.specs.Reach.{IsPortOf, has_no_cycle, reaches, wiring_of}
use Rattle.quiesce_core.specs.Rules.{has_provision}
use Rattle.quiesce_core.specs.State.{Configuration, gate, is_live, depends, ports_of, provides, slot}
use Rattle.quiesce_core.specs.WellFormed.{IsSound, LeadsToProvision}
use Rattle.quiesce_core.specs.declared.state.Slot.{Slot}
use Rattle.quiesce_core.proofs.CycleLaws.{all_of, no_cycle_if_ranked, of_all, ranked_if_no_cycle}
use Rattle.quiesce_core.proofs.SettledLaws.{reaches_complete, reaches_sound, reaching_made}
use Rattle.quiesce_core.proofs.TableLaws.{live_made}
use Rattle.txn_gate.specs.TablesOf.{bare, bare_slot}
use Rattle.txn_gate.specs.Tabled.{are_all_noted, bare_node}

-- what slots say of their nodes without what isn't kept
kept_of : {A : Type 0} (f : Slot → A) (d : A) → ((m : Slot) → f (bare_slot m) ≡ f m) → (c : Configuration) (n : ℕ) → option_map_or f (slot (bare c) n) d ≡ option_map_or f (slot c n) d
kept_of f d same c n = ap (λ o. option_map_or f o d) (slice_get-map bare_slot c.slots n) ∙ by (slot c n)
  where
    by : (o : Option Slot) → option_map_or f (option_map bare_slot o) d ≡ option_map_or f o d
    by None = refl
    by (Some m) = same m

pub live_kept : (c : Configuration) (n : ℕ) → is_live (bare c) n ≡ is_live c n
live_kept c n = kept_of (λ m. m.live) false (λ m. refl) c n

provides_kept : (c : Configuration) (n : ℕ) → provides (bare c) n ≡ provides c n
provides_kept c n = kept_of (λ m. length (row m.node.kind).provides) 0 (λ m. refl) c n

depends_kept : (c : Configuration) (n x p : ℕ) → depends (bare c) n x p ≡ depends c n x p
depends_kept c n x p = kept_of (λ m. depends_on m.node.kind x (gate c p).require) false (λ m. refl) c n

port_kept : (c : Configuration) (n p : ℕ) → IsPortOf c n p → IsPortOf (bare c) n p
port_kept c n p o = record { node = bare_slot o.node; made = slice_get-map_at bare_slot c.slots n o.node o.made; from = o.from; below = o.below }

port_back : (c : Configuration) (n p : ℕ) → IsPortOf (bare c) n p → IsPortOf c n p
port_back c n p o =
    let m = slice_get-map_some bare_slot c.slots n o.node o.made in
    record {
      node = m.0;
      made = m.1;
      from = subst (λ (k : Slot). k.first_port ≤ p) (sym m.2) o.from;
      below = subst (λ (k : Slot). p < k.first_port + length (row k.node.kind).requires_) (sym m.2) o.below;
    }

-- which ports reach a node
reach_kept : (c : Configuration) (n p : ℕ) → Reach (wiring_of c) n p → Reach (wiring_of (bare c)) n p
reach_kept c n _ (direct e) = direct e
reach_kept c n _ (through {p = q} {q = p} {m} {x} r d e) = through (reach_kept c n q r) (port_kept c m q d.0, depends_kept c m x q ∙ d.1) e

reach_back : (c : Configuration) (n p : ℕ) → Reach (wiring_of (bare c)) n p → Reach (wiring_of c) n p
reach_back c n _ (direct e) = direct e
reach_back c n _ (through {p = q} {q = p} {m} {x} r d e) = through (reach_back c n q r) (port_back c m q d.0, sym (depends_kept c m x q) ∙ d.1) e

-- the test of what is kept tells whether a node is noted
module _ (f g : ℕ → Bool) (agree : (p : ℕ) → f p ≡ g p) (c : Configuration) (n : ℕ) where
  abbrev reaching : ℕ → Bool
  reaching p = f p || not (reaches (bare c) n p)

  noted_if : IsSound (bare c) → are_all_noted f (bare c) n ≡ true → IsNoted g c n
  noted_if sound h =
      let a = and_parts (is_live (bare c) n && list_all f (ports_of (bare c) n)) (list_all reaching (range_with_len 0 (length c.gates))) h in
      let b = and_parts (is_live (bare c) n) (list_all f (ports_of (bare c) n)) a.0 in
      record {
        live = sym (live_kept c n) ∙ b.0;
        own = λ q o. sym (agree q) ∙ all_of (bare c) n f q b.1 (port_kept c n q o);
        reaching = λ q r. sym (agree q) ∙ ⊎_elim (λ (yes_ : f q ≡ true). yes_)
            (λ (apart : not (reaches (bare c) n q) ≡ true).
            absurd (both_ways (reaches (bare c) n q) (not-true (reaches (bare c) n q) apart) (reaches_complete (bare c) sound n q (reach_kept c n q r))))
            (or_cases (f q) (not (reaches (bare c) n q)) (all_in_range reaching 0 (length c.gates) q a.1 (omega arith) (omega (arith, reaching_made c n q r))));
      }

  if_noted : IsNoted g c n → are_all_noted f (bare c) n ≡ true
  if_noted h =
      and_from (is_live (bare c) n && list_all f (ports_of (bare c) n)) (list_all reaching (range_with_len 0 (length c.gates)))
      (and_from (is_live (bare c) n) (list_all f (ports_of (bare c) n)) (live_kept c n ∙ h.live)
      (of_all (bare c) n f (λ q o. agree q ∙ h.own q (port_back c n q o))))
      (range_all reaching 0 (length c.gates) (λ q l u. ⊎_elim
      (λ (yes_ : reaches (bare c) n q ≡ true). or_left (f q) (not (reaches (bare c) n q)) (agree q ∙ h.reaching q (reach_back c n q (reaches_sound (bare c) n q yes_))))
      (λ (no_ : reaches (bare c) n q ≡ false). or_right (f q) (not (reaches (bare c) n q)) (not_from_false (reaches (bare c) n q) no_))
      (cases_Bool (reaches (bare c) n q))))

  pub noted_iff : IsSound (bare c) → (b : Bool) → b ≡ are_all_noted f (bare c) n → IsTrue b ↔ IsNoted g c n
  noted_iff sound b is = ((λ h. noted_if sound (sym is ∙ h)), (λ h. is ∙ if_noted h))

-- ---- links

call_back : (c : Configuration) (n m : ℕ) → MayCall (wiring_of (bare c)) n m → MayCall (wiring_of c) n m
call_back c n m l = record {
  port = l.port;
  serves = l.serves;
  provide = l.provide;
  depends = (port_back c n l.port l.depends.0, sym (depends_kept c n l.serves l.port) ∙ l.depends.1);
  linked = l.linked;
}

pub no_cycle_kept : (c : Configuration) → has_no_cycle c ≡ true → has_no_cycle (bare c) ≡ true
no_cycle_kept c h =
    let ranked = ranked_if_no_cycle c h in
    no_cycle_if_ranked (bare c) (record { rank = ranked.rank; falls = λ n m l. ranked.falls n m (call_back c n m l) })

pub provision_kept : (c : Configuration) (t : Target) → has_provision c t.node t.provide ≡ true → LeadsToProvision (bare c) t
provision_kept c t h =
    let parts = and_parts (is_live c t.node) (nat_lt t.provide (provides c t.node)) h in
    record {
      live = live_kept c t.node ∙ parts.0;
      provided = subst (λ k. t.provide < k) (sym (provides_kept c t.node)) (ltb-true t.provide (provides c t.node) parts.1);
    }

-- a target that leads to a provision has its room in a word
pub target_fits : (c : Configuration) (t : Target) → IsSound c → LeadsToProvision c t → FitsTarget t
target_fits c t sound l =
    let m = map_or_true (λ (m : Slot). m.live) (slot c t.node) l.live in
    let inside : t.provide < length (row m.0.node.kind).provides =
    subst (λ i. t.provide < i) (map_or_at (λ (m : Slot). length (row m.node.kind).provides) (slot c t.node) 0 m.0 m.1) l.provided in
    record {
      node = omega (arith, live_made c t.node l.live, sound.few_nodes);
      provide = omega (arith, inside, one_provision m.0.node.kind);
    }

-- ---- nodes made and removed

pub made_kept : (c : Configuration) (node : Node) (from : Option ℕ) → with_node (bare c) (bare_node node.kind) None ≡ bare (with_node c node from)
made_kept c node from =
    let last = record { node = node; first_port = length c.gates; from = from; live = true } ∷ [] in
    ap (λ ss. record { slots = ss; gates = c.gates ++ new_gates (length (map bare_slot c.slots)) (length (row node.kind).requires_) }) (sym (map-append bare_slot c.slots last))
    ∙ ap (λ k. record { slots = map bare_slot (c.slots ++ last); gates = c.gates ++ new_gates k (length (row node.kind).requires_) }) (length-map c.slots bare_slot)

pub removed_kept : (c : Configuration) (n : ℕ) → with_removed (bare c) n ≡ bare (with_removed c n)
removed_kept c n = ap (λ o. record { slots = option_map_or (λ (m : Slot). set (map bare_slot c.slots) n (record m { live = false })) o (map bare_slot c.slots); gates = c.gates }) (slice_get-map bare_slot c.slots n) ∙ by (slot c n)
  where
    by : (o : Option Slot) → ◌≡◌ {A = Configuration} (record { slots = option_map_or (λ (m : Slot). set (map bare_slot c.slots) n (record m { live = false })) (option_map bare_slot o) (map bare_slot c.slots); gates = c.gates })
        (bare (record { slots = option_map_or (λ (m : Slot). set c.slots n (record m { live = false })) o c.slots; gates = c.gates }))
    by None = refl
    by (Some m) = ap (λ ss. record { slots = ss; gates = c.gates }) (sym (map-set bare_slot c.slots n (record m { live = false })))
