-- A link is denied by rule 23 exactly where there is a cycle in the graph that it would make.
use Rattle.std.proofs.Common.{◌≡◌, ◌∙◌, ℕ, ◌<◌, Bool, true, false, cond, not, [], ◌∷◌, length, Option, Some, None, refl, ap, sym, subst, ⊎_elim, arith}
use Rattle.std.specs.Prelude.{◌↔◌, nat_lt}
use Rattle.std.proofs.lemmas.Bool.{and_parts, cases_eq, false_from_ne_true}
use Rattle.std.proofs.lemmas.Option.{none-some, same_Some}
use Rattle.config_graph.specs.Graph.{Graph}
use Rattle.config_graph.specs.GraphBy.{IsGraphBy}
use Rattle.config_graph.specs.Cycles.{graph_wiring}
use Rattle.config_graph.specs.Wiring.{HasNoCycle}
use Rattle.config_graph.specs.declared.node.Target.{Target}
use Rattle.quiesce_core.specs.declared.event.Event.TheVariants.{Link}
use Rattle.quiesce_core.specs.declared.state.Gate.{Gate}
use Rattle.quiesce_core.specs.Effect.{with_gate, with_target}
use Rattle.quiesce_core.specs.GraphNext.{AreLinkedNext, IsNodeNext}
use Rattle.quiesce_core.specs.Live.{IsGraphOf}
use Rattle.quiesce_core.specs.Named.{AreNamed}
use Rattle.quiesce_core.specs.Reach.{IsPortOf, has_no_cycle, wiring_of}
use Rattle.quiesce_core.specs.Rules.{denial, first_failing, has_provision, is_linked, is_live_port, is_settled}
use Rattle.quiesce_core.specs.SameWiring.{AreLinkedAlive}
use Rattle.quiesce_core.specs.State.{Configuration, State, is_live, owner, gate, provides, target}
use Rattle.quiesce_core.proofs.AlterLaws.{link_reconfigures}
use Rattle.quiesce_core.proofs.CycleLaws.{cycles_are_found}
use Rattle.quiesce_core.proofs.GraphNextLaws.{graph_alike, links_linked, nodes_next}
use Rattle.quiesce_core.proofs.SameWiringLaws.{one_cycle}
use Rattle.quiesce_core.proofs.SoundnessLaws.{put_elsewhere, put_here, put_length, put_owner, put_port_of, put_was_port_of}
use Rattle.quiesce_core.proofs.TableLaws.{gate_place}

-- a live node's port is linked to a live node
link_alive : (c : Configuration) → AreLinkedAlive c → (p : ℕ) (t : Target) → p < length c.gates → is_live c (owner c p) ≡ true → is_live c t.node ≡ true → AreLinkedAlive (with_target c p (Some t))
link_alive c alive p t made from to =
    let g : Gate = record (gate c p) { target = Some t } in record {
      from = λ q u e. ⊎_elim
          (λ (same : q ≡ p). ap (λ n. is_live c n) (put_owner c p g made refl refl q ∙ ap (λ i. owner c i) same) ∙ from)
          (λ (other : q ≡ p → ⊥).
          ap (λ n. is_live c n) (put_owner c p g made refl refl q) ∙ alive.from q u (sym (ap (λ (h : Gate). h.target) (put_elsewhere c p g made refl refl q other)) ∙ e))
          (cases_eq q p);
      to = λ q u e. ⊎_elim
          (λ (same : q ≡ p).
          let one : t ≡ u = same_Some t u (sym (ap (λ (h : Gate). h.target) (put_here c p g made refl refl)) ∙ sym (ap (λ i. target (with_gate c p g) i) same) ∙ e) in
          ap (λ (v : Target). is_live c v.node) (sym one) ∙ to)
          (λ (other : q ≡ p → ⊥). alive.to q u (sym (ap (λ (h : Gate). h.target) (put_elsewhere c p g made refl refl q other)) ∙ e))
          (cases_eq q p);
      owned = λ n q o. put_owner c p g made refl refl q ∙ alive.owned n q (put_was_port_of c p g made refl refl n q o);
      ports = λ q h.
          let before : q < length c.gates = omega (arith, h, put_length c p g made refl refl) in
          subst (λ n. IsPortOf (with_gate c p g) n q) (sym (put_owner c p g made refl refl q)) (put_port_of c p g made refl refl (owner c q) q (alive.ports q before));
    }

module _ (s : State) (p n x : ℕ) (live : is_live_port s.config p ≡ true) (unlinked : is_linked s.config p ≡ false) (provision : has_provision s.config n x ≡ true) where
  -- where the four rules before it hold, the last decides
  last_decides : is_settled s (owner s.config p) ≡ true → denial s (Link p n x) ≡ cond (has_no_cycle (with_target s.config p (Some (record { node = n; provide = x })))) None (Some 23)
  last_decides settled =
      let last = has_no_cycle (with_target s.config p (Some (record { node = n; provide = x }))) in
      λ i. first_failing ((1, live i) ∷ (20, not (unlinked i)) ∷ (21, provision i) ∷ (22, settled i) ∷ (23, last) ∷ [])

  -- the cycles then are those of the graph then
  cycles_then : AreLinkedAlive s.config → AreNamed s.config → (g : Graph) → IsGraphBy (IsNodeNext s.config (Link p n x)) (AreLinkedNext s.config (Link p n x)) g
      → HasNoCycle (wiring_of (with_target s.config p (Some (record { node = n; provide = x })))) ↔ HasNoCycle (graph_wiring g)
  cycles_then alive named g graph =
      let c = s.config in
      let d : Configuration = with_target c p (Some (record { node = n; provide = x })) in
      let made = gate_place s p live in
      let from : is_live c (owner c p) ≡ true = (and_parts (nat_lt p (length c.gates)) (is_live c (owner c p)) live).1 in
      let to : is_live c n ≡ true = (and_parts (is_live c n) (nat_lt x (provides c n)) provision).0 in
      let r = link_reconfigures c p n x made in
      let nodes = nodes_next c d (Link p n x) r in
      let links = links_linked c d p n x made unlinked r in
      let is_graph : IsGraphOf d g = graph_alike g (λ y. ((nodes y).1, (nodes y).0)) (λ a q b y. ((links a q b y).1, (links a q b y).0)) graph in
      let named_then : AreNamed d = record { paths = named.paths; arguments = named.arguments } in
      one_cycle d named_then g is_graph (link_alive c alive p (record { node = n; provide = x }) made from to)

  pub cycles_deny_links : is_settled s (owner s.config p) ≡ true → AreLinkedAlive s.config → AreNamed s.config
      → (g : Graph) → IsGraphBy (IsNodeNext s.config (Link p n x)) (AreLinkedNext s.config (Link p n x)) g
      → (denial s (Link p n x) ≡ Some 23) ↔ (HasNoCycle (graph_wiring g) → ⊥)
  cycles_deny_links settled alive named g graph =
      let d : Configuration = with_target s.config p (Some (record { node = n; provide = x })) in
      let cycles = cycles_then alive named g graph in
      let denied : Bool → Option ℕ = λ b. cond b None (Some 23) in
      let decides : denial s (Link p n x) ≡ denied (has_no_cycle d) = last_decides settled in (
        λ h free.
            let none_ : has_no_cycle d ≡ true = (cycles_are_found d).1 (cycles.1 free) in
            none-some 23 (ap denied (sym none_) ∙ sym decides ∙ h),
        λ cyclic. decides ∙ ap denied (false_from_ne_true (has_no_cycle d) (λ none_. cyclic (cycles.0 ((cycles_are_found d).0 none_)))),
      )
