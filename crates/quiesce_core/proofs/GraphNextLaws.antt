-- The graph after an event, by the nodes and links before it.
use Rattle.std.proofs.Common.{◌≡◌, ◌∙◌, [], ℕ, ◌<◌, ◌⊎◌, inl, inr, true, false, length, Some, refl, ap, sym, subst, ⊎_elim, arith}
use Rattle.std.specs.Prelude.{◌↔◌, is_none, is_some}
use Rattle.std.specs.List.{list_all, range_with_len}
use Rattle.std.specs.Option.{option_map_or}
use Rattle.std.proofs.lemmas.Bool.{and_parts, both_ways, cases_eq, eq-eqb, ne_eqb, not-true}
use Rattle.std.proofs.lemmas.Option.{none-some, same_Some, slice_get_within}
use Rattle.config_graph.specs.Graph.{Graph}
use Rattle.config_graph.specs.GraphBy.{IsGraphBy}
use Rattle.config_graph.specs.Kinds.{row}
use Rattle.config_graph.specs.declared.node.Node.{Node}
use Rattle.config_graph.specs.declared.node.Target.{Target}
use Rattle.quiesce_core.specs.declared.event.Event.{Event}
use Rattle.quiesce_core.specs.declared.event.Event.TheVariants.{Make, Link, Unlink, Remove}
use Rattle.quiesce_core.specs.declared.state.Slot.{Slot}
use Rattle.quiesce_core.specs.Alters.{Reconfigures}
use Rattle.quiesce_core.specs.Doers.{is_make, is_remove, relinks}
use Rattle.quiesce_core.specs.GraphNext.{AreEnds, AreLinkedNext, IsNodeNext}
use Rattle.quiesce_core.specs.Legal.{Legal}
use Rattle.quiesce_core.specs.Live.{AreLinked, IsGraphOf, IsLiveAt, IsLiveNode}
use Rattle.quiesce_core.specs.Rules.{is_apart, is_linked}
use Rattle.quiesce_core.specs.Runs.{Step}
use Rattle.quiesce_core.specs.State.{Configuration, State, gate, owner, ports_of, slot, target}
use Rattle.quiesce_core.specs.WellFormed.{IsSound, IsWellFormed}
use Rattle.base.proofs.RangeLaws.{all_in_range}
use Rattle.quiesce_core.proofs.AlterLaws.{reconfigured}
use Rattle.quiesce_core.proofs.ConfigurationLaws.{linked_made, live_made_then, live_removed_then, owner_kept, require_kept, slots_stay, target_kept, target_linked, target_unlinked}
use Rattle.base.proofs.OptionLaws.{map_or_true}
use Rattle.quiesce_core.proofs.LegalLaws.{legal}
use Rattle.quiesce_core.proofs.SoundnessLaws.{apart_from}
use Rattle.quiesce_core.proofs.TableLaws.{gate_place}

-- nodes and links that are the same have the same graph
module _ {N M : Node → Type 0} {L K : Node → ℕ → Node → ℕ → Type 0} (g : Graph) where
  pub graph_alike :
      ((x : Node) → N x ↔ M x) → ((from : Node) (r : ℕ) (to : Node) (y : ℕ) → L from r to y ↔ K from r to y) → IsGraphBy N L g → IsGraphBy M K g
  graph_alike nodes links h = record {
    paths_rise = h.paths_rise;
    nodes_are = λ x. (λ i. (nodes x).0 ((h.nodes_are x).0 i), λ w. (h.nodes_are x).1 ((nodes x).1 w));
    links_are = λ i r j y. (
      λ e. let w = (h.links_are i r j y).0 e in
          record { from = w.from; to = w.to; from_there = w.from_there; to_there = w.to_there; linked = (links w.from r w.to y).0 w.linked },
      λ w. (h.links_are i r j y).1 (record { from = w.from; to = w.to; from_there = w.from_there; to_there = w.to_there; linked = (links w.from r w.to y).1 w.linked }),
    );
    in_order = h.in_order;
  }

-- where the slots are the same, the same nodes are live
live_same : (c d : Configuration) → ((m : ℕ) → slot d m ≡ slot c m) → (n : ℕ) (x : Node) → IsLiveAt c n x ↔ IsLiveAt d n x
live_same c d same n x = (
  λ h. record { made = h.made; there = same n ∙ h.there; live = h.live; is_node = h.is_node },
  λ h. record { made = h.made; there = sym (same n) ∙ h.there; live = h.live; is_node = h.is_node },
)

module _ (c d : Configuration) (e : Event) (r : Reconfigures c e d) where
  -- a link stays where its port leads there still, and where its nodes are live still; and it was there
  link_there : (from : Node) (q : ℕ) (to : Node) (x : ℕ) (l : AreLinked c from q to x) → target d l.port ≡ target c l.port → IsLiveAt d (owner c l.port) from → IsLiveAt d l.slot_to to
      → AreLinked d from q to x
  link_there from q to x l same from_there to_there =
      let made = linked_made c l.port (record { node = l.slot_to; provide = x }) l.leads in
      record {
        port = l.port;
        slot_to = l.slot_to;
        leads = same ∙ l.leads;
        requirement = require_kept c d e r l.port made ∙ l.requirement;
        from_there = subst (λ n. IsLiveAt d n from) (sym (owner_kept c d e r l.port made)) from_there;
        to_there = to_there;
      }

  link_was : (from : Node) (q : ℕ) (to : Node) (x : ℕ) (l : AreLinked d from q to x) → target d l.port ≡ target c l.port
      → (IsLiveAt d (owner c l.port) from → IsLiveAt c (owner c l.port) from) → (IsLiveAt d l.slot_to to → IsLiveAt c l.slot_to to)
      → (k : AreLinked c from q to x) × (k.port ≡ l.port)
  link_was from q to x l same was_from was_to =
      let leads = sym same ∙ l.leads in
      let made = linked_made c l.port (record { node = l.slot_to; provide = x }) leads in (
        record {
          port = l.port;
          slot_to = l.slot_to;
          leads = leads;
          requirement = sym (require_kept c d e r l.port made) ∙ l.requirement;
          from_there = was_from (subst (λ n. IsLiveAt d n from) (owner_kept c d e r l.port made) l.from_there);
          to_there = was_to l.to_there;
        },
        refl,
      )

  -- so it is for each event that leaves who is live, at ports whose target it leaves
  links_stay : is_make e ≡ false → is_remove e ≡ false → ((p : ℕ) → relinks p e ≡ false) → (from : Node) (q : ℕ) (to : Node) (x : ℕ) → AreLinked d from q to x ↔ AreLinked c from q to x
  links_stay make remove kept from q to x =
      let same = live_same c d (slots_stay c d e r make remove) in (
        λ l. (link_was from q to x l (target_kept c d e r l.port (kept l.port)) (same (owner c l.port) from).1 (same l.slot_to to).1).0,
        λ l. link_there from q to x l (target_kept c d e r l.port (kept l.port)) ((same (owner c l.port) from).0 l.from_there) ((same l.slot_to to).0 l.to_there),
      )

  nodes_stay : is_make e ≡ false → is_remove e ≡ false → (x : Node) → IsLiveNode d x ↔ IsLiveNode c x
  nodes_stay make remove x =
      let same = live_same c d (slots_stay c d e r make remove) in (λ w. (w.0, (same w.0 x).1 w.1), λ w. (w.0, (same w.0 x).0 w.1))

-- who is live
pub nodes_next : (c d : Configuration) (e : Event) → Reconfigures c e d → (x : Node) → IsLiveNode d x ↔ IsNodeNext c e x
nodes_next c d (Make n node from) r x = (
  λ w. elim ((live_made_then c d n node from r w.0 x).0 w.1) [ inl old ↦ inl (w.0, old) | inr new_ ↦ inr new_.1 ],
  ⊎_elim (λ (w : IsLiveNode c x). (w.0, (live_made_then c d n node from r w.0 x).1 (inl w.1)))
      (λ (is : node ≡ x). (length c.slots, (live_made_then c d n node from r (length c.slots) x).1 (inr (refl, is)))),
)
nodes_next c d (Remove n) r x = (
  λ w. let h = (live_removed_then c d n r w.0 x).0 w.1 in (w.0, h.0, h.1),
  λ w. (w.0, (live_removed_then c d n r w.0 x).1 (w.1, w.2)),
)
nodes_next c d e r x = nodes_stay c d e r refl refl x

-- a port that is linked is of a node that was made, and leads to one
module _ (c : Configuration) (sound : IsSound c) (p : ℕ) (t : Target) (leads : target c p ≡ Some t) where
  owner_made : owner c p < length c.slots
  owner_made = let own = sound.ports p (linked_made c p t leads) in slice_get_within c.slots (owner c p) own.node own.made

  target_made : t.node < length c.slots
  target_made = let m = map_or_true (λ (m : Slot). m.live) (slot c t.node) (sound.targets p t leads).live in slice_get_within c.slots t.node m.0 m.1

-- a port of a node that is linked to none leads nowhere
unlinked_own : (c : Configuration) → IsSound c → (n : ℕ) → is_apart c n ≡ true → (p : ℕ) (t : Target) → target c p ≡ Some t → owner c p ≡ n → ⊥
unlinked_own c sound n apart p t leads own =
    let port = sound.ports p (linked_made c p t leads) in
    let all : list_all (λ q. is_none (target c q)) (ports_of c (owner c p)) ≡ true =
    ap (λ m. list_all (λ q. is_none (target c q)) (ports_of c m)) own ∙ (and_parts (list_all (λ q. is_none (target c q)) (ports_of c n)) _ apart).0 in
    let none_ : is_none (target c p) ≡ true =
    all_in_range (λ q. is_none (target c q)) port.node.first_port (length (row port.node.node.kind).requires_) p
    (sym (ap (λ o. list_all (λ q. is_none (target c q)) (option_map_or (λ (m : Slot). range_with_len m.first_port (length (row m.node.kind).requires_)) o [])) port.made) ∙ all) port.from port.below in
    both_ways false refl (sym (ap is_none leads) ∙ none_)

-- a port that was made and isn't linked is linked, whether or not that closes a cycle
pub links_linked : (c d : Configuration) (p n y : ℕ) → p < length c.gates → is_linked c p ≡ false → Reconfigures c (Link p n y) d → (from : Node) (q : ℕ) (to : Node) (x : ℕ)
    → AreLinked d from q to x ↔ AreLinkedNext c (Link p n y) from q to x
links_linked c d p n y made unlinked r from q to x =
    let same = live_same c d (slots_stay c d (Link p n y) r refl refl) in (
      λ l. ⊎_elim
          (λ (here : p ≡ l.port).
          let leads : Some (record { node = n; provide = y }) ≡ Some (record { node = l.slot_to; provide = x }) =
          sym (target_linked c d p n y r l.port ∙ rw (eq-eqb p l.port here) refl) ∙ l.leads in
          let there = same_Some (record { node = n; provide = y }) (record { node = l.slot_to; provide = x }) leads in
          inr (record {
            from_there = (same (owner c p) from).1 (subst (λ m. IsLiveAt d m from) (ap (owner d) (sym here) ∙ owner_kept c d (Link p n y) r p made) l.from_there);
            requirement = sym (ap (λ i. (gate d i).require) (sym here) ∙ require_kept c d (Link p n y) r p made) ∙ l.requirement;
            to_there = (same n to).1 (subst (λ (t : Target). IsLiveAt d t.node to) (sym there) l.to_there);
            provision = ap (λ (t : Target). t.provide) there;
          }))
          (λ (other : p ≡ l.port → ⊥).
          inl (link_was c d (Link p n y) r from q to x l (target_kept c d (Link p n y) r l.port (ne_eqb p l.port other)) (same (owner c l.port) from).1 (same l.slot_to to).1).0)
          (cases_eq p l.port),
      ⊎_elim
          (λ (l : AreLinked c from q to x).
          let other : p ≡ l.port → ⊥ = λ here. both_ways (is_linked c p) unlinked (ap is_some (ap (target c) here ∙ l.leads)) in
          link_there c d (Link p n y) r from q to x l (target_kept c d (Link p n y) r l.port (ne_eqb p l.port other)) ((same (owner c l.port) from).0 l.from_there) ((same l.slot_to to).0 l.to_there))
          (λ (m : AreEnds c p n y from q to x). record {
            port = p;
            slot_to = n;
            leads = target_linked c d p n y r p ∙ rw (eq-eqb p p refl) (ap (λ i. Some (record { node = n; provide = i })) m.provision);
            requirement = require_kept c d (Link p n y) r p made ∙ m.requirement;
            from_there = subst (λ i. IsLiveAt d i from) (sym (owner_kept c d (Link p n y) r p made)) ((same (owner c p) from).0 m.from_there);
            to_there = (same n to).0 m.to_there;
          }),
    )

links_next : (s : State) (d : Configuration) (e : Event) → IsSound s.config → Legal s e → Reconfigures s.config e d → (from : Node) (q : ℕ) (to : Node) (x : ℕ)
    → AreLinked d from q to x ↔ AreLinkedNext s.config e from q to x
links_next s d (Make n node source) sound may r from q to x =
    let c = s.config in (
      λ l.
          let same = target_kept c d (Make n node source) r l.port refl in
          let leads = sym same ∙ l.leads in
          let t : Target = record { node = l.slot_to; provide = x } in
          (link_was c d (Make n node source) r from q to x l same
          (λ h. elim ((live_made_then c d n node source r (owner c l.port) from).0 h) [ inl old ↦ old | inr new_ ↦ absurd (omega (arith, owner_made c sound l.port t leads, new_.0)) ])
          (λ h. elim ((live_made_then c d n node source r l.slot_to to).0 h) [ inl old ↦ old | inr new_ ↦ absurd (omega (arith, target_made c sound l.port t leads, new_.0)) ])).0,
      λ l. link_there c d (Make n node source) r from q to x l (target_kept c d (Make n node source) r l.port refl)
          ((live_made_then c d n node source r (owner c l.port) from).1 (inl l.from_there))
          ((live_made_then c d n node source r l.slot_to to).1 (inl l.to_there)),
    )
links_next s d (Remove n) sound may r from q to x =
    let c = s.config in (
      λ l. (link_was c d (Remove n) r from q to x l (target_kept c d (Remove n) r l.port refl)
          (λ h. ((live_removed_then c d n r (owner c l.port) from).0 h).0) (λ h. ((live_removed_then c d n r l.slot_to to).0 h).0)).0,
      λ l.
          let t : Target = record { node = l.slot_to; provide = x } in
          link_there c d (Remove n) r from q to x l (target_kept c d (Remove n) r l.port refl)
          ((live_removed_then c d n r (owner c l.port) from).1 (l.from_there, unlinked_own c sound n may.apart l.port t l.leads))
          ((live_removed_then c d n r l.slot_to to).1 (l.to_there, apart_from s n may.apart l.port t l.leads)),
    )
links_next s d (Unlink p) sound may r from q to x =
    let c = s.config in
    let same = live_same c d (slots_stay c d (Unlink p) r refl refl) in (
      λ l.
          let other : p ≡ l.port → ⊥ = λ here. none-some (record { node = l.slot_to; provide = x }) (sym (target_unlinked c d p r l.port ∙ rw (eq-eqb p l.port here) refl) ∙ l.leads) in
          let w = link_was c d (Unlink p) r from q to x l (target_kept c d (Unlink p) r l.port (ne_eqb p l.port other)) (same (owner c l.port) from).1 (same l.slot_to to).1 in
          (w.0, λ here. other (sym here ∙ w.1)),
      λ w.
          link_there c d (Unlink p) r from q to x w.0 (target_kept c d (Unlink p) r w.0.port (ne_eqb p w.0.port (λ here. w.1 (sym here))))
          ((same (owner c w.0.port) from).0 w.0.from_there) ((same w.0.slot_to to).0 w.0.to_there),
    )
links_next s d (Link p n y) sound may r from q to x =
    links_linked s.config d p n y (gate_place s p may.live) (not-true (is_linked s.config p) may.unlinked) r from q to x
links_next s d e sound may r from q to x = links_stay s.config d e r refl refl (λ p. refl) from q to x

-- the graph
pub graphs_next : (s t : State) (e : Event) → IsWellFormed s → Step s e t → (g : Graph) → IsGraphOf t.config g ↔ IsGraphBy (IsNodeNext s.config e) (AreLinkedNext s.config e) g
graphs_next s t e w step g =
    let may = legal s e step.allowed in
    let r : Reconfigures s.config e t.config = subst (λ (u : State). Reconfigures s.config e u.config) (sym step.changed) (reconfigured s e may) in
    let nodes = nodes_next s.config t.config e r in
    let links = links_next s t.config e w.sound may r in
    (graph_alike g nodes links, graph_alike g (λ x. ((nodes x).1, (nodes x).0)) (λ from q to x. ((links from q to x).1, (links from q to x).0)))
