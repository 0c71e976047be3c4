-- Ports that are closed or reopened, one after the other: nothing changes but their gates, and no graph.
use Rattle.std.proofs.Common.{◌≡◌, ℕ, ◌<◌, Bool, List, [], ◌∷◌, length, length-set, refl, sym, ap, ◌∙◌, subst, inl, inr, ⊎_elim, arith, true, lt-ltb, false, ◌++◌}
use Rattle.std.specs.Prelude.{◌⊎◌, nat_lt}
use Rattle.std.proofs.lemmas.Bool.{and_from, and_parts, cases_eq, ltb-true, both_ways}
use Rattle.std.specs.List.{list_any}
use Rattle.config_graph.specs.Graph.{Graph}
use Rattle.config_graph.specs.declared.node.Node.{Node}
use Rattle.quiesce_core.specs.declared.state.Gate.{Gate}
use Rattle.quiesce_core.specs.declared.state.Slot.{Slot}
use Rattle.quiesce_core.specs.Effect.{with_closed, with_gate, effect}
use Rattle.quiesce_core.specs.Live.{AreLinked, IsGraphOf, IsLiveAt}
use Rattle.quiesce_core.specs.State.{Configuration, gate, is_live, owner, slot, target, State}
use Rattle.quiesce_core.proofs.SoundnessLaws.{put_elsewhere, put_here, put_owner, put_require}
use Rattle.quiesce_laws.specs.Lists.{In}
use Rattle.quiesce_laws.specs.Steps.{is_shaping}
use Rattle.quiesce_core.specs.Rules.{is_live_port}
use Rattle.quiesce_core.specs.declared.event.Event.TheVariants as event
use Rattle.quiesce_core.specs.declared.event.Event.{Event}
use Rattle.quiesce_core.specs.Legal.{Legal}
use Rattle.quiesce_core.specs.Runs.{IsRun, state_after}
use Rattle.quiesce_core.proofs.InductionLaws.{along}
use Rattle.quiesce_core.proofs.TableLaws.{gate_place}
use Rattle.quiesce_core.specs.Doers.{is_of_change}

-- two configurations that differ in gates' flags at most
pub record SameLinks (c d : Configuration) : Type 0 where
  pub slots : d.slots ≡ c.slots
  pub long : length d.gates ≡ length c.gates
  pub owners : (q : ℕ) → owner d q ≡ owner c q
  pub requirements : (q : ℕ) → (gate d q).require ≡ (gate c q).require
  pub targets : (q : ℕ) → target d q ≡ target c q

pub same_turned : (c d : Configuration) (p : ℕ) (flag : Bool) → p < length d.gates → SameLinks c d → SameLinks c (with_closed d p flag)
same_turned c d p flag made h =
    let g : Gate = record (gate d p) { closed = flag } in
    record {
      slots = h.slots;
      long = length-set d.gates p g ∙ h.long;
      owners = λ q. put_owner d p g made refl refl q ∙ h.owners q;
      requirements = λ q. put_require d p g made refl refl q ∙ h.requirements q;
      targets = λ q. ⊎_elim
          (λ (same : q ≡ p). ap (target (with_gate d p g)) same ∙ ap (λ (x : Gate). x.target) (put_here d p g made refl refl) ∙ sym (ap (target d) same))
          (λ (other : q ≡ p → ⊥). ap (λ (x : Gate). x.target) (put_elsewhere d p g made refl refl q other))
          (cases_eq q p) ∙ h.targets q;
    }

pub same_back : (c d : Configuration) → SameLinks c d → SameLinks d c
same_back c d h = record {
  slots = sym h.slots;
  long = sym h.long;
  owners = λ q. sym (h.owners q);
  requirements = λ q. sym (h.requirements q);
  targets = λ q. sym (h.targets q);
}

pub same_then : (c d e : Configuration) → SameLinks c d → SameLinks d e → SameLinks c e
same_then c d e h k = record {
  slots = k.slots ∙ h.slots;
  long = k.long ∙ h.long;
  owners = λ q. k.owners q ∙ h.owners q;
  requirements = λ q. k.requirements q ∙ h.requirements q;
  targets = λ q. k.targets q ∙ h.targets q;
}

pub live_still : (c d : Configuration) → SameLinks c d → (n : ℕ) → is_live d n ≡ is_live c n
live_still c d h n = ap (λ (s : List Slot). is_live (record { slots = s; gates = [] }) n) h.slots

live_there : (c d : Configuration) → SameLinks c d → (n : ℕ) (node : Node) → IsLiveAt c n node → IsLiveAt d n node
live_there c d h n node l = record {
  made = l.made;
  there = ap (λ (s : List Slot). slot (record { slots = s; gates = [] }) n) h.slots ∙ l.there;
  live = l.live;
  is_node = l.is_node;
}

linked_there : (c d : Configuration) → SameLinks c d → (from : Node) (r : ℕ) (to : Node) (x : ℕ) → AreLinked c from r to x → AreLinked d from r to x
linked_there c d h from r to x l = record {
  port = l.port;
  slot_to = l.slot_to;
  leads = h.targets l.port ∙ l.leads;
  requirement = h.requirements l.port ∙ l.requirement;
  from_there = subst (λ n. IsLiveAt d n from) (sym (h.owners l.port)) (live_there c d h (owner c l.port) from l.from_there);
  to_there = live_there c d h l.slot_to to l.to_there;
}

-- they have one graph
pub same_graph : (c d : Configuration) (g : Graph) → SameLinks c d → IsGraphOf c g → IsGraphOf d g
same_graph c d g same h =
    let back = same_back c d same in
    record {
      paths_rise = h.paths_rise;
      nodes_are = λ node. (
        (λ i. let w = (h.nodes_are node).0 i in (w.0, live_there c d same w.0 node w.1)),
        λ w. (h.nodes_are node).1 (w.0, live_there d c back w.0 node w.1),
      );
      links_are = λ i r j x. (
        (λ e. let w = (h.links_are i r j x).0 e in
            record { from = w.from; to = w.to; from_there = w.from_there; to_there = w.to_there; linked = linked_there c d same w.from r w.to x w.linked }),
        λ w. (h.links_are i r j x).1 (record { from = w.from; to = w.to; from_there = w.from_there; to_there = w.to_there; linked = linked_there d c back w.from r w.to x w.linked }),
      );
      in_order = h.in_order;
    }

-- a port that was made, of a live node
pub record IsLivePort (d : Configuration) (p : ℕ) : Type 0 where
  pub made : p < length d.gates
  pub live : is_live d (owner d p) ≡ true

pub live_port : (d : Configuration) (p : ℕ) → is_live_port d p ≡ true → IsLivePort d p
live_port d p h = let parts = and_parts (nat_lt p (length d.gates)) (is_live d (owner d p)) h in record { made = ltb-true p (length d.gates) parts.0; live = parts.1 }

-- d is c with some of these ports turned, that is, closed or reopened, and some left
pub record Turning (c : Configuration) (flag : Bool) (all : List ℕ) (d : Configuration) (left : List ℕ) : Type 0 where
  pub same : SameLinks c d
  pub listed : (p : ℕ) → In left p → In all p
  pub live : (p : ℕ) → In left p → IsLivePort d p
  pub turned : (q : ℕ) → In all q → In left q ⊎ ((gate d q).closed ≡ flag)
  pub others : (q : ℕ) → (In all q → ⊥) → (gate d q).closed ≡ (gate c q).closed

pub turn_may : (c : Configuration) (flag : Bool) (all : List ℕ) (d : Configuration) (p : ℕ) (left : List ℕ) → Turning c flag all d (p ∷ left) → is_live_port d p ≡ true
turn_may c flag all d p left h =
    let port = h.live p (inl refl) in
    and_from (nat_lt p (length d.gates)) (is_live d (owner d p)) (lt-ltb p (length d.gates) port.made) port.live

pub turn_next : (c : Configuration) (flag : Bool) (all : List ℕ) (d : Configuration) (p : ℕ) (left : List ℕ) → Turning c flag all d (p ∷ left) → Turning c flag all (with_closed d p flag) left
turn_next c flag all d p left h =
    let g : Gate = record (gate d p) { closed = flag } in
    let made = (h.live p (inl refl)).made in
    let here : (gate (with_gate d p g) p).closed ≡ flag = ap (λ (x : Gate). x.closed) (put_here d p g made refl refl) in
    record {
      same = same_turned c d p flag made h.same;
      listed = λ q i. h.listed q (inr i);
      live = λ q i.
          let port = h.live q (inr i) in
          record { made = let low = port.made in omega (arith, length-set d.gates p g); live = ap (is_live d) (put_owner d p g made refl refl q) ∙ port.live };
      turned = λ q i. ⊎_elim
          (λ (same : q ≡ p). inr (ap (λ k. (gate (with_gate d p g) k).closed) same ∙ here))
          (λ (other : q ≡ p → ⊥). ⊎_elim
          (λ (j : In (p ∷ left) q). ⊎_elim (λ (same : p ≡ q). absurd (other (sym same))) (λ (k : In left q). inl k) j)
          (λ (e : (gate d q).closed ≡ flag). inr (ap (λ (x : Gate). x.closed) (put_elsewhere d p g made refl refl q other) ∙ e))
          (h.turned q i))
          (cases_eq q p);
      others = λ q out. ap (λ (x : Gate). x.closed) (put_elsewhere d p g made refl refl q (λ same. out (subst (In all) (sym same) (h.listed p (inl refl))))) ∙ h.others q out;
    }

pub turn_start : (c : Configuration) (flag : Bool) (all : List ℕ) → ((p : ℕ) → In all p → IsLivePort c p) → Turning c flag all c all
turn_start c flag all live = record {
  same = record { slots = refl; long = refl; owners = λ q. refl; requirements = λ q. refl; targets = λ q. refl };
  listed = λ p i. i;
  live = live;
  turned = λ q i. inl i;
  others = λ q out. refl;
}

-- while nothing shapes the configuration its nodes and links stay

pub links_next : (c : Configuration) (s : State) (e : Event) → Legal s e → is_shaping e ≡ false → SameLinks c s.config → SameLinks c (effect s e).config
links_next c s (event.Begin p k v) l h same = same
links_next c s (event.Call p k v) l h same = same
links_next c s (event.Miss p) l h same = same
links_next c s (event.Take p k v) l h same = same
links_next c s (event.Give p k v) l h same = same
links_next c s (event.More p k v) l h same = same
links_next c s (event.Ask p k v) l h same = same
links_next c s (event.Hear p k v) l h same = same
links_next c s (event.End p k v) l h same = same
links_next c s (event.Close p) l h same = same_turned c s.config p true (gate_place s p l.live) same
links_next c s (event.Reopen p) l h same = same_turned c s.config p false (gate_place s p l.live) same
links_next c s (event.Make n node from) l h same = absurd (both_ways true h refl)
links_next c s (event.Link p n x) l h same = absurd (both_ways true h refl)
links_next c s (event.Unlink p) l h same = absurd (both_ways true h refl)
links_next c s (event.Remove n) l h same = absurd (both_ways true h refl)

pub links_stay : (es more_ : List Event) → IsRun (es ++ more_) → list_any is_shaping more_ ≡ false → SameLinks (state_after es).config (state_after (es ++ more_)).config
links_stay es more_ run h =
    along (λ xs. SameLinks (state_after es).config (state_after xs).config) is_shaping
    (λ before e here free same. subst (λ (s : State). SameLinks (state_after es).config s.config) (sym here.next) (links_next (state_after es).config (state_after before) e here.legal free same))
    es more_ run h (record { slots = refl; long = refl; owners = λ q. refl; requirements = λ q. refl; targets = λ q. refl })

pub no_node_shapes : (e : Event) → is_of_change e ≡ false → is_shaping e ≡ false
no_node_shapes (event.Close p) h = refl
no_node_shapes (event.Reopen p) h = refl
no_node_shapes (event.Make n node from) h = absurd (both_ways true h refl)
no_node_shapes (event.Link p n x) h = absurd (both_ways true h refl)
no_node_shapes (event.Unlink p) h = absurd (both_ways true h refl)
no_node_shapes (event.Remove n) h = absurd (both_ways true h refl)
no_node_shapes _ h = refl
