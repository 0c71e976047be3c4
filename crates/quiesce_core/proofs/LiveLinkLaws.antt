-- Links between live nodes, told by the places of the nodes in a list.
use Rattle.std.proofs.Common.{◌≡◌, ◌∙◌, ℕ, List, Some, refl, ap, sym}
use Rattle.std.specs.Prelude.{◌↔◌, slice_get}
use Rattle.config_graph.specs.GraphBy.{AreLinkedAt}
use Rattle.config_graph.specs.declared.node.Node.{Node}
use Rattle.quiesce_core.specs.State.{Configuration, gate, owner, target}
use Rattle.quiesce_core.specs.Live.{AreLinked, IsLiveAt, StandsAt}

-- a port is linked: it is this requirement of the live node at place i, and leads to this provision of the live node at place j
pub record IsLiveLink (c : Configuration) (nodes : List Node) (i require j provide : ℕ) : Type 0 where
  pub port : ℕ
  pub to : ℕ
  pub leads : target c port ≡ Some (record { node = to; provide = provide })
  pub requirement : (gate c port).require ≡ require
  pub from_there : StandsAt c nodes (owner c port) i
  pub to_there : StandsAt c nodes to j

stands : (c : Configuration) (nodes : List Node) (n i : ℕ) (node : Node) → slice_get nodes i ≡ Some node → IsLiveAt c n node → StandsAt c nodes n i
stands c nodes n i node at h = record { made = h.made; there = h.there; live = h.live; stands = at ∙ ap Some (sym h.is_node) }

pub linked_at : (c : Configuration) (nodes : List Node) (i r j x : ℕ) → IsLiveLink c nodes i r j x ↔ AreLinkedAt (AreLinked c) nodes i r j x
linked_at c nodes i r j x = (
  λ l. record {
    from = l.from_there.made.node;
    to = l.to_there.made.node;
    from_there = l.from_there.stands;
    to_there = l.to_there.stands;
    linked = record {
      port = l.port;
      slot_to = l.to;
      leads = l.leads;
      requirement = l.requirement;
      from_there = record { made = l.from_there.made; there = l.from_there.there; live = l.from_there.live; is_node = refl };
      to_there = record { made = l.to_there.made; there = l.to_there.there; live = l.to_there.live; is_node = refl };
    };
  },
  λ l.
      let k = l.linked in record {
        port = k.port;
        to = k.slot_to;
        leads = k.leads;
        requirement = k.requirement;
        from_there = stands c nodes (owner c k.port) i l.from l.from_there k.from_there;
        to_there = stands c nodes k.slot_to j l.to l.to_there k.to_there;
      },
)
