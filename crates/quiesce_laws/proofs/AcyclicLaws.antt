-- A configuration whose links are links of a graph without cycles has none either.
use Rattle.std.proofs.Common.{◌≡◌, ◌∙◌, ℕ, true, false, List, Some, refl, sym, ap, subst}
use Rattle.std.specs.Prelude.{slice_get}
use Rattle.std.proofs.lemmas.Option.{same_Some}
use Rattle.config_graph.specs.Cycles.{graph_wiring}
use Rattle.config_graph.specs.Wiring.{HasNoCycle}
use Rattle.config_graph.specs.Graph.{Graph, PathsRise}
use Rattle.config_graph.specs.Kinds.{depends_on}
use Rattle.config_graph.specs.declared.node.Node.{Node}
use Rattle.config_graph.specs.declared.node.Port.{Port}
use Rattle.config_graph.proofs.PathLaws as paths
use Rattle.config_graph.proofs.WiringLaws.{Simulates, no_cycle_there}
use Rattle.quiesce_core.specs.declared.state.Slot.{Slot}
use Rattle.quiesce_core.specs.Live.{StandsAt}
use Rattle.quiesce_core.specs.Reach.{IsPortOf, has_no_cycle, wiring_of}
use Rattle.quiesce_core.specs.State.{Configuration, gate, owner, slot}
use Rattle.quiesce_core.proofs.CycleLaws.{no_cycle_if_acyclic}
use Rattle.base.proofs.OptionLaws.{map_or_at}
use Rattle.quiesce_laws.specs.Fitting.{LinksFit}

-- a slot stands at one place of the graph
pub one_place : (d : Configuration) (nodes : List Node) → PathsRise nodes → (n i j : ℕ) → StandsAt d nodes n i → StandsAt d nodes n j → i ≡ j
one_place d nodes rise n i j a b =
    let same : a.made ≡ b.made = same_Some a.made b.made (sym a.there ∙ b.there) in
    paths.one_place nodes rise i j a.made.node a.stands (b.stands ∙ ap (λ (m : Slot). Some m.node) (sym same))

module _ (d : Configuration) (g : Graph) (rise : PathsRise g.nodes) (acyclic : HasNoCycle (graph_wiring g))
    (owned : (n p : ℕ) → IsPortOf d n p → owner d p ≡ n) (fit : LinksFit d g) where
  -- a port stands for a requirement of its owner's node
  record Lies (p : ℕ) (q : Port) : Type 0 where
    stands : StandsAt d g.nodes (owner d p) q.node
    requirement : (gate d p).require ≡ q.require

  simulates : Simulates (wiring_of d) (graph_wiring g) (StandsAt d g.nodes) Lies
  simulates = record {
    one_node = one_place d g.nodes rise;
    linked = λ p n x e.
        let f = fit p (record { node = n; provide = x }) e in (
          record { node = f.i; require = f.r },
          f.j,
          record { stands = f.stands.from_there; requirement = f.stands.requirement },
          f.stands.to_there,
          subst (λ y. (graph_wiring g).Linked (record { node = f.i; require = f.r }) f.j y) (sym f.stands.provision) f.linked,
        );
    depends = λ n x p q dep at.
        let here : StandsAt d g.nodes n q.node = subst (λ k. StandsAt d g.nodes k q.node) (owned n p dep.0) at.stands in (
          q.node,
          here,
          (
            refl,
            map_or_at (λ (u : Node). depends_on u.kind x q.require) (slice_get g.nodes q.node) false here.made.node here.stands
                ∙ ap (depends_on here.made.node.kind x) (sym at.requirement)
                ∙ sym (map_or_at (λ (u : Slot). depends_on u.node.kind x (gate d p).require) (slot d n) false here.made here.there)
                ∙ dep.1,
          ),
        );
  }

  pub no_cycle : has_no_cycle d ≡ true
  no_cycle = no_cycle_if_acyclic d (no_cycle_there (wiring_of d) (graph_wiring g) (StandsAt d g.nodes) Lies simulates acyclic)
