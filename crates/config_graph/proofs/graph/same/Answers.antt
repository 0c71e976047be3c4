use Rattle.std.proofs.Common.{◌∙◌, ap, sym}
use Rattle.std.proofs.lemmas.Bool.{true≢false}
use Rattle.config_graph.proofs.SameLaws.{links_decide, nodes_decide}
use Rattle.config_graph.proofs.graph.same.Goals as goal

pub returns-then-eq : goal.returns-then-eq
returns-then-eq c =
    let nodes = sym c.nodes.ensures.nodes ∙ (nodes_decide c.nodes.result.now c.nodes-2.result.now).0 (sym c.eq.ensures ∙ c.if-eq.true) ∙ c.nodes-2.ensures.nodes in
    let links = links_decide c.links.result.now c.links-then-eq.result.now in (
      λ t.
          let same = sym c.links.ensures ∙ links.0 (sym c.eq-then-eq.ensures ∙ t) ∙ c.links-then-eq.ensures in
          λ i. record { nodes = nodes i; links = same i },
      λ e. c.eq-then-eq.ensures ∙ links.1 (c.links.ensures ∙ ap (λ g. g.links) e ∙ sym c.links-then-eq.ensures),
    )

pub returns-else-eq : goal.returns-else-eq
returns-else-eq c =
    let nodes = nodes_decide c.nodes.result.now c.nodes-2.result.now in (
      λ t. absurd (true≢false (sym t ∙ c.if-eq.false)),
      λ e. c.eq.ensures ∙ nodes.1 (c.nodes.ensures.nodes ∙ ap (λ g. g.nodes) e ∙ sym c.nodes-2.ensures.nodes),
    )
