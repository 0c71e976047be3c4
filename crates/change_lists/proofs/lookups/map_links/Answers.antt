use Rattle.std.proofs.Common.{◌≡◌, ◌-◌, ◌==◌, ◌&&◌, ◌∙◌, ap, arith, drop, length}
use Rattle.std.specs.Prelude.{find}
use Rattle.config_graph.specs.declared.node.Link.{Link}
use Rattle.change_lists.proofs.LookupLemmas.{links_before}
use Rattle.change_lists.proofs.lookups.map_links.Goals as goal

pub loop-behind-preserved : goal.loop-behind-preserved
loop-behind-preserved c = λ i r.
    let d : Link = record { from = 0; require = 0; to = 0; provide = 0 } in
    links_before c.args.links.now c.loop-behind.behind i r d _ _ c.loop-behind-test.true (c.loop-behind.invariant i r) (c.in_ok-insert.ensures.updates.0 (i, r))

pub returns : goal.returns
returns c = λ i r.
    let links = c.args.links.now in
    let none_left : length links - c.loop-behind.behind ≡ 0 = omega arith in
    c.loop-behind.invariant i r ∙ ap (λ n. find (λ (x : Link). (i == x.from) && (r == x.require)) (drop n links)) none_left
