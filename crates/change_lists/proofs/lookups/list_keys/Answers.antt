use Rattle.std.proofs.Common.{◌==◌, ◌&&◌, ◌∙◌, ap}
use Rattle.std.specs.List.{list_any}
use Rattle.std.proofs.lemmas.List.{take_all}
use Rattle.config_graph.specs.declared.node.Port.{Port}
use Rattle.change_lists.proofs.LookupLemmas.{ports_more}
use Rattle.change_lists.proofs.lookups.list_keys.Goals as goal

pub loop-port-preserved : goal.loop-port-preserved
loop-port-preserved c = λ i r.
    let d : Port = record { node = 0; require = 0 } in
    ports_more c.args.ports.now c.loop-port.port-index i r d _ _ c.loop-port-test.true (c.loop-port.invariant i r) (c.in_ok-insert.ensures.updates.0 (i, r))

pub returns : goal.returns
returns c = λ i r. c.loop-port.invariant i r ∙ ap (list_any (λ (q : Port). (i == q.node) && (r == q.require))) (take_all c.loop-port.port-index c.args.ports.now c.loop-port-test.false)
