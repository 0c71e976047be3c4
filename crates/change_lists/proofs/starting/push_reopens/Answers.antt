use Rattle.std.proofs.Common.{◌<◌, ◌++◌, length, map, Some, refl, ap, ◌∙◌, arith}
use Rattle.std.specs.List.{enumerate_from}
use Rattle.std.proofs.lemmas.List.{take_all}
use Rattle.std.proofs.lemmas.List.FromFn.{length-enumerate_from}
use Rattle.base.proofs.PlaceLaws.{slice_get-there, get_numbered}
use Rattle.config_graph.specs.Graph.{ports}
use Rattle.quiesce_core.specs.declared.event.Event.TheVariants.{Reopen}
use Rattle.quiesce_laws.specs.Starts.{reopen_of}
use Rattle.change_lists.proofs.ListingLaws.{mapped_on}
use Rattle.change_lists.proofs.starting.push_reopens.Goals as goal

pub loop-port-preserved : goal.loop-port-preserved
loop-port-preserved c =
    let made = ports c.args.graph.now.nodes in
    let i = c.loop-port.port in
    let within : i < length made = omega (arith, c.loop-port-test.true, c.port_count-port-end.ensures) in
    let x = slice_get-there made i within in
    mapped_on reopen_of (enumerate_from 0 made) i (i, x.0) c.args.events.now.items c.loop-port.events.items c.push.new.self.items (Reopen i)
    (get_numbered 0 made i x.0 x.1 ∙ ap (λ k. Some (k, x.0)) (omega arith)) c.loop-port.invariant refl c.in_ok-push.ensures.items

pub returns : goal.returns
returns c =
    let made = ports c.args.graph.now.nodes in
    c.loop-port.invariant ∙ ap (λ xs. c.args.events.now.items ++ map reopen_of xs)
    (take_all c.loop-port.port (enumerate_from 0 made) (omega (arith, length-enumerate_from 0 made, c.loop-port-test, c.loop-port.auto, c.port_count-port-end.ensures)))
