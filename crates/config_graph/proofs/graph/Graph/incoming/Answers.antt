use Rattle.std.proofs.Common.{◌≡◌, ◌<◌, ◌∙◌, ap, sym, slice_get}
use Rattle.std.proofs.Math.ListN.{get_or-map}
use Rattle.config_graph.specs.Graph.{IsGraph, provides_at, incoming_ports}
use Rattle.config_graph.specs.Indexes.{graph_in}
use Rattle.config_graph.specs.Numbering.{provisions}
use Rattle.config_graph.proofs.IncomingLaws.{incoming-linked, incoming-rising, incoming-within}
use Rattle.config_graph.proofs.LinkLaws.{get-provisions}
use Rattle.config_graph.proofs.graph.Graph.incoming.Goals as goal
use Rattle.base.proofs.MapLaws.{table_read}
use Rattle.config_graph.proofs.graph.Graph.incoming.Goals.{After-as_slice}

lists : (c : After-as_slice) → c.as_slice.result.now ≡ incoming_ports c.args.self.now c.args.node c.args.provide
lists c =
    let g = graph_in c.self.inside in
    let i = c.args.node in
    let x = c.args.provide in
    let q = c.provision_number.result in
    let there : x < provides_at g.nodes i = rw (← c.self.view_is) at c.requires in
    let at = ap (slice_get (provisions g.nodes)) c.provision_number.ensures.number ∙ get-provisions g.nodes i x there in
    let lists = c.self.inside.incoming.items in
    let read = ap (λ v. v.items) c.index.ensures ∙ sym (get_or-map (λ v. v.items) lists q c.index.result.now) in
    rw (← c.self.view_is) (c.as_slice.ensures.value ∙ table_read (λ t. incoming_ports g t.node t.provide) (provisions g.nodes) _ q _ _ c.self.invariant.incoming_are at read)

is_graph : (c : After-as_slice) → IsGraph c.args.self.now
is_graph c = rw (← c.self.view_is) c.self.invariant.graph

pub returns-clause-ports : goal.returns-clause-ports
returns-clause-ports c = lists c

pub returns-clause-rising : goal.returns-clause-rising
returns-clause-rising c = rw (lists c) (incoming-rising c.args.self.now (is_graph c) c.args.node c.args.provide)

pub returns-clause-within : goal.returns-clause-within
returns-clause-within c = rw (lists c) (incoming-within c.args.self.now (is_graph c) c.args.node c.args.provide)

pub returns-clause-linked : goal.returns-clause-linked
returns-clause-linked c = rw (lists c) (incoming-linked c.args.self.now (is_graph c) c.args.node c.args.provide)
