use Rattle.std.proofs.Common.{◌∙◌, sym}
use Rattle.step_board.specs.declared.held.Held.TheVariants as held
use Rattle.step_board.proofs.HostLemmas.{node_below}
use Rattle.step_board.proofs.NodeTableLemmas.{at_slot}
use Rattle.step_board.proofs.table.NodeTable.take_out.Goals as goal

pub returns-clause-room : goal.returns-clause-room
returns-clause-room c =
    let at = at_slot c.args.self.now.nodes.items c.args.slot c.index_mut.result.now (held.Node c.in-Node-replace.node) (node_below c.args.self.now.nodes.items c.args.slot c.requires.node) c.index_mut.ensures.value (sym c.replace.ensures.value ∙ c.in-Node-replace.is) in
    c.args.self.now.past_room c.args.slot (held.Node c.in-Node-replace.node) c.requires.source at
