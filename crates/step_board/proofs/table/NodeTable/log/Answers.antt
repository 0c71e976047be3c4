use Rattle.std.proofs.Common.{◌∙◌, None, refl}
use Rattle.step_board.specs.Entries.{gone}
use Rattle.step_board.specs.declared.held.Held.TheVariants as held
use Rattle.step_board.proofs.ReadLemmas.{has_log, log_done, log_found}
use Rattle.step_board.proofs.NodeTableLemmas.{at_slot, within_made}
use Rattle.step_board.proofs.table.NodeTable.log.Goals as goal

pub past_log-requires : goal.past_log-requires
past_log-requires c = record {
  there =
      has_log _ _ c.args.self.now.nodes.items _ _ c.args.slot (held.Handed c.in-Handed.handed)
      (at_slot c.args.self.now.nodes.items c.args.slot c.index.result.now (held.Handed c.in-Handed.handed) (within_made _ _ _ _ _ c.args.slot c.requires.made c.requires.some) c.index.ensures c.in-Handed.is) c.in-Handed.handed refl
      c.requires.some;
}

pub returns-in-Node-clause-log : goal.returns-in-Node-clause-log
returns-in-Node-clause-log c = λ w h.
    c.deref.ensures.value
    ∙ log_done _ _ c.args.self.now.nodes.items _ _ c.args.slot (held.Node c.in-Node.node) _
    (at_slot c.args.self.now.nodes.items c.args.slot c.index.result.now (held.Node c.in-Node.node) (within_made _ _ _ _ _ c.args.slot c.requires.made c.requires.some) c.index.ensures c.in-Node.is) refl w h

pub returns-in-Node-clause-by_slot : goal.returns-in-Node-clause-by_slot
returns-in-Node-clause-by_slot c =
    c.deref.ensures.value
    ∙ log_found _ (c.args.self.now.gate.core.state) c.args.self.now.nodes.items _ (λ n. None) c.args.slot (held.Node c.in-Node.node) _
    (at_slot c.args.self.now.nodes.items c.args.slot c.index.result.now (held.Node c.in-Node.node) (within_made _ _ _ _ _ c.args.slot c.requires.made c.requires.some) c.index.ensures c.in-Node.is) refl

pub returns-in-Handed-clause-log : goal.returns-in-Handed-clause-log
returns-in-Handed-clause-log c = λ w h.
    c.past_log.ensures
    ∙ log_done _ _ c.args.self.now.nodes.items _ _ c.args.slot (held.Handed c.in-Handed.handed) (gone c.in-Handed.handed)
    (at_slot c.args.self.now.nodes.items c.args.slot c.index.result.now (held.Handed c.in-Handed.handed) (within_made _ _ _ _ _ c.args.slot c.requires.made c.requires.some) c.index.ensures c.in-Handed.is) refl w h

pub returns-in-Handed-clause-by_slot : goal.returns-in-Handed-clause-by_slot
returns-in-Handed-clause-by_slot c =
    c.past_log.ensures
    ∙ log_found _ (c.args.self.now.gate.core.state) c.args.self.now.nodes.items _ (λ n. None) c.args.slot (held.Handed c.in-Handed.handed) (gone c.in-Handed.handed)
    (at_slot c.args.self.now.nodes.items c.args.slot c.index.result.now (held.Handed c.in-Handed.handed) (within_made _ _ _ _ _ c.args.slot c.requires.made c.requires.some) c.index.ensures c.in-Handed.is) refl
