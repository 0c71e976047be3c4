use Rattle.std.proofs.Common.{refl, sym}
use Rattle.std.proofs.lemmas.Option.{none-some}
use Rattle.step_board.specs.declared.held.Held.TheVariants as held
use Rattle.step_board.proofs.ReadLemmas.{not_taken_over, state_shown, taken_over}
use Rattle.step_board.proofs.NodeTableLemmas.{at_slot, within_made}
use Rattle.step_board.proofs.table.NodeTable.component.Goals as goal

pub returns-in-Node-clause-state : goal.returns-in-Node-clause-state
returns-in-Node-clause-state c =
    state_shown _ _ c.args.self.now.nodes.items _ _ c.args.slot (held.Node c.in-Node.node)
    (at_slot c.args.self.now.nodes.items c.args.slot c.index.result.now (held.Node c.in-Node.node) (within_made _ _ _ _ _ c.args.slot c.requires.made c.requires.some) c.index.ensures c.in-Node.is) _ refl

pub returns-in-Node-clause-handed : goal.returns-in-Node-clause-handed
returns-in-Node-clause-handed c = (
  λ none_. absurd (none-some _ (sym none_)),
  λ taken. absurd
      (not_taken_over _ _ c.args.self.now.nodes.items _ _ c.args.slot (held.Node c.in-Node.node)
      (at_slot c.args.self.now.nodes.items c.args.slot c.index.result.now (held.Node c.in-Node.node) (within_made _ _ _ _ _ c.args.slot c.requires.made c.requires.some) c.index.ensures c.in-Node.is) _ refl
      c.requires.some taken),
)

pub returns-in-Handed-clause-handed : goal.returns-in-Handed-clause-handed
returns-in-Handed-clause-handed c = (
  λ none_.
      taken_over _ _ c.args.self.now.nodes.items _ _ c.args.slot (held.Handed c.in-Handed.field-0)
      (at_slot c.args.self.now.nodes.items c.args.slot c.index.result.now (held.Handed c.in-Handed.field-0) (within_made _ _ _ _ _ c.args.slot c.requires.made c.requires.some) c.index.ensures c.in-Handed.is) c.in-Handed.field-0 refl
      c.requires.some,
  λ taken. refl,
)
