use Rattle.darwin_types.proofs.Lookups.{SameLookups-new, SameLookups-again, None-found, is_some-found}
use Rattle.darwin_types.proofs.instances.Instances.declare.Goals as goal

pub returns-in_ok-insert : goal.returns-in_ok-insert
returns-in_ok-insert c =
    SameLookups-new c.self.inside.components.entries c.insert.new.self.entries c.args.self.now c.args.name c.args.component c.self.view_is (None-found _ _ _ _ c.component_of.ensures c.is_none.ensures c.if-is_none.true) c.in_ok-insert.ensures.entries

pub returns-else-is_none : goal.returns-else-is_none
returns-else-is_none c =
    SameLookups-again c.args.self.now c.args.name.now c.args.component.now (is_some-found _ _ _ _ c.component_of.ensures c.is_none.ensures c.if-is_none.false)
