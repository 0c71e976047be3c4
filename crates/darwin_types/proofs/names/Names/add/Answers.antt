use Rattle.darwin_types.proofs.names.Names.add.Goals as goal
use Rattle.base.proofs.MapLaws.{list_any-map}
use Rattle.base.proofs.BoolLaws.{flip}

pub returns-clause-before : goal.returns-clause-before
returns-clause-before c = rw (← c.self.view_is, ← c.in_ok-key.ensures.items) simp list_any-map (flip _ _ c.in_ok-insert.ensures.added)
