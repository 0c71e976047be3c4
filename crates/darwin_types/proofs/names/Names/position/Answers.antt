use Rattle.darwin_types.proofs.names.Names.position.Goals as goal
use Rattle.base.proofs.MapLaws.{position-map}

pub returns-then-names-le-FEW_NAMES-clause-place : goal.returns-then-names-le-FEW_NAMES-clause-place
returns-then-names-le-FEW_NAMES-clause-place c = rw (← c.self.view_is) simp (c.position_among.ensures.place, c.as_slice-names.ensures.keys, position-map)

pub returns-else-names-le-FEW_NAMES-clause-place : goal.returns-else-names-le-FEW_NAMES-clause-place
returns-else-names-le-FEW_NAMES-clause-place c = rw (← c.self.view_is) simp (c.get_index_of.ensures.index, position-map)
