use Rattle.darwin_walk.proofs.NamedLemmas.{found-insert}
use Rattle.darwin_walk.proofs.keyed.by_name.Goals as goal

pub loop-item-preserved : goal.loop-item-preserved
loop-item-preserved g c =
    λ name.
    found-insert g.T.Keyed.name_of _ c.loop-item.left.now c.in-Some.before.now c.in-Some.item.now c.loop-item.index.entries
    c.insert.new.self.entries c.key.result name (c.loop-item.invariant name) c.in-Some.ensures.cases.0 c.key.ensures
    (c.in_ok-insert.ensures.updates.0 (record c.key.result { now = name }))
