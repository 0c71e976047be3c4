use Rattle.watch_view.proofs.Noting.{noted_on}
use Rattle.watch_view.proofs.observer.Observer.look.Goals as goal

pub invariant_of-self : goal.invariant_of-self
invariant_of-self g c = noted_on _ _ _ c.read.ensures.reads.list c.self.invariant

pub invariant_of-self-2 : goal.invariant_of-self-2
invariant_of-self-2 g c = c.note.ensures.kept _ (noted_on _ _ _ c.read.ensures.reads.list c.self.invariant) c.in_ok-seen.ensures.last

pub returns-clause-ends : goal.returns-clause-ends
returns-clause-ends g c = c.note.ensures.ends _ (noted_on _ _ _ c.read.ensures.reads.list c.self.invariant) c.in_ok-seen.ensures.last
