use Rattle.elaborator.proofs.chains.Targets.bind.Goals as goal

pub returns-clause-bound : goal.returns-clause-bound
returns-clause-bound c = λ x. rw (← c.self.view_is) (c.in_ok-insert.ensures.updates.0 x)
