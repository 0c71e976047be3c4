use Rattle.report_check.proofs.closes.Closes.put.Goals as goal

pub returns : goal.returns
returns c = λ x. rw (← c.self.view_is) (c.in_ok-insert.ensures.updates.0 x)
