use Rattle.report_check.proofs.ClosesLemmas.{close_at, other_at, root_at}
use Rattle.report_check.proofs.closes.Closes.note.Goals as goal

pub returns-in-Close : goal.returns-in-Close
returns-in-Close c =
    let line = c.index-history-place in
    close_at c.args.self.now c.args.bound c.in-Close.port c.args.place c.args.history.now line.result c.requires.there line.is c.in-Close.is c.requires.noted

pub returns-in_ok-put-in-Root : goal.returns-in_ok-put-in-Root
returns-in_ok-put-in-Root c =
    let line = c.index-history-place in
    root_at c.args.self.now c.put.new.self c.args.bound c.in-Root.port c.in-Root.serial c.args.place c.args.history.now line.result c.requires.there
    line.is c.in-Root.is c.requires.noted c.in_ok-put-in-Root.ensures

pub returns-in_default : goal.returns-in_default
returns-in_default c =
    let line = c.index-history-place in
    other_at c.args.self.now c.args.bound c.args.place c.args.history.now line.result c.requires.there line.is c.in_default.not-Close c.in_default.not-Root
    c.requires.noted
