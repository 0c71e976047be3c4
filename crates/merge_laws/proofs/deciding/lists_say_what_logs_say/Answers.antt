use Rattle.merge_laws.proofs.AloneLemmas.{fold_is, graphs_of_list, shown_alone, unfinished_is}
use Rattle.merge_laws.proofs.deciding.lists_say_what_logs_say.Goals as goal

pub returns-clause-folds : goal.returns-clause-folds
returns-clause-folds c = fold_is

pub returns-clause-unfinished : goal.returns-clause-unfinished
returns-clause-unfinished c = λ statements report m merge run. unfinished_is report m merge run statements

pub returns-clause-shows : goal.returns-clause-shows
returns-clause-shows c = shown_alone

pub returns-clause-graphs : goal.returns-clause-graphs
returns-clause-graphs c = λ statements report m sound follows merge run shows.
    graphs_of_list statements report m merge shows (c.commits_leave_the_described_graph.ensures.described statements report m sound follows merge run)
