use Rattle.std.specs.Prelude.{codes, pos, [], ◌∷◌}
use Rattle.result_laws.specs.WorkedRolls.{forked}
use Rattle.result_laws.proofs.WorkedRolls.{committed_books, first_part_is_given_up, given_up_books, last_is_graph, parts_are_apart, parts_are_committed, parts_are_sound, whole_is_committed, whole_is_not_committed, whole_is_sound}
use Rattle.result_laws.proofs.roll_laws.rolls_are_told_from_others.Goals as goal

pub returns : goal.returns
returns c = record {
  sound = λ within. (whole_is_sound within, parts_are_sound within);
  apart = parts_are_apart;
  whole = whole_is_committed;
  early = whole_is_not_committed c.there_is_one_roll.ensures;
  parts = (parts_are_committed, committed_books.0, committed_books.1, committed_books.2);
  given_up = (first_part_is_given_up, given_up_books.0, given_up_books.1, given_up_books.2);
  none = λ ps given_up are sound roll.
      c.rolls_commit_what_commits_at_once.ensures.all (codes "Forked") (pos 1 ∷ pos 1 ∷ []) (forked 1 1) 1 (codes "Forked") (pos 2 ∷ pos 2 ∷ []) 3 (forked 2 2) [] ps given_up last_is_graph are sound whole_is_committed roll;
}
