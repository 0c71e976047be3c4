use Rattle.txn_spec.proofs.ChangeStepLaws.{close_prolongs, link_prolongs, look_prolongs, make_prolongs, mark_prolongs, remove_prolongs, reopen_prolongs, unlink_prolongs}
use Rattle.txn_spec.proofs.MergingLaws.{learn_prolongs}
use Rattle.txn_spec.proofs.prolonging.change_steps_prolong_the_run.Goals as goal

pub returns : goal.returns
returns c = record {
  closes = λ id p nodes c. close_prolongs 0 id nodes c p;
  reopens = λ id p nodes c. reopen_prolongs 0 id nodes c p;
  looks = λ id p nodes c. look_prolongs 0 id nodes c p;
  marks = λ id i begins moved nodes c. mark_prolongs 0 id nodes c i begins moved;
  links = λ id p to nodes c. link_prolongs 0 id nodes c p to.node to.provide;
  unlinks = λ id p was nodes c. unlink_prolongs 0 id nodes c p was;
  removes = λ id n i nodes c. remove_prolongs 0 id nodes c n i;
  makes = λ id n node from nodes c. make_prolongs 0 id nodes c n node from;
  learns = learn_prolongs;
}
