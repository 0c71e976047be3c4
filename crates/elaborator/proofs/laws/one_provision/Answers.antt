use Rattle.elaborator.proofs.SingleLemmas.{linked_once}
use Rattle.elaborator.proofs.ElaborationLemmas.{bound_once}
use Rattle.elaborator.proofs.laws.one_provision.Goals as goal

pub returns : goal.returns
returns c = λ tree name arguments top a b d require provide other is_top made_once none.
    linked_once tree top (bound_once tree name arguments top is_top made_once none) a b d require provide other
