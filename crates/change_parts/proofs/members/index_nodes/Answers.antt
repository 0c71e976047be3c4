use Rattle.std.proofs.Common.{inl, inr, sym, subst, Contains}
use Rattle.change_parts.specs.Members.{AreNumbers, MarksNodes}
use Rattle.change_parts.proofs.members.index_nodes.Goals as goal

pub number_nodes-requires-clause-all : goal.number_nodes-requires-clause-all
number_nodes-requires-clause-all c = λ n there. subst (λ xs. Contains xs n) (sym c.deref.ensures.value) (c.requires.members.all n (inl there))

pub number_nodes-requires-2-clause-all : goal.number_nodes-requires-2-clause-all
number_nodes-requires-2-clause-all c = λ n there. subst (λ xs. Contains xs n) (sym c.deref-2.ensures.value) (c.requires.members.all n (inr there))

pub returns-clause-index : goal.returns-clause-index
returns-clause-index c =
    let old = c.args.old.now in
    let new = c.args.new.now in
    record {
      old_graph = c.requires.graphs.0;
      new_graph = c.requires.graphs.1;
      members = c.requires.members;
      of_old = subst (λ xs. AreNumbers old.nodes xs c.in_ok-of_old.of_old.items) c.deref.ensures.value c.in_ok-of_old.ensures;
      of_new = subst (λ xs. AreNumbers new.nodes xs c.in_ok-of_new.of_new.items) c.deref-2.ensures.value c.in_ok-of_new.ensures;
      in_old = subst (λ xs. MarksNodes old xs c.in_ok-in_old.in_old.items) c.deref-3.ensures.value c.in_ok-in_old.ensures;
      in_new = subst (λ xs. MarksNodes new xs c.in_ok-in_new.in_new.items) c.deref-4.ensures.value c.in_ok-in_new.ensures;
    }
