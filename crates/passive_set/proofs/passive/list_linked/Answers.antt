use Rattle.std.proofs.Common.{◌≡◌, ◌∙◌, ◌+◌, ◌↔◌, Contains, ap, arith, length, subst, sym}
use Rattle.passive_set.specs.Feeding.{FeedsMarked}
use Rattle.passive_set.proofs.FeedingLemmas.{FeedsMarked_yes, FeedsMarked_no}
use Rattle.passive_set.proofs.passive.list_linked.Goals as goal
use Rattle.passive_set.proofs.passive.list_linked.Goals.{then-is_marked+in_ok-add_linked, else-is_marked}

pub overflow_cast-node : goal.overflow_cast-node
overflow_cast-node c = omega (arith, c.requires.graph.few_nodes)

pub loop-node-preserved : goal.loop-node-preserved
loop-node-preserved c =
    let g = c.args.graph.now in
    let marks = c.args.marks.now in
    let n = c.loop-node.node in
    let mid = c.loop-node.set.ports in
    elim c.if-is_marked.branch [
      | then-is_marked+in_ok-add_linked w ↦ record {
        room = ap (λ s. s.room) w.set-is ∙ w.in_ok-add_linked.ensures.room ∙ c.loop-node.invariant.room;
        linked = λ p. subst (λ s. Contains s.ports p ↔ FeedsMarked g marks (n + 1) p) (sym w.set-is) (FeedsMarked_yes g marks n mid c.loop-node.invariant.linked w.add_linked.new.set.ports w.if-is_marked.true w.in_ok-add_linked.ensures.added p);
      }
      | else-is_marked w ↦ record {
        room = ap (λ s. s.room) w.set-is ∙ c.loop-node.invariant.room;
        linked = λ p. subst (λ s. Contains s.ports p ↔ FeedsMarked g marks (n + 1) p) (sym w.set-is) (FeedsMarked_no g marks n mid c.loop-node.invariant.linked w.if-is_marked.false p);
      }
    ]

pub returns-clause-linked : goal.returns-clause-linked
returns-clause-linked c = λ p.
    let all : c.loop-node.node ≡ length c.args.marks.now = omega arith in
    subst (λ n. Contains c.loop-node.set.ports p ↔ FeedsMarked c.args.graph.now c.args.marks.now n p) all (c.loop-node.invariant.linked p)
