use Rattle.std.proofs.Common.{◌∙◌, ◌++◌, ◌↔◌, [], ◌∷◌, Bool, ap, cond, subst, sym, append-nil, Contains}
use Rattle.std.specs.List.Sorted.{IsStrictlyIncreasing}
use Rattle.config_graph.specs.Marks.{IsMarked}
use Rattle.passive_set.proofs.MarkLemmas.{marked_in, marked_in_more, Contains-marked_in, marked_in-rising}
use Rattle.passive_set.proofs.marks.list_marked.Goals as goal
use Rattle.passive_set.proofs.marks.list_marked.Goals.{then-is_marked+in_ok-push, else-is_marked}

pub loop-node-preserved : goal.loop-node-preserved
loop-node-preserved c =
    let more = marked_in_more c.args.marks.now c.loop-node.node in
    let old = c.loop-node.nodes.items in
    let n = c.loop-node.node in
    let here = λ (b : Bool). marked_in c.args.marks.now n ++ cond b (n ∷ []) [] in
    elim c.if-is_marked.branch [
      | then-is_marked+in_ok-push w ↦
          ap (λ v. v.items) w.nodes-is ∙ w.in_ok-push.ensures.items ∙ ap (λ l. l ++ n ∷ []) c.loop-node.invariant ∙ ap here (sym w.if-is_marked.true) ∙ sym more
      | else-is_marked w ↦
          ap (λ v. v.items) w.nodes-is ∙ c.loop-node.invariant ∙ sym (append-nil (marked_in c.args.marks.now n)) ∙ ap here (sym w.if-is_marked.false) ∙ sym more
    ]

pub returns-clause-marked : goal.returns-clause-marked
returns-clause-marked c = λ i.
    subst (λ nodes. Contains nodes i ↔ IsMarked c.args.marks.now i) (sym c.loop-node.invariant) (Contains-marked_in c.args.marks.now c.loop-node.node c.loop-node-test.false i)

pub returns-clause-rising : goal.returns-clause-rising
returns-clause-rising c =
    subst IsStrictlyIncreasing (sym c.loop-node.invariant) (marked_in-rising c.args.marks.now c.loop-node.node)
