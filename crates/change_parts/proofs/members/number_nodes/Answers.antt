use Rattle.std.proofs.Common.{◌≡◌, ◌∙◌, ◌+◌, Some, IfNone, length, set, slice_get, ap, sym, subst, arith, length-set, Contains}
use Rattle.std.proofs.lemmas.Option.{slice_get-get_or, slice_get_within}
use Rattle.change_parts.proofs.MemberLemmas.{AreWritten, written_all, written_more, written_none}
use Rattle.change_parts.proofs.members.number_nodes.Goals as goal
use Rattle.change_parts.proofs.members.number_nodes.Goals.{in-Some, in_default}

pub index_mut-requires : goal.index_mut-requires
index_mut-requires c =
    omega (arith, slice_get_within c.args.graph.now.nodes c.in-Some.place c.index-nodes-number.result c.in-Some.ensures.found, c.loop-number.invariant.long)

pub loop-number-preserved : goal.loop-number-preserved
loop-number-preserved c =
    let placed = c.args.graph.now.nodes in
    let nodes = c.args.nodes.now in
    let k = c.loop-number.number in
    let node = c.index-nodes-number.result in
    let numbers = c.loop-number.numbers.items in
    let rise = c.node_count.ensures.graph.paths_rise in
    let at : slice_get nodes k ≡ Some node = slice_get-get_or nodes k node c.loop-number-test.true ∙ ap Some (sym c.index-nodes-number.is) in
    elim c.match-place_of.branch [
      | in-Some w ↦
          let place = w.in-Some.place in
          let is : c.match-place_of.numbers.items ≡ set numbers place k = ap (λ v. v.items) w.numbers-is in
          record {
            long = ap length is ∙ length-set numbers place k ∙ c.loop-number.invariant.long;
            are = subst (AreWritten placed nodes (k + 1)) (sym is) (written_more placed nodes c.requires.once rise k numbers node place at w.in-Some.ensures.found c.loop-number.invariant.long c.loop-number.invariant.are);
          }
      | in_default w ↦
          let is : c.match-place_of.numbers.items ≡ numbers = ap (λ v. v.items) w.numbers-is in
          let missing : ¬ Contains placed node = subst (λ o. IfNone o (¬ Contains placed node)) w.in_default.is c.place_of.ensures.missing in
          record {
            long = ap length is ∙ c.loop-number.invariant.long;
            are = subst (AreWritten placed nodes (k + 1)) (sym is) (written_none placed nodes c.requires.once rise k numbers node at missing c.loop-number.invariant.are);
          }
    ]

pub returns : goal.returns
returns c =
    let placed = c.args.graph.now.nodes in
    let nodes = c.args.nodes.now in
    let last : c.loop-number.number ≡ length nodes = omega (arith, c.loop-number-test.false, c.loop-number.auto.number-end) in
    written_all placed nodes c.requires.once c.node_count.ensures.graph.paths_rise c.requires.all c.loop-number.numbers.items c.loop-number.invariant.long
    (subst (λ k. AreWritten placed nodes k c.loop-number.numbers.items) last c.loop-number.invariant.are)
