use Rattle.std.proofs.Common.{◌≡◌, ◌∙◌, ◌++◌, ◌∷◌, [], ℕ, List, Some, slice_get, length, ap, sym, subst, arith, length-append}
use Rattle.std.proofs.lemmas.Option.{slice_get-get_or}
use Rattle.config_graph.specs.declared.node.Node.{Node}
use Rattle.change_parts.specs.Staging.{AreLaid, stands}
use Rattle.change_parts.proofs.StagingLemmas.{laid_more, laid_none, laid_pass}
use Rattle.change_parts.proofs.staging.lay.Goals as goal
use Rattle.change_parts.proofs.staging.lay.Goals.{then-stands+in_ok-try_clone+in_ok-push-2, else-stands}

pub loop-node-init : goal.loop-node-init
loop-node-init c =
    let st = stands c.args.members.now c.args.applied.now in
    let all = c.args.members.now.nodes.items in
    record {
      long = ap length c.in_ok-places.ensures.items;
      laid = subst (λ (w : List Node × List ℕ). AreLaid st all w.0 w.1) (λ q. (sym c.new-nodes.ensures.items q, sym c.in_ok-places.ensures.items q)) (laid_none st all);
    }

pub loop-node-preserved : goal.loop-node-preserved
loop-node-preserved c =
    let st = stands c.args.members.now c.args.applied.now in
    let all = c.args.members.now.nodes.items in
    let i = c.loop-node.node-index in
    let node = c.node-item.result in
    let nodes = c.loop-node.nodes.items in
    let places = c.loop-node.places.items in
    let laid = c.loop-node.invariant.laid in
    let item : slice_get c.deref-node-items.result.now i ≡ Some node = slice_get-get_or c.deref-node-items.result.now i node c.loop-node-test.true ∙ ap Some (sym c.node-item.is) in
    let at : slice_get all (length places) ≡ Some node = ap (slice_get all) c.loop-node.invariant.long ∙ ap (λ (xs : List Node). slice_get xs i) (sym c.deref-node-items.ensures.value) ∙ item in
    let laid_count : c.len-in-loop-node.result ≡ length nodes = omega (arith, c.len-in-loop-node.ensures) in
    let pushed : c.push.new.self.items ≡ places ++ length nodes ∷ [] = c.in_ok-push.ensures.items ∙ ap (λ k. places ++ k ∷ []) laid_count in
    let placed_count : c.len-number.result ≡ length places = omega (arith, c.len-number.ensures) in
    let standing : c.stands.result ≡ st (length places) = c.stands.ensures ∙ ap st placed_count in
    let long = ap length pushed ∙ length-append places (length nodes ∷ []) in
    elim c.if-stands.branch [
      | then-stands+in_ok-try_clone+in_ok-push-2 w ↦
          let is = ap (λ v. v.items) w.nodes-is ∙ w.in_ok-push-2.ensures.items ∙ ap (λ (m : Node). nodes ++ m ∷ []) w.in_ok-try_clone.ensures in
          record {
            long = omega (arith, long, c.loop-node.invariant.long);
            laid = subst (λ (w : List Node × List ℕ). AreLaid st all w.0 w.1) (λ q. (sym is q, sym pushed q)) (laid_more st all nodes places node at laid (sym standing ∙ w.if-stands.true));
          }
      | else-stands w ↦
          let is = ap (λ v. v.items) w.nodes-is in
          record {
            long = omega (arith, long, c.loop-node.invariant.long);
            laid = subst (λ (w : List Node × List ℕ). AreLaid st all w.0 w.1) (λ q. (sym is q, sym pushed q)) (laid_pass st all nodes places node at laid (sym standing ∙ w.if-stands.false));
          }
    ]
