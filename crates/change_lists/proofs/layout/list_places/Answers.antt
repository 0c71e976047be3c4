use Rattle.std.proofs.Common.{◌++◌, ◌∷◌, [], Some, sym, ap, ◌∙◌, arith}
use Rattle.std.proofs.lemmas.List.FromFn.{map-range_with_len_more}
use Rattle.change_lists.proofs.layout.list_places.Goals as goal

pub loop-place-preserved : goal.loop-place-preserved
loop-place-preserved c =
    let k = c.loop-place.place in
    c.in_ok-push.ensures.items ∙ ap (λ xs. xs ++ Some k ∷ []) c.loop-place.invariant ∙ sym (map-range_with_len_more Some 0 k k (omega arith))
