use Rattle.std.proofs.Common.{◌≡◌, ◌<◌, ◌+◌, ◌++◌, ◌∷◌, [], length, replicate, cond, ap, ◌∙◌, append_assoc, length-append, arith}
use Rattle.std.specs.Prelude.{vec_len, vec_capacity}
use Rattle.std.proofs.lemmas.List.{length-replicate, replicate_more}
use Rattle.quiesce_core.specs.State.{fresh_exchange}
use Rattle.quiesce_core.proofs.making.push_exchanges.Goals as goal

pub loop-preserved : goal.loop-preserved
loop-preserved c =
    let old = c.args.exchanges.now.items in
    let now = c.loop.exchanges in
    let made = replicate c.loop.counter fresh_exchange in
    let size : length now.items ≡ length old + c.loop.counter =
    ap length c.loop.invariant.items ∙ length-append old made ∙ ap (λ n. length old + n) (length-replicate c.loop.counter fresh_exchange) in
    let fits : vec_len now < vec_capacity now = omega (arith, now.ok.0, size) in
    record {
      items =
          c.push.ensures.items
          ∙ ap (λ b. cond b (now.items ++ fresh_exchange ∷ []) now.items) (c.push.ensures.succeeds fits)
          ∙ ap (λ xs. xs ++ fresh_exchange ∷ []) c.loop.invariant.items
          ∙ append_assoc old made (fresh_exchange ∷ [])
          ∙ ap (λ xs. old ++ xs) (replicate_more c.loop.counter fresh_exchange);
      room = omega (arith, c.push.ensures.capacity);
    }
