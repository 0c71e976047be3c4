use Rattle.std.proofs.Common.{◌≡◌, ◌<◌, ◌+◌, ◌++◌, ◌∷◌, [], length, cond, true, None, ap, ◌∙◌, arith}
use Rattle.std.specs.Prelude.{vec_len, vec_capacity}
use Rattle.quiesce_core.specs.declared.state.Gate.{Gate}
use Rattle.quiesce_core.proofs.TableLaws.{new_gates_more, new_gates_length}
use Rattle.quiesce_core.proofs.links.push_gates.Goals as goal

pub loop-require-preserved : goal.loop-require-preserved
loop-require-preserved c =
    let now = c.loop-require.gates in
    let gate : Gate = record { owner = c.args.owner; require = c.loop-require.require; closed = true; target = None } in
    let size : length now.items ≡ length c.args.gates.now.items + c.loop-require.require =
    ap length c.loop-require.invariant.items ∙ new_gates_length c.args.gates.now.items c.args.owner c.loop-require.require in
    let fits : vec_len now < vec_capacity now = omega (arith, now.ok.0, size) in
    record {
      items =
          c.push.ensures.items
          ∙ ap (λ b. cond b (now.items ++ gate ∷ []) now.items) (c.push.ensures.succeeds fits)
          ∙ ap (λ xs. xs ++ gate ∷ []) c.loop-require.invariant.items
          ∙ new_gates_more c.args.gates.now.items c.args.owner c.loop-require.require;
      room = omega (arith, c.push.ensures.capacity);
    }
