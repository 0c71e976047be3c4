use Rattle.std.proofs.Common.{◌∙◌}
use Rattle.base.proofs.RangeLaws.{row_more}
use Rattle.config_graph.proofs.numbering.push_ports.Goals as goal

pub loop-require-preserved : goal.loop-require-preserved
loop-require-preserved c =
    c.in_ok-push.ensures.items ∙ row_more (λ r. record { node = c.args.node; require = r }) _ _ c.loop-require.require c.loop-require.invariant
