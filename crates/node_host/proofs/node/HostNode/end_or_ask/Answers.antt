use Rattle.std.proofs.Common.{rules, ◌+◌, ◌∙◌, sym, ap}
use Rattle.std.specs.Prelude.{length}
use Rattle.config_graph.specs.Kinds.{row}
use Rattle.node_host.specs.Acts.{state_of}
use Rattle.node_host.proofs.Loading.{port_steps}
use Rattle.node_host.proofs.Moving.{ends_at_one}
use Rattle.node_host.proofs.node.HostNode.end_or_ask.Goals as goal

pub returns-in-1-clause-replies : goal.returns-in-1-clause-replies
returns-in-1-clause-replies g c = record {
  room = search rules;
  exact = λ s told. ends_at_one told (state_of c.args.self.now) (ap (λ k. length (row k).requires_) (sym c.kind.ensures) ∙ sym c.requires_.ensures ∙ c.in-1.is) (c.reply_at.ensures.exact s told);
  number = search rules;
  steps = port_steps (c.args.self.now.first_port + 0) (g.S.GateSeat.loads c.args.self.now.seat) (g.S.GateSeat.loads c.reply_at.new.self.seat) c.reply_at.ensures.replies.loads;
  tried = search rules;
}
