use Rattle.std.proofs.Common.{rules, ◌∙◌, sym}
use Rattle.node_host.proofs.Moving.{serves_not_awaiting}
use Rattle.node_host.proofs.node.HostNode.serve.Goals as goal

pub returns-then-awaits_call : goal.returns-then-awaits_call
returns-then-awaits_call g c = record {
  acts = search rules;
  moved = search rules;
  hints = search rules;
  exact = λ s told. serves_not_awaiting c.args.self.now.hosted told (sym c.awaits_call.ensures ∙ c.if-awaits_call.true);
  held = search rules;
}
