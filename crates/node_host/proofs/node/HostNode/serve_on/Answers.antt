use Rattle.std.proofs.Common.{rules, ◌∙◌, sym}
use Rattle.node_host.proofs.Hinting.{without_hint}
use Rattle.node_host.proofs.Moving.{serves_hearing, serves_next}
use Rattle.node_host.proofs.node.HostNode.serve_on.Goals as goal

pub returns-then-served : goal.returns-then-served
returns-then-served g c = record {
  acts = c.go_on.ensures.acts;
  moved = c.go_on.ensures.moved;
  hints = c.go_on.ensures.hints;
  exact = λ s told. c.go_on.ensures.exact s told ∙ sym (serves_next c.args.self.now.hosted told c.requires.ended c.args.served c.requires.served c.if-served.true);
  held = search rules;
}

pub returns-else-served : goal.returns-else-served
returns-else-served g c = record {
  acts = c.hear.ensures.acts;
  moved = c.hear.ensures.moved;
  hints = record { hint = without_hint _ _ _ _ _ c.hear.ensures.silent.asks_nothing c.hear.ensures.silent.waiting; quiet = search rules };
  exact = λ s told. c.hear.ensures.exact s told ∙ sym (serves_hearing c.args.self.now.hosted told c.requires.ended c.args.served c.requires.served c.if-served.false);
  held = search rules;
}
