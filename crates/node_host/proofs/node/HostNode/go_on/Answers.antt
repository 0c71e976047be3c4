use Rattle.std.proofs.Common.{rules}
use Rattle.node_host.proofs.Hinting.{without_hint}
use Rattle.node_host.proofs.InService.{goes_on_there}
use Rattle.node_host.proofs.node.HostNode.go_on.Goals as goal

pub next-requires : goal.next-requires
next-requires g c =
    let h = c.args.self.now in
    record { goes_on = goes_on_there h.hosted c.args.served c.requires.serving.served c.requires.serving.heard }

pub returns-in-Give-clause-hints : goal.returns-in-Give-clause-hints
returns-in-Give-clause-hints g c = record { hint = without_hint _ _ _ _ _ c.give.ensures.silent.asks_nothing c.give.ensures.silent.waiting; quiet = search rules }

pub returns-in-More-clause-hints : goal.returns-in-More-clause-hints
returns-in-More-clause-hints g c = record { hint = without_hint _ _ _ _ _ c.send_more.ensures.silent.asks_nothing c.send_more.ensures.silent.waiting; quiet = search rules }
