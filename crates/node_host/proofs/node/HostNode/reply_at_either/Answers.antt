use Rattle.std.proofs.Common.{rules, ◌≡◌, ◌∙◌, ◌+◌, true, refl}
use Rattle.node_gate.specs.Loads.{TellsLoads}
use Rattle.node_host.specs.Acts.{node_at, state_of}
use Rattle.node_host.specs.Told.{reply_at}
use Rattle.node_host.specs.Tried.{HasNoReply, LoadsPort, is_reply_at}
use Rattle.node_host.proofs.ActLaws.{as_before, tells_kept}
use Rattle.node_host.proofs.Loading.{port_steps}
use Rattle.node_host.proofs.Moving.{ends_at_left, ends_at_right}
use Rattle.node_host.proofs.Tries.{tried_right}
use Rattle.node_host.proofs.node.HostNode.reply_at_either.Goals as goal

pub returns-in-Some-clause-replies : goal.returns-in-Some-clause-replies
returns-in-Some-clause-replies g c = record {
  room = search rules;
  exact = λ s told. ends_at_left told (state_of c.args.self.now) c.requires.two (c.in-Some.ensures.exact s told);
  number = search rules;
  steps = port_steps (c.args.self.now.first_port + 0) (g.S.GateSeat.loads c.args.self.now.seat) (g.S.GateSeat.loads c.reply_at.new.self.seat) c.in-Some.ensures.replies.loads;
  tried = search rules;
}

pub returns-in-None-clause-replies : goal.returns-in-None-clause-replies
returns-in-None-clause-replies g c =
    let h = c.args.self.now in
    let m = c.reply_at.new.self in
    let a = g.S.GateSeat.loads h.seat in
    let b = g.S.GateSeat.loads m.seat in
    let d = g.S.GateSeat.loads c.reply_at-in-None.new.self.seat in
    let acts = c.in-None.ensures.acts in
    record {
      room = search rules;
      exact = λ s told.
          ends_at_right told (state_of h) c.requires.two (c.in-None.ensures.exact s told)
          (c.reply_at-in-None.ensures.exact s (tells_kept acts s told) ∙ as_before acts (λ slot first t w seat o. reply_at s (state_of m) (m.first_port + 1) ≡ reply_at s t (first + 1)) refl);
      number = search rules;
      steps = search rules;
      tried =
          tried_right (node_at h) h.known c.reply_at-in-None.result a b d c.requires.two (c.in-None.ensures.replies.no_reply refl) (port_steps (h.first_port + 0) a b c.in-None.ensures.replies.loads)
          (as_before acts (λ slot first t w seat o. TellsLoads (LoadsPort (first + 1)) b d) c.reply_at-in-None.ensures.replies.loads)
          (as_before acts (λ slot first t w seat o. is_reply_at (first + 1) c.reply_at-in-None.result ≡ true) c.reply_at-in-None.ensures.replies.at_port)
          (λ none_. as_before acts (λ slot first t w seat o. HasNoReply first w 1 b d) (c.reply_at-in-None.ensures.replies.no_reply none_));
    }
