use Rattle.std.proofs.Common.{rules, refl}
use Rattle.node_host.specs.Acts.{gate_seen, hinted}
use Rattle.node_host.specs.Posting.{HintOf, Hinted}
use Rattle.node_host.proofs.ActLaws.{as_before}
use Rattle.node_host.proofs.Loading.{keeps_steps}
use Rattle.node_host.proofs.Tries.{cannot_then, hint_since, request_kept, sent_taken}
use Rattle.node_host.proofs.node.HostNode.take_or_begin.Goals as goal

pub returns-in-Some-clause-looks : goal.returns-in-Some-clause-looks
returns-in-Some-clause-looks g c =
    let sent = sent_taken {g = gate_seen g.G.PortGate c.args.gate.now c.args.self.now c.take_next.new.self} {first = c.args.self.now.first_port} c.in-Some.ensures.looks c.in-Some.ensures.moved.number c.in-Some.ensures.silent.asks_nothing in
    search (rules, sent)

pub returns-in-None-clause-looks : goal.returns-in-None-clause-looks
returns-in-None-clause-looks g c =
    let h = c.args.self.now in
    let m = c.take_next.new.self in
    let a = g.S.GateSeat.loads h.seat in
    let b = g.S.GateSeat.loads m.seat in
    let k = c.begin_if.new.self in
    let d = g.S.GateSeat.loads k.seat in
    let between : Hinted = hinted g.H.Hints c.take_next.new.hints m in
    let new : Hinted = hinted g.H.Hints c.begin_if.new.hints k in
    let steps = keeps_steps 3 h.first_port h.known a b c.in-None.ensures.moved.loads in
    record {
      looked = search rules;
      sent = record {
        between = between;
        looked = c.in-None.ensures.looks;
        request = λ asked passed. request_kept h.slot m.first_port m.known (g.H.Hints.counts c.args.hints.now h.slot) (g.H.Hints.counts c.take_next.new.hints h.slot) a b d c.begin_if.ensures.moved.loads (c.in-None.ensures.tried refl);
        sent =
            hint_since (g.G.PortGate.state c.args.gate.now) a b d h.first_port c.begin_if.result between new steps
            (as_before c.in-None.ensures.acts (λ slot first t w seat o. HintOf (record { state = o; before = b; after = d }) first c.begin_if.result between new) c.begin_if.ensures.hints.hint);
      };
      passed = search rules;
      loads = search rules;
      tried = λ none_ may. cannot_then c.in-None.ensures.acts steps k (c.begin_if.ensures.tried none_ may);
      no_begin = c.begin_if.ensures.no_begin;
    }
