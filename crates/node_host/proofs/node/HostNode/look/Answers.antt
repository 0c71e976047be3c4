use Rattle.std.proofs.Common.{rules, ◌∙◌, sym, ap}
use Rattle.std.specs.Prelude.{is_some, not}
use Rattle.std.proofs.lemmas.Bool.{both_ways}
use Rattle.base.proofs.OptionLaws.{None-from_is_some, is_none-is_some}
use Rattle.node_host.proofs.InService.{at_rest, free_known}
use Rattle.node_host.proofs.Tries.{sent_unasked}
use Rattle.node_host.proofs.node.HostNode.look.Goals as goal

pub take_or_begin-requires-clause-free : goal.take_or_begin-requires-clause-free
take_or_begin-requires-clause-free g c =
    let h = c.args.self.now in
    at_rest h.hosted (None-from_is_some h.known.service (sym c.is_some.ensures ∙ c.if-is_some.false))

pub returns-then-is_some-clause-looks : goal.returns-then-is_some-clause-looks
returns-then-is_some-clause-looks g c =
    let h = c.args.self.now in
    let serves = sym c.is_some.ensures ∙ c.if-is_some.true in
    record {
      looked = λ none_ free. absurd (both_ways (is_some h.known.service) (ap is_some (free_known h.hosted free)) serves);
      sent = sent_unasked (is_none-is_some h.known.service ∙ ap not serves) c.begin_if.ensures.hints.hint;
      passed = search rules;
      loads = search rules;
      tried = c.begin_if.ensures.tried;
      no_begin = c.begin_if.ensures.no_begin;
    }
