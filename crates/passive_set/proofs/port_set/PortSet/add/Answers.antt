use Rattle.std.proofs.Common.{◌≡◌, ◌<◌, ◌∙◌, false, get_or, length, sym}
use Rattle.std.proofs.Math.ListN.{length-set}
use Rattle.std.proofs.lemmas.List.{get_or_default}
use Rattle.passive_set.proofs.PortLemmas.{kept_marked, kept_counted}
use Rattle.passive_set.proofs.port_set.PortSet.add.Goals as goal

pub invariant_of-self-then-not-index : goal.invariant_of-self-then-not-index
invariant_of-self-then-not-index c =
    let has = c.self.inside.has.items in
    let ports = c.self.inside.ports.items in
    let port = c.args.port in
    let low : port < length has = rw (← c.self.view_is) at c.requires in
    let unset : get_or has port false ≡ false = get_or_default has port false c.index.result.now low ∙ sym c.index.ensures ∙ c.if-not-index.true in
    let pushed = c.in_ok-push.ensures.items in
    record {
      marked = λ p. rw pushed (kept_marked ports has port low c.self.invariant.marked p);
      counted = rw (pushed, length-set) (kept_counted ports has port low unset c.self.invariant.counted);
      few = rw length-set c.self.invariant.few;
    }
