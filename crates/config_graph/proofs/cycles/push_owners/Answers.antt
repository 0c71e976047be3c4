use Rattle.std.proofs.Common.{All, slice_index_or, ◌≡◌, ◌∙◌, ◌<◌, ℕ, [], ◌∷◌, ◌++◌, Contains, Some, ap, arith, inl, inr, length, slice_get, subst, sym}
use Rattle.std.proofs.lemmas.Bool.{cases_lt}
use Rattle.std.proofs.lemmas.List.Elements.{All-push, Contains-append_left, Contains-append_right}
use Rattle.std.proofs.lemmas.Option.{same_Some, slice_get-get_or, slice_get_within}
use Rattle.config_graph.specs.Graph.{requires_of, ports as ports_of}
use Rattle.config_graph.proofs.NumberingLaws.{within_list}
use Rattle.config_graph.specs.declared.node.Port.{Port}
use Rattle.base.proofs.ContainsLaws.{Contains-here, at_some_place}
use Rattle.config_graph.proofs.cycles.push_owners.Goals as goal

pub loop-port-preserved : goal.loop-port-preserved
loop-port-preserved c =
    let k = c.loop-port.port-index in
    let old = c.loop-port.waiting.items in
    let new = c.push.new.self.items in
    let all = c.args.graph.now.nodes in
    let grown : new ≡ old ++ c.port.result.node ∷ [] = c.in_ok-push.ensures.items in
    let still : (i : ℕ) → Contains old i → Contains new i = λ i h. subst (λ xs. Contains xs i) (sym grown) (Contains-append_left old (c.port.result.node ∷ []) i h) in
    record {
      nodes = λ held.
          subst (All (λ i. i < length all)) (sym grown)
          (All-push (λ i. i < length all) old c.port.result.node (c.loop-port.invariant.nodes held) (within_list requires_of all c.port.result.node c.port.result.require c.port.ensures.within));
      count = omega (arith, c.loop-port.invariant.count, c.in_ok-push.ensures.len);
      kept = λ i h. still i (c.loop-port.invariant.kept i h);
      owners = λ j port owner low at there.
          elim (cases_lt j k) [
            | inl before ↦ still owner.node (c.loop-port.invariant.owners j port owner before at there)
            | inr last ↦
                let here : j ≡ k = omega (arith, low, last) in
                let it : Some port ≡ Some (slice_index_or c.args.ports.now k 0) = sym at ∙ ap (slice_get c.args.ports.now) here ∙ slice_get-get_or c.args.ports.now k 0 c.loop-port-test.true in
                let port_is = same_Some port (slice_index_or c.args.ports.now k 0) it in
                let one : c.port.result ≡ owner = same_Some c.port.result owner (sym c.port.ensures.port ∙ ap (slice_get (ports_of all)) (sym port_is) ∙ there) in
                subst (λ xs. Contains xs owner.node) (sym grown)
                (subst (λ (o : Port). Contains (old ++ o.node ∷ []) owner.node) (sym one) (Contains-append_right old (owner.node ∷ []) owner.node (Contains-here owner.node [])))
          ];
    }

pub returns-clause-owners : goal.returns-clause-owners
returns-clause-owners c = λ port owner held there.
    let at = at_some_place c.args.ports.now port held in
    c.loop-port.invariant.owners at.0 port owner (omega (arith, slice_get_within c.args.ports.now at.0 port at.1, c.loop-port-test.false)) at.1 there
