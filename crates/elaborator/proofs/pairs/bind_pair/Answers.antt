use Rattle.std.proofs.Common.{◌∙◌, Some, ap, sym, subst, inl, inr}
use Rattle.std.proofs.lemmas.Bool.{false≢true}
use Rattle.elaborator.specs.Paths.{end_bytes}
use Rattle.elaborator.specs.Instances.{Instance}
use Rattle.elaborator.specs.declared.error.ElabError.TheVariants.{BoundTwice}
use Rattle.elaborator.specs.Expansion.{expanded_of}
use Rattle.elaborator.specs.Ports.{IsPort}
use Rattle.elaborator.specs.PortIndex.{port_eq}
use Rattle.elaborator.proofs.PortLemmas.{same_instance}
use Rattle.elaborator.proofs.IndexLemmas.{IsIndex-push, same_port, port_itself, port_functional, port_injective}
use Rattle.elaborator.proofs.pairs.bind_pair.Goals as goal

pub returns-in_default : goal.returns-in_default
returns-in_default c = λ i p pairs at is index.
    IsIndex-push (expanded_of c.args.expansion.now) pairs c.args.targets.now c.bind.new.self c.args.pair.now.source c.args.pair.now.target p index c.in_ok-before.ensures.bound is.source is.target (inl (sym c.in_ok-before.ensures.before ∙ c.in_default.is))

pub returns-then-eq : goal.returns-then-eq
returns-then-eq c = λ i p pairs at is index.
    let same = same_port c.in-Some.before c.args.pair.now.target (sym c.eq.ensures ∙ c.if-eq.true) in
    IsIndex-push (expanded_of c.args.expansion.now) pairs c.args.targets.now c.bind.new.self c.args.pair.now.source c.args.pair.now.target p index c.in_ok-before.ensures.bound is.source is.target (inr (sym c.in_ok-before.ensures.before ∙ c.in-Some.is ∙ ap Some same))

pub returns : goal.returns
returns c = λ i p pairs at is index memory.
    let e = expanded_of c.args.expansion.now in
    let k = c.args.pair.now.source in
    let w = index.sound k c.in-Some.before (sym c.in_ok-before.ensures.before ∙ c.in-Some.is) in
    let inst = same_instance c.args.expansion.now c.args.number c.instance.result.now i c.instance.ensures.made at in (
      record {
        other = w.0;
        is_there = w.1;
        same_source = port_functional e k p.source w.0.source is.source w.2;
        other_target = λ same.
            let one = port_injective e c.requires.kept.is_expanded c.in-Some.before c.args.pair.now.target p.target (subst (IsPort e c.in-Some.before) (sym same) w.3) is.target in
            false≢true (sym c.if-eq.false ∙ c.eq.ensures ∙ ap (λ x. port_eq x c.args.pair.now.target) one ∙ port_itself c.args.pair.now.target);
      },
      ap (λ x. BoundTwice x c.in_ok-end.end) (c.in_ok-path.ensures ∙ ap (λ (j : Instance). j.path) (sym inst)) ∙ ap (BoundTwice i.path) (c.in_ok-end.ensures ∙ ap end_bytes is.end),
    )
