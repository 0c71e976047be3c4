use Rattle.std.proofs.Common.{◌∙◌, ap, sym, Some, refl, arith}
use Rattle.std.specs.Str.{bytes_eq}
use Rattle.std.proofs.lemmas.List.{length-map}
use Rattle.std.proofs.lemmas.Option.{slice_get_read}
use Rattle.std.proofs.lemmas.List.Quantifiers.{position-Some}
use Rattle.darwin_parser.specs.Tree.{port_of}
use Rattle.darwin_walk.specs.Walked.{walked_end}
use Rattle.elaborator.specs.Expansion.{expanded_of, instance_in}
use Rattle.elaborator.specs.Ports.{place_of}
use Rattle.elaborator.proofs.PortLemmas.{instance_numbered, stands_numbered, numbered_within, same_instance, resolve-no_port, named_found}
use Rattle.base.proofs.FindLaws.{position_within}
use Rattle.elaborator.proofs.ports.find_named.Goals as goal

pub instance-requires-clause-within : goal.instance-requires-clause-within
instance-requires-clause-within c =
    let e = expanded_of c.args.expansion.now in
    let here = instance_numbered e c.args.number c.requires.within in
    let w = rw c.in-Some.is at (c.in_ok-instance.ensures here.0 here.1) in
    numbered_within e c.in-Some.instance w.0 (stands_numbered e c.args.number _ c.in-Some.instance w.0 w.2)

pub place_in-requires : goal.place_in-requires
place_in-requires c =
    let x = c.instance.result.now in
    c.requires.kept.is_expanded.named c.in-Some.instance (instance_in x) (record { maker = x.maker; is_at = c.instance.ensures.made })

pub index-requires : goal.index-requires
index-requires c =
    let e = c.args.expansion.now in
    let x = c.instance.result.now in
    let place = ap (λ b. place_of b (instance_in x).component.ports) (sym c.as_bytes.ensures) ∙ sym c.place_in.ensures in
    let within = position_within _ (instance_in x).component.ports c.in-Some-place_in.port (place ∙ c.in-Some-place_in.is) in
    omega (arith, length-map x.component.now.ports.items port_of, x.component.now.ports.ok.0, within)

pub returns-in_default-place_in : goal.returns-in_default-place_in
returns-in_default-place_in c = λ i at.
    let e = c.args.expansion.now in
    let x = c.instance.result.now in
    let w = rw c.in-Some.is at (c.in_ok-instance.ensures i at) in
    let same = same_instance e c.in-Some.instance x w.0 c.instance.ensures.made (stands_numbered (expanded_of e) c.args.number _ c.in-Some.instance w.0 w.2) in
    let place = ap (λ b. place_of b (instance_in x).component.ports) (sym c.as_bytes.ensures) ∙ sym c.place_in.ensures in
    resolve-no_port (expanded_of e).tree i (instance_in x) (walked_end c.args.end) (w.1 ∙ ap Some same) (place ∙ c.in_default-place_in.is)

pub returns : goal.returns
returns c = λ i at.
    let e = c.args.expansion.now in
    let x = c.instance.result.now in
    let w = rw c.in-Some.is at (c.in_ok-instance.ensures i at) in
    let place = ap (λ b. place_of b (instance_in x).component.ports) (sym c.as_bytes.ensures) ∙ sym c.place_in.ensures in
    let port = c.in-Some-place_in.port in
    let items = x.component.now.ports.items in
    let is_place = place ∙ c.in-Some-place_in.is in
    let within = (position-Some (λ p. bytes_eq c.args.end.port.now p.name) (instance_in x).component.ports port (port_of c.index.result.now) is_place).0 in
    let stands = slice_get_read items _ port c.index.result.now refl (omega (arith, length-map items port_of, within)) c.index.ensures in
    named_found e c.args.number c.in-Some.instance port i w.0 x c.args.end c.index.result c.is_some.result w.1 w.2 c.instance.ensures.made is_place stands c.is_some.ensures
