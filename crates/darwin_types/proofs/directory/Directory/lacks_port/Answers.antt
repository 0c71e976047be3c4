use Rattle.std.proofs.Common.{ap, sym, ◌∙◌, not, refl, length, position, bytes_eq}
use Rattle.std.proofs.lemmas.Option.{slice_get_read}
use Rattle.darwin_types.proofs.Components.{lacks_port-at, lacks_port-none, within_ports}
use Rattle.darwin_types.proofs.directory.Directory.lacks_port.Goals as goal

pub returns-in-None : goal.returns-in-None
returns-in-None c =
    let d = c.args.self.now in
    sym (lacks_port-none d.components.now c.args.component.now c.args.port.now (c.in-None.ensures.place ∙ ap (position (bytes_eq c.args.component.now)) d.named))

pub returns-in-Some : goal.returns-in-Some
returns-in-Some c =
    let d = c.args.self.now in
    let place = c.in-Some.ensures.place ∙ ap (position (bytes_eq c.args.component.now)) d.named in
    let within = within_ports d.components.now d.names d.ports.items c.in-Some.index d.named d.with_ports c.in-Some.ensures.within in
    let at = slice_get_read d.ports.items (length d.ports.items) c.in-Some.index c.index.result.now refl within c.index.ensures in
    ap not c.contains.ensures ∙ sym (lacks_port-at d.components.now d.ports.items c.args.component.now c.args.port.now c.in-Some.index c.index.result.now d.with_ports place at)
