use Rattle.std.proofs.Common.{None, refl}
use Rattle.change_engine.specs.declared.engine.Engine.{Engine}
use Rattle.change_lists.proofs.LayoutLaws.{started_layout}
use Rattle.change_engine.proofs.StartLemmas.{has_started}
use Rattle.change_engine.proofs.engine.Engine.start.Goals as goal

pub returns : goal.returns
returns g c =
    let h = c.args.graph in
    let x = c.in_ok-begun.begun in
    let b = c.begin.new.board in
    let e : Engine g.row.B.Denot = record { board = b; history = x.history; graph = h; layout = x.layout; change = None } in
    let y = c.in_ok-begun.ensures in
    has_started g.B.Board c.args.board e c.args.name c.args.args.items h c.requires.nothing_made y.is_graph c.requires.sound c.requires.few_nodes c.requires.few_ports
    (c.started_systems_are_reached.ensures h c.requires.sound c.requires.few_nodes c.requires.few_ports).1 y.begins
    (started_layout x.layout h c.requires.sound.paths_rise y.places y.ports) refl refl
