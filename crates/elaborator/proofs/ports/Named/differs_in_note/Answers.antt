use Rattle.std.proofs.Common.{ap}
use Rattle.std.specs.Option.{option_map}
use Rattle.darwin_parser.specs.Tree.{port_of}
use Rattle.elaborator.proofs.PortLemmas.{differ_tells}
use Rattle.elaborator.proofs.ports.Named.differs_in_note.Goals as goal

pub returns-in-Some-Some : goal.returns-in-Some-Some
returns-in-Some-Some c =
    differ_tells (port_of c.args.self.now.decl.now) (port_of c.args.other.now.decl.now) c.in-Some-Some.note.items c.in-Some-Some.others.items c.ne.result (ap (option_map (λ n. n.items)) c.in-Some-Some.is-0) (ap (option_map (λ n. n.items)) c.in-Some-Some.is-1) c.ne.ensures
