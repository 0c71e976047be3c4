-- Where there is no memory for the words, they aren't read.
use Rattle.std.proofs.Common.{drop, map, refl, string_bytes}
use Rattle.std.specs.Vec.Iter.{into_iter_items}
use Rattle.command_spec.specs.Runs.{run_of}
use Rattle.command_live.specs.Doing.{reads_nothing}
use Rattle.command_live.proofs.program.run_given.Goals as goal

pub returns-in-Err-clause-does : goal.returns-in-Err-clause-does
returns-in-Err-clause-does g c =
    let seen = run_of g.H.Shelf g.K.Sink (map string_bytes (drop 1 (into_iter_items c.args.args))) c.args.shelf.now c.args.shelf.now c.args.out.now c.write_no_memory.new.out c.write_no_memory.result in
    reads_nothing refl (c.write_no_memory.ensures seen) refl
