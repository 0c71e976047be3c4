use Rattle.darwin_types.proofs.Lookups.{SameLookups_map_step}
use Rattle.darwin_types.proofs.instances.declare_arrays.Goals as goal

pub loop-array-preserved : goal.loop-array-preserved
loop-array-preserved c =
    SameLookups_map_step (λ a. (a.name, a.component)) c.args.arrays.now c.loop-array.array-index c.array-item.result c.declare.new.self c.loop-array.instances c.args.instances.now c.loop-array-test.true c.array-item.is c.loop-array.invariant (rw (c.as_bytes.ensures, c.as_bytes-in-loop-array.ensures) at c.in_ok-declare.ensures)
