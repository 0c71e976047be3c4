-- A session by the lines of the whole input, or no memory for its buffer.
use Rattle.std.proofs.Common.{inl, refl, subst}
use Rattle.change_apply.specs.Talks.{Ends}
use Rattle.change_apply.specs.declared.said.Ending.TheVariants as ending
use Rattle.command_apply.proofs.ApplyLaws.{fresh_reader, talked}
use Rattle.command_apply.proofs.talking.talk.Goals as goal

pub returns-in-Ok : goal.returns-in-Ok
returns-in-Ok g c seen =
    let r = c.args.request in
    let left = g.I.Read.remaining in
    let k = g.K.Sink.taken c.args.out.now in
    let k' = g.K.Sink.taken c.apply-ending.new.sink in
    let e = c.apply-ending.result in
    let made = c.in-Ok.ensures in (
      e,
      talked r (left c.args.input) seen k k' (g.K.Sink.taken c.end_with.new.out) (g.K.Sink.faults c.args.out.now) (g.K.Sink.faults c.apply-ending.new.sink)
          (g.K.Sink.faults c.end_with.new.out) c.end_with.result e
          (subst (λ b. Ends r b k k' e) (fresh_reader left c.in-Ok.reader c.args.input made.inner made.empty made.capacity) c.apply-ending.ensures.ends)
          c.apply-ending.ensures.faults
          (c.end_with.ensures seen),
    )

pub returns-in-Err : goal.returns-in-Err
returns-in-Err g c seen =
    (ending.NoMemory, (g.K.Sink.taken c.args.out.now, inl refl, c.write_no_memory.ensures seen))
