use Rattle.std.proofs.Common.{◌≡◌}
use Rattle.change_apply.specs.Talking.{Going}
use Rattle.change_apply.specs.Talks.{Bytes}
use Rattle.change_apply.specs.declared.request.Request.{Request}
use Rattle.change_apply.proofs.applying.talk.Given as goal

abbrev pub invariant-loop-number : goal.invariant-loop-number
invariant-loop-number g l = record {
  goes : (r : Request) (came first : Bytes) → Going r came first (g.R.Read.remaining l.initial.reader) (g.K.Sink.taken l.initial.sink) l.initial.session 0
      → Going r came first (g.R.Read.remaining l.reader) (g.K.Sink.taken l.sink) l.session l.number;
  steady : g.K.Sink.faults l.sink ≡ g.K.Sink.faults l.initial.sink;
}
