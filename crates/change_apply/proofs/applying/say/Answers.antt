use Rattle.change_apply.proofs.TalkLemmas.{steady_turn}
use Rattle.change_apply.proofs.applying.say.Goals as goal

pub returns-in-Ok-write_all-clause-faults : goal.returns-in-Ok-write_all-clause-faults
returns-in-Ok-write_all-clause-faults g c = steady_turn (g.K.Sink.faults c.args.sink.now) (g.K.Sink.faults c.write_all.new.sink) c.in-Ok.answer c.in-Ok-write_all.ensures.steady
