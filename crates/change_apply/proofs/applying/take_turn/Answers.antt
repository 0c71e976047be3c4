use Rattle.std.proofs.Common.{inr, refl, sym, subst}
use Rattle.std.specs.Prelude.{MatchOption, ◌+◌}
use Rattle.change_apply.specs.Talking.{FaultsIn, Going}
use Rattle.change_apply.specs.Talks.{Ends}
use Rattle.change_apply.proofs.TalkLemmas.{stopped, turn_made}
use Rattle.change_apply.proofs.applying.take_turn.Goals as goal

pub returns-in_default-clause-goes : goal.returns-in_default-clause-goes
returns-in_default-clause-goes g c r came first going =
    inr (stopped r came first (g.R.Read.remaining c.args.reader.now) (g.K.Sink.taken c.args.sink.now) (g.R.Read.remaining c.read_said.new.reader) (g.K.Sink.taken c.args.sink.now) c.args.session.now c.args.number going refl)

pub returns-clause-goes : goal.returns-clause-goes
returns-clause-goes g c r came first going =
    let left = g.R.Read.remaining c.read_said.new.reader in
    let taken = g.K.Sink.taken c.say.new.sink in
    subst (λ o. MatchOption o (Going r came first left taken c.say.new.session (c.args.number + 1)) (Ends r came first taken)) (sym c.ended_by.ensures)
    (turn_made r came first (g.R.Read.remaining c.args.reader.now) (g.K.Sink.taken c.args.sink.now) left taken c.args.session.now c.say.new.session c.args.number going
    c.in-Some.said c.say.result c.in-Some.ensures c.say.ensures.ok c.say.ensures.err)

pub returns-clause-faults : goal.returns-clause-faults
returns-clause-faults g c = subst (FaultsIn (g.K.Sink.faults c.args.sink.now) (g.K.Sink.faults c.say.new.sink)) (sym c.ended_by.ensures) c.say.ensures.faults
