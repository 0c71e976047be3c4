use Rattle.std.proofs.Common.{inr, refl}
use Rattle.change_apply.proofs.TalkLemmas.{stopped}
use Rattle.change_apply.proofs.applying.talk.Goals as goal

pub take_turn-requires-clause-going : goal.take_turn-requires-clause-going
take_turn-requires-clause-going g c =
    let w = c.requires in
    (w.0, w.1, w.2, c.loop-number.invariant.goes w.0 w.1 w.2 w.3)

pub returns-clause-ends : goal.returns-clause-ends
returns-clause-ends g c r came first going =
    let left = g.R.Read.remaining c.loop-number.reader in
    let taken = g.K.Sink.taken c.loop-number.sink in
    inr (stopped r came first left taken left taken c.loop-number.session c.loop-number.number (c.loop-number.invariant.goes r came first going) refl)
