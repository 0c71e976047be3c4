use Rattle.std.proofs.Common.{◌∙◌, sym, subst}
use Rattle.std.specs.Prelude.{MatchOption}
use Rattle.change_apply.specs.Talking.{Going}
use Rattle.change_apply.specs.Talks.{Ends}
use Rattle.change_apply.proofs.TalkLemmas.{first_failed, first_put}
use Rattle.change_apply.proofs.applying.apply.Goals as goal

pub returns-in-Some-clause-ends : goal.returns-in-Some-clause-ends
returns-in-Some-clause-ends g c =
    let r = c.args.request in
    let came = g.R.Read.remaining c.args.reader.now in
    let k = g.K.Sink.taken c.args.sink.now in
    let taken = g.K.Sink.taken c.write_all.new.sink in
    subst (λ o. MatchOption o (Going r came k came taken c.in-Ok.begun.session 0) (Ends r came k taken)) (sym c.ended_by.ensures ∙ c.in-Some.is)
    (first_put r came k c.in-Ok.begun.session c.in-Ok.begun.answer c.new-text.result.items c.begin.new.text.items c.deref.result.now taken c.in-Ok.ensures c.new-text.ensures.items c.deref.ensures.value
    c.in-Ok-write_all.ensures.all)

pub talk-requires : goal.talk-requires
talk-requires g c =
    let r = c.args.request in
    let came = g.R.Read.remaining c.args.reader.now in
    let k = g.K.Sink.taken c.args.sink.now in
    let taken = g.K.Sink.taken c.write_all.new.sink in (
      r,
      came,
      k,
      subst (λ o. MatchOption o (Going r came k came taken c.in-Ok.begun.session 0) (Ends r came k taken)) (sym c.ended_by.ensures ∙ c.in-None.is)
          (first_put r came k c.in-Ok.begun.session c.in-Ok.begun.answer c.new-text.result.items c.begin.new.text.items c.deref.result.now taken c.in-Ok.ensures c.new-text.ensures.items c.deref.ensures.value
          c.in-Ok-write_all.ensures.all),
    )

pub returns-in-Ok-write_all-clause-ends : goal.returns-in-Ok-write_all-clause-ends
returns-in-Ok-write_all-clause-ends g c =
    let r = c.args.request in
    let came = g.R.Read.remaining c.args.reader.now in
    let k = g.K.Sink.taken c.args.sink.now in
    let taken = g.K.Sink.taken c.write_all.new.sink in
    c.talk.ensures.ends r came k
    (subst (λ o. MatchOption o (Going r came k came taken c.in-Ok.begun.session 0) (Ends r came k taken)) (sym c.ended_by.ensures ∙ c.in-None.is)
    (first_put r came k c.in-Ok.begun.session c.in-Ok.begun.answer c.new-text.result.items c.begin.new.text.items c.deref.result.now taken c.in-Ok.ensures c.new-text.ensures.items c.deref.ensures.value
    c.in-Ok-write_all.ensures.all))

pub returns-clause-ends : goal.returns-clause-ends
returns-clause-ends g c =
    first_failed c.args.request (g.R.Read.remaining c.args.reader.now) (g.K.Sink.taken c.args.sink.now) c.in-Ok.begun.session c.in-Ok.begun.answer c.new-text.result.items c.begin.new.text.items c.deref.result.now
    c.in-Err.field-0.written (g.K.Sink.taken c.write_all.new.sink) c.in-Ok.ensures c.new-text.ensures.items c.deref.ensures.value c.in-Err.ensures.short c.in-Err.ensures.prefix
