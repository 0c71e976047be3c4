use Rattle.quiesce_laws.specs.Starts.{start_of}
use Rattle.change_apply.proofs.TalkLemmas.{begun_then}
use Rattle.change_apply.proofs.applying.begin.Goals as goal

pub returns : goal.returns
returns c =
    let o = c.in_ok-session.ensures in
    begun_then c.args.request c.in_ok-session.session c.answer_at_once.new.session c.in_ok-answer.answer c.args.text.now.items _ c.answer_at_once.new.text.items o
    (c.in_ok-answer.ensures (start_of c.args.request.from.graph) o.stands)
