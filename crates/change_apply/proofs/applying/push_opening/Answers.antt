use Rattle.std.proofs.Common.{◌∙◌, ◌++◌, codes, append_assoc, ap}
use Rattle.report_writing.specs.Reports.{ended}
use Rattle.report_writing.specs.Writing.{with_one}
use Rattle.change_apply.specs.Replies.{history, opening}
use Rattle.change_apply.specs.Sessions.{change_in}
use Rattle.change_apply.proofs.applying.push_opening.Goals as goal

pub returns : goal.returns
returns c =
    let r = c.args.request in
    let wait = ended (with_one (codes "wait") r.within) in
    record {
      text = c.in_ok-push_wait.ensures ∙ ap (λ x. x ++ wait) (c.in_ok-push_history.ensures ∙ ap (λ l. c.args.text.now.items ++ history l) (c.deref.ensures.value ∙ c.in_ok-session.ensures.lines ∙ ap (λ x. x ++ opening r) c.new-told.ensures.items))
          ∙ append_assoc c.args.text.now.items (history (opening r)) wait;
      change = ap change_in c.in_ok-session.ensures.request;
      scene = c.in_ok-session.ensures.scene;
      stands = c.in_ok-session.ensures.stands;
    }
