use Rattle.std.proofs.Common.{◌∙◌, ◌++◌, ◌∷◌, [], append_assoc, map, ap}
use Rattle.std.specs.List.{flat_map}
use Rattle.report_types.specs.declared.report.HistoryLine.TheVariants as to
use Rattle.change_apply.specs.Sessions.{asked, root_at}
use Rattle.change_apply.specs.Standing.{change_of}
use Rattle.change_apply.proofs.session.Session.give_up.Goals as goal

pub returns : goal.returns
returns c es st =
    let d = c.args.self.now in
    let told = c.args.told.now.items in
    let ps = asked (change_of d) in
    let head = to.Pending d.request.within ∷ [] in
    let rest = map to.Reopen ps ++ to.Abandon ∷ [] in
    let roots = flat_map (root_at d.core.state) c.deref.result.now in
    let t = c.in_ok-given.ensures es st in
    record {
      answer_is = t.answer_is;
      lines = t.lines
          ∙ ap (λ xs. xs ++ rest) (c.in_ok-push_roots.ensures ∙ ap (λ xs. xs ++ roots) c.in_ok-push.ensures.items)
          ∙ append_assoc (told ++ head) roots rest ∙ append_assoc told head (roots ++ rest)
          ∙ ap (λ r. told ++ (head ++ (r ++ rest)))
          (ap (flat_map (root_at d.core.state)) (c.deref.ensures.value ∙ st.asked_are) ∙ ap (λ x. flat_map (root_at x) ps) st.state);
      change = t.change;
      scene = t.scene;
      holds = t.holds;
    }
