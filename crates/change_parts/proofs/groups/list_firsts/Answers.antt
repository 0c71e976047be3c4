use Rattle.std.proofs.Common.{◌≡◌, ◌∙◌, false, get_or, length, filter, sym, subst}
use Rattle.std.specs.List.{range_with_len}
use Rattle.change_plan.specs.Selects.{Selects}
use Rattle.change_parts.specs.Groupings.{LeadsIn, leads}
use Rattle.change_parts.proofs.PairLemmas.{leads_selected, range_inside}
use Rattle.change_parts.proofs.groups.list_firsts.Goals as goal
use Rattle.std.proofs.lemmas.Result.{IfOk-weaker}

pub returns : goal.returns
returns c =
    let least = c.args.least.now in
    let changed = c.args.changed.now in
    let marks = c.deref.result.now in
    let range = range_with_len 0 (length least) in
    IfOk-weaker c.list_leads.result (λ v. v.items ≡ filter (leads least marks) range) (λ v. Selects (LeadsIn least changed) range v.items) (λ v is. subst (Selects (LeadsIn least changed) range) (sym is)
    (leads_selected least changed marks (λ k. (λ q. get_or (c.deref.ensures.value q) k false) ∙ c.in_ok-marks.ensures k) range (range_inside (length least)))) c.list_leads.ensures
