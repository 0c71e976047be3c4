use Rattle.std.proofs.Common.{◌≡◌, ◌∙◌, ◌<◌, ℕ, List, All, length, ap, sym, subst, arith}
use Rattle.std.specs.List.{range_with_len}
use Rattle.change_plan.specs.Selects.{Selects}
use Rattle.change_parts.specs.Classes.{AreClasses, IsTieBelow}
use Rattle.change_parts.specs.Groupings.{LeadsIn}
use Rattle.change_parts.proofs.GroupingLemmas.{changed_below, grouping_is, ties_below}
use Rattle.change_parts.proofs.groups.Grouping.of.Goals as goal

pub list_least-requires : goal.list_least-requires
list_least-requires c =
    let m = c.in_ok-members.members in
    let ties = c.deref.ensures.value ∙ c.in_ok-ties.ensures in
    let count : c.len.result ≡ length m.nodes.items = omega (arith, c.len.ensures) in
    subst (λ (w : List (ℕ × ℕ) × ℕ). All (IsTieBelow w.1) w.0) (λ q. (sym ties q, sym count q))
    (ties_below c.args.old.now c.args.new.now m c.in_ok-members.ensures.index c.requires.0 c.args.plan.now c.requires.1)

pub list_firsts-requires : goal.list_firsts-requires
list_firsts-requires c =
    let m = c.in_ok-members.members in
    let count : c.len.result ≡ length m.nodes.items = omega (arith, c.len.ensures) in
    let long : length c.deref-2.result.now ≡ length m.nodes.items = ap length c.deref-2.ensures.value ∙ c.in_ok-least.ensures.long ∙ count in
    let changed = c.deref-3.ensures.value ∙ c.in_ok-changed.ensures in
    record {
      few = omega (arith, long, c.in_ok-members.ensures.few);
      within = subst (λ (w : List ℕ × ℕ). All (λ k. k < w.1) w.0) (λ q. (sym changed q, sym long q))
          (changed_below c.args.old.now c.args.new.now m c.in_ok-members.ensures.index c.requires.0 c.args.plan.now c.requires.1);
    }

pub returns : goal.returns
returns c =
    let m = c.in_ok-members.members in
    let count : c.len.result ≡ length m.nodes.items = omega (arith, c.len.ensures) in
    let ties = c.deref.ensures.value ∙ c.in_ok-ties.ensures in
    let changed = c.deref-3.ensures.value ∙ c.in_ok-changed.ensures in
    let least = c.in_ok-least.least in
    let firsts = c.in_ok-firsts.firsts in
    λ moves plan. grouping_is c.args.old.now c.args.new.now (record { members = m; least = least; firsts = firsts }) c.in_ok-members.ensures.index c.in_ok-members.ensures.few moves c.args.plan.now plan
    (subst (λ (xs : List (ℕ × ℕ)). AreClasses xs least.items) ties c.in_ok-least.ensures.classes)
    (c.in_ok-least.ensures.long ∙ count)
    (subst (λ (w : List ℕ × List ℕ). Selects (LeadsIn w.0 w.1) (range_with_len 0 (length w.0)) firsts.items) (λ q. (c.deref-2.ensures.value q, changed q)) c.in_ok-firsts.ensures)
