use Rattle.std.proofs.Common.{◌≡◌, ◌∙◌, ◌+◌, ◌<◌, ℕ, Bool, false, List, ap, arith, get_or, length, subst, sym, take}
use Rattle.std.specs.Prelude.{replicate}
use Rattle.std.proofs.lemmas.Bool.{false≢true}
use Rattle.std.proofs.lemmas.List.{length-replicate}
use Rattle.change_plan.specs.PlanWithin.{IsPlanWithin}
use Rattle.change_plan.specs.Plans.{IsPlanOf}
use Rattle.change_plan.specs.Refusals.{CanPlan}
use Rattle.change_plan.specs.Selects.{Selects}
use Rattle.change_parts.specs.Parts.{stage_after}
use Rattle.change_parts.specs.Stages.{IsAfter}
use Rattle.change_parts.specs.declared.part.Part.{Part}
use Rattle.change_parts.specs.Groupings.{applied_up_to}
use Rattle.change_parts.specs.Owning.{IsOwn}
use Rattle.change_parts.specs.Staging.{IsApplied}
use Rattle.change_parts.proofs.PartingLemmas.{Progress, grouping_end, grouping_more, grouping_part, grouping_start, part_can}
use Rattle.change_parts.proofs.parting.list_parts.Goals as goal
use Rattle.change_parts.proofs.parting.list_parts.Goals.{then-not-branch+in_ok-own+in_ok-part+in_ok-push, else-not-branch}

pub loop-last-init : goal.loop-last-init
loop-last-init c = λ w.
    let g = c.args.grouping.now in
    let before = c.in_ok-before.before.items in
    let are : before ≡ replicate c.len.result false = c.in_ok-before.ensures.items_if_clones_equal (λ y h. h) in
    let long : length before ≡ c.len.result = ap length are ∙ length-replicate c.len.result false in
    let count : c.len.result ≡ length g.least.items = omega (arith, c.len.ensures) in
    subst (λ (ps : List Part). Progress c.args.old.now c.args.new.now c.args.moves.now w.groups g.members.nodes.items 0 ps before) (sym c.new-parts.ensures.items)
    (grouping_start c.args.old.now c.args.new.now c.args.moves.now g w before (are ∙ ap (λ n. replicate n false) (sym long)) (long ∙ count))

pub stage-requires-clause-applied : goal.stage-requires-clause-applied
stage-requires-clause-applied c =
    let w = c.requires.grouping in
    let g = c.args.grouping.now in
    let i = c.loop-last.last-index in
    let inside : i < length g.firsts.items = subst (λ (xs : List ℕ). i < length xs) c.deref-last-items.ensures.value c.loop-last-test.true in
    let applied_is : c.deref-in-loop-last.result.now ≡ applied_up_to g.least.items (get_or g.firsts.items i 0) =
    c.deref-in-loop-last.ensures.value ∙ c.in_ok-applied.ensures ∙ (λ q. applied_up_to (c.deref.ensures.value q) (get_or (c.deref-last-items.ensures.value q) i 0)) in
    (c.args.moves.now, take (i + 1) w.groups, subst (IsApplied c.args.old.now c.args.new.now c.args.moves.now (take (i + 1) w.groups) g.members.nodes.items) (sym applied_is) (w.applied i inside))

pub part_to-requires : goal.part_to-requires
part_to-requires c =
    let old = c.args.old.now in
    let new = c.args.new.now in
    let moves = c.args.moves.now in
    let w = c.requires.grouping in
    let g = c.args.grouping.now in
    let i = c.loop-last.last-index in
    let parts = c.loop-last.parts.items in
    let before = c.loop-last.before.items in
    let applied = c.in_ok-applied.applied.items in
    let next = c.in_ok-next.next in
    let own = c.in_ok-own.own.items in
    let inside : i < length g.firsts.items = subst (λ (xs : List ℕ). i < length xs) c.deref-last-items.ensures.value c.loop-last-test.true in
    let applied_is : applied ≡ applied_up_to g.least.items (get_or g.firsts.items i 0) =
    c.in_ok-applied.ensures ∙ (λ q. applied_up_to (c.deref.ensures.value q) (get_or (c.deref-last-items.ensures.value q) i 0)) in
    let is_applied = subst (IsApplied old new moves (take (i + 1) w.groups) g.members.nodes.items) (sym applied_is) (w.applied i inside) in
    let next_is : IsAfter old new moves (take (i + 1) w.groups) old next =
    c.in_ok-next.ensures.after moves (take (i + 1) w.groups) (subst (IsApplied old new moves (take (i + 1) w.groups) g.members.nodes.items) (sym c.deref-in-loop-last.ensures.value) is_applied) in
    let chosen : Selects (IsOwn old g.members.of_old.items before applied) moves own =
    subst (λ (z : List ℕ × (List Bool × List Bool)). Selects (IsOwn old z.0 z.1.0 z.1.1) moves own)
    (λ q. (c.deref-then-not-branch.ensures.value q, (c.deref-then-not-branch-2.ensures.value q, c.deref-then-not-branch-3.ensures.value q))) c.in_ok-own.ensures in
    let stage_is : c.last_stage.result.now ≡ stage_after old parts (length parts) =
    c.last_stage.ensures ∙ (λ q. stage_after old (c.deref-then-not-branch-4.ensures.value q) (length (c.deref-then-not-branch-4.ensures.value q))) in
    subst (λ s. CanPlan s next own c.args.made) (sym stage_is)
    (part_can old new moves g w i parts before applied next (c.loop-last.invariant w) inside next_is is_applied c.args.made c.requires.can own chosen c.requires.old c.requires.new)

pub loop-last-preserved : goal.loop-last-preserved
loop-last-preserved c = λ w.
    let old = c.args.old.now in
    let new = c.args.new.now in
    let moves = c.args.moves.now in
    let g = c.args.grouping.now in
    let nodes = g.members.nodes.items in
    let i = c.loop-last.last-index in
    let parts = c.loop-last.parts.items in
    let before = c.loop-last.before.items in
    let applied = c.in_ok-applied.applied.items in
    let next = c.in_ok-next.next in
    let so_far = c.loop-last.invariant w in
    let inside : i < length g.firsts.items = subst (λ (xs : List ℕ). i < length xs) c.deref-last-items.ensures.value c.loop-last-test.true in
    let applied_is : applied ≡ applied_up_to g.least.items (get_or g.firsts.items i 0) =
    c.in_ok-applied.ensures ∙ (λ q. applied_up_to (c.deref.ensures.value q) (get_or (c.deref-last-items.ensures.value q) i 0)) in
    let is_applied = subst (IsApplied old new moves (take (i + 1) w.groups) nodes) (sym applied_is) (w.applied i inside) in
    let next_is : IsAfter old new moves (take (i + 1) w.groups) old next =
    c.in_ok-next.ensures.after moves (take (i + 1) w.groups) (subst (IsApplied old new moves (take (i + 1) w.groups) nodes) (sym c.deref-in-loop-last.ensures.value) is_applied) in
    let onward = λ (z : List Part × List Bool). Progress old new moves w.groups nodes (i + 1) z.0 z.1 in
    elim c.if-not-branch.branch [
      | then-not-branch+in_ok-own+in_ok-part+in_ok-push v ↦
          let own = v.in_ok-own.own.items in
          let part = v.in_ok-part.part in
          let chosen : Selects (IsOwn old g.members.of_old.items before applied) moves own =
          subst (λ (z : List ℕ × (List Bool × List Bool)). Selects (IsOwn old z.0 z.1.0 z.1.1) moves own)
          (λ q. (v.deref-then-not-branch.ensures.value q, (v.deref-then-not-branch-2.ensures.value q, v.deref-then-not-branch-3.ensures.value q))) v.in_ok-own.ensures in
          let stage_is : v.last_stage.result.now ≡ stage_after old parts (length parts) =
          v.last_stage.ensures ∙ (λ q. stage_after old (v.deref-then-not-branch-4.ensures.value q) (length (v.deref-then-not-branch-4.ensures.value q))) in
          let parts_is = ap (λ l. l.items) v.parts-is ∙ v.in_ok-push.ensures.items in
          let before_is = ap (λ l. l.items) v.before-is in
          subst onward (λ q. (sym parts_is q, sym before_is q))
          (grouping_part old new moves g w i parts before applied next so_far inside next_is is_applied c.args.made c.requires.can own chosen part v.in_ok-part.ensures.next v.in_ok-part.ensures.moves
          (λ cycle. false≢true (sym v.if-not-branch.true ∙ c.in_ok-has_cycle.ensures.1 cycle))
          (subst (λ s. IsPlanOf s next own part.plan) stage_is v.in_ok-part.ensures.plan)
          (subst (λ s. IsPlanWithin s next part.plan) stage_is v.in_ok-part.ensures.within) c.in_ok-next.ensures.graph)
      | else-not-branch v ↦
          let parts_is = ap (λ l. l.items) v.parts-is in
          let before_is = ap (λ l. l.items) v.before-is in
          subst onward (λ q. (sym parts_is q, sym before_is q))
          (grouping_more old new moves g w i parts before next so_far next_is (c.in_ok-has_cycle.ensures.0 v.if-not-branch.false))
    ]

pub returns-clause-parts : goal.returns-clause-parts
returns-clause-parts c =
    let w = c.requires.grouping in
    let g = c.args.grouping.now in
    let last : c.loop-last.last-index ≡ length g.firsts.items = omega (arith, c.loop-last-test.false, c.loop-last.auto.last-index-end, ap length c.deref-last-items.ensures.value) in
    grouping_end c.args.old.now c.args.new.now c.args.moves.now g w c.loop-last.last-index c.loop-last.parts.items c.loop-last.before.items (c.loop-last.invariant w) last c.requires.new

pub returns-clause-within : goal.returns-clause-within
returns-clause-within c = (c.loop-last.invariant c.requires.grouping).within

pub returns-clause-graphs : goal.returns-clause-graphs
returns-clause-graphs c = (c.loop-last.invariant c.requires.grouping).graphs

pub returns-clause-few : goal.returns-clause-few
returns-clause-few c =
    let w = c.requires.grouping in
    let so_far = c.loop-last.invariant w in
    let last : c.loop-last.last-index ≡ length c.args.grouping.now.firsts.items = omega (arith, c.loop-last-test.false, c.loop-last.auto.last-index-end, ap length c.deref-last-items.ensures.value) in
    omega (arith, so_far.as_few, so_far.few, last, w.few_groups)
