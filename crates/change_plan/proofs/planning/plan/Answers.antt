use Rattle.std.proofs.Common.{◌<◌, ◌^◌, ◌↔◌, ℕ, All, Contains, List, length, subst, sum_by, sym}
use Rattle.std.specs.List.Sorted.{IsStrictlyIncreasing}
use Rattle.std.proofs.lemmas.Result.{err_from_is_err_and}
use Rattle.config_graph.specs.Graph.{IsLinkWithin, requires_at}
use Rattle.config_graph.specs.Enlarged.{Enlarged}
use Rattle.change_plan.specs.Differences.{GoneLinks, GoneNodes, GonePorts}
use Rattle.change_plan.specs.Moves.{IsShifts}
use Rattle.config_graph.specs.declared.node.Port.{Port}
use Rattle.change_plan.proofs.PlanningLemmas.{enlarged_touched, gone_few, gone_links_within, gone_ports_few, gone_ports_within, gone_within, touched_within}
use Rattle.change_plan.proofs.RefusalLemmas.{accepted_but, move_refused, no_refusal, refused_by, room_refused, wanted_by}
use Rattle.change_plan.proofs.planning.plan.Goals as goal

pub returns-in_err-shifts-clause-accepts : goal.returns-in_err-shifts-clause-accepts
returns-in_err-shifts-clause-accepts c =
    let old = c.args.old.now in
    let new = c.args.new.now in
    let moves = c.args.moves.now in
    let told = c.in_err-shifts.ensures in
    let h = err_from_is_err_and c.from_residual.result c.from_residual.ensures.1 in
    λ can. rw (h.1, h.2) (accepted_but old new told.old told.new moves c.args.made _ (move_refused old new moves c.args.made _ told.refused) can)

pub returns-in_err-shifts-clause-refuses : goal.returns-in_err-shifts-clause-refuses
returns-in_err-shifts-clause-refuses c =
    let old = c.args.old.now in
    let new = c.args.new.now in
    let moves = c.args.moves.now in
    let told = c.in_err-shifts.ensures in
    let h = err_from_is_err_and c.from_residual.result c.from_residual.ensures.1 in
    λ e refusal. rw (h.1, h.2) (refused_by old new told.old told.new moves c.args.made _ (move_refused old new moves c.args.made _ told.refused) e refusal)

pub require_room_to_create-requires-clause-within : goal.require_room_to_create-requires-clause-within
require_room_to_create-requires-clause-within c =
    let new = c.args.new.now in
    subst (All (λ i. i < length new.nodes)) (sym c.deref.ensures.value) (gone_within new c.args.old.now c.in_ok-shifts.ensures.new c.in_ok-create.create.items c.in_ok-create.ensures.gone)

pub require_room_to_create-requires-clause-few_nodes : goal.require_room_to_create-requires-clause-few_nodes
require_room_to_create-requires-clause-few_nodes c =
    subst (λ (create : List ℕ). length create < 2 ^ 32) (sym c.deref.ensures.value) (gone_few c.args.new.now c.args.old.now c.in_ok-shifts.ensures.new c.in_ok-create.create.items c.in_ok-create.ensures.gone)

pub require_room_to_create-requires-clause-few_ports : goal.require_room_to_create-requires-clause-few_ports
require_room_to_create-requires-clause-few_ports c =
    let new = c.args.new.now in
    subst (λ (create : List ℕ). sum_by (requires_at new.nodes) create < 2 ^ 32) (sym c.deref.ensures.value) (gone_ports_few new c.args.old.now c.in_ok-shifts.ensures.new c.in_ok-create.create.items c.in_ok-create.ensures.gone)

pub returns-in_err-require_room_to_create-clause-accepts : goal.returns-in_err-require_room_to_create-clause-accepts
returns-in_err-require_room_to_create-clause-accepts c =
    let old = c.args.old.now in
    let new = c.args.new.now in
    let moves = c.args.moves.now in
    let told = c.in_ok-shifts.ensures in
    let h = err_from_is_err_and c.from_residual-in_err-require_room_to_create.result c.from_residual-in_err-require_room_to_create.ensures.1 in
    λ can. rw (h.1, h.2) (accepted_but old new told.old told.new moves c.args.made _ (room_refused old new moves c.args.made _ c.in_ok-create.create.items c.deref.result.now c.deref.ensures.value c.in_ok-create.ensures.gone told.may_move c.in_err-require_room_to_create.ensures.refused) can)

pub returns-in_err-require_room_to_create-clause-refuses : goal.returns-in_err-require_room_to_create-clause-refuses
returns-in_err-require_room_to_create-clause-refuses c =
    let old = c.args.old.now in
    let new = c.args.new.now in
    let moves = c.args.moves.now in
    let told = c.in_ok-shifts.ensures in
    let h = err_from_is_err_and c.from_residual-in_err-require_room_to_create.result c.from_residual-in_err-require_room_to_create.ensures.1 in
    λ e refusal. rw (h.1, h.2) (refused_by old new told.old told.new moves c.args.made _ (room_refused old new moves c.args.made _ c.in_ok-create.create.items c.deref.result.now c.deref.ensures.value c.in_ok-create.ensures.gone told.may_move c.in_err-require_room_to_create.ensures.refused) e refusal)

pub enlarged-requires : goal.enlarged-requires
enlarged-requires c =
    let old = c.args.old.now in
    subst (All (λ i. i < length old.nodes)) (sym c.deref-2.ensures.value) (touched_within old c.args.new.now c.in_ok-touched.touched.items c.in_ok-touched.ensures)

pub returns-clause-plan : goal.returns-clause-plan
returns-clause-plan c =
    let old = c.args.old.now in
    let new = c.args.new.now in
    let asked = c.args.moves.now in
    let touched = c.in_ok-touched.touched.items in
    let same = enlarged_touched old new touched c.in_ok-touched.ensures in
    let is = λ (freeze nodes : List ℕ). (i : ℕ) → Contains freeze i ↔ Enlarged old (Contains nodes) i in
    let members : is c.of-6.result touched = subst (λ freeze. is freeze touched) (sym c.of-6.ensures) (subst (is c.in_ok-enlarged.field-0.items) c.deref-2.ensures.value c.in_ok-enlarged.ensures.members) in
    record {
      steps = record {
        unlink = subst (GonePorts old new) (sym c.of.ensures) c.in_ok-list_gone_ports.ensures;
        remove = subst (GoneNodes old new) (sym c.of-2.ensures) c.in_ok-list_gone.ensures.gone;
        create = subst (GoneNodes new old) (sym c.of-3.ensures) c.in_ok-create.ensures.gone;
        link = subst (GoneLinks new old) (sym c.of-4.ensures) c.in_ok-list_gone_links.ensures;
        freeze = λ i. (λ there. (same i).0 ((members i).0 there), λ frozen. (members i).1 ((same i).1 frozen));
      };
      moves = subst (IsShifts old new asked) (sym c.of-5.ensures) c.in_ok-shifts.ensures.shifts;
      freeze_rises = subst IsStrictlyIncreasing (sym c.of-6.ensures) c.in_ok-enlarged.ensures.rising;
    }

pub returns-clause-within : goal.returns-clause-within
returns-clause-within c =
    let old = c.args.old.now in
    let new = c.args.new.now in
    let told = c.in_ok-shifts.ensures in
    record {
      freeze = subst (All (λ i. i < length old.nodes)) (sym c.of-6.ensures) c.in_ok-enlarged.ensures.within;
      unlink = subst (All (λ (q : Port). q.require < requires_at old.nodes q.node)) (sym c.of.ensures) (gone_ports_within old new told.old c.in_ok-list_gone_ports.field-0.items c.in_ok-list_gone_ports.ensures);
      remove = subst (All (λ i. i < length old.nodes)) (sym c.of-2.ensures) (gone_within old new told.old c.in_ok-list_gone.field-0.items c.in_ok-list_gone.ensures.gone);
      create = subst (All (λ i. i < length new.nodes)) (sym c.of-3.ensures) (gone_within new old told.new c.in_ok-create.create.items c.in_ok-create.ensures.gone);
      link = subst (All (IsLinkWithin new.nodes)) (sym c.of-4.ensures) (gone_links_within new old told.new c.in_ok-list_gone_links.field-0.items c.in_ok-list_gone_links.ensures);
    }

pub returns-clause-accepted : goal.returns-clause-accepted
returns-clause-accepted c = record {
  may_move = c.in_ok-shifts.ensures.may_move;
  nodes = length c.deref.result.now;
  ports = sum_by (requires_at c.args.new.now.nodes) c.deref.result.now;
  wanted = wanted_by c.args.old.now c.args.new.now c.in_ok-create.create.items c.deref.result.now c.deref.ensures.value c.in_ok-create.ensures.gone;
  room = c.in_ok-require_room_to_create.ensures.room;
}

pub returns-clause-refuses : goal.returns-clause-refuses
returns-clause-refuses c =
    let told = c.in_ok-shifts.ensures in
    λ e refusal. no_refusal c.args.old.now c.args.new.now told.old told.new c.args.moves.now c.args.made e (record {
      may_move = told.may_move;
      nodes = length c.deref.result.now;
      ports = sum_by (requires_at c.args.new.now.nodes) c.deref.result.now;
      wanted = wanted_by c.args.old.now c.args.new.now c.in_ok-create.create.items c.deref.result.now c.deref.ensures.value c.in_ok-create.ensures.gone;
      room = c.in_ok-require_room_to_create.ensures.room;
    }) refusal
