-- There is one plan with given moves.
use Rattle.std.proofs.Common.{◌≡◌, ◌∙◌, ℕ, ◌<◌, List, map, length, sym, ap, arith, get_or}
use Rattle.std.specs.Prelude.{AllPairs}
use Rattle.std.specs.List.{range_with_len}
use Rattle.std.specs.List.Sorted.{IsStrictlyIncreasing}
use Rattle.std.proofs.lemmas.List.{get_or-map, length-map}
use Rattle.std.proofs.lemmas.List.Kept.{AllPairs-from_increasing}
use Rattle.base.proofs.OrderedLaws.{one_order}
use Rattle.config_graph.specs.Graph.{Graph}
use Rattle.change_plan.specs.Differences.{IsGone, IsKeptLink, link_port}
use Rattle.change_plan.specs.Plans.{IsPlanOf}
use Rattle.change_plan.specs.declared.plan_data.Move.{Move}
use Rattle.change_plan.specs.declared.plan_data.Plan.{Plan}
use Rattle.change_plan.specs.declared.plan_data.Shift.{Shift}
use Rattle.change_plan.proofs.SelectsLaws.{Selects-one}

shifts_rise : (shifts : List Shift) → IsStrictlyIncreasing (map (λ (s : Shift). s.new) shifts) → AllPairs (λ (s t : Shift). s.new < t.new) shifts
shifts_rise shifts rise i j d below inside =
    let news = map (λ (s : Shift). s.new) shifts in
    let low : get_or news i d.new < get_or news j d.new = AllPairs-from_increasing news rise i j d.new below (omega (arith, inside, length-map shifts (λ (s : Shift). s.new))) in
    omega (arith, low, get_or-map (λ (s : Shift). s.new) shifts i d d.new (omega (arith, below, inside)), get_or-map (λ (s : Shift). s.new) shifts j d d.new (omega (arith, inside)))

pub one_plan : (old new : Graph) (moves : List Move) (p q : Plan) → IsPlanOf old new moves p → IsPlanOf old new moves q → p ≡ q
one_plan old new moves p q a b =
    let freeze : p.freeze ≡ q.freeze =
    one_order (λ x y. x < y) (λ x y below above. omega (arith, below, above)) p.freeze q.freeze (AllPairs-from_increasing p.freeze a.freeze_rises) (AllPairs-from_increasing q.freeze b.freeze_rises)
    (λ i held. (b.steps.freeze i).1 ((a.steps.freeze i).0 held)) (λ i held. (a.steps.freeze i).1 ((b.steps.freeze i).0 held)) in
    let unlink : p.unlink ≡ q.unlink =
    a.steps.unlink.2 ∙ ap (map link_port) (Selects-one (λ k. ¬ IsKeptLink old new k) old.links a.steps.unlink.0 b.steps.unlink.0 a.steps.unlink.1 b.steps.unlink.1) ∙ sym b.steps.unlink.2 in
    let remove : p.remove ≡ q.remove = Selects-one (IsGone old new) (range_with_len 0 (length old.nodes)) p.remove q.remove a.steps.remove b.steps.remove in
    let create : p.create ≡ q.create = Selects-one (IsGone new old) (range_with_len 0 (length new.nodes)) p.create q.create a.steps.create b.steps.create in
    let link : p.link ≡ q.link = Selects-one (λ k. ¬ IsKeptLink new old k) new.links p.link q.link a.steps.link b.steps.link in
    let shifts : p.moves ≡ q.moves =
    one_order (λ (s t : Shift). s.new < t.new) (λ s t x y. omega (arith, x, y)) p.moves q.moves (shifts_rise p.moves a.moves.rise) (shifts_rise q.moves b.moves.rise)
    (λ s held. b.moves.complete s (a.moves.sound s held)) (λ s held. a.moves.complete s (b.moves.sound s held)) in
    λ i. record { unlink = unlink i; remove = remove i; create = create i; link = link i; moves = shifts i; freeze = freeze i }
