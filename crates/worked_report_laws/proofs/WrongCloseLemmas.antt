-- A port is closed for no change that freezes nothing, nor before the change is named.
use Rattle.std.proofs.Common.{◌≡◌, ◌∙◌, ℕ, Bool, true, false, List, [], ◌∷◌, ◌++◌, length, map, sym, refl, ap, subst, arith}
use Rattle.std.specs.Prelude.{ℤ, codes, drop, pos, take}
use Rattle.std.proofs.lemmas.Bool.{both_ways}
use Rattle.std.proofs.lemmas.List.{length-append}
use Rattle.base.proofs.PlaceLaws.{heads_are, tails_are}
use Rattle.config_graph.specs.Graph.{Graph}
use Rattle.config_graph.proofs.GraphByLaws.{one_graph}
use Rattle.change_plan.specs.Plans.{IsPlanOf}
use Rattle.change_plan.specs.declared.plan_data.Move.{Move}
use Rattle.change_plan_laws.specs.Commit.{ports_to_close}
use Rattle.quiesce_core.specs.Live.{AreLinked, IsGraphOf, IsLiveNode}
use Rattle.report_types.specs.declared.report.HistoryLine.{HistoryLine}
use Rattle.report_types.specs.declared.report.HistoryLine.TheVariants as to
use Rattle.change_spec.specs.Closings.{IsClosedFor}
use Rattle.change_spec.specs.Follows.{Part, lines_of}
use Rattle.change_spec.specs.Planning.{planned}
use Rattle.change_spec.specs.Scene.{config_after}
use Rattle.change_spec.specs.Statements.{Statement, start, change}
use Rattle.change_spec.proofs.PlanningLaws.{planned_so}
use Rattle.change_plan.proofs.PlanLaws.{one_plan}
use Rattle.change_spec.proofs.StandingLaws.{graph_by}
use Rattle.change_plan_laws.specs.Systems.{line}
use Rattle.worked_report_laws.specs.WrongChanges.{closed_for_nothing, parts_for_nothing}

abbrev is_change : Statement → Bool
is_change (change name args g within moves) = true
is_change _ = false

abbrev graph_in : Statement → Graph
graph_in (change name args g within moves) = g
graph_in _ = line 10

abbrev moves_in : Statement → List Move
moves_in (change name args g within moves) = moves
moves_in _ = []

abbrev first_part : Part
first_part = record { statement = start (codes "Line") (pos 3 ∷ pos 10 ∷ []) (line 10); lines = take 9 closed_for_nothing }

abbrev own_part : List ℕ → List ℤ → Graph → ℕ → List Move → List HistoryLine → Part
own_part name args g within moves lines = record { statement = change name args g within moves; lines = lines }

abbrev second_part : Part
second_part = own_part (codes "Line") (pos 3 ∷ pos 10 ∷ []) (line 10) 0 [] (take 8 (drop 9 closed_for_nothing))

abbrev later_parts : List Part
later_parts = second_part ∷ []

-- the change stands behind the start
record IsOwn (done : List Part) (s : Statement) : Type 0 where
  done_is : lines_of done ≡ take 9 closed_for_nothing
  graph_is : graph_in s ≡ line 10
  moves_are : moves_in s ≡ []

own : (done later : List Part) (p : Part) → parts_for_nothing ≡ done ++ p ∷ later → is_change p.statement ≡ true → IsOwn done p.statement
own [] later p is h =
    absurd (both_ways (is_change p.statement) (ap (λ (x : Part). is_change x.statement) (sym (heads_are first_part p later_parts later is))) h)
own (d ∷ []) later p is h =
    let first = heads_are first_part d later_parts (p ∷ later) is in
    let second = heads_are second_part p [] later (tails_are first_part d later_parts (p ∷ later) is) in
    record {
      done_is = ap (λ (x : Part). x.lines ++ []) (sym first);
      graph_is = ap (λ (x : Part). graph_in x.statement) (sym second);
      moves_are = ap (λ (x : Part). moves_in x.statement) (sym second);
    }
own (d ∷ (e ∷ done)) later p is h =
    let rest = tails_are second_part e [] (done ++ p ∷ later) (tails_are first_part d later_parts (e ∷ (done ++ p ∷ later)) is) in
    let n = ap length rest ∙ length-append done (p ∷ later) in absurd (omega (arith, n))

abbrev here : List HistoryLine
here = take 9 closed_for_nothing

pub not_closed_for_it : IsClosedFor parts_for_nothing (take 10 closed_for_nothing) 0 → ⊥
not_closed_for_it c =
    let w = own c.done c.later (own_part c.name c.args c.graph c.within c.moves c.lines) c.asked refl in
    let stands : IsGraphOf (config_after here) c.old = subst (λ ls. IsGraphOf (config_after ls) c.old) w.done_is c.is_old in
    let old : c.old ≡ line 10 = one_graph (IsLiveNode (config_after here)) (AreLinked (config_after here)) c.old (line 10) stands (graph_by (config_after here) (line 10) refl) in
    let graph : c.graph ≡ line 10 = w.graph_is in
    let moves : c.moves ≡ [] = w.moves_are in
    let plan : IsPlanOf (line 10) (line 10) [] c.plan =
    subst (λ g. IsPlanOf g (line 10) [] c.plan) old (subst (λ g. IsPlanOf c.old g [] c.plan) graph (subst (λ ms. IsPlanOf c.old c.graph ms c.plan) moves c.is_plan)) in
    let none : ports_to_close (line 10) c.plan (config_after here) ≡ [] =
    ap (λ q. ports_to_close (line 10) q (config_after here)) (one_plan (line 10) (line 10) [] c.plan (planned (line 10) (line 10) []) plan (planned_so (line 10) (line 10) [] refl)) in
    let some_ : ports_to_close (line 10) c.plan (config_after here) ≡ c.first ++ 0 ∷ c.last =
    sym (λ i. ports_to_close (old i) c.plan (config_after (w.done_is i))) ∙ c.closes in
    let n = ap length (sym none ∙ some_) ∙ length-append c.first (0 ∷ c.last) in
    omega (arith, n)

-- the lines before a close name its change
pub not_closed_first : IsClosedFor parts_for_nothing [] 0 → ⊥
not_closed_first c =
    let n = ap length c.place ∙ length-append (lines_of c.done) (to.Change c.name c.args ∷ map to.Close c.first) in omega (arith, n)
