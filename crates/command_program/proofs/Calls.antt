-- What a start, a change or another step adds to what was asked for.
use Rattle.std.proofs.Common.{◌≡◌, ◌∙◌, ◌++◌, ◌∷◌, [], List, Option, Some, None, IfSome, length, sum_by, append_assoc, refl, sym, ap, subst}
use Rattle.std.specs.Prelude.{IsSome}
use Rattle.std.proofs.lemmas.List.{map-append}
use Rattle.config_graph.specs.Graph.{Graph, IsGraph, requires_at}
use Rattle.config_graph.specs.Sound.{Sound}
use Rattle.config_graph.specs.declared.node.Made.{Made}
use Rattle.change_spec.specs.Scripts.{more_made}
use Rattle.change_spec.specs.Statements.{Statement, start, change}
use Rattle.change_plan.specs.Refusals.{CreatesSoMany}
use Rattle.change_plan.specs.Room.{HasRoomFor}
use Rattle.change_plan.proofs.RoomLaws.{one_wanted}
use Rattle.change_spec.specs.Asked.{Above, CanChange, CanDoAll, after_change, after_start, statement_of, statements_of, graph_behind, made_with_change}
use Rattle.change_spec.specs.declared.steps.Replacement.{Replacement}
use Rattle.change_spec.specs.declared.steps.Start.{Start}
use Rattle.change_spec.specs.declared.steps.Step.{Step}
use Rattle.change_spec.specs.declared.steps.Step.TheVariants as steps
use Rattle.command_program.specs.Ways.{CanFollow, HasAsked, IsNoChange, IsAskedSoFar, last_graph, made_with_graph}

-- the graph behind one step more
graph_behind_change : (g : Graph) (xs : List Step) (c : Replacement) → last_graph g (xs ++ steps.Change c ∷ []) ≡ c.graph
graph_behind_change g [] c = refl
graph_behind_change g (x ∷ xs) c = graph_behind_change (graph_behind g x) xs c

same_behind : (g : Graph) (step : Step) → IsNoChange step → graph_behind g step ≡ g
same_behind g (steps.Run k) none = refl
same_behind g (steps.Change c) none = absurd none
same_behind g (steps.Finish n) none = refl
same_behind g steps.Show none = refl

graph_behind_step : (g : Graph) (xs : List Step) (step : Step) → IsNoChange step → last_graph g (xs ++ step ∷ []) ≡ last_graph g xs
graph_behind_step g [] step none = same_behind g step none
graph_behind_step g (x ∷ xs) step none = graph_behind_step (graph_behind g x) xs step none

do_behind_step : (above : Above) (step : Step) (more_ : List Step) → IsNoChange step → CanDoAll above more_ → CanDoAll above (step ∷ more_)
do_behind_step above (steps.Run k) more_ none can = can
do_behind_step above (steps.Change c) more_ none can = absurd none
do_behind_step above (steps.Finish n) more_ none can = can
do_behind_step above steps.Show more_ none can = can

said_behind : (s : Start) (xs : List Step) (step : Step) (said : List Statement) → said ≡ statements_of s xs → said ++ statement_of step ∷ [] ≡ statements_of s (xs ++ step ∷ [])
said_behind s xs step said are =
    ap (λ ys. ys ++ statement_of step ∷ []) are ∙ ap (λ ys. start s.name s.args s.graph ∷ ys) (sym (map-append statement_of xs (step ∷ [])))

-- a start
pub begins : (s : Start) (xs : List Step) (made : Made) (said : List Statement) (graphs : List Graph) → Sound s.graph → HasRoomFor made s.graph → IsAskedSoFar None xs made said graphs
    → IsAskedSoFar (Some s) xs (made_with_graph made s.graph) (said ++ start s.name s.args s.graph ∷ []) (s.graph ∷ graphs)
begins s xs made said graphs sound room before =
    subst (λ ys. HasAsked s ys (made_with_graph made s.graph) (said ++ start s.name s.args s.graph ∷ []) (s.graph ∷ graphs)) (sym before.0)
    (subst (λ m. HasAsked s [] (made_with_graph m s.graph) (said ++ start s.name s.args s.graph ∷ []) (s.graph ∷ graphs)) (sym before.1)
    (record {
      may = record { can_start = record { sound = sound; room = subst (λ m. HasRoomFor m s.graph) before.1 room }; can_do = λ more_ can. can };
      said_are = ap (λ ys. ys ++ start s.name s.args s.graph ∷ []) before.2;
      earlier = graphs;
      graphs_are = refl;
    }))

-- a change
module _ (s : Start) (xs : List Step) (made : Made) (c : Replacement) where
  change_may : CanFollow (last_graph s.graph xs) made c → IsGraph c.graph
      → ((more_ : List Step) → CanDoAll (record { graph = last_graph s.graph xs; made = made }) more_ → CanDoAll (after_start s) (xs ++ more_))
      → (more_ : List Step) → CanDoAll (record { graph = last_graph s.graph (xs ++ steps.Change c ∷ []); made = made_with_change made c }) more_
      → CanDoAll (after_start s) ((xs ++ steps.Change c ∷ []) ++ more_)
  change_may f is_graph can_do more_ can =
      let above : Above = record { graph = last_graph s.graph xs; made = made } in
      let w : CanChange above c = record { is_graph = is_graph; sound = f.sound; is_plan = f.is_plan; can_plan = f.can_plan } in
      let created : CreatesSoMany (last_graph s.graph xs) c.graph (length c.plan.create) (sum_by (requires_at c.graph.nodes) c.plan.create) =
      record { created = c.plan.create; gone = f.is_plan.steps.create; nodes_are = refl; ports_are = refl } in
      let counts = one_wanted (last_graph s.graph xs) c.graph (length c.plan.create) (sum_by (requires_at c.graph.nodes) c.plan.create) f.can_plan.nodes f.can_plan.ports created f.can_plan.wanted in
      let behind : Above = record { graph = last_graph s.graph (xs ++ steps.Change c ∷ []); made = made_with_change made c } in
      let same : behind ≡ after_change above c w = λ i. record { graph = graph_behind_change s.graph xs c i; made = more_made made (counts.0 i) (counts.1 i) } in
      subst (λ ys. CanDoAll (after_start s) ys) (sym (append_assoc xs (steps.Change c ∷ []) more_))
      (can_do (steps.Change c ∷ more_) (w, subst (λ a. CanDoAll a more_) same can))

pub goes_on : (o : Option Start) (xs : List Step) (made : Made) (said : List Statement) (graphs : List Graph) (c : Replacement) → IsSome o
    → IfSome o (λ s. CanFollow (last_graph s.graph xs) made c) → IsGraph c.graph → IsAskedSoFar o xs made said graphs
    → IsAskedSoFar o (xs ++ steps.Change c ∷ []) (made_with_change made c) (said ++ change c.name c.args c.graph c.within c.moves ∷ []) (c.graph ∷ graphs)
goes_on None xs made said graphs c some f is_graph a = absurd (cc some)
goes_on (Some s) xs made said graphs c some f is_graph a = record {
  may = record { can_start = a.may.can_start; can_do = change_may s xs made c f is_graph a.may.can_do };
  said_are = said_behind s xs (steps.Change c) said a.said_are;
  earlier = graphs;
  graphs_are = ap (λ g. g ∷ graphs) (sym (graph_behind_change s.graph xs c));
}

-- what the run does of itself
pub does_more : (o : Option Start) (xs : List Step) (made : Made) (said : List Statement) (graphs : List Graph) (step : Step) → IsSome o → IsNoChange step → IsAskedSoFar o xs made said graphs
    → IsAskedSoFar o (xs ++ step ∷ []) made (said ++ statement_of step ∷ []) graphs
does_more None xs made said graphs step some none a = absurd (cc some)
does_more (Some s) xs made said graphs step some none a = record {
  may = record {
    can_start = a.may.can_start;
    can_do = λ more_ can.
        subst (λ ys. CanDoAll (after_start s) ys) (sym (append_assoc xs (step ∷ []) more_))
        (a.may.can_do (step ∷ more_)
        (do_behind_step (record { graph = last_graph s.graph xs; made = made }) step more_ none
        (subst (λ g. CanDoAll (record { graph = g; made = made }) more_) (graph_behind_step s.graph xs step none) can)));
  };
  said_are = said_behind s xs step said a.said_are;
  earlier = a.earlier;
  graphs_are = a.graphs_are ∙ ap (λ g. g ∷ a.earlier) (sym (graph_behind_step s.graph xs step none));
}
