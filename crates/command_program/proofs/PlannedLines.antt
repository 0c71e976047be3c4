-- Starts and changes, from what the parts of the code say of their graphs and plans.
use Rattle.std.proofs.Common.{◌≡◌, ◌≢◌, ◌+◌, ◌⊎◌, ◌∙◌, ◌∷◌, false, inl, inr, ℕ, ℤ, List, Option, Some, None, IfSome, length, sum_by, refl, sym, ap, subst}
use Rattle.std.specs.Prelude.{IsSome}
use Rattle.config_graph.specs.Graph.{Graph, requires_at}
use Rattle.config_graph.specs.declared.node.Made.{Made}
use Rattle.change_spec.specs.Statements.{Statement}
use Rattle.change_plan.specs.Plans.{IsPlanOf}
use Rattle.change_plan.specs.Refusals.{CanPlan, CreatesSoMany, IsRefusal}
use Rattle.change_plan.specs.Room.{HasRoom, HasRoomFor, LacksRoomFor}
use Rattle.change_plan.specs.declared.error.PlanError.{PlanError}
use Rattle.change_plan.specs.declared.error.PlanError.TheVariants.{NoMemory}
use Rattle.change_plan.specs.declared.plan_data.Move.{Move}
use Rattle.change_plan.specs.declared.plan_data.Plan.{Plan}
use Rattle.change_plan.proofs.RoomLaws.{one_wanted}
use Rattle.command_answers.specs.DescriptionFaults.{MayRefuse, is_no_memory}
use Rattle.command_answers.specs.RefusalLines.{plan_words}
use Rattle.command_answers.specs.declared.error.DescriptionFault.{DescriptionFault}
use Rattle.command_answers.specs.declared.error.DescriptionFault.TheVariants as fault
use Rattle.command_spec.specs.Lines.{GraphUse, changes, starts, IsCallRefusal, by_deed, by_elaboration, CallLeads, Progress, with_called_graph}
use Rattle.darwin_parser.specs.Tree.{Tree}
use Rattle.command_program.specs.Calls.{HasUsedFault, HasUsedGraph}
use Rattle.command_program.specs.Ways.{IsAt, IsAskedSoFar, last_graph, made_with_graph}
use Rattle.command_program.specs.declared.way.Way.{Way}
use Rattle.change_spec.specs.declared.steps.Start.{Start}
use Rattle.change_spec.specs.declared.steps.Step.{Step}

-- a component with a fault
pub call_at_fault : (p : Progress) (used : Option Tree) (deed : GraphUse) (name : List ℕ) (args : List ℤ) (e : DescriptionFault) → p.used ≡ used
    → MayRefuse (HasUsedFault used name args) e → MayRefuse (IsCallRefusal p deed name args) e
call_at_fault p used deed name args e same may plain =
    let f = may plain in
    subst (IsCallRefusal p deed name args) (sym f.at_fault.are) (by_elaboration f.tree f.at_fault.fault (same ∙ f.is_used) f.at_fault.holds)

-- a start
module _ (p : Progress) (used : Option Tree) (name : List ℕ) (args : List ℤ) (g : Graph) (made : Made) (same : p.used ≡ used) (made_is : p.made ≡ made)
    (u : HasUsedGraph used name args g) where
  pub start_leads : HasRoomFor made g → CallLeads p starts name args (with_called_graph p starts name args g (made_with_graph p.made g))
  start_leads room = record {
    tree = u.tree;
    is_used = same ∙ u.is_used;
    graph = g;
    is_graph = u.is_graph;
    made = made_with_graph p.made g;
    allowed = (subst (λ m. HasRoomFor m g) (sym made_is) room, refl);
    is_next = refl;
  }

  pub start_lacks : (e : PlanError) → LacksRoomFor made g e → MayRefuse (IsCallRefusal p starts name args) (fault.Plan e)
  start_lacks e lacks plain =
      by_deed u.tree g (plan_words e) (same ∙ u.is_used) u.is_graph (e, subst (λ m. LacksRoomFor m g e) (sym made_is) lacks, refl)

-- the graph that a change begins with is that of the progress
stands_on : (o : Option Start) (xs : List Step) (made : Made) (said : List Statement) (graphs : List Graph) (old : Graph) → IsSome o
    → IfSome o (λ s. old ≡ last_graph s.graph xs) → IsAskedSoFar o xs made said graphs → (earlier : List Graph) × (graphs ≡ old ∷ earlier)
stands_on None xs made said graphs old some is a = absurd (cc some)
stands_on (Some s) xs made said graphs old some is a = (a.earlier, a.graphs_are ∙ ap (λ g. g ∷ a.earlier) (sym is))

created_by : (old g : Graph) (moves : List Move) (plan : Plan) → IsPlanOf old g moves plan
    → CreatesSoMany old g (length plan.create) (sum_by (requires_at g.nodes) plan.create)
created_by old g moves plan is = record { created = plan.create; gone = is.steps.create; nodes_are = refl; ports_are = refl }

-- so much is created as a plan creates
pub counts_are : (old g : Graph) (moves : List Move) (made : Made) (plan : Plan) (can : CanPlan old g moves made) → IsPlanOf old g moves plan
    → (length plan.create ≡ can.nodes) × (sum_by (requires_at g.nodes) plan.create ≡ can.ports)
counts_are old g moves made plan can is =
    one_wanted old g (length plan.create) (sum_by (requires_at g.nodes) plan.create) can.nodes can.ports (created_by old g moves plan is) can.wanted

-- so there is room for what it creates
pub room_to_create : (old g : Graph) (moves : List Move) (made : Made) (plan : Plan) → CanPlan old g moves made → IsPlanOf old g moves plan
    → HasRoom made (length plan.create) (sum_by (requires_at g.nodes) plan.create)
room_to_create old g moves made plan can is =
    let counts = counts_are old g moves made plan can is in
    subst (λ n. HasRoom made n (sum_by (requires_at g.nodes) plan.create)) (sym counts.0) (subst (λ n. HasRoom made can.nodes n) (sym counts.1) can.room)

-- a change
module _ (way : Way) (p : Progress) (used : Option Tree) (name : List ℕ) (args : List ℤ) (within : ℕ) (moves : List Move) (old g : Graph)
    (same : p.used ≡ used) (some : IsSome way.start) (is_old : IfSome way.start (λ s. old ≡ last_graph s.graph way.steps.items)) (at : IsAt way p)
    (u : HasUsedGraph used name args g) where
  pub change_leads : (plan : Plan) → CanPlan old g moves way.made → IsPlanOf old g moves plan
      → CallLeads p (changes within moves) name args
      (with_called_graph p (changes within moves) name args g (record { nodes = p.made.nodes + length plan.create; ports = p.made.ports + sum_by (requires_at g.nodes) plan.create }))
  change_leads plan can is =
      let on = stands_on way.start way.steps.items way.made p.statements p.graphs old some is_old at.stands in
      let can_so = subst (λ m. CanPlan old g moves m) (sym at.made_is) can in
      let counts = counts_are old g moves p.made plan can_so is in
      let made : Made = record { nodes = p.made.nodes + length plan.create; ports = p.made.ports + sum_by (requires_at g.nodes) plan.create } in
      record {
        tree = u.tree;
        is_used = same ∙ u.is_used;
        graph = g;
        is_graph = u.is_graph;
        made = made;
        allowed = (old, on.0, on.1, (can_so, λ i. record { nodes = p.made.nodes + counts.0 i; ports = p.made.ports + counts.1 i }));
        is_next = refl;
      }

  pub change_refused : (e : PlanError) → (e ≡ NoMemory) ⊎ IsRefusal old g moves way.made e → MayRefuse (IsCallRefusal p (changes within moves) name args) (fault.Plan e)
  change_refused e (inl memory) plain = absurd (is_memory e memory plain)
    where
      is_memory : (e : PlanError) → e ≡ NoMemory → is_no_memory (fault.Plan e) ≢ false
      is_memory e none_ = rw none_ (λ is. cc)
  change_refused e (inr refuses) plain =
      let on = stands_on way.start way.steps.items way.made p.statements p.graphs old some is_old at.stands in
      by_deed u.tree g (plan_words e) (same ∙ u.is_used) u.is_graph (old, on.0, on.1, (e, subst (λ m. IsRefusal old g moves m e) (sym at.made_is) refuses, refl))
