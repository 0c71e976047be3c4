-- Where a session begins, and the lines with which it does.
use Rattle.std.proofs.Common.{◌≡◌, ◌∙◌, false, [], refl, sym, ap, subst}
use Rattle.std.proofs.lemmas.Bool.{both_ways}
use Rattle.change_lists.specs.Layouts.{IsLayoutOf}
use Rattle.change_lists.specs.Lists.{closed_by}
use Rattle.change_plan.specs.Refusals.{CanPlan}
use Rattle.change_plan_laws.specs.Commit.{ports_to_close}
use Rattle.change_plan_laws.specs.Committing.{made_in}
use Rattle.quiesce_core.specs.Live.{IsGraphOf}
use Rattle.quiesce_core.specs.Runs.{IsRun, state_after}
use Rattle.quiesce_core.specs.Start.{started}
use Rattle.quiesce_core.specs.State.{State}
use Rattle.quiesce_laws.specs.Starts.{start_of}
use Rattle.change_apply.specs.Sessions.{CanChange, change_in, is_ready}
use Rattle.change_apply.specs.Standing.{IsGroundOf, Stands}
use Rattle.change_apply.specs.declared.request.Request.{Request}
use Rattle.change_apply.specs.declared.said.Phase.TheVariants as phase
use Rattle.change_apply.specs.declared.session.Ground.{Ground}

module _ (r : Request) (x : Ground) (is : state_after (start_of r.from.graph) ≡ started r.from.graph) (can : CanChange (change_in r)) (ground : IsGroundOf r x)
    (at_first : IsGraphOf (started r.from.graph).config r.from.graph) (laid : IsLayoutOf x.layout (started r.from.graph).config r.from.graph) where
  pub graph_there : IsGraphOf (state_after (start_of r.from.graph)).config r.from.graph
  graph_there = subst (λ (s : State). IsGraphOf s.config r.from.graph) (sym is) at_first

  pub layout_there : IsLayoutOf x.layout (state_after (start_of r.from.graph)).config r.from.graph
  layout_there = subst (λ (s : State). IsLayoutOf x.layout s.config r.from.graph) (sym is) laid

  pub stands_first : IsRun (start_of r.from.graph) → ports_to_close r.from.graph r.plan (state_after (start_of r.from.graph)).config ≡ closed_by x.layout.places.items x.layout.ports.items r.plan.freeze
      → Stands (record { request = r; core = x.core; layout = x.layout; asked = x.asked; left = r.within; phase = phase.Waiting }) (start_of r.from.graph)
  stands_first run closing = record {
    going = refl;
    state = ground.state ∙ sym is;
    run = run;
    graph = graph_there;
    is_graph = can.old_graph;
    layout = layout_there;
    planned = record {
      new_graph = can.new_graph;
      new_sound = can.new_sound;
      is_plan = can.is_plan;
      can_plan = subst (λ (s : State). CanPlan r.from.graph r.to.graph [] (made_in s.config)) (sym is) can.can_plan;
    };
    asked_are = ground.closed ∙ sym closing;
    closed = ground.closed;
    ready = λ e. absurd (both_ways false refl (ap is_ready e));
  }
