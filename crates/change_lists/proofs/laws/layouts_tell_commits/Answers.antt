use Rattle.std.proofs.Common.{map, sym, ap, ◌∙◌}
use Rattle.change_lists.specs.Layouts.{place_in, port_of}
use Rattle.change_lists.specs.Lists.{closed_by, commit_by, places_after, ports_after}
use Rattle.change_lists.proofs.LayoutLaws.{live_ports_are, started_layout}
use Rattle.change_lists.proofs.ListLemmas.{closed_is, commit_is, next_is}
use Rattle.change_lists.proofs.PlanInLaws.{plan_in}
use Rattle.change_lists.proofs.laws.layouts_tell_commits.Goals as goal

pub returns : goal.returns
returns c = record {
  closed = λ old new moves plan d l old_graph new_graph is graph laid.
      closed_is d old graph.paths_rise plan (plan_in old new moves plan old_graph new_graph is).freeze
      ∙ ap (λ xs. closed_by xs (map port_of d.gates) plan.freeze) (sym laid.places_are) ∙ ap (λ ps. closed_by l.places.items ps plan.freeze) (sym laid.ports_are);
  events = λ old new moves plan d l old_graph new_graph is graph laid.
      commit_is old new plan d graph new_graph.paths_rise (plan_in old new moves plan old_graph new_graph is)
      ∙ ap (λ xs. commit_by old new plan xs (map port_of d.gates)) (sym laid.places_are) ∙ ap (λ ps. commit_by old new plan l.places.items ps) (sym laid.ports_are);
  layout = λ old new moves plan d l next_ old_graph new_graph is graph laid places_ ports_.
      next_is old new plan d graph new_graph.paths_rise (plan_in old new moves plan old_graph new_graph is) next_
      (places_ ∙ ap (places_after old new plan) laid.places_are)
      (ports_ ∙ ap (λ xs. ports_after new plan xs l.ports.items) laid.places_are ∙ ap (ports_after new plan (map (place_in old) d.slots)) laid.ports_are);
  started = λ graph l is_graph places ports. started_layout l graph is_graph.paths_rise places ports;
  live = λ graph d l graph_is laid. live_ports_are d graph graph_is l laid;
}
