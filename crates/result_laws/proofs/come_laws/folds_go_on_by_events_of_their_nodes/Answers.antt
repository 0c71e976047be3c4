use Rattle.std.proofs.Common.{◌≡◌, ◌∙◌, [], Option, Some, sym, ap}
use Rattle.std.specs.Prelude.{unwrap_or}
use Rattle.config_graph.specs.declared.kind.Kind.TheVariants.{Fork}
use Rattle.component_trait.specs.Fold.{after_event}
use Rattle.component_trait.specs.States.{NodeState, at_rest, nothing}
use Rattle.quiesce_core.proofs.InductionLaws.{place}
use Rattle.result_laws.proofs.ComingLaws.{folds_on}
use Rattle.result_laws.proofs.come_laws.folds_go_on_by_events_of_their_nodes.Goals as goal

come_is : (o : Option NodeState) (s : NodeState) → o ≡ Some s → unwrap_or o (at_rest Fork 0 nothing) ≡ s
come_is o s is = ap (λ o. unwrap_or o (at_rest Fork 0 nothing)) is

pub returns : goal.returns
returns c = record {
  own = λ es e run folds of_node n m there does s t was is.
      let on = folds_on c.a_moved_state_is_the_last_one.ensures.handed es e (place es [] e run) run folds of_node in
      ap (λ (x : NodeState). after_event m.first_port x e) (sym (come_is _ s was)) ∙ on.mine n m there does ∙ ap (λ (x : NodeState). Some x) (come_is _ t is);
  others = λ es e run folds of_node n other s t was is.
      let on = folds_on c.a_moved_state_is_the_last_one.ensures.handed es e (place es [] e run) run folds of_node in
      sym (come_is _ t is) ∙ on.others n other ∙ come_is _ s was;
}
