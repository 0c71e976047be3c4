use Rattle.std.specs.Prelude.{◌≡◌, Any, Some}
use Rattle.config_graph.specs.Graph.{Graph}
use Rattle.change_spec.specs.Statements.{graph_of}
use Rattle.result_laws.proofs.ReopenedLaws.{each_described, reopened_at}
use Rattle.result_laws.proofs.come_laws.reopens_find_a_described_graph.Goals as goal

pub returns : goal.returns
returns c = record {
  described = λ statements report m sound follows merge goes before after p parts.
      let w = reopened_at c.each_plan_may_commit.ensures c.commits_can_not_fail.ensures.by_the_configuration c.commits_leave_the_new_graph.ensures.reopening statements
      (λ (g : Graph). Any (λ st. graph_of st ≡ Some g) statements) report m sound (each_described statements) follows merge goes before after p parts in
      record { graph = w.graph; described = w.has; stands = w.stands };
}
