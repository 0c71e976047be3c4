use Rattle.std.proofs.Common.{◌∙◌, ap, sym}
use Rattle.std.specs.Prelude.{fold}
use Rattle.std.proofs.lemmas.List.Sums.{fold-append}
use Rattle.quiesce_core.specs.Effect.{effect}
use Rattle.quiesce_core.specs.Start.{started}
use Rattle.quiesce_core.specs.State.{empty}
use Rattle.quiesce_core.proofs.StepsLaws.{end_is, run_goes_on}
use Rattle.quiesce_laws.specs.Starts.{start_of}
use Rattle.quiesce_laws.proofs.StartLaws.{start_path}
use Rattle.quiesce_laws.proofs.starting.started_systems_go_on_as_runs.Goals as goal

pub returns : goal.returns
returns c = record {
  runs = λ g more_ sound few_nodes few_ports. run_goes_on (start_of g) more_ (started g) (start_path g sound few_nodes few_ports);
  states = λ g more_ sound few_nodes few_ports.
      fold-append effect empty (start_of g) more_
      ∙ ap (λ s. fold effect s more_) (sym (end_is empty (started g) (start_of g) (start_path g sound few_nodes few_ports)));
}
