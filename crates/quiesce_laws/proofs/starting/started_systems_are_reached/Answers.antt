use Rattle.std.proofs.Common.{sym, subst}
use Rattle.quiesce_laws.specs.Starts.{start_of}
use Rattle.quiesce_core.specs.Runs.{Steps}
use Rattle.quiesce_core.specs.Start.{started}
use Rattle.quiesce_core.specs.State.{empty}
use Rattle.quiesce_core.proofs.StepsLaws.{end_is, run_is_steps}
use Rattle.quiesce_laws.proofs.StartLaws.{start_path}
use Rattle.quiesce_laws.proofs.starting.started_systems_are_reached.Goals as goal

pub returns : goal.returns
returns c g sound few_nodes few_ports =
    let path = start_path g sound few_nodes few_ports in
    let ends = end_is empty (started g) (start_of g) path in
    ((run_is_steps (start_of g)).1 (subst (λ s. Steps empty (start_of g) s) ends path), sym ends)
