use Rattle.std.proofs.Common.{ℕ, List}
use Rattle.change_script_laws.proofs.NodePathLemmas.{paths_of_nodes}
use Rattle.change_script_laws.proofs.laws.paths_of_nodes_are_paths.Goals as goal

pub returns : goal.returns
returns c =
    let fronts = c.fronts_as_spelled.ensures in
    let named = λ (bytes : List ℕ). (c.names_are_those_of_the_language.ensures bytes).1 in
    paths_of_nodes (λ component env r. (c.what_is_reached.ensures.component component env r).0) fronts.meaning fronts.one_meaning named c.paths_are_words.ensures.bytes
