use Rattle.change_spec.proofs.ShowingLemmas.{none_shapes_behind, shown_is_described}
use Rattle.change_spec.proofs.laws.a_show_is_of_the_last_commit.Goals as goal

pub returns : goal.returns
returns c = record { shown = shown_is_described; unshaped = none_shapes_behind }
