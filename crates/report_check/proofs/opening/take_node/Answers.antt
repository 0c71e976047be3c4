use Rattle.std.proofs.Common.{◌∙◌, ap, slice_set}
use Rattle.std.specs.Prelude.{option_map}
use Rattle.std.proofs.lemmas.List.{map-set}
use Rattle.report_check.specs.Leading.{state_of, states_in}
use Rattle.report_check.proofs.opening.take_node.Goals as goal

pub returns-then-place-nodes-clause-rest : goal.returns-then-place-nodes-clause-rest
returns-then-place-nodes-clause-rest c =
    map-set (option_map state_of) c.args.nodes.now c.args.slot c.take.new.self ∙ ap (λ o. slice_set (states_in c.args.nodes.now) c.args.slot (option_map state_of o)) c.take.ensures.after
