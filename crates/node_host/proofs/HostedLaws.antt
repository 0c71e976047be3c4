-- What a gate was told of a node's service, as the node has it.
use Rattle.std.proofs.Common.{◌≡◌, ◌∙◌, ℕ, List, Option, None, ap, sym}
use Rattle.component_trait.specs.States.{NodeState}
use Rattle.node_host.specs.Hosted.{IsHosted, SeatSeen}
use Rattle.node_host.specs.Lines.{LineNode}
use Rattle.node_turn_laws.proofs.AgreementLaws.{agree_none}
use Rattle.quiesce_core.proofs.KnownLaws.{service_of_log}
use Rattle.quiesce_core.specs.State.{slot}
use Rattle.quiesce_core.specs.declared.event.Event.{Event}
use Rattle.quiesce_core.specs.declared.known.Known.{Known}

pub rests_told : (slot first : ℕ) (t : NodeState) (log : List Event) (line : List LineNode) (known : Known) (waiting : List (Option ℕ)) (seat : SeatSeen) → IsHosted slot first t log line known waiting seat → seat.known.service ≡ None → t.service ≡ None
rests_told slot first t log line known waiting seat h is =
    agree_none _ t.service _ h.agrees.services (sym (ap (λ (w : Known). w.service) h.knows ∙ service_of_log first log) ∙ ap (λ (w : Known). w.service) h.kept ∙ is)
