-- Items at a place of a run: what nodes hold and have sent by then, and what is under way. What a buffer or sink took in
-- it holds at once. Until the End at which who sent it counts it, or lets it go, it is under way too: a source hasn't
-- counted it so far, and a buffer still has it.
use Rattle.std.specs.Prelude.{ℕ, ◌+◌, Bool, false, ◌==◌, List, [], ◌∷◌, length, fold, if◌then◌else◌, sum_by}
use Rattle.std.specs.List.{list_any, range_with_len}
use Rattle.std.specs.Option.{option_map_or}
use Rattle.component_trait.specs.States.{Kept, NodeState, Service}
use Rattle.config_graph.specs.declared.kind.Kind.{Kind}
use Rattle.config_graph.specs.declared.kind.Kind.TheVariants.{Source, Map, Buffer, Sink}
use Rattle.quiesce_word.specs.Phases.{is_answered}
use Rattle.quiesce_core.specs.Runs.{state_after}
use Rattle.quiesce_core.specs.State.{exchange, owner}
use Rattle.quiesce_core.specs.declared.event.Event.{Event}
use Rattle.quiesce_core.specs.declared.event.Event.TheVariants.{Begin, Call, Make}
use Rattle.quiesce_core.specs.declared.state.Exchange.{Exchange}
use Rattle.result_laws.specs.Coming.{come}
use Rattle.result_laws.specs.Flows.{is_of_flow}

-- what a buffer or sink holds, and what a source has sent, by what it keeps
abbrev pub stock : (ℕ → ℕ) → Kind → Kept → ℕ
stock weight Buffer s = sum_by weight s.items
stock weight Sink s = sum_by weight s.items
stock weight _ s = 0

abbrev pub spent : (ℕ → ℕ) → Kind → Kept → ℕ
spent weight Source s = sum_by weight (range_with_len 1 s.count)
spent weight _ s = 0

-- whether an event makes a node that takes over from the one in slot n
abbrev pub hands_on : ℕ → Event → Bool
hands_on n (Make k node from) = option_map_or (λ i. i == n) from false
hands_on n _ = false

-- of the node in slot n, live or not, but where its state went on to another
abbrev pub has : (Kind → Kept → ℕ) → List Event → ℕ → ℕ
has measure es n = if list_any (hands_on n) es then 0 else measure (come es n).kind (come es n).kept

abbrev pub of_nodes : (Kind → Kept → ℕ) → List Event → ℕ
of_nodes measure es = sum_by (has measure es) (range_with_len 0 (length (state_after es).config.slots))

-- An item that was taken in is owed by the service that is to answer so, by anything but 0: that of the buffer or sink
-- at once, that of a map once it was answered so itself.
abbrev pub unless_0 : ℕ → ℕ → ℕ
unless_0 r w = if r == 0 then 0 else w

abbrev pub owed_by : List ℕ → ℕ → ℕ
owed_by [] w = 0
owed_by (a ∷ answers) w = unless_0 a w

abbrev pub owed_in : (ℕ → ℕ) → Kind → Service → ℕ
owed_in weight Map w = owed_by w.answers (weight w.value)
owed_in weight Source w = unless_0 w.reply (weight w.value)
owed_in weight Buffer w = unless_0 w.reply (weight w.value)
owed_in weight Sink w = unless_0 w.reply (weight w.value)
owed_in weight _ w = 0

abbrev pub owed : (ℕ → ℕ) → NodeState → ℕ
owed weight n = option_map_or (owed_in weight n.kind) n.service 0

abbrev pub owed_at : (ℕ → ℕ) → List Event → ℕ → ℕ
owed_at weight es n = owed weight (come es n)

-- and is due at a port where that answer waits for its End: what was sent there last
abbrev pub sent_next : ℕ → ℕ → Event → ℕ
sent_next p x (Begin q k v) = if q == p then v else x
sent_next p x (Call q k v) = if q == p then v else x
sent_next p x _ = x

abbrev pub last_sent : ℕ → List Event → ℕ
last_sent p es = fold (sent_next p) 0 es

abbrev pub due_of : (ℕ → ℕ) → Exchange → ℕ → ℕ
due_of weight x v = if is_answered x.phase then unless_0 x.value (weight v) else 0

-- whether the port's owner is one of these nodes
abbrev pub is_port_of_flow : List Event → ℕ → Bool
is_port_of_flow es p = is_of_flow (come es (owner (state_after es).config p)).kind

abbrev pub due : (ℕ → ℕ) → List Event → ℕ → ℕ
due weight es p = if is_port_of_flow es p then due_of weight (exchange (state_after es) p) (last_sent p es) else 0

abbrev pub under_way : (ℕ → ℕ) → List Event → ℕ
under_way weight es =
    sum_by (owed_at weight es) (range_with_len 0 (length (state_after es).config.slots))
    + sum_by (due weight es) (range_with_len 0 (length (state_after es).config.gates))
