-- What contracts see of a node of each type: the state of the machine of its kind, and of a node that keeps a list how
-- many values it has memory for, and whether it has room for one more.
use Rattle.std.specs.Prelude.{ℕ, ◌<◌, [], None, length, vec_capacity}
use Rattle.std.specs.VecDeque.{deque_capacity, deque_len}
use Rattle.config_graph.specs.declared.kind.Kind.TheVariants as kind
use Rattle.component_trait.specs.States.{NodeState, nothing, with_count, with_items, with_total}
use Rattle.kinds_flow.specs.declared.account.Account.{Account}
use Rattle.kinds_flow.specs.declared.adder.Adder.{Adder}
use Rattle.kinds_flow.specs.declared.asker.Asker.{Asker}
use Rattle.kinds_flow.specs.declared.branch.Branch.{Branch}
use Rattle.kinds_flow.specs.declared.buffer.Buffer.{Buffer}
use Rattle.kinds_flow.specs.declared.map.Map.{Map}
use Rattle.kinds_flow.specs.declared.sink.Sink.{Sink}
use Rattle.kinds_flow.specs.declared.source.Source.{Source}
use Rattle.kinds_flow.specs.declared.teller.Teller.{Teller}

abbrev pub source_state : Source → NodeState
source_state s = record { kind = kind.Source; arg = s.n; kept = with_count s.accepted; service = None }

abbrev pub map_state : Map → NodeState
map_state s = record { kind = kind.Map; arg = s.k; kept = nothing; service = s.service }

abbrev pub buffer_state : Buffer → NodeState
buffer_state s = record { kind = kind.Buffer; arg = s.cap; kept = with_items s.items.items; service = s.service }

abbrev pub buffer_capacity : Buffer → ℕ
buffer_capacity s = deque_capacity s.items

abbrev pub buffer_has_room : Buffer → Type 0
buffer_has_room s = deque_len s.items < buffer_capacity s

abbrev pub sink_state : Sink → NodeState
sink_state s = record { kind = kind.Sink; arg = 0; kept = with_items s.items.items; service = s.service }

abbrev pub sink_capacity : Sink → ℕ
sink_capacity s = vec_capacity s.items

abbrev pub sink_has_room : Sink → Type 0
sink_has_room s = length s.items.items < sink_capacity s

abbrev pub teller_state : Teller → NodeState
teller_state s = record { kind = kind.Teller; arg = s.n; kept = with_count s.sent; service = None }

abbrev pub branch_state : Branch → NodeState
branch_state s = record { kind = kind.Branch; arg = 0; kept = nothing; service = s.service }

abbrev pub account_state : Account → NodeState
account_state s = record { kind = kind.Account; arg = s.b; kept = with_total s.balance; service = s.service }

abbrev pub asker_state : Asker → NodeState
asker_state s =
    record {
      kind = kind.Asker;
      arg = s.n;
      kept = record { count = s.sums; total = s.total; items = [] };
      service = None;
    }

abbrev pub adder_state : Adder → NodeState
adder_state s = record { kind = kind.Adder; arg = 0; kept = nothing; service = s.service }
