-- Nodes led through their logs, one log after the other.
use Rattle.std.specs.Prelude.{◌≡◌, ℕ, Bool, true, false, not, ◌&&◌, ◌==◌, bytes_eq, List, [], ◌∷◌, ◌++◌, length, map, fold, Option, Some, None, is_none, option_map, option_and_then, slice_get, slice_index_or, slice_set, if◌then◌else◌}
use Rattle.std.specs.Option.{option_map_or}
use Rattle.component_trait.specs.Fold.{fold_next}
use Rattle.component_trait.specs.Following.{value_of}
use Rattle.component_trait.specs.Making.{handed_over, new_node}
use Rattle.component_trait.specs.Moves as moves
use Rattle.component_trait.specs.States.{NodeState}
use Rattle.quiesce_core.specs.Rules.{is_kind, is_value}
use Rattle.quiesce_core.specs.declared.event.Event.{Event}
use Rattle.report_types.specs.declared.report.Last.{Last}
use Rattle.report_types.specs.declared.report.Last.TheVariants as last
use Rattle.report_types.specs.declared.report.NodeLog.{NodeLog}
use Rattle.report_types.specs.declared.report.Report.{Report}
use Rattle.state_handover.specs.contracts.any_node.AnyNodeComponent.TheImpl.{ghosts as nodes}
use Rattle.state_handover.specs.declared.any_node.AnyNode.{AnyNode}
use Rattle.report_check.specs.declared.logs.Ledger.{Ledger}
use Rattle.report_check.specs.declared.tables.MadeNode.{MadeNode}
use Rattle.report_check.specs.Tables.{Nodes, read_lines}

abbrev pub state_of : AnyNode → NodeState
state_of = nodes.state

-- the nodes that are kept, by slot; none where one was taken out
abbrev pub states_in : List (Option AnyNode) → List (Option NodeState)
states_in kept = map (option_map state_of) kept

-- ---- one log

-- an answer that says whether there is such a state; where there is, it is this one
abbrev pub LedBy : Option NodeState → NodeState → Bool → Type 0
LedBy o now true = o ≡ Some now
LedBy o now false = o ≡ None

-- The state after one more event, and after a log. There is none where a node of the kind has no such event, or the
-- event's value is none.
abbrev pub led_by : ℕ → NodeState → Event → Option NodeState
led_by first s e = if is_value (value_of e) then fold_next first (Some s) e else None

abbrev pub led_next : ℕ → Option NodeState → Event → Option NodeState
led_next first o e = option_and_then (λ (s : NodeState). led_by first s e) o

abbrev pub led_through : ℕ → NodeState → List Event → Option NodeState
led_through first s es = fold (led_next first) (Some s) es

-- ---- how a node opens

abbrev pub node_at : List (Option NodeState) → ℕ → Option NodeState
node_at kept k = slice_index_or kept k None

abbrev pub without : List (Option NodeState) → ℕ → List (Option NodeState)
without kept k = slice_set kept k None

-- what takes over the state of a node of its kind that is in no service
abbrev pub handed : NodeState → MadeNode → Option NodeState
handed s m = if is_none s.service && is_kind s.kind m.kind then Some (handed_over s.kind m.arg s.kept) else None

abbrev pub opened_from : List (Option NodeState) → MadeNode → ℕ → Option NodeState
opened_from kept m k = option_and_then (λ (s : NodeState). handed s m) (node_at kept k)

abbrev pub opened : List (Option NodeState) → MadeNode → Option NodeState
opened kept m = option_map_or (opened_from kept m) m.from (Some (new_node m.kind m.arg))

abbrev pub behind_opening : List (Option NodeState) → MadeNode → List (Option NodeState)
behind_opening kept m = option_map_or (without kept) m.from kept

-- ---- how a log ends

abbrev pub ends_so : NodeState → Option ℕ → Last → Bool
ends_so s None (last.State xs) = bytes_eq (moves.numbers s) xs
ends_so s (Some j) (last.Moved i) = j == i
ends_so s _ _ = false

-- ---- all logs

-- the nodes led so far, and the first live one of them that isn't done
pub record Led : Type 0 where
  pub kept : List (Option NodeState)
  pub undone : Option ℕ

abbrev pub ledger_in : Ledger → Led
ledger_in l = record { kept = states_in l.nodes.items; undone = l.undone }

abbrev pub no_logs : Led
no_logs = record { kept = []; undone = None }

-- what the log leads a node to that was made so, where it ends so
abbrev pub closed_so : Option ℕ → Last → NodeState → Option NodeState
closed_so heir l s = if ends_so s heir l then Some s else None

abbrev pub led_on : ℕ → Option ℕ → NodeLog → NodeState → Option NodeState
led_on first heir l s = option_and_then (closed_so heir l.last) (led_through first s l.events)

abbrev pub log_of_node : List (Option NodeState) → Option ℕ → NodeLog → MadeNode → Option NodeState
log_of_node kept heir l m = option_and_then (led_on m.first_port heir l) (opened kept m)

abbrev pub is_left_undone : MadeNode → NodeState → Bool
is_left_undone m s = m.live && not (moves.is_done s)

abbrev pub first_undone : Option ℕ → MadeNode → ℕ → NodeState → Option ℕ
first_undone undone m n s = if is_none undone && is_left_undone m s then Some n else undone

-- with a node led, which was made so
abbrev pub with_node : Led → MadeNode → ℕ → NodeState → Led
with_node x m n s = record { kept = x.kept ++ Some s ∷ []; undone = first_undone x.undone m n s }

-- Behind one log more, of the node in the next slot. There is none where this is another's, or isn't right.
abbrev pub read_made : Led → Option ℕ → NodeLog → MadeNode → Option Led
read_made x heir l m = option_map (with_node (record x { kept = behind_opening x.kept m }) m l.slot) (log_of_node x.kept heir l m)

abbrev pub read_log : Nodes → Led → NodeLog → Option Led
read_log t x l =
    if l.slot == length x.kept then option_and_then (read_made x (slice_index_or t.heirs l.slot None) l) (slice_get t.made l.slot)
    else None

abbrev pub read_logs_on : Nodes → Led → List NodeLog → Option Led
read_logs_on t x ls = fold (λ (o : Option Led) (l : NodeLog). option_and_then (λ (y : Led). read_log t y l) o) (Some x) ls

-- each node has its log, and no other is there
abbrev pub if_complete : Nodes → Led → Option (Option ℕ)
if_complete t x = if length x.kept == length t.made then Some x.undone else None

abbrev pub read_logs : Nodes → List NodeLog → Option (Option ℕ)
read_logs t ls = option_and_then (if_complete t) (read_logs_on t no_logs ls)

-- the first live node that isn't done, where history and logs are right by themselves
abbrev pub read_report : Report → Option (Option ℕ)
read_report report = option_and_then (λ (t : Nodes). read_logs t report.logs) (read_lines report.history)
