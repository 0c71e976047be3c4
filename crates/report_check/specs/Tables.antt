-- The nodes that the lines of a history make, as a table that is written line by line.
use Rattle.std.specs.Prelude.{ℕ, ◌+◌, Bool, true, false, not, ◌&&◌, ◌==◌, nat_lt, nat_le, List, [], ◌∷◌, ◌++◌, length, fold, Option, Some, None, is_none, option_and_then, slice_get, slice_index_or, slice_set, if◌then◌else◌}
use Rattle.std.specs.Option.{option_map_or}
use Rattle.config_graph.specs.Kinds.{row}
use Rattle.config_graph.specs.declared.node.Node.{Node}
use Rattle.config_graph.specs.declared.TheConstants.{MAX_NODES, MAX_PORTS}
use Rattle.quiesce_core.specs.Rules as rules
use Rattle.report_types.specs.declared.report.HistoryLine.{HistoryLine}
use Rattle.report_types.specs.declared.report.HistoryLine.TheVariants as to
use Rattle.report_check.specs.declared.tables.MadeNode.{MadeNode}
use Rattle.report_check.specs.declared.tables.Table.{Table}

-- the nodes by slot, the slot to which each one's state went, and how many ports were made
pub record Nodes : Type 0 where
  pub made : List MadeNode
  pub heirs : List (Option ℕ)
  pub ports : ℕ

abbrev pub table_in : Table → Nodes
table_in t = record { made = t.made.items; heirs = t.heirs.items; ports = t.ports }

abbrev pub no_nodes : Nodes
no_nodes = record { made = []; heirs = []; ports = 0 }

abbrev pub has_room : Nodes → ℕ → Node → Bool
has_room t n node = n == length t.made && nat_lt n MAX_NODES && nat_le (t.ports + length (row node.kind).requires_) MAX_PORTS

abbrev pub has_its_argument : Node → Bool
has_its_argument node = rules.has_its_argument node

-- whether a node was removed, and its state went to none
abbrev pub may_go_over : Nodes → ℕ → Bool
may_go_over t k = option_map_or (λ (m : MadeNode). not m.live && is_none (slice_index_or t.heirs k None)) (slice_get t.made k) false

abbrev pub may_make : Nodes → ℕ → Node → Option ℕ → Bool
may_make t n node from = has_room t n node && has_its_argument node && option_map_or (may_go_over t) from true

abbrev pub with_heir : Nodes → Option ℕ → ℕ → Nodes
with_heir t from n = record t { heirs = option_map_or (λ k. slice_set t.heirs k (Some n)) from t.heirs }

abbrev pub with_node : Nodes → Node → Option ℕ → Nodes
with_node t node from =
    record {
      made = t.made ++ record { kind = node.kind; arg = node.arg; first_port = t.ports; from = from; live = true } ∷ [];
      heirs = t.heirs ++ None ∷ [];
      ports = t.ports + length (row node.kind).requires_;
    }

abbrev pub with_removed : Nodes → ℕ → Nodes
with_removed t n =
    record t { made = option_map_or (λ (m : MadeNode). slice_set t.made n (record m { live = false })) (slice_get t.made n) t.made }

abbrev pub make_line : Nodes → ℕ → Node → Option ℕ → Option Nodes
make_line t n node from = if may_make t n node from then Some (with_node (with_heir t from n) node from) else None

-- behind one line more; none where it makes a node that may not be made
abbrev pub read_line : Nodes → HistoryLine → Option Nodes
read_line t (to.Make n node from) = make_line t n node from
read_line t (to.Remove n) = Some (with_removed t n)
read_line t _ = Some t

abbrev pub read_next : Option Nodes → HistoryLine → Option Nodes
read_next o l = option_and_then (λ (t : Nodes). read_line t l) o

abbrev pub read_on : Nodes → List HistoryLine → Option Nodes
read_on t ls = fold read_next (Some t) ls

abbrev pub read_lines : List HistoryLine → Option Nodes
read_lines ls = read_on no_nodes ls
