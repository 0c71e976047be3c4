-- What is asked of a history and of logs by themselves, without a list of which they are parts: the logs lead to what is
-- said of them, and the history shows what its own lines come to.
use Rattle.std.specs.Prelude.{◌≡◌, ⊤, ℕ, zero, suc, Bool, false, not, List, [], map, length, find, filter_map, slice_index_or, All, Option, Some, None, option_map, option_and_then, IsTrue, if◌then◌else◌}
use Rattle.std.specs.List.{list_all, list_any, range_with_len}
use Rattle.std.specs.Option.{option_map_or}
use Rattle.base.specs.Each.{Each}
use Rattle.component_trait.specs.Moves as moves
use Rattle.component_trait.specs.States.{NodeState}
use Rattle.component_trait.specs.Tables.{opening}
use Rattle.quiesce_core.specs.declared.event.Event.{Event}
use Rattle.quiesce_core.specs.declared.state.Slot.{Slot}
use Rattle.quiesce_core.specs.Live.{IsGraphOf}
use Rattle.quiesce_core.specs.State.{is_live, slot}
use Rattle.report_types.specs.declared.report.HistoryLine.{HistoryLine}
use Rattle.report_types.specs.declared.report.HistoryLine.TheVariants as to
use Rattle.report_types.specs.declared.report.NodeLog.{NodeLog}
use Rattle.report_types.specs.declared.report.Report.{Report}
use Rattle.change_spec.specs.Consistent.{keeps_to_limit}
use Rattle.change_spec.specs.Endings.{moved_to, status_of}
use Rattle.change_spec.specs.Lawful.{EndsAs}
use Rattle.change_spec.specs.Members.{made_slot}
use Rattle.change_spec.specs.Opening.{argument_of, fold_at}
use Rattle.change_spec.specs.Scene.{config_after}
use Rattle.change_spec.specs.Statements.{Statement, is_finish}

-- the log of the node in slot n
abbrev pub log_told : Report → ℕ → List Event
log_told report n = slice_index_or (map (λ (l : NodeLog). l.events) report.logs) n []

-- What that node has come to by its log, from its argument or from what another node kept; a chain of hand-overs has at
-- most so many nodes. It is `fold_within` of change_spec, by the history and the logs.
abbrev pub fold_told_within : Report → ℕ → ℕ → Option NodeState
fold_told_within report zero n = None
fold_told_within report (suc fuel) n =
    option_and_then
    (λ (m : Slot).
    option_and_then (fold_at m (log_told report n))
    (option_map_or (λ k. option_map (λ (s : NodeState). s.kept) (fold_told_within report fuel k)) m.from
    (Some (opening m.node.kind (argument_of m)))))
    (slot (config_after report.history) n)

abbrev pub fold_told : Report → ℕ → Option NodeState
fold_told report n = fold_told_within report (suc n) n

-- a log has a fold, and ends with the state to which it leads, or tells to which node that went
abbrev pub EndsAsTold : Report → NodeLog → Type 0
EndsAsTold report l = EndsAs (fold_told report l.slot) (moved_to report.history l.slot) l.last

-- a graph that is shown is the one that stands by the lines before it
abbrev pub IsShown : List HistoryLine → HistoryLine → Type 0
IsShown before (to.Show g) = IsGraphOf (config_after before) g
IsShown before _ = ⊤

-- the first live node that isn't done, where the script has a finish
abbrev pub is_undone : Report → ℕ → Bool
is_undone report n =
    if is_live (config_after report.history) n then not (option_map_or moves.is_done (fold_told report n) false) else false

abbrev pub unfinished_told : List Statement → Report → Option ℕ
unfinished_told statements report =
    if list_any is_finish statements then find (is_undone report) (range_with_len 0 (length (config_after report.history).slots))
    else None

pub record AreRightAlone (statements : List Statement) (report : Report) : Type 0 where
  -- there is one log for each node that the history makes, and no other
  pub one_log_a_node : map (λ (l : NodeLog). l.slot) report.logs ≡ filter_map made_slot report.history
  -- each log is one of its node's kind, and ends so
  pub folds : All (EndsAsTold report) report.logs
  pub shows : Each IsShown report.history
  -- no `finish` made more rounds than it might
  pub few_rounds : IsTrue (list_all keeps_to_limit report.history)
  pub unfinished : report.unfinished ≡ unfinished_told statements report
  pub status : report.status ≡ status_of report.history report.unfinished
