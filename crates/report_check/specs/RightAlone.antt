-- Which reports are right by themselves: the history, and the logs of the nodes that it makes.
use Rattle.std.specs.Prelude.{◌≡◌, ℕ, Bool, List, map, filter_map, All, Option, Some, None, IsTrue, if◌then◌else◌}
use Rattle.std.specs.List.{list_all}
use Rattle.base.specs.Each.{Each}
use Rattle.component_trait.specs.Following.{value_of}
use Rattle.component_trait.specs.States.{NodeState}
use Rattle.quiesce_core.specs.Rules.{is_kind, is_value}
use Rattle.quiesce_core.specs.State.{slot}
use Rattle.quiesce_core.specs.declared.state.Slot.{Slot}
use Rattle.report_types.specs.declared.report.NodeLog.{NodeLog}
use Rattle.report_types.specs.declared.report.Report.{Report}
use Rattle.change_spec.specs.Members.{made_slot}
use Rattle.change_spec.specs.Scene.{config_after}
use Rattle.merge_laws.specs.Alone.{EndsAsTold, fold_told, unfinished_told}
use Rattle.change_spec.specs.Consistent.{keeps_to_limit}
use Rattle.change_spec.specs.Endings.{status_of}
use Rattle.change_spec.specs.Statements.{Statement}
use Rattle.report_check.specs.Makeable.{IsMakeable}
use Rattle.report_check.specs.Showing.{IsStandingShown}

-- whether each event of a log carries a value, if it carries a number
abbrev pub has_values : NodeLog → Bool
has_values l = list_all (λ e. is_value (value_of e)) l.events

-- the node from which another was made ended in no service, and is of its kind
pub record IsFreeSource (z : NodeState) (taker : Slot) : Type 0 where
  pub rests : z.service ≡ None
  pub kind : IsTrue (is_kind z.kind taker.node.kind)

abbrev pub HasFreeSource : Report → ℕ → Type 0
HasFreeSource report n =
    (k : ℕ) (m : Slot) (z : NodeState) → slot (config_after report.history) n ≡ Some m → m.from ≡ Some k
    → fold_told report k ≡ Some z → IsFreeSource z m

pub record HasRightLogs (report : Report) : Type 0 where
  -- each node may be made where it is
  pub makes : Each IsMakeable report.history
  -- there is one log for each of them, and no other
  pub one_log_a_node : map (λ (l : NodeLog). l.slot) report.logs ≡ filter_map made_slot report.history
  -- each log is one of its node's kind, and ends so
  pub folds : All (EndsAsTold report) report.logs
  pub values : All (λ (l : NodeLog). IsTrue (has_values l)) report.logs
  pub sources : (n : ℕ) → HasFreeSource report n

-- no `finish` made more rounds than it might, this node is named where the script has a finish, and the status fits
pub record AreRightNumbers (has_finish : Bool) (undone : Option ℕ) (report : Report) : Type 0 where
  pub few_rounds : IsTrue (list_all keeps_to_limit report.history)
  pub unfinished : report.unfinished ≡ (if has_finish then undone else None)
  pub status : report.status ≡ status_of report.history report.unfinished

-- `AreRightAlone` of merge_laws, where a show is of the graph that the last commit is said to leave, with what each
-- consistent report has beside it: nodes that may be made, values, and sources that end in no service
pub record IsRightAlone (statements : List Statement) (report : Report) : Type 0 where
  pub logs : HasRightLogs report
  pub shows : Each (IsStandingShown statements) report.history
  pub few_rounds : IsTrue (list_all keeps_to_limit report.history)
  pub unfinished : report.unfinished ≡ unfinished_told statements report
  pub status : report.status ≡ status_of report.history report.unfinished
