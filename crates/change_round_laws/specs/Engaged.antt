-- To be believed (definitions.md).
-- In which logs of a report the events of a transaction stand: in those of the two nodes that it engages, and in no other
-- (after Kramer and Magee 1990).
use Rattle.std.specs.Prelude.{◌≡◌, ℕ, ◌==◌, List, All, Some, IsTrue, if◌then◌else◌}
use Rattle.std.specs.List.{count_by, list_any}
use Rattle.quiesce_core.specs.Runs.{Begun, initiator, is_begin_of, is_end_of, target_at_begin}
use Rattle.quiesce_laws.specs.Events.{is_ask_of, is_give_of, is_hear_of, is_more_of, is_take_of}
use Rattle.report_types.specs.declared.report.NodeLog.{NodeLog}
use Rattle.report_types.specs.declared.report.Report.{Report}
use Rattle.change_spec.specs.Members.{Member, events}

-- so many stand in the log of this node, and none in another
abbrev pub in_log : ℕ → NodeLog → ℕ → ℕ
in_log n l many = if n == l.slot then many else 0

-- what a log has of transaction k of port p between these nodes, with so many intermediate replies
pub record HasItsPart (from at replies p k : ℕ) (l : NodeLog) : Type 0 where
  pub begun : count_by (is_begin_of p k) l.events ≡ in_log from l 1
  pub asked : count_by (is_ask_of p k) l.events ≡ in_log from l replies
  pub ended : count_by (is_end_of p k) l.events ≡ in_log from l 1
  pub taken : count_by (is_take_of p k) l.events ≡ in_log at l 1
  pub replied : count_by (is_more_of p k) l.events ≡ in_log at l replies
  pub heard : count_by (is_hear_of p k) l.events ≡ in_log at l replies
  pub given : count_by (is_give_of p k) l.events ≡ in_log at l 1

abbrev pub HasLog : Report → ℕ → Type 0
HasLog report n = IsTrue (list_any (λ (l : NodeLog). l.slot == n) report.logs)

-- The owner of the port began or called the transaction, and the port led to the target then. Both have a log, and of all
-- logs these two have the events of the transaction.
pub record IsInTwoLogs (m : List Member) (report : Report) (p k : ℕ) : Type 0 where
  pub begun : Begun (events m) p k
  pub target : ℕ
  pub leads : target_at_begin (events m) p k begun ≡ Some target
  pub replies : ℕ
  pub of_initiator : HasLog report (initiator (events m) p k begun)
  pub of_target : HasLog report target
  pub logs : All (HasItsPart (initiator (events m) p k begun) target replies p k) report.logs
