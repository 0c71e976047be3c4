-- Small systems on which the definitions are evaluated.
use Rattle.std.specs.Prelude.{ℕ, List, [], ◌∷◌, Some, None, codes}
use Rattle.config_graph.specs.Graph.{Graph}
use Rattle.config_graph.specs.declared.kind.Kind.TheVariants.{Source, Map, Sink, Teller, Branch, Account}
use Rattle.quiesce_laws.specs.Worked.{node}
use Rattle.change_plan_laws.specs.Systems.{leads}
use Rattle.report_types.specs.declared.report.HistoryLine.TheVariants as to
use Rattle.report_types.specs.declared.report.Last.{Last}
use Rattle.report_types.specs.declared.report.Last.TheVariants as last
use Rattle.report_types.specs.declared.report.NodeLog.{NodeLog}
use Rattle.report_types.specs.declared.report.Report.{Report}

-- a teller, a branch and two accounts, and a teller that leads nowhere
abbrev pub bank : Graph
bank = record {
  nodes = node (codes "a") Account (Some 100) ∷ node (codes "b") Account (Some 0) ∷ node (codes "m") Branch None ∷ node (codes "t") Teller (Some 3) ∷ node (codes "u") Teller (Some 1) ∷ [];
  links = leads 2 0 0 ∷ leads 2 1 1 ∷ leads 3 0 2 ∷ [];
}

-- a bank with a row beside it, whose map adds k, and whose sink has this path; account b was opened with so much
abbrev pub beside : ℕ → ℕ → List ℕ → Graph
beside k b sink = record {
  nodes = node (codes "a") Account (Some 100) ∷ node (codes "b") Account (Some b) ∷ node (codes "m") Map (Some k) ∷ node (codes "r") Branch None ∷ node (codes "s") Source (Some 3)
      ∷ node sink Sink None ∷ node (codes "w") Teller (Some 3) ∷ [];
  links = leads 2 0 5 ∷ leads 3 0 0 ∷ leads 3 1 1 ∷ leads 4 0 2 ∷ leads 6 0 3 ∷ [];
}

abbrev pub bank_beside_row : Graph
bank_beside_row = beside 5 0 (codes "t")

-- a branch that has whence to take, and nowhere to put it
abbrev pub with_half_a_branch : Graph
with_half_a_branch = record { nodes = node (codes "a") Account (Some 100) ∷ node (codes "r") Branch None ∷ node (codes "w") Teller (Some 3) ∷ []; links = leads 1 0 0 ∷ leads 2 0 1 ∷ [] }

-- a teller that leads to an account
abbrev pub with_teller_at_account : Graph
with_teller_at_account = record { nodes = node (codes "a") Account (Some 100) ∷ node (codes "t") Teller (Some 3) ∷ []; links = leads 1 0 0 ∷ [] }

abbrev log : ℕ → Last → NodeLog
log n l = record { slot = n; events = []; last = l }

-- Account a, opened with 100, paid 3 to b and was replaced, its state moved; a third account, opened with 5, went. The
-- one that took over ends with so much.
abbrev pub report : ℕ → Report
report b = record {
  history = to.Make 0 (node (codes "a") Account (Some 100)) None ∷ to.Make 1 (node (codes "b") Account (Some 0)) None ∷ to.Make 2 (node (codes "c") Account (Some 5)) None
      ∷ to.Remove 0 ∷ to.Remove 2 ∷ to.Make 3 (node (codes "a") Account (Some 7)) (Some 0) ∷ to.Commit ∷ [];
  logs = log 0 (last.Moved 3) ∷ log 1 (last.State (3 ∷ [])) ∷ log 2 (last.State (5 ∷ [])) ∷ log 3 (last.State (b ∷ [])) ∷ [];
  unfinished = None;
  status = 0;
}
