-- Two merges of a history with logs that differ by exchanges of neighbours.
use Rattle.std.specs.Prelude.{List, ◌∷◌, ◌++◌}
use Rattle.quiesce_core.specs.declared.event.Event.{Event}
use Rattle.report_types.specs.declared.report.HistoryLine.{HistoryLine}
use Rattle.change_spec.specs.Members.{Member}
use Rattle.merge_laws.specs.Merges.{HasLogs, IsMergeWith}

-- a merge with the history in which each node does what its log has
pub record IsMergeOf (history : List HistoryLine) (logs : List (List Event)) (m : List Member) : Type 0 where
  pub merge : IsMergeWith history m
  pub logs_are : HasLogs logs m

-- Two members stand side by side in the one and the other way round in the other, and both lists are merges: so neither
-- has to wait for the other, and what is behind them goes on alike. Or there are such exchanges one after the other.
pub data AreExchanged (history : List HistoryLine) (logs : List (List Event)) : List Member → List Member → Type 0 where
  unexchanged : (m : List Member) → AreExchanged history logs m m
  exchanged : (front back : List Member) (x y : Member) → IsMergeOf history logs (front ++ x ∷ y ∷ back) → IsMergeOf history logs (front ++ y ∷ x ∷ back)
      → AreExchanged history logs (front ++ x ∷ y ∷ back) (front ++ y ∷ x ∷ back)
  further : (m k n : List Member) → AreExchanged history logs m k → AreExchanged history logs k n → AreExchanged history logs m n
