-- What is kept where a roll ends: its rounds are no whole report, since nothing stops the system. And the whole change,
-- made at once behind the same start and run.
use Rattle.std.specs.Prelude.{◌≡◌, ◌≤◌, ◌+◌, ℕ, ℤ, List, [], ◌∷◌, drop, take}
use Rattle.config_graph.specs.Graph.{Graph}
use Rattle.change_plan.specs.declared.plan_data.Move.{Move}
use Rattle.change_spec.specs.Serial.{ChangesTo, Played, world_after}
use Rattle.change_spec.specs.Statements.{Statement, change, run, start}
use Rattle.node_turn_laws.specs.World.{World}
use Rattle.report_types.specs.declared.report.HistoryLine.{HistoryLine}
use Rattle.quiesce_core.specs.declared.event.Event.{Event}
use Rattle.result_laws.specs.Flows.{one}
use Rattle.result_laws.specs.UnderWay.{of_nodes, spent, stock, under_way}

-- buffers and sinks hold what sources have sent by then, with what is under way
abbrev pub ItemsBalance : List Event → Type 0
ItemsBalance es = of_nodes (stock one) es ≡ of_nodes (spent one) es + under_way one es

-- the start, the run, and the whole change, which waits so many rounds at most
abbrev pub at_once : List ℕ → List ℤ → Graph → ℕ → List ℕ → List ℤ → ℕ → Graph → List Move → List Statement
at_once name args old k new_name new_args within new moves = start name args old ∷ run k ∷ change new_name new_args new within moves ∷ []

-- a change that was tried waited for so many rounds
abbrev pub WaitedFor : World → Statement → List HistoryLine → World → ℕ → Type 0
WaitedFor w (change name args g within moves) lines v n = (c : ChangesTo w name args g within moves lines v) × (c.rounds ≡ n)
WaitedFor w _ lines v n = ⊥

-- changes that were tried one after the other, from this world on, waited for so many together
abbrev pub WaitedInAll : World → List Played → ℕ → Type 0
WaitedInAll w [] n = n ≡ 0
WaitedInAll w (p ∷ ps) n = (i : ℕ) × (j : ℕ) × (n ≡ i + j) × WaitedFor w p.statement p.lines p.world i × WaitedInAll p.world ps j

-- behind a start and a run they waited for at most so many rounds together
pub record WaitTogether (most : ℕ) (played : List Played) : Type 0 where
  pub rounds : ℕ
  pub few : rounds ≤ most
  pub waited : WaitedInAll (world_after (take 2 played)) (drop 2 played) rounds
