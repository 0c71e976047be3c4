-- What the seat of a node tells of its loads, as gates do: how many there were, the last at each own port, and those
-- of the last `take` and the last `hear`.
use Rattle.std.specs.Prelude.{ℕ, ◌+◌, ◌==◌, List, Some, None, fold, if◌then◌else◌, option_map}
use Rattle.node_gate.specs.Loads.{Load, Loads}
use Rattle.txn_spec.specs.declared.view.LoadKind.{LoadKind}
use Rattle.txn_spec.specs.declared.view.LoadKind.TheVariants.{Own, Exchange, Take, Hear}
use Rattle.txn_spec.specs.declared.view.LoadStep.{LoadStep}

abbrev pub no_loads : Loads
no_loads = record { steps = 0; at = λ q. None; take = None; hear = None }

-- the load of this word in the next step
abbrev pub next_load : Loads → ℕ → Load
next_load s w = record { word = w; found = None; step = s.steps + 1 }

-- an exchange found another word in the place of the loaded one, or not
abbrev pub with_found : ℕ → Load → Load
with_found f l = record l { found = if f == l.word then None else Some f }

abbrev pub loads_by : LoadKind → ℕ → ℕ → Loads → Loads
loads_by Own p w s = record s { steps = s.steps + 1; at = λ q. if q == p then Some (next_load s w) else s.at q }
loads_by Exchange p w s = record s { steps = s.steps + 1; at = λ q. if q == p then option_map (with_found w) (s.at q) else s.at q }
loads_by Take p w s = record s { steps = s.steps + 1; take = Some (record { port = p; load = next_load s w }) }
loads_by Hear p w s = record s { steps = s.steps + 1; hear = Some (record { port = p; load = next_load s w }) }

abbrev pub loads_next : Loads → LoadStep → Loads
loads_next s l = loads_by l.kind l.port l.word s

abbrev pub loads_of : List LoadStep → Loads
loads_of ls = fold loads_next no_loads ls
