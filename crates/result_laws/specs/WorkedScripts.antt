-- The statements of small scripts, with the graphs that their descriptions elaborate to: those of line-grows, row-change
-- and bank-change of the examples, and changes of a fan and of a table.
use Rattle.std.specs.Prelude.{ℕ, ℤ, pos, List, [], ◌∷◌, Some, None, codes}
use Rattle.config_graph.specs.Graph.{Graph}
use Rattle.config_graph.specs.declared.kind.Kind.TheVariants.{Buffer, Fork, Map, Philosopher, Place, Sink, Source}
use Rattle.quiesce_laws.specs.Worked.{node}
use Rattle.change_plan.specs.declared.plan_data.Move.{Move}
use Rattle.change_plan_laws.specs.Systems.{bank, leads, line, map_m, sink_u, source_at}
use Rattle.change_spec.specs.Statements.{Statement, start, change, run, finish, show}
use Rattle.result_laws.specs.WorkedBanks.{bank_beside_row, beside}

-- a source of three items leads through a buffer to a sink
abbrev pub buffered : ℕ → Graph
buffered cap = record {
  nodes = node (codes "b") Buffer (Some cap) ∷ node (codes "s") Source (Some 3) ∷ node (codes "t") Sink None ∷ [];
  links = leads 0 0 2 ∷ leads 1 0 0 ∷ [];
}

-- two lanes, each a source, a map and a buffer, lead to one sink
abbrev pub fan : ℕ → Graph
fan k = record {
  nodes = node (codes "l[0].b") Buffer (Some 2) ∷ node (codes "l[0].m") Map (Some k) ∷ node (codes "l[1].b") Buffer (Some 2) ∷ node (codes "l[1].m") Map (Some k)
      ∷ node (codes "s[0]") Source (Some 10) ∷ node (codes "s[1]") Source (Some 10) ∷ node (codes "t") Sink None ∷ [];
  links = leads 0 0 6 ∷ leads 1 0 0 ∷ leads 2 0 6 ∷ leads 3 0 2 ∷ leads 4 0 1 ∷ leads 5 0 3 ∷ [];
}

-- three philosophers at their places, with three forks, and without the first of them
abbrev pub table : Graph
table = record {
  nodes = node (codes "f[0]") Fork None ∷ node (codes "f[1]") Fork None ∷ node (codes "f[2]") Fork None
      ∷ node (codes "ph[0]") Philosopher (Some 1) ∷ node (codes "ph[1]") Philosopher (Some 1) ∷ node (codes "ph[2]") Philosopher (Some 1)
      ∷ node (codes "pl[0]") Place (Some 1) ∷ node (codes "pl[1]") Place (Some 0) ∷ node (codes "pl[2]") Place (Some 0) ∷ [];
  links = leads 3 0 6 ∷ leads 4 0 7 ∷ leads 5 0 8 ∷ leads 6 0 0 ∷ leads 6 1 1 ∷ leads 7 0 1 ∷ leads 7 1 2 ∷ leads 8 0 2 ∷ leads 8 1 0 ∷ [];
}

abbrev pub table_of_two : Graph
table_of_two = record {
  nodes = node (codes "f[1]") Fork None ∷ node (codes "f[2]") Fork None
      ∷ node (codes "ph[0]") Philosopher (Some 1) ∷ node (codes "ph[1]") Philosopher (Some 1) ∷ node (codes "ph[2]") Philosopher (Some 1)
      ∷ node (codes "pl[0]") Place (Some 1) ∷ node (codes "pl[1]") Place (Some 0) ∷ node (codes "pl[2]") Place (Some 0) ∷ [];
  links = leads 2 0 5 ∷ leads 3 0 6 ∷ leads 4 0 7 ∷ leads 5 1 0 ∷ leads 6 0 0 ∷ leads 6 1 1 ∷ leads 7 0 1 ∷ [];
}

-- a script that starts a component, runs, changes to it with other arguments, and finishes
abbrev pub changing : List ℕ → List ℤ → Graph → ℕ → List ℤ → Graph → ℕ → List Move → ℕ → List Statement
changing name args old k new_args new within moves n = start name args old ∷ run k ∷ change name new_args new within moves ∷ finish n ∷ []

abbrev pub same_path : List ℕ → Move
same_path path = record { from = path; to = path }

abbrev pub line_grows : List Statement
line_grows = changing (codes "Line") (pos 2 ∷ []) (buffered 2) 2 (pos 3 ∷ []) (buffered 3) 10 (same_path (codes "b") ∷ []) 100

abbrev pub row_change : List Statement
row_change = changing (codes "Row") (pos 10 ∷ []) (line 10) 1 (pos 20 ∷ []) (line 20) 10 [] 100

abbrev pub bank_change : List Statement
bank_change = changing (codes "Bank") (pos 100 ∷ []) (bank 3 100) 1 (pos 7 ∷ []) (bank 3 7) 10 (same_path (codes "a") ∷ []) 100

abbrev pub fan_change : List Statement
fan_change = changing (codes "Fan") (pos 2 ∷ pos 1 ∷ pos 2 ∷ []) (fan 1) 10 (pos 2 ∷ pos 5 ∷ pos 2 ∷ []) (fan 5) 20 [] 1000

abbrev pub table_change : List Statement
table_change = changing (codes "Table") (pos 3 ∷ pos 1 ∷ pos 9 ∷ []) table 1 (pos 3 ∷ pos 1 ∷ pos 0 ∷ []) table_of_two 20 [] 100

-- a row beside a bank, of which an account is replaced; or the map of the row too; or its sink, by one that knows nothing
abbrev pub beside_run : List Statement
beside_run = start (codes "Both") [] bank_beside_row ∷ run 1 ∷ show ∷ finish 100 ∷ []

abbrev pub beside_change : List Statement
beside_change = changing (codes "Both") (pos 5 ∷ pos 0 ∷ []) bank_beside_row 1 (pos 5 ∷ pos 7 ∷ []) (beside 5 7 (codes "t")) 10 [] 100

abbrev pub both_change : List Statement
both_change = changing (codes "Both") (pos 5 ∷ pos 0 ∷ []) bank_beside_row 1 (pos 9 ∷ pos 7 ∷ []) (beside 9 7 (codes "t")) 10 [] 100

abbrev pub beside_another_sink : List Statement
beside_another_sink = changing (codes "Both") (pos 5 ∷ pos 0 ∷ []) bank_beside_row 1 (pos 5 ∷ pos 7 ∷ []) (beside 5 7 (codes "u")) 10 [] 100

-- a row whose sink is replaced by another, and takes what it keeps with it
abbrev pub with_another_sink : Graph
with_another_sink = record { nodes = map_m 10 ∷ source_at (codes "s") 3 ∷ sink_u ∷ []; links = leads 0 0 2 ∷ leads 1 0 0 ∷ [] }

abbrev pub sink_change : List Statement
sink_change = changing (codes "Row") (pos 10 ∷ []) (line 10) 1 (pos 20 ∷ []) with_another_sink 10 [] 100
