-- A script over one file, and to what the components of that file elaborate.
use Rattle.std.specs.Prelude.{◌≡◌, ℕ, ℤ, List, [], ◌∷◌, codes, pos}
use Rattle.config_graph.specs.Graph.{Graph}
use Rattle.report_types.specs.declared.script.Body.{Body}
use Rattle.report_types.specs.declared.script.Body.TheVariants as bodies
use Rattle.report_types.specs.declared.script.Script.{Script}
use Rattle.report_types.specs.declared.script.ScriptLine.{ScriptLine}
use Rattle.change_plan_laws.specs.Systems.{line}

-- `Line(3, K)` of the file, and nothing else
abbrev pub elaborates : List ℕ → List ℕ → List ℤ → Graph → Type 0
elaborates file name args g =
    (file ≡ codes "line.dar") × (name ≡ codes "Line") × ((k : ℕ) × (args ≡ pos 3 ∷ pos k ∷ []) × (g ≡ line k))

abbrev pub on_line : ℕ → Body → ScriptLine
on_line number body = record { number = number; body = body }

abbrev pub script : Script
script =
    record {
      lines =
          on_line 1 (bodies.File (codes "line.dar"))
          ∷ on_line 2 (bodies.Start (codes "Line") (pos 3 ∷ pos 10 ∷ []))
          ∷ on_line 3 (bodies.Run 1)
          ∷ on_line 4 (bodies.Change (codes "Line") (pos 3 ∷ pos 20 ∷ []) 2 [])
          ∷ on_line 5 (bodies.Finish 100)
          ∷ on_line 6 bodies.Stop ∷ [];
    }
