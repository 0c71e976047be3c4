-- The statements of the script that `big` makes.
use Rattle.std.specs.Prelude.{◌*◌, ℕ, pos, [], ◌∷◌, codes}
use Rattle.report_types.specs.declared.script.Body.{Body}
use Rattle.report_types.specs.declared.script.Body.TheVariants as bodies
use Rattle.report_types.specs.declared.script.Script.{Script}
use Rattle.report_types.specs.declared.script.ScriptLine.{ScriptLine}

abbrev pub on_line : ℕ → Body → ScriptLine
on_line number body = record { number = number; body = body }

abbrev pub made_script : ℕ → Script
made_script lanes = record {
  lines =
      on_line 1 (bodies.File (codes "big.dar"))
      ∷ on_line 2 (bodies.Start (codes "Lanes") (pos lanes ∷ pos 1 ∷ []))
      ∷ on_line 3 (bodies.Run (20 * lanes))
      ∷ on_line 4 (bodies.Change (codes "Lanes") (pos lanes ∷ pos 2 ∷ []) 100000 [])
      ∷ on_line 5 (bodies.Finish 100000)
      ∷ on_line 6 bodies.Stop
      ∷ [];
}
