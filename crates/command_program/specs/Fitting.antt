-- Which lines may stand where: a start and a change need a description, and a start stands once, above the statements
-- of the run.
use Rattle.std.specs.Prelude.{◌≡◌, ⊤, Bool, true, false, ◌||◌, List, [], ◌∷◌}
use Rattle.std.specs.Str.{IsUtf8}
use Rattle.change_script.specs.ScriptFiles.{is_file, is_start}
use Rattle.report_types.specs.declared.script.Body.{Body}
use Rattle.report_types.specs.declared.script.Body.TheVariants as bodies
use Rattle.report_types.specs.declared.script.ScriptLine.{ScriptLine}

-- where a description is used above, or not, and a start stands above, or not
abbrev pub MayStand : Bool → Bool → Body → Type 0
MayStand described begun (bodies.File name) = IsUtf8 name
MayStand described begun (bodies.Start name args) = (described ≡ true) × (begun ≡ false)
MayStand described begun (bodies.Run k) = begun ≡ true
MayStand described begun (bodies.Change name args within moves) = (described ≡ true) × (begun ≡ true)
MayStand described begun (bodies.Finish n) = begun ≡ true
MayStand described begun bodies.Show = begun ≡ true
MayStand described begun bodies.Stop = ⊤

-- each line fits behind those above it, and at the end there is a start
abbrev pub MayAllStand : Bool → Bool → List ScriptLine → Type 0
MayAllStand described begun [] = begun ≡ true
MayAllStand described begun (line ∷ more) =
    MayStand described begun line.body × MayAllStand (described || is_file line.body) (begun || is_start line.body) more
