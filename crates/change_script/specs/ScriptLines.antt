-- To be believed (definitions.md).
-- What a line of a script means: the statement of its form, where each number is within its limit.
use Rattle.std.specs.Prelude.{◌≡◌, ℕ, Bool, true, false, ◌&&◌, if◌then◌else◌, List, map, Option, Some, None, Result, Ok, Err}
use Rattle.std.specs.List.{list_all}
use Rattle.change_plan.specs.declared.plan_data.Move.{Move}
use Rattle.report_types.specs.declared.script.Body.{Body}
use Rattle.report_types.specs.declared.script.Body.TheVariants as bodies
use Rattle.change_script.specs.declared.error.LineFault.{LineFault}
use Rattle.change_script.specs.declared.error.LineFault.TheVariants.{Bad, Big}
use Rattle.change_script.specs.Numbers.{integer, integer_fits, number, number_fits}
use Rattle.change_script.specs.Paths.{path_fits}
use Rattle.change_script.specs.ScriptWords.{Ends, Words, file, start, run, change, finish, show, stop, words_in}
use Rattle.change_script.specs.ScriptForms.{are_right, HasForm}

-- Each number, integer and index of a path is within its limit.
abbrev pub paths_fit : Ends → Bool
paths_fit moved = path_fits moved.from && path_fits moved.to

abbrev pub keep_limits : Words → Bool
keep_limits (start name args) = list_all integer_fits args
keep_limits (run count) = number_fits count
keep_limits (change name args within moves) = list_all integer_fits args && number_fits within && list_all paths_fit moves
keep_limits (finish within) = number_fits within
keep_limits words = true

abbrev pub move_of : Ends → Move
move_of moved = record { from = moved.from; to = moved.to }

-- the statement that the words make
abbrev pub body_of : Words → Body
body_of (file name) = bodies.File name
body_of (start name args) = bodies.Start name (map integer args)
body_of (run count) = bodies.Run (number count)
body_of (change name args within moves) = bodies.Change name (map integer args) (number within) (map move_of moves)
body_of (finish within) = bodies.Finish (number within)
body_of show = bodies.Show
body_of stop = bodies.Stop

-- what is meant by words, or what is wrong with them
abbrev pub meaning_of : Option Words → Result Body LineFault
meaning_of None = Err Bad
meaning_of (Some words) = if are_right words then (if keep_limits words then Ok (body_of words) else Err Big) else Err Bad

abbrev pub meaning : List ℕ → Result Body LineFault
meaning line = meaning_of (words_in line)

-- The same by the forms: the line has a form, the numbers in it keep their limits, and the statement is that of the
-- form; or some number doesn't.
abbrev pub LineMeans : List ℕ → Body → Type 0
LineMeans line body = (words : Words) × HasForm line words × (keep_limits words ≡ true) × (body ≡ body_of words)

abbrev pub IsTooBig : List ℕ → Type 0
IsTooBig line = (words : Words) × HasForm line words × (keep_limits words ≡ false)
