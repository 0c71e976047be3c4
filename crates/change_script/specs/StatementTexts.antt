-- To be believed (definitions.md).
-- The line that writes a statement of a script, and which statements a line can write.
use Rattle.std.specs.Prelude.{◌≡◌, ◌<◌, ◌^◌, ⊤, ℕ, ℤ, pos, negsuc, true, List, [], ◌∷◌, ◌++◌, codes}
use Rattle.std.specs.List.{AllByRecursion}
use Rattle.std.specs.Str.{is_utf8}
use Rattle.change_plan.specs.declared.plan_data.Move.{Move}
use Rattle.report_types.specs.declared.script.Body.{Body}
use Rattle.report_types.specs.declared.script.Body.TheVariants as bodies
use Rattle.change_script.specs.Tokens.{is_word}
use Rattle.change_script.specs.Paths.{is_name, is_path, path_fits}
use Rattle.report_writing.specs.Reports.{with_system}
use Rattle.change_script.specs.ScriptWords.{is_blankless}
use Rattle.report_writing.specs.Writing.{with_one}
use Rattle.change_script.specs.Written.{IsNumber}

abbrev pub move_text : Move → List ℕ
move_text moved = moved.from ++ (codes " -> " ++ moved.to)

-- ` moving PATH -> PATH, PATH -> PATH` and so on, or nothing
abbrev pub more_moves_text : List Move → List ℕ
more_moves_text [] = []
more_moves_text (next ∷ more) = codes ", " ++ (move_text next ++ more_moves_text more)

abbrev pub moving_text : List Move → List ℕ
moving_text [] = []
moving_text (first ∷ more) = codes " moving " ++ (move_text first ++ more_moves_text more)

abbrev pub statement_text : Body → List ℕ
statement_text (bodies.File name) = codes "use " ++ name
statement_text (bodies.Start name args) = with_system (codes "start") name args
statement_text (bodies.Run count) = with_one (codes "run") count
statement_text (bodies.Change name args within moves) = with_system (codes "change to") name args ++ (with_one (codes " within") within ++ moving_text moves)
statement_text (bodies.Finish within) = with_one (codes "finish within") within
statement_text bodies.Show = codes "show"
statement_text bodies.Stop = codes "end"

-- from -2,147,483,648 to 2,147,483,647
abbrev pub IsInteger : ℤ → Type 0
IsInteger (pos n) = n < 2 ^ 31
IsInteger (negsuc n) = n < 2 ^ 31

abbrev pub IsWrittenName : List ℕ → Type 0
IsWrittenName name = (is_word name ≡ true) × (is_name name ≡ true)

abbrev pub IsWrittenPath : List ℕ → Type 0
IsWrittenPath path = (is_word path ≡ true) × (is_path path ≡ true) × (path_fits path ≡ true)

abbrev pub IsWrittenMove : Move → Type 0
IsWrittenMove moved = IsWrittenPath moved.from × IsWrittenPath moved.to

-- Names and paths are of one word and have their forms, numbers keep their limits, and a file's name is UTF-8 without
-- a blank.
abbrev pub CanBeStated : Body → Type 0
CanBeStated (bodies.File name) = (is_utf8 name ≡ true) × (is_blankless name ≡ true)
CanBeStated (bodies.Start name args) = IsWrittenName name × AllByRecursion IsInteger args
CanBeStated (bodies.Run count) = IsNumber count
CanBeStated (bodies.Change name args within moves) =
    IsWrittenName name × AllByRecursion IsInteger args × IsNumber within × AllByRecursion IsWrittenMove moves
CanBeStated (bodies.Finish within) = IsNumber within
CanBeStated bodies.Show = ⊤
CanBeStated bodies.Stop = ⊤
