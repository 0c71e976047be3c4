-- To be believed (definitions.md).
-- The lines that refuse: what refuses, and the name of the fault with its fields, each after a space. A place is
-- written as LINE:COLUMN, and the empty path, that of the top, as a full stop.
use Rattle.std.specs.Prelude.{ℕ, List, [], ◌∷◌, ◌++◌, codes, decimal}
use Rattle.darwin_lexer.specs.declared.token.At.{At}
use Rattle.darwin_lexer.specs.declared.token.LexError.{LexError}
use Rattle.darwin_lexer.specs.declared.token.LexError.TheVariants as lexing
use Rattle.darwin_types.specs.declared.error.TypeError.{TypeError}
use Rattle.darwin_types.specs.declared.error.TypeError.TheVariants as checking
use Rattle.elaborator.specs.declared.error.ElabError.{ElabError}
use Rattle.elaborator.specs.declared.error.ElabError.TheVariants as elaborating
use Rattle.change_script.specs.declared.error.ScriptError.{ScriptError}
use Rattle.change_script.specs.declared.error.ScriptError.TheVariants as scripting
use Rattle.change_plan.specs.declared.error.PlanError.{PlanError}
use Rattle.change_plan.specs.declared.error.PlanError.TheVariants as planning
use Rattle.report_texts.specs.declared.error.ReportFault.{ReportFault}
use Rattle.report_texts.specs.declared.error.ReportFault.TheVariants as reporting
pub use Rattle.report_writing.specs.Writing.{spaced}

abbrev pub place_word : At → List ℕ
place_word at = decimal at.line ++ codes ":" ++ decimal at.column

abbrev pub path_word : List ℕ → List ℕ
path_word [] = codes "."
path_word (byte ∷ path) = byte ∷ path

abbrev pub lex_words : LexError → List (List ℕ)
lex_words (lexing.BadByte at) = codes "BadByte" ∷ place_word at ∷ []
lex_words (lexing.OpenComment at) = codes "OpenComment" ∷ place_word at ∷ []
lex_words (lexing.LongName at) = codes "LongName" ∷ place_word at ∷ []
lex_words (lexing.BigNumber at) = codes "BigNumber" ∷ place_word at ∷ []
lex_words lexing.NoMemory = []

-- Faults of the grammar show the place of the token.
abbrev pub expected_words : At → List (List ℕ)
expected_words at = codes "Expected" ∷ place_word at ∷ []

abbrev pub too_nested_words : At → List (List ℕ)
too_nested_words at = codes "TooNested" ∷ place_word at ∷ []

abbrev pub check_words : TypeError → List (List ℕ)
check_words (checking.TwoComponents name) = codes "TwoComponents" ∷ name ∷ []
check_words (checking.TwoNames component name) = codes "TwoNames" ∷ component ∷ name ∷ []
check_words (checking.UnknownName component name) = codes "UnknownName" ∷ component ∷ name ∷ []
check_words (checking.UnknownComponent component name) = codes "UnknownComponent" ∷ component ∷ name ∷ []
check_words (checking.ArgCount component name wanted given) = codes "ArgCount" ∷ component ∷ name ∷ decimal wanted ∷ decimal given ∷ []
check_words (checking.UnknownKind name) = codes "UnknownKind" ∷ name ∷ []
check_words (checking.KindPorts name) = codes "KindPorts" ∷ name ∷ []
check_words checking.NoMemory = []

abbrev pub elaborate_words : ElabError → List (List ℕ)
elaborate_words (elaborating.NoTop name) = codes "NoTop" ∷ name ∷ []
elaborate_words (elaborating.TopArgs wanted given) = codes "TopArgs" ∷ decimal wanted ∷ decimal given ∷ []
elaborate_words (elaborating.OutOfRange path at) = codes "OutOfRange" ∷ path_word path ∷ place_word at ∷ []
elaborate_words (elaborating.ZeroDivisor path at) = codes "ZeroDivisor" ∷ path_word path ∷ place_word at ∷ []
elaborate_words (elaborating.BadIndex path at) = codes "BadIndex" ∷ path_word path ∷ place_word at ∷ []
elaborate_words (elaborating.TwoInstances path) = codes "TwoInstances" ∷ path_word path ∷ []
elaborate_words (elaborating.BoundTwice path end) = codes "BoundTwice" ∷ path_word path ∷ end ∷ []
elaborate_words (elaborating.BadBinding path at) = codes "BadBinding" ∷ path_word path ∷ place_word at ∷ []
elaborate_words (elaborating.Annotation path at) = codes "Annotation" ∷ path_word path ∷ place_word at ∷ []
elaborate_words (elaborating.TooDeep path) = codes "TooDeep" ∷ path_word path ∷ []
elaborate_words elaborating.TooMany = codes "TooMany" ∷ []
elaborate_words (elaborating.DependsCycle path) = codes "DependsCycle" ∷ path_word path ∷ []
elaborate_words (elaborating.TopIsKind name) = codes "TopIsKind" ∷ name ∷ []
elaborate_words elaborating.NoMemory = []

abbrev pub plan_words : PlanError → List (List ℕ)
plan_words (planning.NotRemoved path) = codes "NotRemoved" ∷ path_word path ∷ []
plan_words (planning.NotCreated path) = codes "NotCreated" ∷ path_word path ∷ []
plan_words (planning.KindsDiffer from to) = codes "KindsDiffer" ∷ path_word from ∷ path_word to ∷ []
plan_words (planning.MovedTwice path) = codes "MovedTwice" ∷ path_word path ∷ []
plan_words (planning.NodesFull made wanted) = codes "NodesFull" ∷ decimal made ∷ decimal wanted ∷ []
plan_words (planning.PortsFull made wanted) = codes "PortsFull" ∷ decimal made ∷ decimal wanted ∷ []
plan_words planning.NoMemory = []

-- Faults of a line of a script or of a file of events show its number.
abbrev pub script_words : ScriptError → List (List ℕ)
script_words (scripting.BadLine line) = codes "BadLine" ∷ decimal line ∷ []
script_words scripting.NoStart = codes "NoStart" ∷ []
script_words scripting.NoEnd = codes "NoEnd" ∷ []
script_words (scripting.Order line) = codes "Order" ∷ decimal line ∷ []
script_words (scripting.NumberTooBig line) = codes "NumberTooBig" ∷ decimal line ∷ []
script_words (scripting.TooManyLines line) = codes "TooManyLines" ∷ decimal line ∷ []
script_words scripting.NoMemory = []

-- So do those of a line of a report.
abbrev pub report_words : ReportFault → List (List ℕ)
report_words (reporting.BadLine line) = codes "BadLine" ∷ decimal line ∷ []
report_words reporting.Short = codes "Short" ∷ []
report_words reporting.NoMemory = []

-- the line of a file that can't be read
abbrev pub read_fault_line : List ℕ → List ℕ
read_fault_line file = codes "read fault " ++ file ++ 10 ∷ []

-- the line of a description with a fault
abbrev pub description_line : List ℕ → List (List ℕ) → List ℕ
description_line file words = codes "description " ++ file ++ codes ":" ++ spaced words ++ 10 ∷ []

-- the line of a script, a file of events or a report with a fault
abbrev pub script_line : List ℕ → List (List ℕ) → List ℕ
script_line file words = codes "script " ++ file ++ codes ":" ++ spaced words ++ 10 ∷ []

-- the line of an event that is denied: its number, from 1, and the first of its rules that fails
abbrev pub denied_line : ℕ → ℕ → List ℕ
denied_line number rule = codes "denied" ++ spaced (decimal number ∷ decimal rule ∷ []) ++ 10 ∷ []
