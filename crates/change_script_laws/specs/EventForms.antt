-- The forms of the lines of an event file. A line has a form where its words are those of the form, in this order.
use Rattle.std.specs.Prelude.{◌≡◌, ℕ, Bool, true, false, ◌&&◌, List, [], ◌∷◌, ◌++◌, map, codes, Option, Some, None, option_map}
use Rattle.std.specs.List.{list_all}
use Rattle.config_graph.specs.declared.kind.Kind.{Kind}
use Rattle.config_graph.specs.Kinds.{row}
use Rattle.quiesce_core.specs.declared.event.Event.TheVariants as events
use Rattle.change_script.specs.declared.event_lines.EventLine.{EventLine}
use Rattle.change_script.specs.declared.event_lines.EventLine.TheVariants as statements
use Rattle.change_script.specs.Tokens.{ScriptToken, word, opened, closed, tokens}
use Rattle.change_script.specs.Numbers.{integer, integer_fits, is_integer, is_number, number, number_fits}
use Rattle.change_script.specs.Paths.{is_name, is_path, path_fits}
use Rattle.change_script.specs.ScriptForms.{argument_tokens}

-- A form, with the words that stand at the places of C, of the arguments, and of numbers, paths and kinds.
pub data Form : Type 0 where
  start : (name : List ℕ) (args : List (List ℕ)) → Form
  begin : (port serial value : List ℕ) → Form
  call : (port serial value : List ℕ) → Form
  take : (port serial value : List ℕ) → Form
  more : (port serial value : List ℕ) → Form
  ask : (port serial value : List ℕ) → Form
  hear : (port serial value : List ℕ) → Form
  give : (port serial value : List ℕ) → Form
  end : (port serial value : List ℕ) → Form
  miss : (port : List ℕ) → Form
  close : (port : List ℕ) → Form
  reopen : (port : List ℕ) → Form
  make : (slot path : List ℕ) (kind : Kind) (arg from : Option (List ℕ)) → Form
  link : (port slot provide : List ℕ) → Form
  unlink : (port : List ℕ) → Form
  remove : (slot : List ℕ) → Form

-- VERB NUM, and VERB NUM NUM NUM
abbrev pub with_one_word : List ℕ → List ℕ → List ScriptToken
with_one_word verb number = word verb ∷ word number ∷ []

abbrev pub with_three_words : List ℕ → List ℕ → List ℕ → List ℕ → List ScriptToken
with_three_words verb first second third = word verb ∷ word first ∷ word second ∷ word third ∷ []

-- KIND's parentheses, empty or round NUM, and then `from` SLOT or nothing
abbrev pub source_tokens : Option (List ℕ) → List ScriptToken
source_tokens None = []
source_tokens (Some slot) = word (codes "from") ∷ word slot ∷ []

abbrev pub kind_tokens : Option (List ℕ) → List ScriptToken → List ScriptToken
kind_tokens None rest = opened ∷ closed ∷ rest
kind_tokens (Some arg) rest = opened ∷ word arg ∷ closed ∷ rest

-- the tokens of a line of the form with these words
abbrev pub form_tokens : Form → List ScriptToken
form_tokens (start name args) = word (codes "start") ∷ word name ∷ opened ∷ argument_tokens args
form_tokens (begin port serial value) = with_three_words (codes "begin") port serial value
form_tokens (call port serial value) = with_three_words (codes "call") port serial value
form_tokens (take port serial value) = with_three_words (codes "take") port serial value
form_tokens (more port serial value) = with_three_words (codes "more") port serial value
form_tokens (ask port serial value) = with_three_words (codes "ask") port serial value
form_tokens (hear port serial value) = with_three_words (codes "hear") port serial value
form_tokens (give port serial value) = with_three_words (codes "give") port serial value
form_tokens (end port serial value) = with_three_words (codes "end") port serial value
form_tokens (miss port) = with_one_word (codes "miss") port
form_tokens (close port) = with_one_word (codes "close") port
form_tokens (reopen port) = with_one_word (codes "reopen") port
form_tokens (make slot path kind arg from) =
    word (codes "make") ∷ word slot ∷ word path ∷ word (row kind).name ∷ kind_tokens arg (source_tokens from)
form_tokens (link port slot provide) = with_three_words (codes "link") port slot provide
form_tokens (unlink port) = with_one_word (codes "unlink") port
form_tokens (remove slot) = with_one_word (codes "remove") slot

abbrev pub optional : Option (List ℕ) → List (List ℕ)
optional None = []
optional (Some bytes) = bytes ∷ []

-- the words at the places of numbers
abbrev pub numbers : Form → List (List ℕ)
numbers (start name args) = []
numbers (begin port serial value) = port ∷ serial ∷ value ∷ []
numbers (call port serial value) = port ∷ serial ∷ value ∷ []
numbers (take port serial value) = port ∷ serial ∷ value ∷ []
numbers (more port serial value) = port ∷ serial ∷ value ∷ []
numbers (ask port serial value) = port ∷ serial ∷ value ∷ []
numbers (hear port serial value) = port ∷ serial ∷ value ∷ []
numbers (give port serial value) = port ∷ serial ∷ value ∷ []
numbers (end port serial value) = port ∷ serial ∷ value ∷ []
numbers (miss port) = port ∷ []
numbers (close port) = port ∷ []
numbers (reopen port) = port ∷ []
numbers (make slot path kind arg from) = slot ∷ (optional arg ++ optional from)
numbers (link port slot provide) = port ∷ slot ∷ provide ∷ []
numbers (unlink port) = port ∷ []
numbers (remove slot) = slot ∷ []

-- Numbers are numbers; of a start the name is one of the language and arguments are integers; of a made node the path
-- is one.
abbrev pub others_are_right : Form → Bool
others_are_right (start name args) = is_name name && list_all is_integer args
others_are_right (make slot path kind arg from) = is_path path
others_are_right form = true

abbrev pub is_right : Form → Bool
is_right form = others_are_right form && list_all is_number (numbers form)

-- Each number, integer and index of a path is within its limit.
abbrev pub others_fit : Form → Bool
others_fit (start name args) = list_all integer_fits args
others_fit (make slot path kind arg from) = path_fits path
others_fit form = true

abbrev pub keeps_limits : Form → Bool
keeps_limits form = others_fit form && list_all number_fits (numbers form)

-- the start or the event of a line of the form
abbrev pub statement_of : Form → EventLine
statement_of (start name args) = statements.Start name (map integer args)
statement_of (begin port serial value) = statements.Event (events.Begin (number port) (number serial) (number value))
statement_of (call port serial value) = statements.Event (events.Call (number port) (number serial) (number value))
statement_of (take port serial value) = statements.Event (events.Take (number port) (number serial) (number value))
statement_of (more port serial value) = statements.Event (events.More (number port) (number serial) (number value))
statement_of (ask port serial value) = statements.Event (events.Ask (number port) (number serial) (number value))
statement_of (hear port serial value) = statements.Event (events.Hear (number port) (number serial) (number value))
statement_of (give port serial value) = statements.Event (events.Give (number port) (number serial) (number value))
statement_of (end port serial value) = statements.Event (events.End (number port) (number serial) (number value))
statement_of (miss port) = statements.Event (events.Miss (number port))
statement_of (close port) = statements.Event (events.Close (number port))
statement_of (reopen port) = statements.Event (events.Reopen (number port))
statement_of (make slot path kind arg from) =
    statements.Event (events.Make (number slot) (record { path = path; kind = kind; arg = option_map number arg }) (option_map number from))
statement_of (link port slot provide) = statements.Event (events.Link (number port) (number slot) (number provide))
statement_of (unlink port) = statements.Event (events.Unlink (number port))
statement_of (remove slot) = statements.Event (events.Remove (number slot))

-- The line has the form: its tokens are those of the form, and each word is what stands at its place.
abbrev pub HasEventForm : List ℕ → Form → Type 0
HasEventForm line form = (tokens line ≡ form_tokens form) × (is_right form ≡ true)

-- The line has a form whose numbers keep their limits, and this is what the form says; or one of its numbers doesn't.
abbrev pub MeansEvent : List ℕ → EventLine → Type 0
MeansEvent line statement = (form : Form) × HasEventForm line form × (keeps_limits form ≡ true) × (statement ≡ statement_of form)

abbrev pub IsTooBigEvent : List ℕ → Type 0
IsTooBigEvent line = (form : Form) × HasEventForm line form × (keeps_limits form ≡ false)
