-- To be believed (definitions.md).
-- What a line of an event file means, by its tokens.
use Rattle.std.specs.Prelude.{ℕ, ℤ, ◌&&◌, if◌then◌else◌, List, [], ◌∷◌, ◌++◌, codes, bytes_eq, find, Option, Some, None, option_map, option_copied, Result, Ok, Err}
use Rattle.std.specs.List.{list_all}
use Rattle.config_graph.specs.declared.kind.Kind.{Kind}
use Rattle.config_graph.specs.Kinds.{kind_named}
use Rattle.quiesce_core.specs.declared.event.Event.{Event}
use Rattle.quiesce_core.specs.declared.event.Event.TheVariants as events
use Rattle.change_script.specs.declared.verbs.OwnerStep.{OwnerStep}
use Rattle.change_script.specs.declared.verbs.OwnerStep.TheVariants as owner
use Rattle.change_script.specs.declared.verbs.TargetStep.{TargetStep}
use Rattle.change_script.specs.declared.verbs.TargetStep.TheVariants as target
use Rattle.change_script.specs.declared.verbs.Single.{Single}
use Rattle.change_script.specs.declared.verbs.Single.TheVariants as singles
use Rattle.change_script.specs.declared.verbs.EventVerb.{EventVerb}
use Rattle.change_script.specs.declared.verbs.EventVerb.TheVariants as verbs
use Rattle.change_script.specs.declared.error.LineFault.{LineFault}
use Rattle.change_script.specs.declared.error.LineFault.TheVariants.{Bad, Big}
use Rattle.change_script.specs.declared.event_lines.EventLine.{EventLine}
use Rattle.change_script.specs.declared.event_lines.EventLine.TheVariants as statements
use Rattle.change_script.specs.declared.event_lines.Triple.{Triple}
use Rattle.change_script.specs.declared.event_lines.MakeLine.{MakeLine}
use Rattle.change_script.specs.Tokens.{ScriptToken, word, opened, closed}
use Rattle.change_script.specs.Arguments.{arguments, at_end, integers}
use Rattle.change_script.specs.Faults.{both, with_value}
use Rattle.change_script.specs.Numbers.{number_in, is_integer}
use Rattle.change_script.specs.Paths.{is_name, path_in}

-- the first word of each line
abbrev pub owner_bytes : OwnerStep → List ℕ
owner_bytes owner.Begin = codes "begin"
owner_bytes owner.Call = codes "call"
owner_bytes owner.Ask = codes "ask"
owner_bytes owner.End = codes "end"

abbrev pub target_bytes : TargetStep → List ℕ
target_bytes target.Take = codes "take"
target_bytes target.More = codes "more"
target_bytes target.Hear = codes "hear"
target_bytes target.Give = codes "give"

abbrev pub single_bytes : Single → List ℕ
single_bytes singles.Miss = codes "miss"
single_bytes singles.Close = codes "close"
single_bytes singles.Reopen = codes "reopen"
single_bytes singles.Unlink = codes "unlink"
single_bytes singles.Remove = codes "remove"

abbrev pub event_verb_bytes : EventVerb → List ℕ
event_verb_bytes verbs.Start = codes "start"
event_verb_bytes (verbs.Owner step) = owner_bytes step
event_verb_bytes (verbs.Target step) = target_bytes step
event_verb_bytes (verbs.Single single) = single_bytes single
event_verb_bytes verbs.Link = codes "link"
event_verb_bytes verbs.Make = codes "make"

abbrev pub owner_verbs : List EventVerb
owner_verbs = verbs.Owner owner.Begin ∷ verbs.Owner owner.Call ∷ verbs.Owner owner.Ask ∷ verbs.Owner owner.End ∷ []

abbrev pub target_verbs : List EventVerb
target_verbs = verbs.Target target.Take ∷ verbs.Target target.More ∷ verbs.Target target.Hear ∷ verbs.Target target.Give ∷ []

abbrev pub single_verbs : List EventVerb
single_verbs = verbs.Single singles.Miss ∷ verbs.Single singles.Close ∷ verbs.Single singles.Reopen
    ∷ verbs.Single singles.Unlink ∷ verbs.Single singles.Remove ∷ []

abbrev pub event_verbs : List EventVerb
event_verbs = verbs.Start ∷ (owner_verbs ++ (target_verbs ++ (single_verbs ++ (verbs.Link ∷ verbs.Make ∷ []))))

-- the verb of a line that begins with this word
abbrev pub event_verb_named : List ℕ → Option EventVerb
event_verb_named name = find (λ verb. bytes_eq (event_verb_bytes verb) name) event_verbs

-- NUM
abbrev pub single_in : List ScriptToken → Result ℕ LineFault
single_in (word first ∷ []) = number_in first
single_in _ = Err Bad

-- the values of three words that are numbers
abbrev pub three_numbers : List ℕ → List ℕ → List ℕ → Result Triple LineFault
three_numbers first second third =
    with_value (λ numbers. record { first = numbers.0; second = numbers.1.0; third = numbers.1.1 })
    (both (number_in first) (both (number_in second) (number_in third)))

-- NUM NUM NUM
abbrev pub triple_in : List ScriptToken → Result Triple LineFault
triple_in (word first ∷ word second ∷ word third ∷ []) = three_numbers first second third
triple_in _ = Err Bad

-- PORT SERIAL VALUE of a step of the owner, and of one of the target
abbrev pub owner_event : OwnerStep → Triple → Event
owner_event owner.Begin t = events.Begin t.first t.second t.third
owner_event owner.Call t = events.Call t.first t.second t.third
owner_event owner.Ask t = events.Ask t.first t.second t.third
owner_event owner.End t = events.End t.first t.second t.third

abbrev pub target_event : TargetStep → Triple → Event
target_event target.Take t = events.Take t.first t.second t.third
target_event target.More t = events.More t.first t.second t.third
target_event target.Hear t = events.Hear t.first t.second t.third
target_event target.Give t = events.Give t.first t.second t.third

-- PORT, or SLOT of a removal
abbrev pub single_event : Single → ℕ → Event
single_event singles.Miss port = events.Miss port
single_event singles.Close port = events.Close port
single_event singles.Reopen port = events.Reopen port
single_event singles.Unlink port = events.Unlink port
single_event singles.Remove slot = events.Remove slot

-- PORT SLOT PROVIDE
abbrev pub link_event : Triple → Event
link_event t = events.Link t.first t.second t.third

-- the words of a `make` line
pub record MakeWords : Type 0 where
  pub slot : List ℕ
  pub path : List ℕ
  pub kind : List ℕ
  pub arg : Option (List ℕ)
  pub from : Option (List ℕ)

-- the bytes of the words that the code found
abbrev pub words_of : MakeLine → MakeWords
words_of line =
    record {
      slot = line.slot.now;
      path = line.path.now;
      kind = line.kind.now;
      arg = option_copied line.arg;
      from = option_copied line.from;
    }

-- `from` SLOT, or nothing
abbrev pub source : List ScriptToken → Option (Option (List ℕ))
source [] = Some None
source (word preposition ∷ word slot ∷ []) = if bytes_eq preposition (codes "from") then Some (Some slot) else None
source _ = None

abbrev pub make_from : List ℕ → List ℕ → List ℕ → Option (List ℕ) → List ScriptToken → Option MakeWords
make_from slot path kind arg tokens =
    option_map (λ from. record { slot = slot; path = path; kind = kind; arg = arg; from = from }) (source tokens)

-- KIND's parentheses, empty or round NUM, and then `from` SLOT or nothing
abbrev pub after_kind : List ℕ → List ℕ → List ℕ → List ScriptToken → Option MakeWords
after_kind slot path kind (opened ∷ closed ∷ rest) = make_from slot path kind None rest
after_kind slot path kind (opened ∷ word arg ∷ closed ∷ rest) = make_from slot path kind (Some arg) rest
after_kind slot path kind _ = None

-- SLOT PATH KIND() or SLOT PATH KIND(NUM), and then `from` SLOT or nothing
abbrev pub make_words : List ScriptToken → Option MakeWords
make_words (word slot ∷ word path ∷ word kind ∷ rest) = after_kind slot path kind rest
make_words _ = None

-- the value of a word that is a number, where there is one
abbrev pub optional_number : Option (List ℕ) → Result (Option ℕ) LineFault
optional_number None = Ok None
optional_number (Some value) = with_value Some (number_in value)

-- A node of this kind is made in the slot: slots and the argument are numbers, and the path is a path.
abbrev pub make_of_kind : MakeWords → Option Kind → Result Event LineFault
make_of_kind words None = Err Bad
make_of_kind words (Some kind) =
    with_value (λ parts. events.Make parts.0 (record { path = words.path; kind = kind; arg = parts.1.1.0 }) parts.1.1.1)
    (both (number_in words.slot) (both (path_in words.path) (both (optional_number words.arg) (optional_number words.from))))

abbrev pub make_of_words : Option MakeWords → Result Event LineFault
make_of_words None = Err Bad
make_of_words (Some words) = make_of_kind words (kind_named words.kind)

abbrev pub make : List ScriptToken → Result Event LineFault
make tokens = make_of_words (make_words tokens)

abbrev pub start_with : List ℕ → Option (List ℤ) → Result EventLine LineFault
start_with name None = Err Big
start_with name (Some args) = Ok (statements.Start name args)

abbrev pub start_of_words : List ℕ → Option (List (List ℕ)) → Result EventLine LineFault
start_of_words name None = Err Bad
start_of_words name (Some words) = if is_name name && list_all is_integer words then start_with name (integers words) else Err Bad

-- C(ARGS)
abbrev pub start : List ScriptToken → Result EventLine LineFault
start (word name ∷ opened ∷ rest) = start_of_words name (at_end (arguments rest))
start _ = Err Bad

-- a line that is an event where it has one
abbrev pub event_line : {A : Type 0} → (A → Event) → Result A LineFault → Result EventLine LineFault
event_line event read = with_value (λ value. statements.Event (event value)) read

-- what stands behind a verb
abbrev pub meaning_of : EventVerb → List ScriptToken → Result EventLine LineFault
meaning_of verbs.Start rest = start rest
meaning_of (verbs.Owner step) rest = event_line (owner_event step) (triple_in rest)
meaning_of (verbs.Target step) rest = event_line (target_event step) (triple_in rest)
meaning_of (verbs.Single kind) rest = event_line (single_event kind) (single_in rest)
meaning_of verbs.Link rest = event_line link_event (triple_in rest)
meaning_of verbs.Make rest = event_line (λ event. event) (make rest)

abbrev pub meaning_of_named : Option EventVerb → List ScriptToken → Result EventLine LineFault
meaning_of_named None rest = Err Bad
meaning_of_named (Some verb) rest = meaning_of verb rest

-- a start, an event, or what is wrong; a line of a form, whose words are what the form asks for, has no number above
-- its limit
abbrev pub meaning : List ScriptToken → Result EventLine LineFault
meaning (word name ∷ rest) = meaning_of_named (event_verb_named name) rest
meaning _ = Err Bad
