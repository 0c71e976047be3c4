-- A text is one event file or has one first fault, and reading its lines one after the other finds which.
use Rattle.std.proofs.Common.{◌≡◌, ◌≢◌, ◌⊎◌, inl, inr, ℕ, ℤ, true, false, List, [], ◌∷◌, map, Option, Some, None, Result, Ok, Err, refl, sym, ap, ◌∙◌}
use Rattle.quiesce_core.specs.declared.event.Event.{Event}
use Rattle.change_script.specs.declared.event_files.EventFile.{EventFile}
use Rattle.change_script.specs.declared.error.LineFault.{LineFault}
use Rattle.change_script.specs.declared.error.LineFault.TheVariants.{Bad, Big}
use Rattle.change_script.specs.declared.event_lines.EventLine.{EventLine}
use Rattle.change_script.specs.declared.event_lines.EventLine.TheVariants as statements
use Rattle.change_script.specs.declared.error.ScriptError.{ScriptError}
use Rattle.change_script.specs.declared.error.ScriptError.TheVariants as errors
use Rattle.change_script.specs.Lines.{Line, statements as lines_of}
use Rattle.change_script.specs.Tokens.{tokens}
use Rattle.change_script.specs.EventLines.{meaning}
use Rattle.change_script.specs.EventFiles.{meaning_of_line, of_event, of_start, fault_in, fault_of, line_faults, first_fault, IsEventFile, IsFirstFault}
use Rattle.change_script.specs.Reading.{event_at, with_read, read_events}

-- The same of lines.
abbrev FileOf : List Line → EventFile → Type 0
FileOf lines file = map meaning_of_line lines ≡ of_start file ∷ map of_event file.events

abbrev FaultOf : List Line → ScriptError → Type 0
FaultOf lines fault = ((lines ≡ []) × (fault ≡ errors.NoStart)) ⊎ (first_fault (line_faults lines) ≡ Some fault)

line_event : (n : ℕ) (m : Result EventLine LineFault) (event : Event) → event_at n m ≡ Ok event → (m ≡ of_event event) × (fault_in false n m ≡ None)
line_event n (Err fault) event h = cc
line_event n (Ok (statements.Start name args)) event h = cc
line_event n (Ok (statements.Event found)) event h = let e : found ≡ event = cc in (ap of_event e, refl)

line_fault : (n : ℕ) (m : Result EventLine LineFault) (fault : ScriptError) → event_at n m ≡ Err fault → fault_in false n m ≡ Some fault
line_fault n (Err Bad) fault h = let e : errors.BadLine n ≡ fault = cc in ap Some e
line_fault n (Err Big) fault h = let e : errors.NumberTooBig n ≡ fault = cc in ap Some e
line_fault n (Ok (statements.Start name args)) fault h = let e : errors.Order n ≡ fault = cc in ap Some e
line_fault n (Ok (statements.Event found)) fault h = cc

read_both : (r : Result Event ScriptError) (rest : Result (List Event) ScriptError) (events : List Event) → with_read r rest ≡ Ok events
    → (event : Event) × (more : List Event) × (r ≡ Ok event) × (rest ≡ Ok more) × (events ≡ event ∷ more)
read_both (Err fault) rest events h = cc
read_both (Ok event) (Err fault) events h = cc
read_both (Ok event) (Ok more) events h = (event, more, refl, refl, let e : events ≡ event ∷ more = cc in e)

read_one : (r : Result Event ScriptError) (rest : Result (List Event) ScriptError) (fault : ScriptError) → with_read r rest ≡ Err fault
    → (r ≡ Err fault) ⊎ ((event : Event) × (r ≡ Ok event) × (rest ≡ Err fault))
read_one (Err found) rest fault h = inl (let e : found ≡ fault = cc in ap Err e)
read_one (Ok event) (Err found) fault h = inr (event, refl, let e : found ≡ fault = cc in ap Err e)
read_one (Ok event) (Ok more) fault h = cc

-- What is read is what the lines say, and the fault that is found is the first.
pub events_read : (lines : List Line) (events : List Event) → read_events lines ≡ Ok events → map meaning_of_line lines ≡ map of_event events
events_read [] events h = let e : [] ≡ events = cc in ap (map of_event) e
events_read (line ∷ lines) events h =
    let parts = read_both (event_at line.number (meaning_of_line line)) (read_events lines) events h in
    let here = line_event line.number (meaning_of_line line) parts.0 parts.2 in
    ap (λ m. m ∷ map meaning_of_line lines) here.0 ∙ ap (λ ms. of_event parts.0 ∷ ms) (events_read lines parts.1 parts.3) ∙ ap (map of_event) (sym parts.4)

pub faults_read : (lines : List Line) (fault : ScriptError) → read_events lines ≡ Err fault → first_fault (map (fault_of false) lines) ≡ Some fault
faults_read [] fault h = cc
faults_read (line ∷ lines) fault h =
    elim (read_one (event_at line.number (meaning_of_line line)) (read_events lines) fault h) [
      | inl here ↦ ap (λ o. first_fault (o ∷ map (fault_of false) lines)) (line_fault line.number (meaning_of_line line) fault here)
      | inr later ↦
          let here = line_event line.number (meaning_of_line line) later.0 later.1 in
          ap (λ o. first_fault (o ∷ map (fault_of false) lines)) here.1 ∙ faults_read lines fault later.2
    ]

first_line : (line : Line) (lines : List Line) (m : Result EventLine LineFault) → meaning_of_line line ≡ m → (r : Result (List Event) ScriptError) → read_events lines ≡ r
    → ((file : EventFile) × FileOf (line ∷ lines) file) ⊎ ((fault : ScriptError) × FaultOf (line ∷ lines) fault)
first_line line lines (Err Bad) is r read = inr (errors.BadLine line.number, inr (ap (λ m. first_fault (fault_in true line.number m ∷ map (fault_of false) lines)) is))
first_line line lines (Err Big) is r read = inr (errors.NumberTooBig line.number, inr (ap (λ m. first_fault (fault_in true line.number m ∷ map (fault_of false) lines)) is))
first_line line lines (Ok (statements.Event event)) is r read = inr (errors.Order line.number, inr (ap (λ m. first_fault (fault_in true line.number m ∷ map (fault_of false) lines)) is))
first_line line lines (Ok (statements.Start name args)) is (Ok events) read =
    inl (record { name = name; args = args; events = events }, ap (λ m. m ∷ map meaning_of_line lines) is ∙ ap (λ ms. Ok (statements.Start name args) ∷ ms) (events_read lines events read))
first_line line lines (Ok (statements.Start name args)) is (Err fault) read =
    inr (fault, inr (ap (λ m. first_fault (fault_in true line.number m ∷ map (fault_of false) lines)) is ∙ faults_read lines fault read))

one_of : (lines : List Line) → ((file : EventFile) × FileOf lines file) ⊎ ((fault : ScriptError) × FaultOf lines fault)
one_of [] = inr (errors.NoStart, inl (refl, refl))
one_of (line ∷ lines) = first_line line lines (meaning_of_line line) refl (read_events lines) refl

pub always_one : (text : List ℕ) → ((file : EventFile) × IsEventFile text file) ⊎ ((fault : ScriptError) × IsFirstFault text fault)
always_one text = one_of (lines_of text)

-- Lines that are all events have no fault.
no_fault_behind : (lines : List Line) (events : List Event) → map meaning_of_line lines ≡ map of_event events → first_fault (map (fault_of false) lines) ≡ None
no_fault_behind [] events e = refl
no_fault_behind (line ∷ lines) [] e = cc
no_fault_behind (line ∷ lines) (event ∷ events) e =
    let here : meaning_of_line line ≡ of_event event = cc in
    let rest : map meaning_of_line lines ≡ map of_event events = cc in
    ap (λ m. first_fault (fault_in false line.number m ∷ map (fault_of false) lines)) here ∙ no_fault_behind lines events rest

no_fault_of : (lines : List Line) (file : EventFile) → FileOf lines file → first_fault (line_faults lines) ≡ None
no_fault_of [] file e = cc
no_fault_of (line ∷ lines) file e =
    let here : meaning_of_line line ≡ of_start file = cc in
    let rest : map meaning_of_line lines ≡ map of_event file.events = cc in
    ap (λ m. first_fault (fault_in true line.number m ∷ map (fault_of false) lines)) here ∙ no_fault_behind lines file.events rest

not_empty : (lines : List Line) (file : EventFile) → FileOf lines file → lines ≡ [] → ⊥
not_empty [] file e empty = cc
not_empty (line ∷ lines) file e empty = cc

never_both_of : (lines : List Line) (file : EventFile) (fault : ScriptError) → FileOf lines file → FaultOf lines fault → ⊥
never_both_of lines file fault is (inl (empty, e)) = not_empty lines file is empty
never_both_of lines file fault is (inr first) = let none = no_fault_of lines file is in cc

pub never_both : (text : List ℕ) (file : EventFile) (fault : ScriptError) → IsEventFile text file → IsFirstFault text fault → ⊥
never_both text file fault is first = never_both_of (lines_of text) file fault is first

one_fault_of : (lines : List Line) (fault other : ScriptError) → FaultOf lines fault → FaultOf lines other → fault ≡ other
one_fault_of [] fault other (inl (empty, e)) (inl (again, f)) = e ∙ sym f
one_fault_of (line ∷ lines) fault other (inl (empty, e)) b = cc
one_fault_of (line ∷ lines) fault other (inr a) (inl (empty, e)) = cc
one_fault_of [] fault other (inl (empty, e)) (inr b) = cc
one_fault_of [] fault other (inr a) b = cc
one_fault_of (line ∷ lines) fault other (inr a) (inr b) = let e : Some fault ≡ Some other = sym a ∙ b in cc

pub one_fault : (text : List ℕ) (fault other : ScriptError) → IsFirstFault text fault → IsFirstFault text other → fault ≡ other
one_fault text fault other a b = one_fault_of (lines_of text) fault other a b

same_events : (events others : List Event) → map of_event events ≡ map of_event others → events ≡ others
same_events [] [] e = refl
same_events [] (other ∷ others) e = cc
same_events (event ∷ events) [] e = cc
same_events (event ∷ events) (other ∷ others) e =
    let here : event ≡ other = cc in
    let rest : map of_event events ≡ map of_event others = cc in
    ap (λ x. x ∷ events) here ∙ ap (λ xs. other ∷ xs) (same_events events others rest)

same_file : (file other : EventFile) → of_start file ∷ map of_event file.events ≡ of_start other ∷ map of_event other.events → file ≡ other
same_file file other e =
    let of : List ℕ → List ℤ → List Event → EventFile = λ name args events. record { name = name; args = args; events = events } in
    let name : file.name ≡ other.name = cc in
    let args : file.args ≡ other.args = cc in
    let rest : map of_event file.events ≡ map of_event other.events = cc in
    ap (λ n. of n file.args file.events) name ∙ ap (λ a. of other.name a file.events) args ∙ ap (λ events. of other.name other.args events) (same_events file.events other.events rest)

pub one_file : (text : List ℕ) (file other : EventFile) → IsEventFile text file → IsEventFile text other → file ≡ other
one_file text file other a b = same_file file other (sym a ∙ b)

-- No line wants memory.
no_want_in : (n : ℕ) (m : Result EventLine LineFault) → (fault_in true n m ≡ Some errors.NoMemory → ⊥) × (fault_in false n m ≡ Some errors.NoMemory → ⊥)
no_want_in n (Err Bad) = (λ e. cc, λ e. cc)
no_want_in n (Err Big) = (λ e. cc, λ e. cc)
no_want_in n (Ok (statements.Start name args)) = (λ e. cc, λ e. cc)
no_want_in n (Ok (statements.Event event)) = (λ e. cc, λ e. cc)

pub first_is_one : (o : Option ScriptError) (rest : List (Option ScriptError)) (fault : ScriptError) → first_fault (o ∷ rest) ≡ Some fault → (o ≡ Some fault) ⊎ (first_fault rest ≡ Some fault)
first_is_one None rest fault e = inr e
first_is_one (Some found) rest fault e = inl e

no_want_behind : (lines : List Line) → first_fault (map (fault_of false) lines) ≡ Some errors.NoMemory → ⊥
no_want_behind [] e = cc
no_want_behind (line ∷ lines) e =
    elim (first_is_one (fault_of false line) (map (fault_of false) lines) errors.NoMemory e) [
      | inl here ↦ (no_want_in line.number (meaning_of_line line)).1 here
      | inr later ↦ no_want_behind lines later
    ]

no_want_of : (lines : List Line) → FaultOf lines errors.NoMemory → ⊥
no_want_of lines (inl (empty, e)) = cc
no_want_of [] (inr e) = cc
no_want_of (line ∷ lines) (inr e) =
    elim (first_is_one (fault_of true line) (map (fault_of false) lines) errors.NoMemory e) [
      | inl here ↦ (no_want_in line.number (meaning_of_line line)).0 here
      | inr later ↦ no_want_behind lines later
    ]

pub no_want_of_memory : (text : List ℕ) → IsFirstFault text errors.NoMemory → ⊥
no_want_of_memory text first = no_want_of (lines_of text) first

-- what the code finds
pub file_is : (text : List ℕ) (line : Line) (lines : List Line) (name : List ℕ) (args : List ℤ) (events : List Event) → lines_of text ≡ line ∷ lines
    → meaning (tokens line.bytes) ≡ Ok (statements.Start name args) → read_events lines ≡ Ok events → IsEventFile text (record { name = name; args = args; events = events })
file_is text line lines name args events is said read =
    ap (map meaning_of_line) is ∙ ap (λ m. m ∷ map meaning_of_line lines) said ∙ ap (λ ms. Ok (statements.Start name args) ∷ ms) (events_read lines events read)

pub fault_is : (text : List ℕ) (line : Line) (lines : List Line) (name : List ℕ) (args : List ℤ) (fault : ScriptError) → lines_of text ≡ line ∷ lines
    → meaning (tokens line.bytes) ≡ Ok (statements.Start name args) → read_events lines ≡ Err fault → IsFirstFault text fault
fault_is text line lines name args fault is said read =
    inr (ap (λ l. first_fault (line_faults l)) is ∙ ap (λ m. first_fault (fault_in true line.number m ∷ map (fault_of false) lines)) said ∙ faults_read lines fault read)

abbrev refusal : ScriptError → Result EventFile ScriptError
refusal fault = Err fault

-- A refusal that names the first fault unless memory ran out comes for no event file but for want of memory, and for no other fault.
pub refused_file : (text : List ℕ) (file : EventFile) (found : ScriptError) → (found ≢ errors.NoMemory → IsFirstFault text found) → IsEventFile text file → refusal found ≡ refusal errors.NoMemory
refused_file text file (errors.BadLine n) h is = absurd (never_both text file (errors.BadLine n) is (h (λ e. cc)))
refused_file text file errors.NoStart h is = absurd (never_both text file errors.NoStart is (h (λ e. cc)))
refused_file text file errors.NoEnd h is = absurd (never_both text file errors.NoEnd is (h (λ e. cc)))
refused_file text file (errors.Order n) h is = absurd (never_both text file (errors.Order n) is (h (λ e. cc)))
refused_file text file (errors.NumberTooBig n) h is = absurd (never_both text file (errors.NumberTooBig n) is (h (λ e. cc)))
refused_file text file (errors.TooManyLines n) h is = absurd (never_both text file (errors.TooManyLines n) is (h (λ e. cc)))
refused_file text file errors.NoMemory h is = refl

pub refused_fault : (text : List ℕ) (fault found : ScriptError) → (found ≢ errors.NoMemory → IsFirstFault text found) → IsFirstFault text fault → (refusal found ≡ refusal fault) ⊎ (refusal found ≡ refusal errors.NoMemory)
refused_fault text fault (errors.BadLine n) h first = inl (ap refusal (one_fault text (errors.BadLine n) fault (h (λ e. cc)) first))
refused_fault text fault errors.NoStart h first = inl (ap refusal (one_fault text errors.NoStart fault (h (λ e. cc)) first))
refused_fault text fault errors.NoEnd h first = inl (ap refusal (one_fault text errors.NoEnd fault (h (λ e. cc)) first))
refused_fault text fault (errors.Order n) h first = inl (ap refusal (one_fault text (errors.Order n) fault (h (λ e. cc)) first))
refused_fault text fault (errors.NumberTooBig n) h first = inl (ap refusal (one_fault text (errors.NumberTooBig n) fault (h (λ e. cc)) first))
refused_fault text fault (errors.TooManyLines n) h first = inl (ap refusal (one_fault text (errors.TooManyLines n) fault (h (λ e. cc)) first))
refused_fault text fault errors.NoMemory h first = inr refl
