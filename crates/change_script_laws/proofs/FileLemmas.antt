-- A file that is written is read, from its start line on.
use Rattle.std.proofs.Common.{◌≡◌, ◌≢◌, ℕ, ℤ, ◌+◌, ◌&&◌, ◌==◌, true, false, not, inl, inr, List, [], ◌∷◌, ◌++◌, map, Ok, codes, refl, sym, ap, ◌∙◌}
use Rattle.std.specs.List.{AllByRecursion, flat_map}
use Rattle.std.proofs.lemmas.Bool.{and_parts, not-true}
use Rattle.std.proofs.lemmas.List.{append_assoc}
use Rattle.quiesce_core.specs.declared.event.Event.{Event}
use Rattle.change_script.specs.declared.event_files.EventFile.{EventFile}
use Rattle.change_script.specs.declared.event_lines.EventLine.TheVariants as statements
use Rattle.report_types.specs.declared.script.Body.{Body}
use Rattle.report_types.specs.declared.script.Body.TheVariants as bodies
use Rattle.change_script.specs.EventFiles.{IsEventFile, meaning_of_line, of_event, of_start}
use Rattle.change_script.specs.EventLines.{meaning}
use Rattle.change_script.specs.Lines.{is_margin, statements_from}
use Rattle.change_script.specs.Numbers.{integer}
use Rattle.change_script.specs.Paths.{is_name}
use Rattle.report_writing.specs.Reports.{args_text, event_text}
use Rattle.change_script.specs.ScriptLines.{LineMeans, meaning as body_meaning}
use Rattle.change_script.specs.ScriptWords.{file, start, run, change, finish, show, stop}
use Rattle.change_script.specs.StatementTexts.{CanBeStated, IsInteger, IsWrittenName, statement_text}
use Rattle.change_script.specs.Tokens.{word, opened, tokens, begins_word, is_blank, is_sign, is_word, sign}
use Rattle.report_writing.specs.Writing.{written}
use Rattle.change_script.specs.Written.{CanBeWritten}
use Rattle.change_script.proofs.ScriptFormLaws.{means as body_means}
use Rattle.change_script_laws.specs.EventForms as forms
use Rattle.change_script_laws.specs.EventForms.{MeansEvent}
use Rattle.change_script_laws.specs.FileTexts.{CanBeFile, file_text, said, start_text}
use Rattle.change_script_laws.proofs.FormLemmas.{means}
use Rattle.change_script_laws.proofs.LineTextLemmas.{Neat, ends_well}
use Rattle.change_script_laws.proofs.MarginLemmas.{itself_said, line_said}

-- ---- the start line

module _
    (blank : (byte : ℕ) (rest : List ℕ) → is_blank byte ≡ true → tokens (byte ∷ rest) ≡ tokens rest)
    (signs : (byte : ℕ) (rest : List ℕ) → is_sign byte ≡ true → tokens (byte ∷ rest) ≡ sign byte ∷ tokens rest)
    (front : (first : ℕ) (more rest : List ℕ) → is_word (first ∷ more) ≡ true → begins_word rest ≡ false → tokens ((first ∷ more) ++ rest) ≡ word (first ∷ more) ∷ tokens rest)
    (stated : (body : Body) → CanBeStated body → body_meaning (statement_text body) ≡ Ok body)
  where
    named_front : (name rest : List ℕ) → is_word name ≡ true → is_name name ≡ true → begins_word rest ≡ false → tokens (name ++ rest) ≡ word name ∷ tokens rest
    named_front [] rest all is ends = cc
    named_front (byte ∷ bytes) rest all is ends = front byte bytes rest all ends

    -- the parenthesis is there
    start_front : (name : List ℕ) (args : List ℤ) → IsWrittenName name → tokens (start_text name args) ≡ word (codes "start") ∷ word name ∷ opened ∷ tokens (args_text args ++ codes ")")
    start_front name args is =
        let behind : List ℕ = args_text args ++ codes ")" in
        let whole : start_text name args ≡ codes "start" ++ (32 ∷ (name ++ (40 ∷ behind))) = simp append_assoc in
        ap tokens whole ∙ front 115 (codes "tart") (32 ∷ (name ++ (40 ∷ behind))) refl refl
        ∙ ap (λ ts. word (codes "start") ∷ ts) (blank 32 (name ++ (40 ∷ behind)) refl ∙ named_front name (40 ∷ behind) is.0 is.1 refl)
        ∙ ap (λ ts. word (codes "start") ∷ word name ∷ ts) (signs 40 behind refl)

    start_of : (name : List ℕ) (args : List ℤ) → IsWrittenName name → LineMeans (start_text name args) (bodies.Start name args) → MeansEvent (start_text name args) (statements.Start name args)
    start_of name args is (file f, has, keeps, same) = cc
    start_of name args is (run n, has, keeps, same) = cc
    start_of name args is (change n a w m, has, keeps, same) = cc
    start_of name args is (finish n, has, keeps, same) = cc
    start_of name args is (show, has, keeps, same) = cc
    start_of name args is (stop, has, keeps, same) = cc
    start_of name args is (start other words, ((given, inl none, spelled), right), keeps, same) =
        let bare : word (codes "start") ∷ word other ∷ [] ≡ word (codes "start") ∷ word name ∷ opened ∷ tokens (args_text args ++ codes ")") =
        ap (λ ts. word (codes "start") ∷ word other ∷ ts) (sym none.1) ∙ sym spelled ∙ start_front name args is in
        cc
    start_of name args is (start other words, ((given, inr are, spelled), right), keeps, same) =
        let names : name ≡ other = cc in
        let values : args ≡ map integer words = cc in (
          forms.start other words,
          (spelled ∙ ap (λ ts. word (codes "start") ∷ word other ∷ ts) are, ap (λ b. b && true) right),
          ap (λ b. b && true) keeps,
          ap (λ n. statements.Start n args) names ∙ ap (statements.Start other) values,
        )

    pub start_means : (name : List ℕ) (args : List ℤ) → IsWrittenName name → AllByRecursion IsInteger args → meaning (tokens (start_text name args)) ≡ Ok (statements.Start name args)
    start_means name args is all =
        let body : Body = bodies.Start name args in
        (means (start_text name args) (statements.Start name args)).1 (start_of name args is ((body_means (statement_text body) body).0 (stated body (is, all))))

-- ---- lines that are written say what they write

no_margin : (byte : ℕ) → not (is_margin byte) && not (byte == 35) ≡ true → (is_margin byte ≡ false) × (byte ≢ 35)
no_margin byte h = let both = and_parts (not (is_margin byte)) (not (byte == 35)) h in (not-true (is_margin byte) both.0, λ same. let e : false ≡ true = ap (λ b. not (b == 35)) (sym same) ∙ both.1 in cc)

-- a line ends with a byte that is no margin
record Last (line : List ℕ) : Type 0 where
  front : List ℕ
  last : ℕ
  is : line ≡ front ++ (last ∷ [])
  none : is_margin last ≡ false

last_of : (line : List ℕ) → ends_well line ≡ true → Last line
last_of [] ends = cc
last_of (byte ∷ []) ends = record { front = []; last = byte; is = refl; none = not-true (is_margin byte) ends }
last_of (byte ∷ next ∷ bytes) ends =
    let more = last_of (next ∷ bytes) ends in
    record { front = byte ∷ more.front; last = more.last; is = ap (λ xs. byte ∷ xs) more.is; none = more.none }

neat_said : (number : ℕ) (line : List ℕ) → Neat line → said number line ≡ record { number = number; bytes = line } ∷ []
neat_said number [] neat = let none = neat.begins in cc
neat_said number (first ∷ more) neat =
    let begins = no_margin first neat.begins in
    let ends = last_of (first ∷ more) neat.ends in
    itself_said number first ends.last more ends.front ends.is begins.0 ends.none begins.1

-- a line that is written, and the lines behind it
one_more : (number : ℕ) (line rest : List ℕ) → Neat line → map meaning_of_line (statements_from number ((line ++ codes "\n") ++ rest)) ≡ meaning (tokens line) ∷ map meaning_of_line (statements_from (number + 1) rest)
one_more number line rest neat =
    ap (λ text. map meaning_of_line (statements_from number text)) (append_assoc line (codes "\n") rest)
    ∙ ap (map meaning_of_line) (line_said number line rest neat.one)
    ∙ ap (λ here. map meaning_of_line (here ++ statements_from (number + 1) rest)) (neat_said number line neat)

module _
    (event_means : (event : Event) → CanBeWritten event → meaning (tokens (written event)) ≡ Ok (statements.Event event))
    (event_neat : (event : Event) → CanBeWritten event → Neat (written event))
  where
    events_read : (number : ℕ) (events : List Event) → AllByRecursion CanBeWritten events → map meaning_of_line (statements_from number (flat_map event_text events)) ≡ map of_event events
    events_read number [] all = refl
    events_read number (event ∷ events) all =
        one_more number (written event) (flat_map event_text events) (event_neat event all.0)
        ∙ ap (λ m. m ∷ map meaning_of_line (statements_from (number + 1) (flat_map event_text events))) (event_means event all.0)
        ∙ ap (λ ms. of_event event ∷ ms) (events_read (number + 1) events all.1)

    pub file_read :
        (start_reads : (name : List ℕ) (args : List ℤ) → IsWrittenName name → AllByRecursion IsInteger args → meaning (tokens (start_text name args)) ≡ Ok (statements.Start name args))
        → (start_neat : (name : List ℕ) (args : List ℤ) → is_name name ≡ true → AllByRecursion IsInteger args → Neat (start_text name args))
        → (f : EventFile) → CanBeFile f → IsEventFile (file_text f) f
    file_read start_reads start_neat f can =
        one_more 1 (start_text f.name f.args) (flat_map event_text f.events) (start_neat f.name f.args can.0.1 can.1)
        ∙ ap (λ m. m ∷ map meaning_of_line (statements_from (1 + 1) (flat_map event_text f.events))) (start_reads f.name f.args can.0 can.1)
        ∙ ap (λ ms. of_start f ∷ ms) (events_read (1 + 1) f.events can.2)
