-- Where the shelf tells each file that a script uses, its lines lead on or one of them is refused.
use Rattle.std.proofs.Common.{◌≡◌, ◌∙◌, ◌≤◌, ◌<◌, ◌⊎◌, inl, inr, ℕ, ℤ, Bool, true, false, List, [], ◌∷◌, ◌++◌, Option, Some, None, IsSomeAnd, codes, length, refl, sym, ap, subst}
use Rattle.std.specs.Prelude.{◌||◌}
use Rattle.std.proofs.lemmas.Bool.{cases_lt}
use Rattle.base.specs.Each.{EachAfter}
use Rattle.cfg_io.specs.Shelf.{Files}
use Rattle.config_graph.specs.Sound.{Sound}
use Rattle.config_graph.specs.declared.node.Made.{Made}
use Rattle.change_plan.specs.declared.error.PlanError.{PlanError}
use Rattle.change_plan.specs.declared.plan_data.Move.{Move}
use Rattle.change_script.specs.ScriptFiles.{IsScript, has, is_file, is_out_of_order, is_start}
use Rattle.report_types.specs.declared.script.Body.{Body}
use Rattle.report_types.specs.declared.script.Body.TheVariants as bodies
use Rattle.report_types.specs.declared.script.Script.{Script}
use Rattle.report_types.specs.declared.script.ScriptLine.{ScriptLine}
use Rattle.change_script.proofs.ScriptOrderLaws.{StandsInOrder, file_above, has_with_one, script_stands, start_above}
use Rattle.change_spec.specs.Statements.{Statement, run, finish, show}
use Rattle.darwin_parser.specs.Tree.{Name, Tree}
use Rattle.darwin_types.specs.Faults.{HasFault, NoFault}
use Rattle.darwin_types.specs.declared.error.TypeError.{TypeError}
use Rattle.elaborator.specs.Elaboration.{HasNoFault, ElaboratesTo}
use Rattle.elaborator.specs.Faults.{Faults}
use Rattle.elaborator.specs.declared.error.ElabError.{ElabError}
use Rattle.command_words.specs.declared.words.Change.{Change}
use Rattle.command_answers.specs.RefusalLines.{elaborate_words, plan_words}
use Rattle.change_spec.specs.Scripts.{more_made}
use Rattle.command_answers.specs.Answers.{description}
use Rattle.command_spec.specs.Courses.{came, refusal, here, too_long, leads_on, refused, gives}
use Rattle.command_spec.specs.Descriptions.{IsChecked, IsTextRefusal}
use Rattle.command_spec.specs.Endings.{Refuses}
use Rattle.command_spec.specs.Files.{IsTold}
use Rattle.command_spec.specs.Lines.{GraphUse, starts, changes, RunLine, uses, calls, does, Progress, begun, of_lines, with_description, with_called_graph, with_statement, Allows, Forbids, CallLeads, IsCallRefusal, by_elaboration, by_deed}
use Rattle.command_spec.specs.Plans.{lines_of_change, uses_other}
use Rattle.command_spec.specs.Scripts.{LeadTo, Uses, lines_of_body, lines_of_script}
use Rattle.command_spec.specs.Sorts.{limit_of, of_description}
use Rattle.change_plan.specs.Refusals.{CanPlan, IsRefusal}
use Rattle.change_plan.specs.Room.{HasRoomFor, LacksRoomFor}
use Rattle.config_graph.specs.Graph.{Graph, IsGraph, ports}
use Rattle.command_spec.proofs.GraphLaws.{GraphOrFault, PlanOrRefusal, is_graph}
use Rattle.command_spec.proofs.TotalityLaws.{room_for, text_or_refusal}

-- what was there below a line that isn't such was there above it
had_before : (test : Body → Bool) (above : List ScriptLine) (line : ScriptLine) → test line.body ≡ false → has test (above ++ line ∷ []) ≡ true → has test above ≡ true
had_before test above line other some =
    by (has test above) (test line.body) other (sym (has_with_one test above line) ∙ some)
  where
    by : (a b : Bool) → b ≡ false → (a || b) ≡ true → a ≡ true
    by true b other some = refl
    by false true other some = cc
    by false false other some = cc

-- a line isn't out of order below these
abbrev IsInOrder : List ScriptLine → ScriptLine → Type 0
IsInOrder above line = is_out_of_order above line.body ≡ false

in_order : (above lines : List ScriptLine) → EachAfter StandsInOrder above lines → EachAfter IsInOrder above lines
in_order above [] each = tt
in_order above (line ∷ lines) each = (each.0.right, in_order (above ++ line ∷ []) lines each.1)

-- a line that says this
abbrev saying : Body → ScriptLine
saying body = record { number = 1; body = body }

-- ---- the lines

-- the lines lead on, or one of them is refused
abbrev pub LeadOrStop : Files → List RunLine → Progress → Type 0
LeadOrStop f lines p =
    ((end : Progress) × LeadTo (Some f) p lines end)
    ⊎ ((file : List ℕ) × (words : List (List ℕ)) × Refuses f (of_lines p lines) (description file words))

-- the shelf has each file that the lines use
abbrev pub HasAll : Files → List RunLine → Type 0
HasAll f lines = (file : List ℕ) → Uses lines file → (text : List ℕ) × (f file ≡ Some text)

module _ (f : Files) (p : Progress) (lines : List RunLine) where
  below_use :
      (used text : List ℕ) (tree : Tree) → IsTold (Some f) (limit_of of_description) used text → IsChecked text tree
      → LeadOrStop f lines (with_description p used tree) → LeadOrStop f (uses used ∷ lines) p
  below_use used text tree told checked (inl (end, lead)) = inl (end, leads_on text [] (came end) told (gives tree [] (came end) checked lead))
  below_use used text tree told checked (inr (file, words, are)) =
      let stop = refusal (description file words) in
      inr (file, words, leads_on text [] stop told (gives tree [] stop checked are))

  below_call :
      (deed : GraphUse) (name : Name) (args : List ℤ) (next : Progress) → CallLeads p deed name args next → LeadOrStop f lines next
      → LeadOrStop f (calls deed name args ∷ lines) p
  below_call deed name args next leads (inl (end, lead)) = inl (end, gives next [] (came end) leads lead)
  below_call deed name args next leads (inr (file, words, are)) = inr (file, words, gives next [] (refusal (description file words)) leads are)

  call_stops : (deed : GraphUse) (name : Name) (args : List ℤ) (words : List (List ℕ)) → IsCallRefusal p deed name args words → LeadOrStop f (calls deed name args ∷ lines) p
  call_stops deed name args words why = inr (p.file, words, refused words why)

-- Laws of the crates below, as they stand there.
module _ (names : (t : Tree) → NoFault t ⊎ ((e : TypeError) × HasFault t e)) (graphs : GraphOrFault) (plans : PlanOrRefusal) (f : Files) where
  -- what lines above have left for those below
  record Fits (above : List ScriptLine) (p : Progress) : Type 0 where
    pub used : has is_file above ≡ true → (tree : Tree) × (p.used ≡ Some tree) × NoFault tree
    pub named : has is_start above ≡ true → (g : Graph) × (earlier : List Graph) × (p.graphs ≡ g ∷ earlier) × IsGraph g

  module _ (above : List ScriptLine) (line : ScriptLine) (lines : List RunLine) (p : Progress) (fits : Fits above p) (rest : (q : Progress) → Fits (above ++ line ∷ []) q → LeadOrStop f lines q) where
    used_still : is_file line.body ≡ false → has is_file (above ++ line ∷ []) ≡ true → (tree : Tree) × (p.used ≡ Some tree) × NoFault tree
    used_still other any = fits.used (had_before is_file above line other any)

    named_still : is_start line.body ≡ false → has is_start (above ++ line ∷ []) ≡ true → (g : Graph) × (earlier : List Graph) × (p.graphs ≡ g ∷ earlier) × IsGraph g
    named_still other any = fits.named (had_before is_start above line other any)

    module _ (deed : GraphUse) (name : Name) (args : List ℤ) (other : is_file line.body ≡ false) (there : has is_file above ≡ true) where
      used : (tree : Tree) × (p.used ≡ Some tree) × NoFault tree
      used = fits.used there

      -- a call leads on where the deed is allowed, or is refused
      call_goes :
          ((g : Graph) → IsGraph g → ((made : Made) × Allows p deed g made) ⊎ ((words : List (List ℕ)) × Forbids p deed g words))
          → LeadOrStop f (calls deed name args ∷ lines) p
      call_goes can = by (graphs used.0 name args used.2)
        where
          done : (g : Graph) → HasNoFault used.0 name args → ElaboratesTo used.0 name args g → IsGraph g
              → ((made : Made) × Allows p deed g made) ⊎ ((words : List (List ℕ)) × Forbids p deed g words) → LeadOrStop f (calls deed name args ∷ lines) p
          done g sound elaborates is (inl (made, allows)) =
              below_call f p lines deed name args (with_called_graph p deed name args g made)
              (record {
                tree = used.0;
                is_used = used.1;
                graph = g;
                is_graph = record { no_fault = sound; is_graph = elaborates };
                made = made;
                allowed = allows;
                is_next = refl;
              })
              (rest (with_called_graph p deed name args g made) (record { used = λ any. used_still other any; named = λ any. (g, p.graphs, refl, is) }))
          done g sound elaborates is (inr (words, forbids)) =
              call_stops f p lines deed name args words (by_deed used.0 g words used.1 (record { no_fault = sound; is_graph = elaborates }) forbids)

          by :
              ((e : ElabError) × Faults used.0 name args e)
              ⊎ ((g : Graph) × HasNoFault used.0 name args × ElaboratesTo used.0 name args g × Sound g) → LeadOrStop f (calls deed name args ∷ lines) p
          by (inl (e, faults)) = call_stops f p lines deed name args (elaborate_words e) (by_elaboration used.0 e used.1 faults)
          by (inr (g, sound, elaborates, well)) = let is = is_graph used.0 name args g sound elaborates well in done g sound elaborates is (can g is)

    start_goes : (name : Name) (args : List ℤ) → is_file line.body ≡ false → has is_file above ≡ true → LeadOrStop f (calls starts name args ∷ lines) p
    start_goes name args other there = call_goes starts name args other there (λ g is. by g (room_for p.made g))
      where
        by : (g : Graph) → HasRoomFor p.made g ⊎ ((e : PlanError) × LacksRoomFor p.made g e)
            → ((made : Made) × Allows p starts g made) ⊎ ((words : List (List ℕ)) × Forbids p starts g words)
        by g (inl room) = inl (more_made p.made (length g.nodes) (length (ports g.nodes)), (room, refl))
        by g (inr (e, lacks)) = inr (plan_words e, (e, lacks, refl))

    change_goes :
        (name : Name) (args : List ℤ) (within : ℕ) (moves : List Move) → is_file line.body ≡ false → has is_file above ≡ true → has is_start above ≡ true
        → LeadOrStop f (calls (changes within moves) name args ∷ lines) p
    change_goes name args within moves other there started =
        let last = fits.named started in
        call_goes (changes within moves) name args other there (λ g is. by last.0 last.1 last.2 g (plans last.0 g moves p.made last.3 is))
      where
        by : (old : Graph) (earlier : List Graph) → p.graphs ≡ old ∷ earlier → (g : Graph)
            → CanPlan old g moves p.made ⊎ ((e : PlanError) × IsRefusal old g moves p.made e)
            → ((made : Made) × Allows p (changes within moves) g made) ⊎ ((words : List (List ℕ)) × Forbids p (changes within moves) g words)
        by old earlier at g (inl can) = inl (more_made p.made can.nodes can.ports, (old, earlier, at, (can, refl)))
        by old earlier at g (inr (e, why)) = inr (plan_words e, (old, earlier, at, (e, why, refl)))

    use_goes : (file text : List ℕ) → is_start line.body ≡ false → f file ≡ Some text → LeadOrStop f (uses file ∷ lines) p
    use_goes file text other holds = by (cases_lt (limit_of of_description) (length text))
      where
        told : length text ≤ limit_of of_description → IsTold (Some f) (limit_of of_description) file text
        told short = record { told = holds; within = short }

        read : length text ≤ limit_of of_description → ((tree : Tree) × IsChecked text tree) ⊎ ((words : List (List ℕ)) × IsTextRefusal text words) → LeadOrStop f (uses file ∷ lines) p
        read short (inl (tree, checked)) =
            below_use f p lines file text tree (told short) checked
            (rest (with_description p file tree) (record { used = λ any. (tree, refl, checked.sound); named = λ any. named_still other any }))
        read short (inr (words, refuses)) = inr (file, words, leads_on text [] (refusal (description file words)) (told short) (refused words refuses))

        by : (limit_of of_description < length text) ⊎ (length text ≤ limit_of of_description) → LeadOrStop f (uses file ∷ lines) p
        by (inl long) = inr (file, codes "TooLong" ∷ [], too_long (subst (λ o. IsSomeAnd o (λ bytes. limit_of of_description < length bytes)) (sym holds) long))
        by (inr short) = read short (text_or_refusal names graphs text)

    -- what the run does of itself
    deed_goes : (what : Statement) → is_file line.body ≡ false → is_start line.body ≡ false → LeadOrStop f (does what ∷ lines) p
    deed_goes what no_use no_start =
        rest (with_statement p what) (record { used = λ any. used_still no_use any; named = λ any. named_still no_start any })

    line_goes :
        (body : Body) → line.body ≡ body → is_out_of_order above body ≡ false → HasAll f (lines_of_body body ++ lines) → LeadOrStop f (lines_of_body body ++ lines) p
    line_goes (bodies.File file) is right held =
        let at = held file (inl refl) in
        use_goes file at.0 (ap is_start is) at.1
    line_goes (bodies.Start name args) is right held = start_goes name args (ap is_file is) (file_above above (bodies.Start name args) right refl)
    line_goes (bodies.Run k) is right held = deed_goes (run k) (ap is_file is) (ap is_start is)
    line_goes (bodies.Change name args within moves) is right held =
        change_goes name args within moves (ap is_file is) (file_above above (bodies.Change name args within moves) right refl)
        (start_above above (bodies.Change name args within moves) right refl)
    line_goes (bodies.Finish n) is right held = deed_goes (finish n) (ap is_file is) (ap is_start is)
    line_goes bodies.Show is right held = deed_goes show (ap is_file is) (ap is_start is)
    line_goes bodies.Stop is right held =
        rest p (record { used = λ any. used_still (ap is_file is) any; named = λ any. named_still (ap is_start is) any })

  all_go :
      (lines above : List ScriptLine) (p : Progress) → Fits above p → EachAfter IsInOrder above lines → HasAll f (lines_of_script lines) → LeadOrStop f (lines_of_script lines) p
  all_go [] above p fits order held = inl (p, here)
  all_go (line ∷ lines) above p fits order held =
      line_goes above line (lines_of_script lines) p fits
      (λ q below. all_go lines (above ++ line ∷ []) q below order.1 (λ file used. held file (used_below line.body (lines_of_script lines) file used)))
      line.body refl order.0 held
    where
      used_below : (body : Body) (below : List RunLine) (file : List ℕ) → Uses below file → Uses (lines_of_body body ++ below) file
      used_below (bodies.File name) below file used = inr used
      used_below (bodies.Start name args) below file used = used
      used_below (bodies.Run k) below file used = used
      used_below (bodies.Change name args within moves) below file used = used
      used_below (bodies.Finish n) below file used = used
      used_below bodies.Show below file used = used
      used_below bodies.Stop below file used = used

  at_first : Fits [] begun
  at_first = record { used = λ any. cc; named = λ any. cc }

  pub lead_or_stop :
      (bytes : List ℕ) (script : Script) → IsScript bytes script → HasAll f (lines_of_script script.lines) → LeadOrStop f (lines_of_script script.lines) begun
  lead_or_stop bytes script is held =
      all_go script.lines [] begun at_first (in_order [] script.lines (script_stands bytes script is)) held

  -- and so do those of a change, which stand as in a script
  pub change_leads_or_stops : (c : Change) → HasAll f (lines_of_change c) → LeadOrStop f (lines_of_change c) begun
  change_leads_or_stops c held =
      by c.other refl
    where
      with_other : Option (List ℕ) → List RunLine
      with_other other =
          uses c.file ∷ calls starts c.call.top c.call.args ∷ (uses_other other ++ calls (changes 0 []) c.target.top c.target.args ∷ [])

      of : (other : Option (List ℕ)) → HasAll f (with_other other) → LeadOrStop f (with_other other) begun
      of None all =
          all_go (saying (bodies.File c.file) ∷ saying (bodies.Start c.call.top c.call.args) ∷ saying (bodies.Change c.target.top c.target.args 0 []) ∷ [])
          [] begun at_first (refl, (refl, (refl, tt))) all
      of (Some other) all =
          all_go
          (saying (bodies.File c.file) ∷ saying (bodies.Start c.call.top c.call.args) ∷ saying (bodies.File other)
          ∷ saying (bodies.Change c.target.top c.target.args 0 []) ∷ [])
          [] begun at_first (refl, (refl, (refl, (refl, tt)))) all

      by : (other : Option (List ℕ)) → c.other ≡ other → LeadOrStop f (lines_of_change c) begun
      by other is = subst (λ ls. LeadOrStop f ls begun) (ap with_other (sym is)) (of other (subst (HasAll f) (ap with_other is) held))
