-- What each status of a run says, for all commands.
use Rattle.std.proofs.Common.{◌≡◌, ◌≢◌, ◌∙◌, ◌⊎◌, inl, inr, ℕ, Bool, true, false, List, [], ◌∷◌, ◌++◌, Option, Some, None, length, refl, sym, ap, subst, append-nil, length-append, arith}
use Rattle.base.specs.Count.{Rose}
use Rattle.cfg_io.specs.Shelf.{Files}
use Rattle.cfg_io.specs.Sink.{with_bytes}
use Rattle.command_answers.specs.Answers.{Refusal, usage, description, script, read_fault, no_memory, no_memory_line, refusal_status, refusal_text, usage_line}
use Rattle.command_answers.specs.RefusalLines.{description_line, read_fault_line, script_line}
use Rattle.command_answers.specs.declared.status.Status.{Status}
use Rattle.command_answers.specs.declared.status.Status.TheVariants as status
use Rattle.command_words.specs.declared.words.Command.{Command}
use Rattle.command_words.proofs.WordsLaws.{one_command}
use Rattle.report_texts.specs.Stages.{IsReportFault}
use Rattle.report_texts.specs.declared.error.ReportFault.{ReportFault}
use Rattle.report_types.specs.declared.report.Report.{Report}
use Rattle.command_spec.specs.Files.{IsTold}
use Rattle.command_spec.specs.Lines.{Progress}
use Rattle.command_spec.specs.Scripts.{prepares}
use Rattle.command_spec.specs.Commands.{Shown, course_of, own_files, judging}
use Rattle.command_spec.specs.Courses.{End, came, refusal, Follows, reads, not_fetched, too_long, leads_on, not_judged, refused, gives}
use Rattle.command_spec.specs.Endings.{Alike, first_short, second_short, came_alike, refused_alike, Comes, RefusesNothing, is_of_file, FailsLast, last_failed, last_short, Refuses}
use Rattle.command_spec.specs.Known.{AsksOf, HasNoForm, on_one_thread}
use Rattle.command_spec.specs.Outcomes.{Ends, EndsAs, GoesBy, MayEnd, ReadsFrom, SameShown, WroteFront, MentionsFile, ReadFrom}
use Rattle.command_spec.specs.Runs.{Answered, Does, DoesWords, no_form, not_read, asked, FollowsOwn, Run, Runs, Written, whole, stopped, status_of, text_of}
use Rattle.command_spec.specs.Sorts.{Sort, of_description, of_events, of_report, of_script, refusal_of, TellsReport, limit_of}
use Rattle.command_spec.proofs.AnswerLaws.{does_fail, Fails, fails, ends_as, is_own, no_own, refused_is_none}
use Rattle.command_words.specs.declared.words.Command.TheVariants as commands
use Rattle.command_spec.proofs.CourseLaws.{stopped as stopped_so, Decided, ends_alike, fails_last, Parts, both, long_or_told, parts_of, stops, told_once}
use Rattle.command_spec.proofs.EachCommand.{may_end, may_end_of, may_own, short_at_once, mentions}

-- the run of words that ask for a command is that of the command
pub answered : (knows : Command → Bool) (r : Run) → Runs knows r → (command : Command) → AsksOf knows r.words command → Answered command r
answered knows r run command asks =
    record { failing = run.failing; end = run.end; by = by run.failing run.end run.by; noted = run.noted; written = run.written }
  where
    by : (failing : List (List ℕ)) (end : End Shown) → DoesWords knows r.files r.words failing end → Does r.files command failing end
    by _ _ (no_form none) = absurd (none command asks)
    by _ _ not_read = short_at_once r.files command
    by _ _ (asked other failing end also does) =
        subst (λ c. Does r.files c failing end) (one_command r.words other command also.1 asks.1) does

-- the words of a command name the file of which a fetch failed
mentioned : (files : Option Files) (command : Command) (file : List ℕ) → Does files command (file ∷ []) (refusal (read_fault file)) → MentionsFile files command file
mentioned files command file does = by (own_files command) refl does
  where
    comes : (end : End Shown) → FailsLast (Comes files (course_of command)) (file ∷ []) end → Comes files (course_of command) file
    comes _ (last_failed _ is) = is
    comes _ (last_short _ is) = is

    by : (own : Option Files) → own_files command ≡ own → FollowsOwn own files (course_of command) (file ∷ []) (refusal (read_fault file)) → MentionsFile files command file
    by None none on = mentions files command file none (comes (refusal (read_fault file)) (fails_last files (course_of command) (file ∷ []) (refusal (read_fault file)) on))
    by (Some own) is (never, on) = cc

-- ---- what a status says

-- the refusal by a status that is none of what is shown
abbrev IsBy : Status → Refusal → Type 0
IsBy status.Usage why = why ≡ usage
IsBy status.Description why = (file : List ℕ) × (words : List (List ℕ)) × (why ≡ description file words)
IsBy status.Script why = (file : List ℕ) × (words : List (List ℕ)) × (why ≡ script file words)
IsBy status.ReadFault why = (file : List ℕ) × (why ≡ read_fault file)
IsBy _ why = Unit {0}

is_by : (why : Refusal) → IsBy (refusal_status why) why
is_by usage = refl
is_by (description file words) = (file, words, refl)
is_by (script file words) = (file, words, refl)
is_by (read_fault file) = (file, refl)
is_by no_memory = tt

abbrev ShowsOwn : End Shown → Type 0
ShowsOwn (came s) = is_own s.own ≡ true
ShowsOwn (refusal why) = Unit {0}

-- whether a refusal is of words
abbrev is_of_words : Refusal → Bool
is_of_words usage = true
is_of_words no_memory = true
is_of_words _ = false

module _ (knows : Command → Bool) (r : Run) (run : Runs knows r) where
  abbrev DoesRun : List (List ℕ) → End Shown → Type 0
  DoesRun = DoesWords knows r.files r.words

  -- what words show is of a command
  shows_own : (failing : List (List ℕ)) (end : End Shown) → DoesRun failing end → ShowsOwn end
  shows_own _ _ (no_form none) = tt
  shows_own _ _ not_read = tt
  shows_own _ _ (asked command failing (came s) asks does) = may_own command s.own (may_end r.files command failing s does)
  shows_own _ _ (asked command failing (refusal why) asks does) = tt

  record Stopped (due : Status) : Type 0 where
    pub why : Refusal
    pub is_by_it : IsBy due why
    pub named : due ≡ refusal_status why
    pub failing : List (List ℕ)
    pub does : DoesRun failing (refusal why)
    pub noted : r.failures' ≡ r.failures ++ failing
    pub wrote : r.taken' ≡ with_bytes r.taken (refusal_text why)

  -- what stopped it
  stopped_by : (due : Status) → r.status ≡ due → is_own due ≡ false → due ≢ status.WriteFault → Stopped due
  stopped_by due is none other = by run.failing run.end run.by run.noted run.written
    where
      by : (failing : List (List ℕ)) (end : End Shown) → DoesRun failing end → r.failures' ≡ r.failures ++ failing → Written (status_of end) (text_of end) r → Stopped due
      by failing (came s) does noted (whole took same ends) = absurd (no_own s.own due (sym ends ∙ is) (shows_own failing (came s) does) none)
      by failing (refusal why) does noted (whole took same ends) = record {
        why = why;
        is_by_it = subst (λ own. IsBy own why) (sym ends ∙ is) (is_by why);
        named = sym is ∙ ends;
        failing = failing;
        does = does;
        noted = noted;
        wrote = took;
      }
      by failing end does noted (stopped n less took rose ends) = absurd (other (sym is ∙ ends))

  -- the command that was asked for
  record For (why : Refusal) (failing : List (List ℕ)) : Type 0 where
    pub command : Command
    pub asks : AsksOf knows r.words command
    pub does : Does r.files command failing (refusal why)

  of_command : (why : Refusal) (failing : List (List ℕ)) → is_of_words why ≡ false → DoesRun failing (refusal why) → For why failing
  of_command _ _ plain (no_form none) = cc
  of_command _ _ plain not_read = cc
  of_command why _ plain (asked command failing _ asks does) = record { command = command; asks = asks; does = does }

  pub usage_only : r.status ≡ status.Usage → HasNoForm knows r.words × (r.taken' ≡ with_bytes r.taken usage_line)
  usage_only is =
      let s = stopped_by status.Usage is refl (λ other. cc) in (
        formless s.failing (subst (λ why. DoesRun s.failing (refusal why)) s.is_by_it s.does),
        s.wrote ∙ ap (λ why. with_bytes r.taken (refusal_text why)) s.is_by_it,
      )
    where
      formless : (failing : List (List ℕ)) → DoesRun failing (refusal usage) → HasNoForm knows r.words
      formless _ (no_form none) = none
      formless _ (asked command failing _ asks does) = absurd (does_fail r.files command failing (refusal usage) does)

  pub short_line : r.status ≡ status.NoMemory → r.taken' ≡ with_bytes r.taken no_memory_line
  short_line is = let s = stopped_by status.NoMemory is refl (λ other. cc) in s.wrote ∙ by s.why s.named
    where
      by : (why : Refusal) → status.NoMemory ≡ refusal_status why → with_bytes r.taken (refusal_text why) ≡ with_bytes r.taken no_memory_line
      by no_memory named = refl
      by usage named = cc
      by (description file words) named = cc
      by (script file words) named = cc
      by (read_fault file) named = cc

  pub read_fault_only :
      r.status ≡ status.ReadFault
      → (command : Command) × (file : List ℕ) × AsksOf knows r.words command × MentionsFile r.files command file
      × (r.failures' ≡ r.failures ++ file ∷ []) × (r.taken' ≡ with_bytes r.taken (read_fault_line file))
  read_fault_only is =
      let s = stopped_by status.ReadFault is refl (λ other. cc) in
      let file = s.is_by_it.0 in
      let f = of_command (read_fault file) s.failing refl (subst (λ why. DoesRun s.failing (refusal why)) s.is_by_it.1 s.does) in
      let one = does_fail r.files f.command s.failing (refusal (read_fault file)) f.does in (
        f.command,
        file,
        f.asks,
        mentioned r.files f.command file (subst (λ names. Does r.files f.command names (refusal (read_fault file))) one f.does),
        s.noted ∙ ap (λ names. r.failures ++ names) one,
        s.wrote ∙ ap (λ why. with_bytes r.taken (refusal_text why)) s.is_by_it.1,
      )

  -- a file was refused
  abbrev WasRefused : (List ℕ → List (List ℕ) → Refusal) → (List ℕ → List (List ℕ) → List ℕ) → Type 0
  WasRefused why line =
      (command : Command) × (file : List ℕ) × (words : List (List ℕ)) × AsksOf knows r.words command
      × Does r.files command [] (refusal (why file words)) × (r.taken' ≡ with_bytes r.taken (line file words))

  -- of a refusal behind which no fetch failed
  refused_for :
      (due : Status) (s : Stopped due) (why : Refusal) → s.why ≡ why → is_of_words why ≡ false → ((failing : List (List ℕ)) → Fails failing (refusal why) → failing ≡ [])
      → (command : Command) × AsksOf knows r.words command × Does r.files command [] (refusal why) × (r.taken' ≡ with_bytes r.taken (refusal_text why))
  refused_for due s why is plain none =
      let f = of_command why s.failing plain (subst (λ w. DoesRun s.failing (refusal w)) is s.does) in (
        f.command,
        f.asks,
        subst (λ names. Does r.files f.command names (refusal why)) (none s.failing (does_fail r.files f.command s.failing (refusal why) f.does)) f.does,
        s.wrote ∙ ap (λ w. with_bytes r.taken (refusal_text w)) is,
      )

  pub script_only : r.status ≡ status.Script → WasRefused script script_line
  script_only is =
      let s = stopped_by status.Script is refl (λ other. cc) in
      let f = refused_for status.Script s (script s.is_by_it.0 s.is_by_it.1) s.is_by_it.2 refl (λ failing none. none) in
      (f.0, s.is_by_it.0, s.is_by_it.1, f.1, f.2, f.3)

  pub description_only : r.status ≡ status.Description → WasRefused description description_line
  description_only is =
      let s = stopped_by status.Description is refl (λ other. cc) in
      let f = refused_for status.Description s (description s.is_by_it.0 s.is_by_it.1) s.is_by_it.2 refl (λ failing none. none) in
      (f.0, s.is_by_it.0, s.is_by_it.1, f.1, f.2, f.3)

  pub usage_always : HasNoForm knows r.words → Ends r.status status.Usage
  usage_always none = ends_as r (status_of run.end) status.Usage (text_of run.end) run.written (by run.failing run.end run.by)
    where
      by : (failing : List (List ℕ)) (end : End Shown) → DoesRun failing end → (status_of end ≡ status.Usage) ⊎ (status_of end ≡ status.NoMemory)
      by _ _ (no_form also) = inl refl
      by _ _ not_read = inr refl
      by _ _ (asked command failing end asks does) = absurd (none command asks)

  pub read_fault_always : r.failures' ≢ r.failures → Ends r.status status.ReadFault
  read_fault_always changed =
      ends_as r (status_of run.end) status.ReadFault (text_of run.end) run.written
      (by run.failing run.end run.by (λ is. changed (run.noted ∙ ap (λ ns. r.failures ++ ns) is ∙ append-nil r.failures)))
    where
      of : (failing : List (List ℕ)) (end : End Shown) → failing ≢ [] → Fails failing end → (status_of end ≡ status.ReadFault) ⊎ (status_of end ≡ status.NoMemory)
      of failing (came s) some none = absurd (some none)
      of failing (refusal usage) some never = absurd never
      of failing (refusal (description file words)) some none = absurd (some none)
      of failing (refusal (script file words)) some none = absurd (some none)
      of failing (refusal (read_fault file)) some one = inl refl
      of failing (refusal no_memory) some any = inr refl

      by : (failing : List (List ℕ)) (end : End Shown) → DoesRun failing end → failing ≢ [] → (status_of end ≡ status.ReadFault) ⊎ (status_of end ≡ status.NoMemory)
      by _ _ (no_form none) some = absurd (some refl)
      by _ _ not_read some = inr refl
      by _ _ (asked command failing end asks does) some = of failing end some (does_fail r.files command failing end does)

  -- no answer has the status of a failed write
  no_write_fault : (end : End Shown) → ShowsOwn end → status_of end ≢ status.WriteFault
  no_write_fault (came s) own is = no_own s.own status.WriteFault is own refl
  no_write_fault (refusal usage) own is = cc
  no_write_fault (refusal (description file words)) own is = cc
  no_write_fault (refusal (script file words)) own is = cc
  no_write_fault (refusal (read_fault file)) own is = cc
  no_write_fault (refusal no_memory) own is = cc

  pub write_fault_only : r.status ≡ status.WriteFault → Rose r.faults r.faults' × WroteFront knows r
  write_fault_only is = by run.written
    where
      other : status_of run.end ≢ status.WriteFault
      other = no_write_fault run.end (shows_own run.failing run.end run.by)

      by : Written (status_of run.end) (text_of run.end) r → Rose r.faults r.faults' × WroteFront knows r
      by (whole took same ends) = absurd (other (sym ends ∙ is))
      by (stopped n less took rose ends) =
          (rose, record { failing = run.failing; end = run.end; does = run.by; noted = run.noted; other = other; count = n; short = less; front = took })

  pub write_fault_always : r.status ≢ status.WriteFault → r.faults' ≡ r.faults
  write_fault_always other = by run.written
    where
      by : Written (status_of run.end) (text_of run.end) r → r.faults' ≡ r.faults
      by (whole took same ends) = same
      by (stopped n less took rose ends) = absurd (other ends)

  -- the command of what is shown, with a status that it may have
  pub shown_by : is_own r.status ≡ true → (command : Command) × AsksOf knows r.words command × MayEnd command r.status
  shown_by own = by run.failing run.end run.by run.written
    where
      by : (failing : List (List ℕ)) (end : End Shown) → DoesRun failing end → Written (status_of end) (text_of end) r
          → (command : Command) × AsksOf knows r.words command × MayEnd command r.status
      by _ _ (no_form none) (whole took same is) = absurd (no_own r.status status.Usage is own refl)
      by _ _ not_read (whole took same is) = absurd (no_own r.status status.NoMemory is own refl)
      by _ _ (asked command failing (came s) asks does) (whole took same is) =
          (command, asks, subst (MayEnd command) (sym is) (may_end r.files command failing s does))
      by _ _ (asked command failing (refusal why) asks does) (whole took same is) = absurd (no_own r.status (refusal_status why) is own (refused_is_none why))
      by _ _ does (stopped n less took rose is) = absurd (no_own r.status status.WriteFault is own refl)

-- ---- where the files are told, and no fetch failed

nothing_noted : (names more : List (List ℕ)) → names ≡ names ++ more → more ≡ []
nothing_noted names [] is = refl
nothing_noted names (name ∷ more) is = absurd (omega (arith, ap length is, length-append names (name ∷ more)))

module _ (command : Command) (r : Run) (files : Files) (a : Answered command r) (goes : GoesBy command r files) where
  -- how the course ended by these files
  settled : Follows (Some files) (course_of command) [] a.end
  settled = by (own_files command) goes a.by
    where
      by : (own : Option Files) → ReadsFrom r files own → FollowsOwn own r.files (course_of command) a.failing a.end → Follows (Some files) (course_of command) [] a.end
      by None read on =
          subst (λ names. Follows (Some files) (course_of command) names a.end) (nothing_noted r.failures a.failing (sym read.steady ∙ a.noted))
          (subst (λ fs. Follows fs (course_of command) a.failing a.end) read.tells on)
      by (Some own) is (none, on) = subst (λ fs. Follows (Some fs) (course_of command) [] a.end) (sym is) on

  module _ (decided : Decided (SameShown command) (course_of command)) where
    alike : (end : End Shown) → Follows (Some files) (course_of command) [] end → Alike (SameShown command) a.end end
    alike end on = ends_alike (SameShown command) files (course_of command) decided a.end end settled on

    -- a file that must be refused
    pub must_refuse : (why : Refusal) → is_of_file why ≡ true → Follows (Some files) (course_of command) [] (refusal why) → Ends r.status (refusal_status why)
    must_refuse why of_file on =
        ends_as r (status_of a.end) (refusal_status why) (text_of a.end) a.written (by a.end (refusal why) (alike (refusal why) on) refl)
      where
        same_sort : (sort : Sort) (file : List ℕ) (words also : List (List ℕ)) → refusal_status (refusal_of sort file words) ≡ refusal_status (refusal_of sort file also)
        same_sort of_script file words also = refl
        same_sort of_events file words also = refl
        same_sort of_report file words also = refl
        same_sort of_description file words also = refl

        of_none : why ≡ no_memory → ⊥
        of_none is = cc (of_file, ap is_of_file is)

        by : (end other : End Shown) → Alike (SameShown command) end other → other ≡ refusal why → (status_of end ≡ refusal_status why) ⊎ (status_of end ≡ status.NoMemory)
        by _ _ (first_short end) is = inr refl
        by _ _ (second_short end) is = absurd (of_none cc)
        by _ _ (came_alike x y same) is = cc
        by _ _ (refused_alike sort file words also) is = inl (same_sort sort file words also ∙ ap status_of is)

    -- what must be shown, but of threads
    pub must_show : on_one_thread command ≡ true → (s : Shown) → Follows (Some files) (course_of command) [] (came s) → Ends r.status s.own
    must_show alone s on = ends_as r (status_of a.end) s.own (text_of a.end) a.written (by a.end (came s) (alike (came s) on) refl)
      where
        by : (end other : End Shown) → Alike (SameShown command) end other → other ≡ came s → (status_of end ≡ s.own) ⊎ (status_of end ≡ status.NoMemory)
        by _ _ (first_short end) is = inr refl
        by _ _ (second_short end) is = cc
        by _ _ (came_alike x y same) is = inl ((same alone).0 ∙ ap status_of is)
        by _ _ (refused_alike sort file words also) is = cc

  -- where nothing is refused, the command ends as it may
  pub completes : RefusesNothing files (course_of command) → EndsAs (MayEnd command) r.status
  completes nothing = by a.end settled a.written
    where
      none : (why : Refusal) → Follows (Some files) (course_of command) [] (refusal why) → Fails [] (refusal why)
      none why on = fails (Comes (Some files) (course_of command)) [] (refusal why) (fails_last (Some files) (course_of command) [] (refusal why) on)

      own : (end : End Shown) → Follows (Some files) (course_of command) [] end → EndsAs (MayEnd command) (status_of end)
      own (came s) on = inl (may_end_of (Some files) command s on)
      own (refusal usage) on = absurd (none usage on)
      own (refusal (description file words)) on = absurd (nothing (description file words) refl on)
      own (refusal (script file words)) on = absurd (nothing (script file words) refl on)
      own (refusal (read_fault file)) on = cc (none (read_fault file) on)
      own (refusal no_memory) on = inr (inl refl)

      by : (end : End Shown) → Follows (Some files) (course_of command) [] end → Written (status_of end) (text_of end) r → EndsAs (MayEnd command) r.status
      by end on (whole took same ends) = subst (EndsAs (MayEnd command)) (sym ends) (own end on)
      by end on (stopped n less took rose ends) = inr (inr ends)

-- ---- a report that must be refused

-- From a law of what bytes give, as it stands there.
module _ (no_fault_beside : (bytes : List ℕ) (r : Report) (fault : ReportFault) → TellsReport bytes r → IsReportFault bytes fault → ⊥) where
  -- it says nothing then
  unread : (files : Files) (file : List ℕ) (why : Refusal) → is_of_file why ≡ true → Refuses files (reads of_report file) why
      → (bytes : List ℕ) → IsTold (Some files) (limit_of of_report) file bytes → (r : Report) → TellsReport bytes r → ⊥
  unread files file _ is (too_long long) bytes told r tells = long_or_told files (limit_of of_report) file bytes long told
  unread files file _ is (leads_on other _ _ also (refused words why)) bytes told r tells =
      no_fault_beside bytes r why.0 tells (subst (λ b. IsReportFault b why.0) (told_once files (limit_of of_report) file bytes other told also) why.1)
  unread files file _ is (leads_on other _ _ also (gives _ _ _ _ never)) bytes told r tells = elim never [ ]
  unread files file _ is not_fetched bytes told r tells = cc
  unread files file _ is (leads_on other _ _ also not_judged) bytes told r tells = cc

  pub report_refused :
      (name file : List ℕ) (r : Run) (files : Files) → Answered (commands.Check name file) r → ReadFrom r files → RefusesNothing files (prepares name)
      → (words : List (List ℕ)) → Refuses files (reads of_report file) (script file words) → Ends r.status status.Script
  report_refused name file r files a read nothing words must =
      ends_as r (status_of a.end) status.Script (text_of a.end) a.written
      (by a.end (parts_of (Some files) (λ (p : Progress). judging file p.statements) (prepares name) [] a.end (settled (commands.Check name file) r files a read)))
    where
      judge : (p : Progress) (end : End Shown) → Follows (Some files) (judging file p.statements) [] end → (status_of end ≡ status.Script) ⊎ (status_of end ≡ status.NoMemory)
      judge p _ not_fetched = inr refl
      judge p _ (too_long long) = inl refl
      judge p _ (leads_on bytes _ _ told not_judged) = inr refl
      judge p _ (leads_on bytes _ _ told (refused why is)) = inl refl
      judge p _ (leads_on bytes _ _ told (gives report _ _ tells on)) = absurd (unread files file (script file words) refl must bytes told report tells)

      early_fails : (why : Refusal) → Follows (Some files) (prepares name) [] (refusal why) → Fails [] (refusal why)
      early_fails why on =
          fails (Comes (Some files) (course_of (commands.Check name file))) [] (refusal why)
          (fails_last (Some files) (course_of (commands.Check name file)) [] (refusal why) (stops (Some files) (λ (p : Progress). judging file p.statements) (prepares name) [] why on))

      early : (why : Refusal) → Follows (Some files) (prepares name) [] (refusal why) → (refusal_status why ≡ status.Script) ⊎ (refusal_status why ≡ status.NoMemory)
      early no_memory on = inr refl
      early (description at why) on = absurd (nothing (description at why) refl on)
      early (script at why) on = absurd (nothing (script at why) refl on)
      early usage on = absurd (early_fails usage on)
      early (read_fault at) on = cc (early_fails (read_fault at) on)

      by : (end : End Shown) → Parts (Some files) (prepares name) (λ (p : Progress). judging file p.statements) [] end → (status_of end ≡ status.Script) ⊎ (status_of end ≡ status.NoMemory)
      by _ (stopped_so _ why on) = early why on
      by _ (both p _ end first on) = judge p end on
