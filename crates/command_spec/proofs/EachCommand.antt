-- What is said of each command by itself: its course may end at once, has statuses of its own, and is decided by what the
-- files hold; and what it has written, where it wasn't refused.
use Rattle.std.proofs.Common.{Option, ◌≡◌, ◌∙◌, ℕ, List, refl, sym, ap, subst, ◌⊎◌, inl, inr, true, [], Some, None}
use Rattle.cfg_io.specs.Shelf.{Files}
use Rattle.change_spec.proofs.SerialLaws.{one_serial}
use Rattle.change_spec.specs.Statements.{Statement}
use Rattle.command_answers.specs.Answers.{no_memory, run_status}
use Rattle.command_words.specs.HelpTexts.{help_text, version_text}
use Rattle.command_words.specs.declared.keywords.Keyword.{Keyword}
use Rattle.command_answers.specs.declared.status.Status.{Status}
use Rattle.command_words.specs.BigFiles.{script_name, made_files}
use Rattle.command_words.specs.declared.words.Command.{Command}
use Rattle.report_types.specs.declared.report.Report.{Report}
use Rattle.report_texts.specs.Stages.{IsReportFault}
use Rattle.report_texts.specs.declared.error.ReportFault.{ReportFault}
use Rattle.change_script.specs.declared.event_files.EventFile.{EventFile}
use Rattle.change_script.specs.EventFiles.{IsEventFile}
use Rattle.report_writing.specs.Reports.{report_text}
use Rattle.command_spec.proofs.LineLaws.{lines_use}
use Rattle.command_spec.specs.Endings.{Comes}
use Rattle.command_spec.specs.Files.{IsTold}
use Rattle.command_spec.specs.declared.query.Query.{Query}
use Rattle.command_spec.specs.Commands.{IsJudged, IsRunOf, IsSummary, Shown, ShowsChange, course_of, judging, of_query, runs_by, own_files, can_be, can_not_be, shown, runs_script}
use Rattle.command_spec.specs.Courses.{Course, says, then_by, came, Follows, said, not_said, not_fetched, refusal, Here, here, leads_on, gives, End}
use Rattle.command_spec.specs.Lines.{Progress, begun, of_lines}
use Rattle.command_spec.specs.Outcomes.{SameShown, Flattened, IsRollStatus, IsRunStatus, IsVerdict, Judged, Parted, Planned, RanBy, Replayed, Rolled, SummedUp, Upgraded, WroteChange, MayEnd, well, given_up, denied, unlawful, stepped, lived, summed_up, IsOfScript, MentionsFile, Ends}
use Rattle.command_spec.specs.Queries.{AnswersQuery, IsTextBy}
use Rattle.command_spec.specs.Schedules.{IsReportBy, IsShownBy, rounds, threads, Schedule}
use Rattle.command_spec.specs.Scripts.{Uses, prepares, lines_of_script}
use Rattle.command_spec.specs.Sorts.{TellsReport, limit_of, of_events, of_report}
use Rattle.command_spec.proofs.CourseLaws.{Decided, decided_then, decided_where, none_failed, came_by, comes_by}
use Rattle.command_spec.proofs.ChangeLineLaws.{OfGraphs, change_of_graphs, change_shown, same_graphs, wrote_change}
use Rattle.command_spec.proofs.GraphLaws.{GraphOrFault, PlanAlone}
use Rattle.command_spec.proofs.OneRun.{one_verdict}
use Rattle.command_spec.proofs.Wanting.{never_both, replays_status, roll_ends}
use Rattle.command_spec.proofs.WayLaws.{begun_in_order, lines_decided, prepares_decided}
use Rattle.cfg_io.specs.Sink.{with_bytes}
use Rattle.config_graph.specs.Graph.{Graph, IsGraph}
use Rattle.command_words.specs.declared.words.TopCall.{TopCall}
use Rattle.command_spec.specs.Plans.{lines_of_change}
use Rattle.command_spec.specs.Runs.{Answered, Run, Does, FollowsOwn, Written, status_of, text_of}
use Rattle.command_spec.proofs.Saying.{say_statements}
use Rattle.command_spec.proofs.ShownLaws.{query_shown, run_may, was_reported, OfPrepared, OfQuery, prepared}
use Rattle.command_spec.proofs.AnswerLaws.{given, either_own, is_own, run_own, ends_as}
use Rattle.quiesce_core.specs.Start.{started}
use Rattle.change_script.proofs.EventFileLaws as events
use Rattle.command_words.specs.declared.words.Command.TheVariants as commands
use Rattle.command_words.specs.declared.words.Change.{Change}
use Rattle.command_words.specs.declared.words.Cut.{Cut}
use Rattle.command_words.specs.declared.words.Cut.TheVariants as cuts
use Rattle.command_spec.specs.declared.query.Query.TheVariants as queries
use Rattle.command_answers.specs.declared.status.Status.TheVariants as status

-- memory may run out at once
pub short_at_once : (files : Option Files) (command : Command) → Does files command [] (refusal no_memory)
short_at_once files (commands.Help topic) = not_said
short_at_once files commands.Version = not_said
short_at_once files (commands.Flat file call) = not_fetched
short_at_once files (commands.Change cut change) = not_fetched
short_at_once files (commands.Replay file events) = not_fetched
short_at_once files (commands.Upgrade file) = not_fetched
short_at_once files (commands.Step name) = not_fetched
short_at_once files (commands.Live name workers observers) = not_fetched
short_at_once files (commands.Check name file) = not_fetched
short_at_once files (commands.Big lanes) = (refl, not_fetched)

-- ---- which files they fetch

query_names : (files : Option Files) (file : List ℕ) (query : Query) (name : List ℕ) → Comes files (of_query file query) name → name ≡ file
query_names files file query name (inl is) = is
query_names files file query name (inr (bytes, told, (s, is, never))) = absurd never

report_names : (files : Option Files) (file : List ℕ) (statements : List Statement) (name : List ℕ) → Comes files (judging file statements) name → name ≡ file
report_names files file statements name (inl is) = is
report_names files file statements name (inr (bytes, told, (r, tells, never))) = absurd never

script_names : (files : Option Files) (script name : List ℕ) → Comes files (prepares script) name → IsOfScript files script name
script_names files script name (inl is) = inl is
script_names files script name (inr (bytes, told, (lines, is, comes))) =
    inr (bytes, lines, told, is, lines_use files (lines_of_script lines.lines) begun name comes)

run_names :
    (files : Option Files) (IsReport : List Statement → Report → Type 0) (Shows : Report → List ℕ → Type 0) (script name : List ℕ)
    → Comes files (runs_script IsReport Shows script) name → IsOfScript files script name
run_names files IsReport Shows script name comes = by (comes_by files (λ (p : Progress). says (IsRunOf IsReport Shows p.statements)) (prepares script) name comes)
  where
    by : Comes files (prepares script) name ⊎ ((p : Progress) × Comes files (says (IsRunOf IsReport Shows p.statements)) name) → IsOfScript files script name
    by (inl first) = script_names files script name first
    by (inr (p, never)) = absurd never

-- but for `big`, which fetches none of the shelf
pub mentions : (files : Option Files) (command : Command) (name : List ℕ) → own_files command ≡ None → Comes files (course_of command) name → MentionsFile files command name
mentions files (commands.Help topic) name none comes = comes
mentions files commands.Version name none comes = comes
mentions files (commands.Flat file call) name none comes = query_names files file (queries.Graph call) name comes
mentions files (commands.Change cut c) name none comes = by (comes_by files (λ (p : Progress). says (ShowsChange cut c p.statements)) (of_lines begun (lines_of_change c)) name comes)
  where
    by : Comes files (of_lines begun (lines_of_change c)) name ⊎ ((p : Progress) × Comes files (says (ShowsChange cut c p.statements)) name) → Uses (lines_of_change c) name
    by (inl first) = lines_use files (lines_of_change c) begun name first
    by (inr (p, never)) = absurd never
mentions files (commands.Replay file events) name none (inl is) = inr is
mentions files (commands.Replay file events) name none (inr (bytes, told, (said_, is, comes))) = inl (query_names files file (queries.Replay said_) name comes)
mentions files (commands.Upgrade file) name none (inl is) = is
mentions files (commands.Upgrade file) name none (inr (bytes, told, (r, tells, never))) = absurd never
mentions files (commands.Step script) name none comes = run_names files (IsReportBy rounds) (IsShownBy rounds) script name comes
mentions files (commands.Live script workers observers) name none comes = run_names files (IsReportBy (threads observers)) (IsShownBy (threads observers)) script name comes
mentions files (commands.Check script report) name none comes = by (comes_by files (λ (p : Progress). judging report p.statements) (prepares script) name comes)
  where
    by : Comes files (prepares script) name ⊎ ((p : Progress) × Comes files (judging report p.statements) name) → (name ≡ report) ⊎ IsOfScript files script name
    by (inl first) = inr (script_names files script name first)
    by (inr (p, next)) = inl (report_names files report p.statements name next)
mentions files (commands.Big lanes) name none comes = cc

-- ---- what their courses show

record OfReplay (files : Option Files) (file name : List ℕ) (s : Shown) : Type 0 where
  pub bytes : List ℕ
  pub events_file : EventFile
  pub told_events : IsTold files (limit_of of_events) name bytes
  pub is_event_file : IsEventFile bytes events_file
  pub of : OfQuery files file (queries.Replay events_file) s

replay_shown :
    (files : Option Files) (file name : List ℕ) (s : Shown) → Follows files (course_of (commands.Replay file name)) [] (came s) → OfReplay files file name s
replay_shown files file name s (leads_on bytes _ _ told (gives events _ _ is on)) =
    record { bytes = bytes; events_file = events; told_events = told; is_event_file = is; of = query_shown files file (queries.Replay events) s on }

record OfUpgrade (files : Option Files) (file : List ℕ) (s : Shown) : Type 0 where
  pub bytes : List ℕ
  pub report : Report
  pub is_told : IsTold files (limit_of of_report) file bytes
  pub is_report : TellsReport bytes report
  pub is : s ≡ shown status.Ok (report_text report)

shown_here : (s t : Shown) → Here t [] (came s) → s ≡ t
shown_here s _ here = refl

upgrade_shown : (files : Option Files) (file : List ℕ) (s : Shown) → Follows files (course_of (commands.Upgrade file)) [] (came s) → OfUpgrade files file s
upgrade_shown files file s (leads_on bytes _ _ told (gives report _ _ tells on)) =
    record { bytes = bytes; report = report; is_told = told; is_report = tells; is = shown_here s (shown status.Ok (report_text report)) on }

record OfCheck (files : Option Files) (name file : List ℕ) (s : Shown) : Type 0 where
  pub progress : Progress
  pub of : OfPrepared files name progress
  pub bytes : List ℕ
  pub report : Report
  pub is_told : IsTold files (limit_of of_report) file bytes
  pub is_report : TellsReport bytes report
  pub is_judged : IsJudged progress.statements report s.own s.text

check_shown :
    (files : Option Files) (name file : List ℕ) (s : Shown) → Follows files (course_of (commands.Check name file)) [] (came s) → OfCheck files name file s
check_shown files name file s on = by (came_by files (λ (p : Progress). judging file p.statements) (prepares name) s on)
  where
    by : (p : Progress) × Follows files (prepares name) [] (came p) × Follows files (judging file p.statements) [] (came s) → OfCheck files name file s
    by (p, prep, leads_on bytes _ _ told (gives report _ _ tells (said _ is))) =
        record { progress = p; of = prepared files name p prep; bytes = bytes; report = report; is_told = told; is_report = tells; is_judged = is }

-- ---- with which statuses commands end

ok_may : (command : Command) (own : Status) → own ≡ status.Ok → MayEnd command own
ok_may command own is = subst (MayEnd command) (sym is) (well command)

-- a change
change_may :
    (cut : Cut) (c : Change) (own : Status) (old new : Graph) (text : List ℕ) → IsTextBy cut c.call c.target own old new text
    → MayEnd (commands.Change cut c) own
change_may cuts.Whole c own old new text is = ok_may (commands.Change cuts.Whole c) own is.0
change_may cuts.InParts c own old new text is = ok_may (commands.Change cuts.InParts c) own is.0
change_may (cuts.Rolled run within) c own old new text is = by (roll_ends is.given_up own is.ended)
  where
    by : (own ≡ status.Ok) ⊎ (own ≡ status.Pending) → MayEnd (commands.Change (cuts.Rolled run within) c) own
    by (inl ok) = ok_may (commands.Change (cuts.Rolled run within) c) own ok
    by (inr pending) = subst (MayEnd (commands.Change (cuts.Rolled run within) c)) (sym pending) (given_up run within c)

pub may_end_of : (files : Option Files) (command : Command) (s : Shown) → Follows files (course_of command) [] (came s) → MayEnd command s.own
may_end_of files (commands.Help topic) s (said _ is) = ok_may (commands.Help topic) s.own (ap (λ (t : Shown). t.own) is)
may_end_of files commands.Version s (said _ is) = ok_may commands.Version s.own (ap (λ (t : Shown). t.own) is)
may_end_of files (commands.Flat file call) s on = ok_may (commands.Flat file call) s.own (query_shown files file (queries.Graph call) s on).answers.0
may_end_of files (commands.Change cut c) s on = let w = (change_shown files cut c s on).2 in change_may cut c s.own w.old w.new s.text w.is_text
may_end_of files (commands.Replay file name) s on =
    let r = replay_shown files file name s on in
    by (replays_status (started r.of.answers.graph) r.events_file.events s.own s.text r.of.answers.replays)
  where
    by : (s.own ≡ status.Ok) ⊎ (s.own ≡ status.Denied) → MayEnd (commands.Replay file name) s.own
    by (inl is) = ok_may (commands.Replay file name) s.own is
    by (inr is) = subst (MayEnd (commands.Replay file name)) (sym is) (denied file name)
may_end_of files (commands.Upgrade file) s on = ok_may (commands.Upgrade file) s.own (ap (λ (t : Shown). t.own) (upgrade_shown files file s on).is)
may_end_of files (commands.Step name) s on = stepped name s.own (run_may (IsReportBy rounds) (IsShownBy rounds) files name s on)
may_end_of files (commands.Live name workers observers) s on =
    lived name workers observers s.own (run_may (IsReportBy (threads observers)) (IsShownBy (threads observers)) files name s on)
may_end_of files (commands.Check name file) s on = let c = check_shown files name file s on in by c.progress.statements c.report s.own s.text c.is_judged
  where
    by : (statements : List Statement) (report : Report) (own : Status) (line : List ℕ) → IsJudged statements report own line → MayEnd (commands.Check name file) own
    by statements report _ _ (can_be c) = well (commands.Check name file)
    by statements report _ _ (can_not_be c) = unlawful name file
may_end_of files (commands.Big lanes) s on = summed_up lanes s.own (run_may (IsReportBy rounds) (IsSummary lanes) files script_name s on)

pub may_end : (files : Option Files) (command : Command) (failing : List (List ℕ)) (s : Shown) → Does files command failing (came s) → MayEnd command s.own
may_end files command failing s does = by (own_files command) does
  where
    by : (own : Option Files) → FollowsOwn own files (course_of command) failing (came s) → MayEnd command s.own
    by None on =
        may_end_of files command s
        (subst (λ names. Follows files (course_of command) names (came s)) (none_failed files (course_of command) failing s on) on)
    by (Some own) (none, on) = may_end_of (Some own) command s on

pub may_own : (command : Command) (own : Status) → MayEnd command own → is_own own ≡ true
may_own _ _ (well command) = refl
may_own _ _ (given_up run within change) = refl
may_own _ _ (denied file events) = refl
may_own _ _ (unlawful name file) = refl
may_own _ _ (stepped name own is) = run_own own is
may_own _ _ (lived name workers observers own is) = run_own own is
may_own _ _ (summed_up lanes own is) = run_own own is

-- ---- their courses are decided

-- Laws of the crates below, and of what bytes give, as they stand there.
pub record Known : Type 0 where
  pub graphs : GraphOrFault
  pub plan_alone : PlanAlone
  pub one_answer :
      (query : Query) (text : List ℕ) (own other : Status) (written also : List ℕ) → AnswersQuery query text own written → AnswersQuery query text other also
      → (own ≡ other) × (written ≡ also)
  pub one_change :
      (cut : Cut) (call target : TopCall) (old new : Graph) (own other : Status) (written also : List ℕ) → IsGraph old → IsGraph new
      → IsTextBy cut call target own old new written → IsTextBy cut call target other old new also → (own ≡ other) × (written ≡ also)
  pub one_report : (bytes : List ℕ) (r s : Report) → TellsReport bytes r → TellsReport bytes s → r ≡ s
  pub no_fault_beside : (bytes : List ℕ) (r : Report) (fault : ReportFault) → TellsReport bytes r → IsReportFault bytes fault → ⊥

same_shown : (s t : Shown) → s.own ≡ t.own → s.text ≡ t.text → s ≡ t
same_shown s t own text i = record { own = own i; text = text i }

module _ (k : Known) where
  query_decided : (Same : Shown → Shown → Type 0) → ((s : Shown) → Same s s) → (file : List ℕ) (query : Query) → Decided Same (of_query file query)
  query_decided Same same file query = λ bytes. (
    λ words s refuses answers. never_both query bytes s.own s.text words answers refuses,
    λ s t is also.
        let one = k.one_answer query bytes s.own t.own s.text t.text is also in
        same_shown s t one.0 one.1,
    λ s is. same s,
  )

  -- what is behind the lines of a script
  behind_script :
      (Same : Shown → Shown → Type 0) (name : List ℕ) (Then : Progress → Course Shown) → ((p : Progress) → Decided Same (Then p))
      → Decided Same (then_by (prepares name) Then)
  behind_script Same name Then decided = decided_then Same Then decided (prepares name) (prepares_decided k.graphs k.plan_alone name)

  -- a run of rounds, whose report is shown in one way
  one_run_of :
      (Shows : Report → List ℕ → Type 0) → ((report : Report) (a b : List ℕ) → Shows report a → Shows report b → a ≡ b) → (statements : List Statement) (s t : Shown)
      → IsRunOf (IsReportBy rounds) Shows statements s → IsRunOf (IsReportBy rounds) Shows statements t → (s.own ≡ t.own) × (s.text ≡ t.text)
  one_run_of Shows one statements s t x y =
      let same = one_serial statements x.report y.report x.is_report.serial y.is_report.serial in (
        x.ended ∙ ap (λ (r : Report). run_status r.status) same ∙ sym y.ended,
        one y.report s.text t.text (subst (λ r. Shows r s.text) same x.shows) y.shows,
      )

  judging_decided : (command : Command) (file : List ℕ) (statements : List Statement) → Decided (SameShown command) (judging file statements)
  judging_decided command file statements = λ bytes. (
    λ words r refuses tells. k.no_fault_beside bytes r refuses.0 tells refuses.1,
    λ r s tells also. k.one_report bytes r s tells also,
    λ r tells s t is also alone. one_verdict statements r s.own t.own s.text t.text is also,
  )

  -- of one change one text is shown
  one_shown :
      (cut : Cut) (c : Change) (p : Progress) → OfGraphs c p → (s t : Shown) → ShowsChange cut c p.statements s → ShowsChange cut c p.statements t
      → SameShown (commands.Change cut c) s t
  one_shown cut c p g s t x y alone =
      let first = same_graphs c x.old x.new g.old g.new (sym x.said_are ∙ g.said_are) in
      let second = same_graphs c y.old y.new g.old g.new (sym y.said_are ∙ g.said_are) in
      k.one_change cut c.call c.target g.old g.new s.own t.own s.text t.text g.is_old g.is_new
      (subst (λ h. IsTextBy cut c.call c.target s.own h g.new s.text) first.0 (subst (λ h. IsTextBy cut c.call c.target s.own x.old h s.text) first.1 x.is_text))
      (subst (λ h. IsTextBy cut c.call c.target t.own h g.new t.text) second.0 (subst (λ h. IsTextBy cut c.call c.target t.own y.old h t.text) second.1 y.is_text))

  same : (command : Command) (s : Shown) → SameShown command s s
  same command s alone = (refl, refl)

  pub decided : (command : Command) → Decided (SameShown command) (course_of command)
  decided (commands.Help topic) = λ s t is also alone. (ap (λ (u : Shown). u.own) (is ∙ sym also), ap (λ (u : Shown). u.text) (is ∙ sym also))
  decided commands.Version = λ s t is also alone. (ap (λ (u : Shown). u.own) (is ∙ sym also), ap (λ (u : Shown). u.text) (is ∙ sym also))
  decided (commands.Flat file call) = query_decided (SameShown (commands.Flat file call)) (same (commands.Flat file call)) file (queries.Graph call)
  decided (commands.Change cut c) =
      decided_where (OfGraphs c) (SameShown (commands.Change cut c)) (λ (p : Progress). says (ShowsChange cut c p.statements)) (λ p g. one_shown cut c p g)
      (of_lines begun (lines_of_change c)) (lines_decided k.graphs k.plan_alone (lines_of_change c) begun (begun_in_order k.graphs k.plan_alone))
      (change_of_graphs k.graphs k.plan_alone c)
  decided (commands.Replay file name) =
      let command = commands.Replay file name in
      λ bytes. (
        λ words file_ refuses is. events.never_both bytes file_ refuses.0 is refuses.1,
        λ x y is also. events.one_file bytes x y is also,
        λ events_file is. query_decided (SameShown command) (same command) file (queries.Replay events_file),
      )
  decided (commands.Upgrade file) = λ bytes. (
    λ words r refuses tells. k.no_fault_beside bytes r refuses.0 tells refuses.1,
    λ r s tells also. k.one_report bytes r s tells also,
    λ r tells alone. (refl, refl),
  )
  decided (commands.Step name) =
      let command = commands.Step name in
      behind_script (SameShown command) name (λ (p : Progress). says (IsRunOf (IsReportBy rounds) (IsShownBy rounds) p.statements))
      (λ p s t is also alone. one_run_of (IsShownBy rounds) (λ report a b x y. x ∙ sym y) p.statements s t is also)
  decided (commands.Live name workers observers) =
      let command = commands.Live name workers observers in
      behind_script (SameShown command) name (λ (p : Progress). says (IsRunOf (IsReportBy (threads observers)) (IsShownBy (threads observers)) p.statements))
      (λ p s t is also alone. cc)
  decided (commands.Check name file) =
      let command = commands.Check name file in
      behind_script (SameShown command) name (λ (p : Progress). judging file p.statements) (λ p. judging_decided command file p.statements)
  decided (commands.Big lanes) =
      let command = commands.Big lanes in
      behind_script (SameShown command) script_name (λ (p : Progress). says (IsRunOf (IsReportBy rounds) (IsSummary lanes) p.statements))
      (λ p s t is also alone. one_run_of (IsSummary lanes) (λ report a b x y. x ∙ sym y) p.statements s t is also)

-- ---- what they have written

ok_own : (own : Status) → own ≡ status.Ok → is_own own ≡ true
ok_own own is = ap is_own is

pub verdict_own : (own : Status) → IsVerdict own → is_own own ≡ true
verdict_own own is = either_own own status.Ok status.Unlawful refl refl is

roll_own : (own : Status) → IsRollStatus own → is_own own ≡ true
roll_own own is = either_own own status.Ok status.Pending refl refl is

replay_own : (own : Status) → (own ≡ status.Ok) ⊎ (own ≡ status.Denied) → is_own own ≡ true
replay_own own is = either_own own status.Ok status.Denied refl refl is

module _ (r : Run) where
  -- the program's own texts
  own_text : (text : List ℕ) (s : Shown) → Follows r.files (says (λ t. t ≡ shown status.Ok text)) [] (came s) → with_bytes r.taken s.text ≡ with_bytes r.taken text
  own_text text s (said _ is) = ap (λ (t : Shown). with_bytes r.taken t.text) is

  ends_own :
      (text : List ℕ) (failing : List (List ℕ)) (end : End Shown) → Follows r.files (says (λ t. t ≡ shown status.Ok text)) failing end → Written (status_of end) (text_of end) r
      → Ends r.status status.Ok
  ends_own text failing end on written = ends_as r (status_of end) status.Ok (text_of end) written (by failing end on)
    where
      by : (names : List (List ℕ)) (e : End Shown) → Follows r.files (says (λ t. t ≡ shown status.Ok text)) names e → (status_of e ≡ status.Ok) ⊎ (status_of e ≡ status.NoMemory)
      by _ _ not_said = inr refl
      by _ _ (said _ is) = inl (ap (λ (t : Shown). t.own) is)

  pub helped : (topic : Option Keyword) → Answered (commands.Help topic) r → Ends r.status status.Ok × (r.status ≡ status.Ok → r.taken' ≡ with_bytes r.taken (help_text topic))
  helped topic a = (
    ends_own (help_text topic) a.failing a.end a.by a.written,
    λ is. let g = given (commands.Help topic) r a (ok_own r.status is) in g.wrote ∙ own_text (help_text topic) g.shown g.does,
  )

  pub versioned : Answered commands.Version r → Ends r.status status.Ok × (r.status ≡ status.Ok → r.taken' ≡ with_bytes r.taken version_text)
  versioned a = (
    ends_own version_text a.failing a.end a.by a.written,
    λ is. let g = given commands.Version r a (ok_own r.status is) in g.wrote ∙ own_text version_text g.shown g.does,
  )

  pub flattened : (file : List ℕ) (call : TopCall) → Answered (commands.Flat file call) r → r.status ≡ status.Ok → Flattened r.files file call r.taken r.taken'
  flattened file call a is =
      let g = given (commands.Flat file call) r a (ok_own r.status is) in
      let q = query_shown r.files file (queries.Graph call) g.shown g.does in
      record { text = q.text; graph = q.answers.1.0; is_told = q.is_told; has_graph = q.answers.1.1; written = g.wrote ∙ ap (with_bytes r.taken) q.answers.1.2 }

  -- a change was shown with a status
  changed :
      (cut : Cut) (c : Change) → Answered (commands.Change cut c) r → is_own r.status ≡ true
      → WroteChange (IsTextBy cut c.call c.target r.status) r.files c r.taken r.taken'
  changed cut c a own =
      let g = given (commands.Change cut c) r a own in
      subst (λ own. WroteChange (IsTextBy cut c.call c.target own) r.files c r.taken r.taken') (sym g.is)
      (wrote_change r.files cut c g.shown r.taken r.taken' g.does g.wrote)

  -- with a text of a kind, and so of another
  with_text :
      (P Q : Graph → Graph → List ℕ → Type 0) (c : Change) → ((old new : Graph) (text : List ℕ) → P old new text → Q old new text)
      → WroteChange P r.files c r.taken r.taken' → WroteChange Q r.files c r.taken r.taken'
  with_text P Q c so w = record {
    old = w.old;
    new = w.new;
    have_graphs = w.have_graphs;
    text = w.text;
    is_text = so w.old w.new w.text w.is_text;
    written = w.written;
  }

  pub planned : (c : Change) → Answered (commands.Change cuts.Whole c) r → r.status ≡ status.Ok → Planned r.files c r.taken r.taken'
  planned c a is = with_text _ _ c (λ old new text t. t.1) (changed cuts.Whole c a (ok_own r.status is))

  pub parted : (c : Change) → Answered (commands.Change cuts.InParts c) r → r.status ≡ status.Ok → Parted r.files c r.taken r.taken'
  parted c a is = with_text _ _ c (λ old new text t. t.1) (changed cuts.InParts c a (ok_own r.status is))

  pub rolled :
      (run within : ℕ) (c : Change) → Answered (commands.Change (cuts.Rolled run within) c) r → IsRollStatus r.status
      → Rolled run within r.files c r.status r.taken r.taken'
  rolled run within c a is = changed (cuts.Rolled run within) c a (roll_own r.status is)

  pub replayed :
      (file events : List ℕ) → Answered (commands.Replay file events) r → (r.status ≡ status.Ok) ⊎ (r.status ≡ status.Denied)
      → Replayed r.files file events r.status r.taken r.taken'
  replayed file events a is =
      let g = given (commands.Replay file events) r a (replay_own r.status is) in
      let q = replay_shown r.files file events g.shown g.does in
      subst (λ own. Replayed r.files file events own r.taken r.taken') (sym g.is)
      (record {
        bytes = q.bytes;
        events_file = q.events_file;
        told_events = q.told_events;
        is_event_file = q.is_event_file;
        text = q.of.text;
        written = g.shown.text;
        is_told = q.of.is_told;
        has_replay = q.of.answers;
        wrote = g.wrote;
      })

  pub upgraded : (file : List ℕ) → Answered (commands.Upgrade file) r → r.status ≡ status.Ok → Upgraded r.files file r.taken r.taken'
  upgraded file a is =
      let g = given (commands.Upgrade file) r a (ok_own r.status is) in
      let u = upgrade_shown r.files file g.shown g.does in
      record {
        bytes = u.bytes;
        report = u.report;
        is_told = u.is_told;
        is_report = u.is_report;
        written = g.wrote ∙ ap (λ (t : Shown). with_bytes r.taken t.text) u.is;
      }

  pub ran : (schedule : Schedule) (name : List ℕ) → (s : Shown)
      → Follows r.files (runs_by schedule name) [] (came s) → r.status ≡ s.own → r.taken' ≡ with_bytes r.taken s.text
      → RanBy schedule r.files name r.status r.taken r.taken'
  ran schedule name s on is wrote =
      subst (λ own. RanBy schedule r.files name own r.taken r.taken') (sym is)
      (was_reported (IsReportBy schedule) (IsShownBy schedule) r.files name s r.taken r.taken' on wrote)

  pub step_ran : (name : List ℕ) → Answered (commands.Step name) r → IsRunStatus r.status → RanBy rounds r.files name r.status r.taken r.taken'
  step_ran name a is =
      let g = given (commands.Step name) r a (run_own r.status is) in
      ran rounds name g.shown g.does g.is g.wrote

  pub live_ran : (name : List ℕ) (workers observers : ℕ) → Answered (commands.Live name workers observers) r → IsRunStatus r.status → RanBy (threads observers) r.files name r.status r.taken r.taken'
  live_ran name workers observers a is =
      let g = given (commands.Live name workers observers) r a (run_own r.status is) in
      ran (threads observers) name g.shown g.does g.is g.wrote

  pub summed : (lanes : ℕ) → Answered (commands.Big lanes) r → IsRunStatus r.status → SummedUp lanes r.status r.taken r.taken'
  summed lanes a is =
      let g = given (commands.Big lanes) r a (run_own r.status is) in
      subst (λ own. SummedUp lanes own r.taken r.taken') (sym g.is)
      (was_reported (IsReportBy rounds) (IsSummary lanes) (Some (made_files lanes)) script_name g.shown r.taken r.taken' g.does.1 g.wrote)

  pub judged : (name file : List ℕ) → Answered (commands.Check name file) r → IsVerdict r.status → Judged r.files name file r.status r.taken r.taken'
  judged name file a is =
      let g = given (commands.Check name file) r a (verdict_own r.status is) in
      let c = check_shown r.files name file g.shown g.does in
      subst (λ own. Judged r.files name file own r.taken r.taken') (sym g.is)
      (record {
        script = c.of.script;
        is_script = c.of.is_script;
        statements = c.progress.statements;
        have_graphs = say_statements r.files c.of.script c.progress c.of.lead;
        bytes = c.bytes;
        is_told = c.is_told;
        report = c.report;
        is_report = c.is_report;
        line = g.shown.text;
        is_judged = c.is_judged;
        written = g.wrote;
      })
