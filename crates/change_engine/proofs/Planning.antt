-- A plan's commit on a board.
use Rattle.std.proofs.Common.{◌≡◌, ℕ, ◌<◌, ◌≤◌, true, false, not, ◌||◌, List, [], ◌∷◌, ◌++◌, append_assoc, length, map, None, refl, sym, ap, ◌∙◌, subst, inl, inr, ⊎_elim, arith}
use Rattle.std.specs.Prelude.{◌⊎◌, filter, nat_lt}
use Rattle.std.specs.List.{list_any}
use Rattle.std.proofs.lemmas.Bool.{both_ways, cases_lt, lt-ltb, not-true, not_from_false, or_cases, or_left}
use Rattle.std.proofs.lemmas.List.{append-nil}
use Rattle.std.proofs.lemmas.List.Folds.{list_any-append}
use Rattle.change_plan.specs.Refusals.{CanPlan}
use Rattle.change_plan.specs.declared.plan_data.Move.{Move}
use Rattle.change_plan.specs.declared.plan_data.Plan.{Plan}
use Rattle.config_graph.specs.Graph.{Graph}
use Rattle.quiesce_laws.specs.Steps.{MayStepAll, change_all}
use Rattle.quiesce_laws.specs.Work.{link_new, make_new}
use Rattle.quiesce_laws.proofs.MeanwhileLaws.{front_is_of_change, now_is}
use Rattle.quiesce_laws.proofs.TurningLaws.{live_port}
use Rattle.change_plan_laws.specs.Commit.{commit_events, commit_steps, is_frozen_or_new, is_one_of, new_links, reopened_ports, work}
use Rattle.change_plan_laws.specs.Committing.{MayCommit, made_in}
use Rattle.quiesce_core.specs.declared.event.Event.{Event}
use Rattle.quiesce_core.specs.declared.event.Event.TheVariants.{Begin, Call, Take, Give, End, More, Ask, Hear, Miss, Close, Reopen, Make, Link, Unlink, Remove}
use Rattle.quiesce_core.specs.Doers.{is_of_change}
use Rattle.quiesce_core.specs.Live.{IsGraphOf}
use Rattle.quiesce_core.specs.Rules.{denial}
use Rattle.quiesce_core.specs.Runs.{IsRun, state_after}
use Rattle.quiesce_core.specs.State.{Configuration, owner}
use Rattle.quiesce_core.proofs.LegalLaws.{legal}
use Rattle.quiesce_core.proofs.RunLaws.{fronts_are_runs, last_step}
use Rattle.quiesce_laws.specs.Events.{reopens}
use Rattle.quiesce_laws.proofs.ExtensionLaws.{extends_further}
use Rattle.txn_records.specs.Entries.{config_of, events_in}
use Rattle.txn_records.specs.declared.entry.Entry.{Entry}
use Rattle.txn_records.specs.Notes.{is_found_drained, is_never_reopened, is_noted}
use Rattle.txn_records.specs.Records.{IsRecordOf, Moment, events}
use Rattle.change_board.specs.Steps.{MayDoAll, gates_come_last, is_turning}
use Rattle.txn_records.proofs.NoteLaws.{noted_is_drained}
use Rattle.txn_records.proofs.RecordLaws.{changes_of, config_is}
use Rattle.change_board.proofs.StepLaws.{may_do_all}
use Rattle.change_engine.specs.Planning.{MayCarryOut}
use Rattle.change_engine.proofs.Beginning.{none_mapped, turned_last}
use Rattle.change_engine.proofs.ItemLaws.{all_mapped}
use Rattle.base.proofs.NumberLaws.{other_number}
use Rattle.base.proofs.ListLaws.{none_kept}

-- A port that isn't made when a run ends was never reopened in it.
record IsReopen (e : Event) : Type 0 where
  port : ℕ
  is : e ≡ Reopen port

reopen_or : (p : ℕ) (e : Event) → (reopens p e ≡ false) ⊎ IsReopen e
reopen_or p (Reopen q) = inr (record { port = q; is = refl })
reopen_or p (Begin q k v) = inl refl
reopen_or p (Call q k v) = inl refl
reopen_or p (Miss q) = inl refl
reopen_or p (Take q k v) = inl refl
reopen_or p (Give q k v) = inl refl
reopen_or p (More q k v) = inl refl
reopen_or p (Ask q k v) = inl refl
reopen_or p (Hear q k v) = inl refl
reopen_or p (End q k v) = inl refl
reopen_or p (Close q) = inl refl
reopen_or p (Make n made from) = inl refl
reopen_or p (Link q n x) = inl refl
reopen_or p (Unlink q) = inl refl
reopen_or p (Remove n) = inl refl

unopened : (before es : List Event) (p : ℕ) → IsRun (before ++ es) → length (state_after (before ++ es)).config.gates ≤ p → list_any (reopens p) es ≡ false
unopened before [] p run past = refl
unopened before (e ∷ es) p run past =
    let parts = append_assoc before (e ∷ []) es in
    let run' : IsRun ((before ++ e ∷ []) ++ es) = subst IsRun (sym parts) run in
    let step = last_step before e (fronts_are_runs (before ++ e ∷ []) es run') in
    let many = (extends_further before (e ∷ es) run).many in
    let here : reopens p e ≡ false = ⊎_elim
    (λ (h : reopens p e ≡ false). h)
    (λ (h : IsReopen e).
    let made = (live_port (state_after before).config h.port (legal (state_after before) (Reopen h.port) (subst (λ f. denial (state_after before) f ≡ None) h.is step.1.allowed)).live).made in
    ap (reopens p) h.is ∙ other_number h.port p (omega (arith, made, many, past)))
    (reopen_or p e) in
    ap (λ b. b || list_any (reopens p) es) here
    ∙ unopened (before ++ e ∷ []) es p run' (subst (λ zs. length (state_after zs).config.gates ≤ p) (sym parts) past)

fresh_noted : (r : List Entry) (m : List Moment) (p : ℕ) → IsRecordOf r m → length (config_of r).gates ≤ p → is_noted r p ≡ true
fresh_noted r m p h past =
    let none_ = unopened [] (events m) p h.runs (subst (λ c. length c.gates ≤ p) (config_is r m h) past) in
    or_left (is_never_reopened r p) (is_found_drained r p)
    (not_from_false (list_any (reopens p) (events_in r)) (ap (list_any (reopens p)) (sym (changes_of r m h)) ∙ none_kept (reopens p) is_of_change (events m) none_))

-- Gates are turned after all else of a commit.
none_both : (xs ys : List Event) → list_any is_turning xs ≡ false → list_any is_turning ys ≡ false → list_any is_turning (xs ++ ys) ≡ false
none_both xs ys h k = list_any-append is_turning xs ys ∙ ap (λ b. b || list_any is_turning ys) h ∙ k

commit_turns_last : (old new : Graph) (plan : Plan) (c : Configuration) → gates_come_last (commit_events old new plan c) ≡ true
commit_turns_last old new plan c =
    let w = work old new plan c in
    let unlinks = map Unlink w.unlinks in
    let removes = map Remove w.removes in
    let makes = map make_new w.makes in
    turned_last (commit_steps old new plan c) (map Reopen (reopened_ports old new plan c))
    (none_both (unlinks ++ (removes ++ makes)) (map link_new (new_links new plan (change_all c (unlinks ++ (removes ++ makes)))))
    (none_both unlinks (removes ++ makes) (none_mapped Unlink (λ x. refl) w.unlinks)
    (none_both removes makes (none_mapped Remove (λ x. refl) w.removes) (none_mapped make_new (λ x. refl) w.makes)))
    (none_mapped link_new (λ x. refl) (new_links new plan (change_all c (unlinks ++ (removes ++ makes))))))
    (all_mapped is_turning Reopen (λ p. refl) (reopened_ports old new plan c))

module _ (old new : Graph) (moves : List Move) (plan : Plan) (r : List Entry) (m : List Moment) (h : IsRecordOf r m) (x : MayCarryOut old new moves plan r) where
  same : config_of r ≡ (state_after (events m)).config
  same = config_is r m h

  pub may_commit : MayCommit old new moves plan (events m)
  may_commit = record {
    old_graph = x.old_graph;
    new_graph = x.new_graph;
    new_sound = x.new_sound;
    is_plan = x.is_plan;
    can_plan = subst (λ c. CanPlan old new moves (made_in c)) same x.can_plan;
    run = h.runs;
    graph = subst (λ c. IsGraphOf c old) same x.graph;
    drained = λ p made frozen. noted_is_drained r m p h (x.noted p (subst (λ c. p < length c.gates) (sym same) made)
        (subst (λ c. is_one_of old plan.freeze c (owner c p) ≡ true) (sym same) frozen));
  }

  all_noted : (p : ℕ) → is_frozen_or_new old plan (config_of r) p ≡ true → is_noted r p ≡ true
  all_noted p n = ⊎_elim
      (λ (made : p < length (config_of r).gates). ⊎_elim
      (λ (fresh : not (nat_lt p (length (config_of r).gates)) ≡ true). absurd (both_ways (nat_lt p (length (config_of r).gates)) (not-true (nat_lt p (length (config_of r).gates)) fresh) (lt-ltb p (length (config_of r).gates) made)))
      (λ (frozen : is_one_of old plan.freeze (config_of r) (owner (config_of r) p) ≡ true). x.noted p made frozen)
      (or_cases (not (nat_lt p (length (config_of r).gates))) (is_one_of old plan.freeze (config_of r) (owner (config_of r) p)) n))
      (λ (past : length (config_of r).gates ≤ p). fresh_noted r m p h past)
      (cases_lt p (length (config_of r).gates))

  pub may_all : MayStepAll (is_frozen_or_new old plan (state_after (events m)).config) (state_after (events m)).config (commit_events old new plan (state_after (events m)).config)
      → MayDoAll r (commit_events old new plan (config_of r))
  may_all may_ =
      may_do_all (is_frozen_or_new old plan (config_of r)) r (commit_events old new plan (config_of r)) (commit_turns_last old new plan (config_of r)) all_noted
      (subst (λ c. MayStepAll (is_frozen_or_new old plan c) c (commit_events old new plan c)) (sym same) may_)

  -- all events of the commit are the change's
  pub all_change : MayStepAll (is_frozen_or_new old plan (state_after (events m)).config) (state_after (events m)).config (commit_events old new plan (state_after (events m)).config)
      → filter is_of_change (commit_events old new plan (state_after (events m)).config) ≡ commit_events old new plan (state_after (events m)).config
  all_change may_ =
      let c = (state_after (events m)).config in
      front_is_of_change (is_frozen_or_new old plan c) c (commit_events old new plan c) []
      (subst (MayStepAll (is_frozen_or_new old plan c) c) (sym (append-nil (commit_events old new plan c))) may_)

  pub new_graph_there : filter is_of_change (commit_events old new plan (state_after (events m)).config) ≡ commit_events old new plan (state_after (events m)).config
      → IsGraphOf (state_after (events m ++ commit_events old new plan (state_after (events m)).config)).config new
      → IsGraphOf (change_all (config_of r) (commit_events old new plan (config_of r))) new
  new_graph_there all g =
      let es = commit_events old new plan (state_after (events m)).config in
      subst (λ c. IsGraphOf (change_all c (commit_events old new plan c)) new) (sym same)
      (subst (λ d. IsGraphOf d new) (now_is (events m) es ∙ ap (change_all (state_after (events m)).config) all) g)
