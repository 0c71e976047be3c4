-- What is named as open is what the last look left.
use Rattle.std.proofs.Common.{◌≡◌, ◌∙◌, ℕ, zero, suc, Bool, true, false, cond, not, List, [], ◌∷◌, ◌++◌, append_assoc, length, map, refl, sym, ap, subst, arith}
use Rattle.std.specs.Prelude.{◌==◌, ℤ, filter}
use Rattle.std.proofs.lemmas.Bool.{ne_eqb, not-true}
use Rattle.std.proofs.lemmas.List.Elements.{filter-append}
use Rattle.base.specs.Each.{Each, EachAfter}
use Rattle.base.proofs.EachLaws.{each_pushed}
use Rattle.config_graph.specs.Graph.{Graph}
use Rattle.change_spec.specs.Changes.{commit_lines, drained_lines, opening_lines, pending_lines, seen_in_all}
use Rattle.change_spec.specs.Members.{is_root, lines_of_events}
use Rattle.change_spec.specs.Scene.{Seen, drained_line, root_line}
use Rattle.change_spec.specs.Serial.{ChangesTo, IsPlayed, Played, Plays, StopsAt, looks_after, seen_at, world_after}
use Rattle.change_spec.specs.Statements.{Statement, start, change, run, finish, show}
use Rattle.change_plan.specs.declared.plan_data.Move.{Move}
use Rattle.change_plan.specs.declared.plan_data.Plan.{Plan}
use Rattle.report_types.specs.declared.report.HistoryLine.{HistoryLine}
use Rattle.report_types.specs.declared.report.HistoryLine.TheVariants as to
use Rattle.quiesce_laws.specs.Lists.{In}
use Rattle.change_plan_laws.specs.Commit.{commit_events, ports_to_close}
use Rattle.quiesce_core.specs.State.{Configuration, exchange, gate}
use Rattle.quiesce_core.specs.declared.event.Event.{Event}
use Rattle.quiesce_core.specs.declared.event.Event.TheVariants as event
use Rattle.quiesce_laws.specs.Drained.{is_drained}
use Rattle.quiesce_laws.specs.Roots.{has_root}
use Rattle.quiesce_laws.specs.Starts.{start_of}
use Rattle.change_round_laws.proofs.ClosedPortLaws.{root_there}
use Rattle.change_round_laws.proofs.CommitGraphLaws.{CommitsByConfiguration, CommitsLeaveGraphs, EachMayCommit}
use Rattle.change_round_laws.proofs.PlayLaws.{CommitsRun}
use Rattle.change_round_laws.specs.SoundStatements.{AreSound}
use Rattle.node_turn_laws.specs.Reached.{IsReached}
use Rattle.node_turn_laws.specs.Round.{after_rounds}
use Rattle.node_turn_laws.specs.World.{World}
use Rattle.change_round_laws.specs.Roots.{NameWhatIsLeft, NamesRoots, NamesWhatIsOpen, roots_in}
use Rattle.change_round_laws.proofs.PartLemmas.{reached_before, said, shut, waiting_reached}
use Rattle.change_round_laws.proofs.WaitLemmas.{left_in, rounds_reach}

-- ---- which lines name a root

both : (xs ys : List HistoryLine) → roots_in xs ≡ [] → roots_in ys ≡ [] → roots_in (xs ++ ys) ≡ []
both xs ys h g = filter-append is_root xs ys ∙ (λ i. h i ++ g i)

none_mapped : {A : Type 0} (f : A → HistoryLine) → ((x : A) → is_root (f x) ≡ false) → (xs : List A) → roots_in (map f xs) ≡ []
none_mapped f h [] = refl
none_mapped f h (x ∷ xs) = ap (λ b. cond b (f x ∷ roots_in (map f xs)) (roots_in (map f xs))) (h x) ∙ none_mapped f h xs

all_roots : (ds : List Seen) → roots_in (map root_line ds) ≡ map root_line ds
all_roots [] = refl
all_roots (d ∷ ds) = ap (λ ls. root_line d ∷ ls) (all_roots ds)

none_of_events : (es : List Event) → roots_in (lines_of_events es) ≡ []
none_of_events [] = refl
none_of_events (event.Make n node from ∷ es) = none_of_events es
none_of_events (event.Link p n x ∷ es) = none_of_events es
none_of_events (event.Unlink p ∷ es) = none_of_events es
none_of_events (event.Remove n ∷ es) = none_of_events es
none_of_events (event.Close p ∷ es) = none_of_events es
none_of_events (event.Reopen p ∷ es) = none_of_events es
none_of_events (event.Begin p k v ∷ es) = none_of_events es
none_of_events (event.Call p k v ∷ es) = none_of_events es
none_of_events (event.Miss p ∷ es) = none_of_events es
none_of_events (event.Take p k v ∷ es) = none_of_events es
none_of_events (event.Give p k v ∷ es) = none_of_events es
none_of_events (event.More p k v ∷ es) = none_of_events es
none_of_events (event.Ask p k v ∷ es) = none_of_events es
none_of_events (event.Hear p k v ∷ es) = none_of_events es
none_of_events (event.End p k v ∷ es) = none_of_events es

none_drained : (looks : List (List Seen)) → roots_in (drained_lines looks) ≡ []
none_drained looks = none_mapped drained_line (λ d. refl) (seen_in_all looks)

-- ---- a change

module _ (old new : Graph) (plan : Plan) (within : ℕ) (closed : List ℕ) (looks : List (List Seen)) (c : Configuration) (seen : ℕ → Seen) where
  abbrev drained : List HistoryLine
  drained = drained_lines looks

  named_at_end : (left : List ℕ) → roots_in (cond (length left == 0) (drained ++ commit_lines old new plan c) (drained ++ pending_lines within (map seen left) closed)) ≡ map root_line (map seen left)
  named_at_end [] =
      both drained (commit_lines old new plan c) (none_drained looks)
      (both (lines_of_events (commit_events old new plan c)) (to.Commit ∷ []) (none_of_events (commit_events old new plan c)) refl)
  named_at_end (p ∷ left) =
      let roots = map root_line (map seen (p ∷ left)) in
      let later = map to.Reopen closed in
      let some_ : (length (p ∷ left) == 0) ≡ false = ne_eqb (length (p ∷ left)) 0 (λ e. omega (arith, e)) in
      ap (λ b. roots_in (cond b (drained ++ commit_lines old new plan c) (drained ++ pending_lines within (map seen (p ∷ left)) closed))) some_
      ∙ filter-append is_root drained (pending_lines within (map seen (p ∷ left)) closed)
      ∙ ap (λ ls. ls ++ roots_in (pending_lines within (map seen (p ∷ left)) closed)) (none_drained looks)
      ∙ filter-append is_root ((to.Pending within ∷ roots) ++ later) (to.Abandon ∷ [])
      ∙ Rattle.std.proofs.lemmas.List.append-nil (roots_in ((to.Pending within ∷ roots) ++ later))
      ∙ filter-append is_root (to.Pending within ∷ roots) later
      ∙ ap (λ ls. roots_in (to.Pending within ∷ roots) ++ ls) (none_mapped to.Reopen (λ q. refl) closed)
      ∙ Rattle.std.proofs.lemmas.List.append-nil (roots_in (to.Pending within ∷ roots))
      ∙ all_roots (map seen (p ∷ left))

filter_passes : (f : ℕ → Bool) (xs : List ℕ) (x : ℕ) → In (filter f xs) x → f x ≡ true
filter_passes f [] x h = absurd h
filter_passes f (y ∷ xs) x h = by (f y) refl (filter_passes f xs x) h
  where
    by : (b : Bool) → f y ≡ b → (In (filter f xs) x → f x ≡ true) → In (cond b (y ∷ filter f xs) (filter f xs)) x → f x ≡ true
    by true e later g = Rattle.std.proofs.Common.⊎_elim (λ (here : y ≡ x). ap f (sym here) ∙ e) (λ (there : In (filter f xs) x). later there) g
    by false e later g = later g

left_undrained : (w : World) (ports : List ℕ) (j p : ℕ) → In (looks_after w ports j).left p → is_drained (after_rounds false w j).machine p ≡ false
left_undrained w ports zero p h = not-true (is_drained w.machine p) (filter_passes (λ q. not (is_drained w.machine q)) ports p h)
left_undrained w ports (suc j) p h =
    let v = after_rounds false w (suc j) in
    not-true (is_drained v.machine p) (filter_passes (λ q. not (is_drained v.machine q)) (looks_after w ports j).left p h)

module _ (w : World) (reached : IsReached w) (name : List ℕ) (args : List ℤ) (g : Graph) (within : ℕ) (moves : List Move) (lines : List HistoryLine) (v : World)
    (c : ChangesTo w name args g within moves lines v) where
  named : roots_in lines ≡ map root_line (map (seen_at c.at_end) c.found.left)
  named =
      let opening = opening_lines name args c.old c.plan w.machine.config in
      let ending = cond (length c.found.left == 0) (drained_lines c.found.seen ++ commit_lines c.old g c.plan c.at_end.machine.config) (drained_lines c.found.seen ++ pending_lines within (map (seen_at c.at_end) c.found.left) c.closed) in
      ap roots_in c.are ∙ filter-append is_root opening ending
      ∙ ap (λ ls. ls ++ roots_in ending) (none_mapped to.Close (λ p. refl) (ports_to_close c.old c.plan w.machine.config))
      ∙ named_at_end c.old g c.plan within c.closed c.found.seen c.at_end.machine.config (seen_at c.at_end) c.found.left

  stands : (p : ℕ) → In c.found.left p → has_root c.at_end.machine p (exchange c.at_end.machine p).serial ≡ true
  stands p i =
      let there : In (looks_after c.waiting c.closed c.rounds).left p = subst (λ (l : Rattle.change_spec.specs.Serial.Looks). In l.left p) c.found_is i in
      let closed : (gate (after_rounds false c.waiting c.rounds).machine.config p).closed ≡ true =
      ap (λ (d : Configuration). (gate d p).closed) (rounds_reach false c.waiting c.rounds (waiting_reached w reached name args g within moves lines v c)).config
      ∙ shut w reached name args g within moves lines v c p (left_in c.waiting c.closed c.rounds p there) in
      subst (λ (u : World). has_root u.machine p (exchange u.machine p).serial ≡ true) (sym c.end_is)
      (root_there (after_rounds false c.waiting c.rounds).machine p closed (left_undrained c.waiting c.closed c.rounds p there))

  names_left : NameWhatIsLeft lines c.at_end c.found.left
  names_left = record { named = named; stand = stands }

-- ---- each statement, and the stop

part_names : (h : List HistoryLine) (w : World) (s : Statement) (ls : List HistoryLine) (v : World) → IsReached w → Plays h w s ls v → NamesWhatIsOpen h w s ls v
part_names h w (start name args g) ls v r plays = ap roots_in plays.0 ∙ both (lines_of_events (start_of g)) (to.Commit ∷ []) (none_of_events (start_of g)) refl
part_names h w (change name args g within moves) ls v r plays = (λ skipped. ap roots_in (plays.0 skipped).are, λ tried c. names_left w r name args g within moves ls v c)
part_names h w (run k) ls v r plays = ap roots_in plays.are
part_names h w (finish n) ls v r plays = ap roots_in plays.are
part_names h w show ls v r plays = ap roots_in plays.0.are

pub stop_names_none : (w : World) (ls : List HistoryLine) (v : World) → StopsAt w ls v → roots_in ls ≡ []
stop_names_none w ls v s =
    let ports = Rattle.quiesce_laws.specs.Steps.live_ports w.machine.config in
    ap roots_in s.are ∙ both (map to.Close ports) (drained_lines (looks_after s.waiting ports s.rounds).seen) (none_mapped to.Close (λ p. refl) ports) (none_drained (looks_after s.waiting ports s.rounds).seen)

module _ (each_may : EachMayCommit) (by_config : CommitsByConfiguration) (leaves : CommitsLeaveGraphs) (commits_run : CommitsRun) where
  all_name : (before ps : List Played) → AreSound (said (before ++ ps)) → Each IsPlayed before → EachAfter IsPlayed before ps → EachAfter NamesRoots before ps
  all_name before [] sound done each = tt
  all_name before (p ∷ ps) sound done each = (
    part_names (Rattle.change_spec.specs.Serial.lines_played before) (world_after before) p.statement p.lines p.world (reached_before each_may by_config leaves commits_run before (p ∷ ps) sound done) each.0,
    all_name (before ++ p ∷ []) ps (subst (λ xs. AreSound (said xs)) (sym (append_assoc before (p ∷ []) ps)) sound) ((each_pushed IsPlayed before p).1 (done, each.0)) each.1,
  )

  pub parts_name : (ps : List Played) → AreSound (said ps) → Each IsPlayed ps → Each NamesRoots ps
  parts_name ps sound played = all_name [] ps sound tt played
