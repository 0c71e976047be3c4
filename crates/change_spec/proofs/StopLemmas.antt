-- The stop closes every live port, and each is found drained: so nothing is open at the end.
use Rattle.std.proofs.Common.{◌≡◌, ◌∙◌, ℕ, ◌<◌, Bool, true, false, ◌&&◌, ◌||◌, not, List, [], ◌∷◌, ◌++◌, append_assoc, length, map, refl, ap, sym, subst, arith, lt-ltb}
use Rattle.std.specs.Prelude.{◌==◌, filter_map, nat_lt, All}
use Rattle.std.specs.List.{list_any, range_with_len}
use Rattle.std.proofs.lemmas.Bool.{and_from, both_ways, eq-eqb, eqb-true, or_parts, or_right}
use Rattle.std.proofs.lemmas.List.Elements.{filter-append}
use Rattle.std.proofs.lemmas.List.Folds.{list_any-append}
use Rattle.base.specs.Each.{Each}
use Rattle.base.proofs.EachLaws.{each_at}
use Rattle.base.proofs.MapLaws.{list_any-map}
use Rattle.base.proofs.RangeLaws.{range_has}
use Rattle.quiesce_core.specs.declared.event.Event.{Event}
use Rattle.quiesce_core.specs.declared.event.Event.TheVariants as event
use Rattle.quiesce_core.specs.Doers.{is_of_change}
use Rattle.quiesce_core.specs.Runs.{IsRun, is_open_after, state_after}
use Rattle.quiesce_core.specs.Rules.{is_live_port}
use Rattle.quiesce_core.specs.State.{empty, is_live, owner}
use Rattle.quiesce_laws.specs.Drained.{is_drained}
use Rattle.quiesce_laws.specs.Events.{reopens}
use Rattle.quiesce_laws.proofs.DrainingLaws.{drained_stays, no_node_reopens}
use Rattle.quiesce_laws.specs.Steps.{change_all, is_shaping, live_ports}
use Rattle.quiesce_laws.proofs.EndingLaws.{none_open}
use Rattle.quiesce_laws.proofs.TurningLaws.{SameLinks, live_still, links_stay, no_node_shapes}
use Rattle.report_types.specs.declared.report.HistoryLine.{HistoryLine}
use Rattle.report_types.specs.declared.report.HistoryLine.TheVariants as to
use Rattle.report_types.specs.declared.report.Report.{Report}
use Rattle.change_spec.specs.Follows.{Follows, IsStop, lines_of}
use Rattle.change_spec.specs.Lawful.{IsDrainedAt, IsOfItsKind, Merge}
use Rattle.change_spec.specs.Members.{Member, of_history, event_of, events, is_root, lines, state_at, without_roots}
use Rattle.change_spec.specs.Scene.{Seen, config_after, drained_line}
use Rattle.change_spec.specs.Statements.{Statement}
use Rattle.base.proofs.ListLaws.{count_by-some, all_parts, any_kept}
use Rattle.base.proofs.CountLaws.{counted_some}
use Rattle.change_spec.proofs.MemberLaws.{LineIn, Split, config_of_lines, events_parts, events_without_roots, line_there, none_happens, split}

-- the lines of a stop

abbrev closings : List ℕ → List HistoryLine
closings ports = map to.Close ports

abbrev sightings : List Seen → List HistoryLine
sightings seen = map drained_line seen

rooted_close : (ports : List ℕ) (xs : List HistoryLine) → without_roots (closings ports ++ xs) ≡ closings ports ++ without_roots xs
rooted_close [] xs = refl
rooted_close (p ∷ ports) xs = ap (λ ys. to.Close p ∷ ys) (rooted_close ports xs)

rooted_seen : (seen : List Seen) → without_roots (sightings seen) ≡ sightings seen
rooted_seen [] = refl
rooted_seen (d ∷ seen) = ap (λ ys. drained_line d ∷ ys) (rooted_seen seen)

none_shapes : (test : Event → Bool) → ((p : ℕ) → test (event.Close p) ≡ false) → (ports : List ℕ) (seen : List Seen) → list_any test (filter_map event_of (closings ports ++ sightings seen)) ≡ false
none_shapes test h [] [] = refl
none_shapes test h [] (d ∷ seen) = none_shapes test h [] seen
none_shapes test h (p ∷ ports) seen = ap (λ b. b || list_any test (filter_map event_of (closings ports ++ sightings seen))) (h p) ∙ none_shapes test h ports seen

-- a line on which port p was found drained
abbrev pub is_sighting : ℕ → HistoryLine → Bool
is_sighting p (to.Drained q k) = q == p
is_sighting p _ = false

sighted : (p : ℕ) (before : List Member) (l : HistoryLine) → is_sighting p l ≡ true → IsDrainedAt before (of_history l) → is_drained (state_at before) p ≡ true
sighted p before (to.Drained q k) h d = subst (λ r. is_drained (state_at before) r ≡ true) (eqb-true q p h) d.0
sighted p before _ h d = absurd (both_ways false refl h)

module _ (m : List Member) (before stop : List HistoryLine) (run : IsRun (events m)) (kinds : All IsOfItsKind m) (drained : Each IsDrainedAt m) (is : IsStop before stop)
    (are : lines m ≡ without_roots (before ++ stop)) where
  abbrev ports : List ℕ
  ports = live_ports (config_after before)

  stop_is : without_roots stop ≡ stop
  stop_is = ap without_roots is.are ∙ ap (λ ys. to.Stop ∷ ys) (rooted_close ports (sightings is.seen) ∙ ap (λ ys. closings ports ++ ys) (rooted_seen is.seen)) ∙ sym is.are

  parted : Split m (without_roots before) stop
  parted = split m (without_roots before) stop (are ∙ filter-append (λ l. not (is_root l)) before stop ∙ ap (λ ys. without_roots before ++ ys) stop_is)

  of_kind : All IsOfItsKind parted.front × All IsOfItsKind parted.back
  of_kind = all_parts IsOfItsKind parted.front parted.back (subst (All IsOfItsKind) parted.parts kinds)

  events_are : events m ≡ events parted.front ++ events parted.back
  events_are = ap events parted.parts ∙ events_parts parted.front parted.back

  config_is : (state_at parted.front).config ≡ config_after before
  config_is = config_of_lines parted.front of_kind.0 ∙ ap config_after parted.front_lines ∙ ap (change_all empty.config) (events_without_roots before)

  none_in : (test : Event → Bool) → ((e : Event) → is_of_change e ≡ false → test e ≡ false) → ((p : ℕ) → test (event.Close p) ≡ false) → list_any test (events parted.back) ≡ false
  none_in test no_node no_close =
      none_happens test no_node parted.back of_kind.1
      (ap (λ ys. list_any test (filter_map event_of ys)) (parted.back_lines ∙ is.are) ∙ none_shapes test no_close ports is.seen)

  same : SameLinks (config_after before) (state_at m).config
  same =
      subst (λ c. SameLinks c (state_at m).config) config_is
      (subst (λ es. SameLinks (state_at parted.front).config (state_after es).config) (sym events_are)
      (links_stay (events parted.front) (events parted.back) (subst IsRun events_are run) (none_in is_shaping no_node_shapes (λ p. refl))))

  sighting : (p : ℕ) → p < length (state_at m).config.gates → is_live (state_at m).config (owner (state_at m).config p) ≡ true → LineIn (is_sighting p) parted.back
  sighting p made live =
      let c = config_after before in
      let live_before : is_live c (owner c p) ≡ true =
      sym (live_still c (state_at m).config same (owner c p)) ∙ ap (is_live (state_at m).config) (sym (same.owners p)) ∙ live in
      let made_before : p < length c.gates = omega (arith, made, same.long) in
      let live_port : is_live_port c p ≡ true =
      and_from (nat_lt p (length c.gates)) (is_live c (owner c p)) (lt-ltb p (length c.gates) made_before) live_before in
      let listed : list_any (λ q. q == p) ports ≡ true =
      any_kept (is_live_port c) (λ q. q == p) (range_with_len 0 (length c.gates))
      (range_has (λ q. is_live_port c q && q == p) 0 (length c.gates) p (omega arith) (omega (arith, made_before))
      (and_from (is_live_port c p) (p == p) live_port (eq-eqb p p refl))) in
      let seen : list_any (λ (d : Seen). d.port == p) is.seen ≡ true =
      counted_some (λ (d : Seen). d.port == p) is.seen (omega (arith, is.all_seen p, count_by-some (λ q. q == p) ports listed)) in
      line_there (is_sighting p) parted.back
      (ap (list_any (is_sighting p)) (parted.back_lines ∙ is.are) ∙ list_any-append (is_sighting p) (closings ports) (sightings is.seen)
      ∙ or_right (list_any (is_sighting p) (closings ports)) (list_any (is_sighting p) (sightings is.seen)) (list_any-map (is_sighting p) drained_line is.seen ∙ seen))

  drained_at_end : (p : ℕ) → p < length (state_at m).config.gates → is_live (state_at m).config (owner (state_at m).config p) ≡ true → is_drained (state_at m) p ≡ true
  drained_at_end p made live =
      let w = sighting p made live in
      let first = parted.front ++ w.before in
      let later = of_history w.line ∷ w.after in
      let parts : m ≡ first ++ later = parted.parts ∙ ap (λ k. parted.front ++ k) w.parts ∙ sym (append_assoc parted.front w.before later) in
      let all : events m ≡ events first ++ events later = ap events parts ∙ events_parts first later in
      let none : list_any (reopens p) (events later) ≡ false =
      (or_parts (list_any (reopens p) (events w.before)) (list_any (reopens p) (events later))
      (sym (list_any-append (reopens p) (events w.before) (events later)) ∙ ap (list_any (reopens p)) (sym (events_parts w.before later) ∙ ap events (sym w.parts))
      ∙ none_in (reopens p) (no_node_reopens p) (λ q. refl))).1 in
      let there = sighted p first w.line w.passes (each_at IsDrainedAt first w.after (of_history w.line) (subst (Each IsDrainedAt) parts drained)) in
      subst (λ es. is_drained (state_after es) p ≡ true) (sym all) (drained_stays (events first) (events later) p (subst IsRun all run) none there)

  pub none_left : (p k : ℕ) → is_open_after (events m) p k ≡ false
  none_left = none_open (events m) run drained_at_end

-- so after a report's stop no transaction is open
pub none_open_at_end : (statements : List Statement) (report : Report) (m : List Member) → Follows statements report.history → Merge m report → IsRun (events m) → Each IsDrainedAt m
    → (p k : ℕ) → is_open_after (events m) p k ≡ false
none_open_at_end statements report m follows merge run drained =
    none_left m (lines_of follows.parts) follows.stop run merge.by_nodes drained follows.stops
    (merge.history ∙ ap without_roots (sym follows.history_is))
