-- A merge meets the guards.
use Rattle.std.proofs.Common.{◌≡◌, ◌∙◌, ℕ, ◌<◌, ◌≤◌, Bool, true, false, cond, not, ◌&&◌, ◌||◌, List, [], ◌∷◌, ◌++◌, append_assoc, append-nil, length, length-append, Option, Some, None, All, refl, sym, ap, ap₂, subst, ⊎_elim, arith}
use Rattle.std.specs.Prelude.{◌==◌, nat_lt, filter_map}
use Rattle.std.specs.List.{list_any}
use Rattle.std.specs.Option.{option_map_or}
use Rattle.std.proofs.lemmas.Bool.{and_from, and_parts, both_ways, eq-eqb, eqb-true, false_from_ne_true, ltb-true, not-true, or_from, or_left, or_parts, or_right}
use Rattle.std.proofs.lemmas.List.{append_cancel_left}
use Rattle.std.proofs.lemmas.List.Elements.{filter-append}
use Rattle.std.proofs.lemmas.List.Folds.{list_any-append}
use Rattle.std.proofs.lemmas.Option.{same_Some, slice_get_within}
use Rattle.base.specs.Each.{Each}
use Rattle.base.proofs.EachLaws.{each_at}
use Rattle.quiesce_core.specs.declared.event.Event.{Event}
use Rattle.quiesce_core.specs.declared.event.Event.TheVariants as event
use Rattle.quiesce_core.specs.State.{Configuration, State, exchange, gate, owner, slot}
use Rattle.quiesce_core.specs.Doers.{is_of_change}
use Rattle.quiesce_core.specs.Runs.{IsRun, is_begin_of, state_after}
use Rattle.quiesce_core.proofs.InductionLaws.{IsNext, place, along}
use Rattle.quiesce_core.proofs.RunLaws.{fronts_are_runs, runs_are_well_formed}
use Rattle.quiesce_core.proofs.TableLaws.{gate_place}
use Rattle.quiesce_laws.specs.Drained.{is_drained}
use Rattle.quiesce_laws.specs.Events.{is_root_of, reopens}
use Rattle.quiesce_laws.specs.Roots.{has_root}
use Rattle.quiesce_laws.proofs.DrainingLaws.{no_node_reopens}
use Rattle.quiesce_laws.proofs.RootLaws.{closed_stays, root_when_closed, closed_by}
use Rattle.config_graph.specs.Kinds.{is_depended_on}
use Rattle.config_graph.specs.declared.node.Node.{Node}
use Rattle.base.proofs.PlaceLaws.{heads_are, parted_at}
use Rattle.base.proofs.ListLaws.{all_parts, any_parts}
use Rattle.quiesce_core.specs.declared.state.Exchange.{Exchange}
use Rattle.quiesce_core.specs.declared.state.Slot.{Slot}
use Rattle.quiesce_core.specs.WellFormed.{IsSound}
use Rattle.quiesce_laws.specs.Configurations.{Extends}
use Rattle.quiesce_laws.proofs.ExchangeLaws.{PortStep, stays, begins, calls, ends, port_step}
use Rattle.quiesce_core.specs.Effect.{effect}
use Rattle.quiesce_laws.proofs.ExtensionLaws.{closed_next, extends_further, extends_next, read_before}
use Rattle.quiesce_laws.proofs.RootsSeenLaws.{open_root_is_seen}
use Rattle.merge_laws.specs.Guided.{Guided}
use Rattle.merge_laws.proofs.GoingLemmas.{call_is_there}
use Rattle.report_types.specs.declared.report.HistoryLine.{HistoryLine}
use Rattle.report_types.specs.declared.report.HistoryLine.TheVariants as to
use Rattle.change_spec.specs.Lawful.{IsDrainedAt, IsOfItsKind, StoodOpen}
use Rattle.change_spec.specs.Members.{Member, by_node, of_history, event_of, events, is_close, is_root, lines, state_at, without_roots}
use Rattle.change_spec.proofs.MemberLaws.{AtLine, at_line, events_parts, lines_parts, none_happens}
use Rattle.merge_laws.specs.Guarded.{closes_before, is_beyond, is_called_at, is_met, is_root_line, tells, told, waits}
use Rattle.merge_laws.specs.Merges.{HasRootsApart, IsMergeWith}
use Rattle.merge_laws.specs.Telling.{IsShutBy, IsTold, IsToldOf, reopens_there}
use Rattle.merge_laws.proofs.SerialLemmas.{ended_for_good, none_begins_closed, not_beyond}

-- ---- lists of lines

pub record Found (p : ℕ) (r : List HistoryLine) (l : HistoryLine) : Type 0 where
  pub between : List HistoryLine
  pub later : List HistoryLine
  pub parts : r ≡ between ++ l ∷ later
  pub tells_it : tells p l ≡ true

found_told : (p : ℕ) (r : List HistoryLine) (l : HistoryLine) → told p r ≡ Some l → Found p r l
found_told p [] l is = absurd (cc (is))
found_told p (k ∷ r) l is = by (found_told p r l) (tells p k) refl
  where
    by : (told p r ≡ Some l → Found p r l) → (b : Bool) → tells p k ≡ b → Found p (k ∷ r) l
    by further true t =
        let same : k ≡ l = same_Some k l (sym (ap (λ b. cond b (Some k) (told p r)) t) ∙ is) in
        record { between = []; later = r; parts = ap (λ j. j ∷ r) same; tells_it = ap (tells p) (sym same) ∙ t }
    by further false t =
        let w = further (sym (ap (λ b. cond b (Some k) (told p r)) t) ∙ is) in
        record { between = k ∷ w.between; later = w.later; parts = ap (λ ls. k ∷ ls) w.parts; tells_it = w.tells_it }

pub told_first : (p : ℕ) (a : List HistoryLine) (l : HistoryLine) (b : List HistoryLine) → list_any (tells p) a ≡ false → tells p l ≡ true → told p (a ++ l ∷ b) ≡ Some l
told_first p [] l b none_ t = ap (λ c. cond c (Some l) (told p b)) t
told_first p (k ∷ a) l b none_ t =
    let w = or_parts (tells p k) (list_any (tells p) a) none_ in ap (λ c. cond c (Some k) (told p (a ++ l ∷ b))) w.0 ∙ told_first p a l b w.1 t

-- a root that is told behind a close
pub record RootBehind (p k : ℕ) (r : List HistoryLine) : Type 0 where
  pub between : List HistoryLine
  pub later : List HistoryLine
  pub parts : r ≡ between ++ to.Root p k ∷ later
  pub close : list_any is_close between ≡ true

root_line_is : (p k : ℕ) (l : HistoryLine) → is_root_line p k l ≡ true → l ≡ to.Root p k
root_line_is p k (to.Root q j) h = let w = and_parts (q == p) (j == k) h in ap₂ (λ a b. to.Root a b) (eqb-true q p w.0) (eqb-true j k w.1)
root_line_is p k _ h = absurd (both_ways false refl h)

pub record RootIn (p k : ℕ) (r : List HistoryLine) : Type 0 where
  pub between : List HistoryLine
  pub later : List HistoryLine
  pub parts : r ≡ between ++ to.Root p k ∷ later

root_in : (p k : ℕ) (r : List HistoryLine) → list_any (is_root_line p k) r ≡ true → RootIn p k r
root_in p k [] h = absurd (both_ways false refl h)
root_in p k (l ∷ r) h = by (root_in p k r) (is_root_line p k l) refl
  where
    by : (list_any (is_root_line p k) r ≡ true → RootIn p k r) → (b : Bool) → is_root_line p k l ≡ b → RootIn p k (l ∷ r)
    by further true t = record { between = []; later = r; parts = ap (λ j. j ∷ r) (root_line_is p k l t) }
    by further false t =
        let w = further (sym (ap (λ b. b || list_any (is_root_line p k) r) t) ∙ h) in record { between = l ∷ w.between; later = w.later; parts = ap (λ ls. l ∷ ls) w.parts }

root_behind : (p k : ℕ) (r : List HistoryLine) → closes_before p k r ≡ true → RootBehind p k r
root_behind p k [] h = absurd (both_ways false refl h)
root_behind p k (l ∷ r) h = by (root_behind p k r) (is_close l && list_any (is_root_line p k) r) refl
  where
    by : (closes_before p k r ≡ true → RootBehind p k r) → (b : Bool) → (is_close l && list_any (is_root_line p k) r) ≡ b → RootBehind p k (l ∷ r)
    by further true t =
        let both = and_parts (is_close l) (list_any (is_root_line p k) r) t in
        let w = root_in p k r both.1 in
        record { between = l ∷ w.between; later = w.later; parts = ap (λ ls. l ∷ ls) w.parts; close = or_left (is_close l) (list_any is_close w.between) both.0 }
    by further false t =
        let w = further (sym (ap (λ b. b || closes_before p k r) t) ∙ h) in
        record { between = l ∷ w.between; later = w.later; parts = ap (λ ls. l ∷ ls) w.parts; close = or_right (is_close l) (list_any is_close w.between) w.close }

-- closes are among the lines that are no roots
pub close_stays : (ls : List HistoryLine) → list_any is_close ls ≡ true → list_any is_close (without_roots ls) ≡ true
close_stays [] h = h
close_stays (to.Close p ∷ ls) h = refl
close_stays (to.Root p k ∷ ls) h = close_stays ls h
close_stays (_ ∷ ls) h = close_stays ls h

shut_stays : (p : ℕ) (ls : List HistoryLine) → list_any (reopens_there p) ls ≡ false → list_any (reopens_there p) (without_roots ls) ≡ false
shut_stays p [] h = h
shut_stays p (to.Root q k ∷ ls) h = shut_stays p ls h
shut_stays p (l ∷ ls) h = shut_on (is_root l) (or_parts (reopens_there p l) (list_any (reopens_there p) ls) h).0 (shut_stays p ls (or_parts (reopens_there p l) (list_any (reopens_there p) ls) h).1)
  where
    shut_on : (b : Bool) → reopens_there p l ≡ false → list_any (reopens_there p) (without_roots ls) ≡ false → list_any (reopens_there p) (cond (not b) (l ∷ without_roots ls) (without_roots ls)) ≡ false
    shut_on true here rest = rest
    shut_on false here rest = or_from (reopens_there p l) (list_any (reopens_there p) (without_roots ls)) here rest

-- lines that don't reopen the port make no event that does
reopens_none : (p : ℕ) (ls : List HistoryLine) → list_any (reopens_there p) ls ≡ false → list_any (reopens p) (filter_map event_of ls) ≡ false
reopens_none p [] h = refl
reopens_none p (to.Reopen q ∷ ls) h = let w = or_parts (q == p) (list_any (reopens_there p) ls) h in or_from (q == p) (list_any (reopens p) (filter_map event_of ls)) w.0 (reopens_none p ls w.1)
reopens_none p (_ ∷ ls) h = reopens_none p ls h

-- whether services call at a port stays as it was when the port was made
pub called_grows : (c d : Configuration) → IsSound c → Extends c d → (p : ℕ) → p < length c.gates → is_called_at d p ≡ is_called_at c p
called_grows c d sound grown p made =
    let o = sound.ports p made in
    ap₂ (λ i r. option_map_or (λ (m : Slot). is_depended_on m.node.kind r) (slot d i) false) (grown.owners p made) (grown.requirements p made)
    ∙ read_before c d grown (owner c p) (slice_get_within c.slots (owner c p) o.node o.made) (λ (m : Slot). is_depended_on m.node.kind (gate c p).require) false
    (λ a b same first. ap (λ (k : Node). is_depended_on k.kind (gate c p).require) same)

pub shut_on : (a b : List Event) (p : ℕ) → IsRun (a ++ event.Close p ∷ b) → list_any (reopens p) b ≡ false → (gate (state_after (a ++ event.Close p ∷ b)).config p).closed ≡ true
shut_on a b p run none_ =
    let split : (a ++ event.Close p ∷ []) ++ b ≡ a ++ event.Close p ∷ b = append_assoc a (event.Close p ∷ []) b in
    subst (λ es. (gate (state_after es).config p).closed ≡ true) split
    (closed_stays (a ++ event.Close p ∷ []) b p (subst IsRun (sym split) run) none_ (closed_by a b p run))

-- a port that is shut, and at which no service calls, keeps its serial
record Keeps (s t : State) (p : ℕ) : Type 0 where
  pub shut : (gate t.config p).closed ≡ true
  pub uncalled : is_called_at t.config p ≡ false
  pub made : p < length t.config.gates
  pub serial : (exchange t p).serial ≡ (exchange s p).serial

keeps_next : (s : State) (p : ℕ) (xs : List Event) (e : Event) → IsNext xs e → reopens p e ≡ false → Keeps s (state_after xs) p → Keeps s (state_after (xs ++ e ∷ [])) p
keeps_next s p xs e at free k = subst (λ t. Keeps s t p) (sym at.next) (record {
  shut = closed_next (state_after xs) e p at.legal free k.shut;
  uncalled = called_grows (state_after xs).config (effect (state_after xs) e).config at.well.sound grown p k.made ∙ k.uncalled;
  made = omega (arith, k.made, grown.many);
  serial = by (port_step (state_after xs) e at.well at.traffic at.legal p) ∙ k.serial;
})
  where
    grown : Extends (state_after xs).config (effect (state_after xs) e).config
    grown = extends_next (state_after xs) e at.legal

    by : PortStep (state_after xs) e p (exchange (effect (state_after xs) e) p) → (exchange (effect (state_after xs) e) p).serial ≡ (exchange (state_after xs) p).serial
    by (stays off serial within idle) = serial
    by (begins j v is may y) = absurd (both_ways (gate (state_after xs).config p).closed (not-true (gate (state_after xs).config p).closed may.opened) k.shut)
    by (calls j v u is may served y) = absurd (both_ways (is_called_at (state_after xs).config p) k.uncalled (call_is_there (state_after xs) p may.serves_through))
    by (ends j v is may y) = ap (λ (x : Exchange). x.serial) y

keeps_serial : (a b : List Event) (p : ℕ) → IsRun (a ++ event.Close p ∷ b) → list_any (reopens p) b ≡ false → is_called_at (state_after a).config p ≡ false
    → (exchange (state_after (a ++ event.Close p ∷ b)) p).serial ≡ (exchange (state_after a) p).serial
keeps_serial a b p run none_ uncalled =
    let at = place a b (event.Close p) run in
    let grown = extends_next (state_after a) (event.Close p) at.legal in
    let made = gate_place (state_after a) p at.legal.live in
    let split : (a ++ event.Close p ∷ []) ++ b ≡ a ++ event.Close p ∷ b = append_assoc a (event.Close p ∷ []) b in
    let first : Keeps (state_after a) (state_after (a ++ event.Close p ∷ [])) p = record {
      shut = closed_by a b p run;
      uncalled = ap (λ (t : State). is_called_at t.config p) at.next ∙ called_grows (state_after a).config (effect (state_after a) (event.Close p)).config at.well.sound grown p made ∙ uncalled;
      made = subst (λ (t : State). p < length t.config.gates) (sym at.next) (omega (arith, made, grown.many));
      serial = ap (λ (t : State). (exchange t p).serial) at.next;
    } in
    let last : Keeps (state_after a) (state_after ((a ++ event.Close p ∷ []) ++ b)) p =
    along (λ xs. Keeps (state_after a) (state_after xs) p) (reopens p) (keeps_next (state_after a) p) (a ++ event.Close p ∷ []) b (subst IsRun (sym split) run) none_ first in
    ap (λ es. (exchange (state_after es) p).serial) (sym split) ∙ last.serial

-- a line of a list stands before no event of it, where there is no line
no_line_first : (d z : List Member) (e : Event) (l : HistoryLine) (a : List Member) → of_history l ∷ a ≡ d ++ by_node e ∷ z → (b : List HistoryLine) → b ++ lines d ≡ [] → ⊥
no_line_first [] z e l a is b none_ = absurd (cc (heads_are (of_history l) (by_node e) a z is))
no_line_first (k ∷ d) z e l a is b none_ =
    let one = heads_are (of_history l) k a (d ++ by_node e ∷ z) is in
    let size : length (b ++ lines (of_history l ∷ d)) ≡ 0 = ap (λ ls. length ls) (ap (λ i. b ++ lines (i ∷ d)) one ∙ none_) in
    omega (arith, size, length-append b (l ∷ lines d))

-- ---- a merge, where the history tells of each close, and no root is one of a port at which services call

module _ {history : List HistoryLine} {m : List Member} (merge : IsMergeWith history m) (telling : IsTold history) (free_roots : HasRootsApart m) where
  run_at : (x z : List Member) → m ≡ x ++ z → IsRun (events x ++ events z)
  run_at x z is = subst IsRun (ap events is ∙ events_parts x z) merge.runs

  here : (x z : List Member) (e : Event) (k : Member) → m ≡ x ++ k ∷ z → events (k ∷ z) ≡ e ∷ events z → IsNext (events x) e
  here x z e k is one = place (events x) (events z) e (subst (λ es. IsRun (events x ++ es)) one (run_at x (k ∷ z) is))

  final_calls : (x z : List Member) (p : ℕ) → m ≡ x ++ z → p < length (state_at x).config.gates → is_called_at (state_at x).config p ≡ is_called_at (state_at m).config p
  final_calls x z p is made =
      let run = run_at x z is in
      sym (called_grows (state_at x).config (state_after (events x ++ events z)).config (runs_are_well_formed (events x) (fronts_are_runs (events x) (events z) run)).sound
      (extends_further (events x) (events z) run) p made)
      ∙ ap (λ es. is_called_at (state_after es).config p) (sym (ap events is ∙ events_parts x z))

  -- a root's port is none at which services call
  root_of : (y w : List Member) (p k : ℕ) → m ≡ y ++ w → has_root (state_at y) p k ≡ true → is_called_at (state_at m).config p ≡ false
  root_of y w p k is h =
      let run = fronts_are_runs (events y) (events w) (run_at y w is) in
      let begun : list_any (is_root_of p k) (events y) ≡ true = (and_parts (list_any (is_root_of p k) (events y)) _ (open_root_is_seen (events y) p k run ∙ h)).0 in
      free_roots p k (ap (list_any (is_root_of p k)) (ap events is ∙ events_parts y w) ∙ list_any-append (is_root_of p k) (events y) (events w)
      ∙ or_left (list_any (is_root_of p k) (events y)) (list_any (is_root_of p k) (events w)) begun)

  kinds_of : (x z : List Member) → m ≡ x ++ z → All IsOfItsKind z
  kinds_of x z is = (all_parts IsOfItsKind x z (subst (All IsOfItsKind) is merge.by_nodes)).1

  node_at : (x z : List Member) (e : Event) → m ≡ x ++ by_node e ∷ z → is_of_change e ≡ false
  node_at x z e is = (kinds_of x (by_node e ∷ z) is) 0 (by_node e) (omega arith)

  drained_at : (x z : List Member) (p k : ℕ) → m ≡ x ++ of_history (to.Drained p k) ∷ z → (is_drained (state_at x) p && (exchange (state_at x) p).serial == k) ≡ true
  drained_at x z p k is =
      let w = each_at IsDrainedAt x z (of_history (to.Drained p k)) (subst (Each IsDrainedAt) is merge.drained) in
      and_from (is_drained (state_at x) p) ((exchange (state_at x) p).serial == k) w.0 (eq-eqb (exchange (state_at x) p).serial k w.1)

  -- behind that place
  later_is : (c g : List HistoryLine) (x d : List Member) (p k : ℕ) (s : StoodOpen m (c ++ g) p k) → lines x ≡ without_roots c → x ≡ s.front ++ d → s.later ≡ lines d ++ without_roots g
  later_is c g x d p k s same is = append_cancel_left (lines s.front) s.later (lines d ++ without_roots g)
      (s.place ∙ filter-append (λ l. not (is_root l)) c g ∙ ap (λ ls. ls ++ without_roots g) (sym same ∙ ap lines is ∙ lines_parts s.front d)
      ∙ append_assoc (lines s.front) (lines d) (without_roots g))

  -- and the port isn't reopened there before the root is told
  later_shut : (c r : List HistoryLine) (p k : ℕ) → history ≡ c ++ to.Root p k ∷ r → (s : StoodOpen m c p k) → list_any (reopens_there p) s.later ≡ false
  later_shut c r p k has s = ⊎_elim
      (λ (w : (t : List HistoryLine) × (lines s.front ≡ without_roots by.front ++ to.Close p ∷ t)).
      let same : without_roots by.between ≡ w.0 ++ s.later = append_cancel_left (without_roots by.front ++ to.Close p ∷ []) (without_roots by.between) (w.0 ++ s.later)
      (append_assoc (without_roots by.front) (to.Close p ∷ []) (without_roots by.between) ∙ whole ∙ ap (λ ls. ls ++ s.later) w.1
      ∙ append_assoc (without_roots by.front) (to.Close p ∷ w.0) s.later ∙ sym (append_assoc (without_roots by.front) (to.Close p ∷ []) (w.0 ++ s.later))) in
      (any_parts (reopens_there p) w.0 s.later (ap (list_any (reopens_there p)) (sym same) ∙ shut_stays p by.between by.shut)).1)
      (λ (w : (t : List HistoryLine) × (s.later ≡ t ++ to.Close p ∷ without_roots by.between) × (without_roots by.front ≡ lines s.front ++ t)).
      absurd (both_ways (list_any is_close s.later) s.behind_closes
      (ap (list_any is_close) w.1 ∙ list_any-append is_close w.0 (to.Close p ∷ without_roots by.between) ∙ or_right (list_any is_close w.0) true refl)))
      (parted_at (without_roots by.front) (to.Close p) (without_roots by.between) (lines s.front) s.later whole)
    where
      by : IsShutBy p c
      by = telling.roots p k c r has

      whole : without_roots by.front ++ to.Close p ∷ without_roots by.between ≡ lines s.front ++ s.later
      whole = sym (s.place ∙ ap without_roots by.parts ∙ filter-append (λ l. not (is_root l)) by.front (to.Close p ∷ by.between))

  -- ---- what waits

  -- what was begun or called before a drained line isn't beyond it
  before_drained : (x z : List Member) (e : Event) (c r : List HistoryLine) (p j q k : ℕ) → m ≡ x ++ by_node e ∷ z → history ≡ c ++ r → lines x ≡ without_roots c
      → is_begin_of p j e ≡ true → Found p r (to.Drained q k) → nat_lt k j ≡ false
  before_drained x z e c r p j q k is has same begun w =
      let at : AtLine m (without_roots (c ++ w.between)) (to.Drained q k) = at_line m (without_roots (c ++ w.between)) (to.Drained q k) (without_roots w.later)
      (merge.lines_are ∙ ap without_roots (has ∙ ap (λ ls. c ++ ls) w.parts ∙ sym (append_assoc c w.between (to.Drained q k ∷ w.later)))
      ∙ filter-append (λ l. not (is_root l)) (c ++ w.between) (to.Drained q k ∷ w.later)) in
      let is_p : q ≡ p = eqb-true q p w.tells_it in
      let serial : ((exchange (state_at at.before) p).serial == k) ≡ true =
      ap (λ i. (exchange (state_at at.before) i).serial == k) (sym is_p) ∙ (and_parts (is_drained (state_at at.before) q) _ (drained_at at.before at.after q k at.parts)).1 in
      false_from_ne_true (nat_lt k j) (λ low. ⊎_elim
      (λ (v : (d : List Member) × (at.before ≡ x ++ by_node e ∷ d)).
      let es : events at.before ≡ events x ++ e ∷ events v.0 = ap events v.1 ∙ events_parts x (by_node e ∷ v.0) in
      let run : IsRun (events x ++ e ∷ events v.0) =
      subst IsRun es (fronts_are_runs (events at.before) (events (of_history (to.Drained q k) ∷ at.after)) (run_at at.before (of_history (to.Drained q k) ∷ at.after) at.parts)) in
      let up : j ≤ (exchange (state_at at.before) p).serial = subst (λ ys. j ≤ (exchange (state_after ys) p).serial) (sym es) (not_beyond (events x) (events v.0) e p j run begun) in
      omega (arith, ltb-true k j low, eqb-true (exchange (state_at at.before) p).serial k serial, up))
      (λ (v : (d : List Member) × (of_history (to.Drained q k) ∷ at.after ≡ d ++ by_node e ∷ z) × (x ≡ at.before ++ d)).
      no_line_first v.0 z e (to.Drained q k) at.after v.1 (without_roots w.between)
      (append_cancel_left (without_roots c) (without_roots w.between ++ lines v.0) []
      (sym (append_assoc (without_roots c) (without_roots w.between) (lines v.0)) ∙ ap (λ ls. ls ++ lines v.0) (sym (filter-append (λ l. not (is_root l)) c w.between) ∙ sym at.lines_before)
      ∙ sym (lines_parts at.before v.0) ∙ sym (ap lines v.2) ∙ same ∙ sym (append-nil (without_roots c)))))
      (parted_at x (by_node e) z at.before (of_history (to.Drained q k) ∷ at.after) (sym is ∙ at.parts)))

  -- nor beyond a root that is told
  before_root : (x z : List Member) (e : Event) (c r : List HistoryLine) (p j k : ℕ) → m ≡ x ++ by_node e ∷ z → history ≡ c ++ r → lines x ≡ without_roots c
      → is_begin_of p j e ≡ true → (w : Found p r (to.Root p k)) → ((s : StoodOpen m (c ++ w.between) p k) (d : List Member) → x ≡ s.front ++ d → ⊥) → nat_lt k j ≡ false
  before_root x z e c r p j k is has same begun w never =
      let whole : history ≡ (c ++ w.between) ++ to.Root p k ∷ w.later = has ∙ ap (λ ls. c ++ ls) w.parts ∙ sym (append_assoc c w.between (to.Root p k ∷ w.later)) in
      let s = merge.open_roots (c ++ w.between) w.later p k whole in
      false_from_ne_true (nat_lt k j) (λ low. ⊎_elim
      (λ (v : (d : List Member) × (s.front ≡ x ++ by_node e ∷ d)).
      let es : events s.front ≡ events x ++ e ∷ events v.0 = ap events v.1 ∙ events_parts x (by_node e ∷ v.0) in
      let run : IsRun (events x ++ e ∷ events v.0) = subst IsRun es (fronts_are_runs (events s.front) (events s.rest) (run_at s.front s.rest s.parts)) in
      let up : j ≤ (exchange (state_at s.front) p).serial = subst (λ ys. j ≤ (exchange (state_after ys) p).serial) (sym es) (not_beyond (events x) (events v.0) e p j run begun) in
      omega (arith, ltb-true k j low, eqb-true (exchange (state_at s.front) p).serial k (and_parts _ ((exchange (state_at s.front) p).serial == k) s.open_there).1, up))
      (λ (v : (d : List Member) × (s.rest ≡ d ++ by_node e ∷ z) × (x ≡ s.front ++ d)). never s v.0 v.2)
      (parted_at x (by_node e) z s.front s.rest (sym is ∙ s.parts)))

  not_told_beyond : (x z : List Member) (e : Event) (c r : List HistoryLine) (p j : ℕ) → m ≡ x ++ by_node e ∷ z → history ≡ c ++ r → lines x ≡ without_roots c
      → is_begin_of p j e ≡ true → ((k : ℕ) (w : Found p r (to.Root p k)) (s : StoodOpen m (c ++ w.between) p k) (d : List Member) → x ≡ s.front ++ d → ⊥)
      → (o : Option HistoryLine) → told p r ≡ o → is_beyond j o ≡ false
  not_told_beyond x z e c r p j is has same begun never None at = refl
  not_told_beyond x z e c r p j is has same begun never (Some (to.Drained q k)) at = before_drained x z e c r p j q k is has same begun (found_told p r (to.Drained q k) at)
  not_told_beyond x z e c r p j is has same begun never (Some (to.Root q k)) at =
      let first = found_told p r (to.Root q k) at in
      let w : Found p r (to.Root p k) = subst (λ i. Found p r (to.Root i k)) (eqb-true q p first.tells_it) first in
      before_root x z e c r p j k is has same begun w (never k w)
  not_told_beyond x z e c r p j is has same begun never (Some _) at = refl

  -- lines that don't reopen a port, and so the events among which they stand
  none_reopened : (p : ℕ) (d : List Member) → All IsOfItsKind d → list_any (reopens_there p) (lines d) ≡ false → list_any (reopens p) (events d) ≡ false
  none_reopened p d kinds shut = none_happens (reopens p) (no_node_reopens p) d kinds (reopens_none p (lines d) shut)

  front_kinds : (x z : List Member) → m ≡ x ++ z → All IsOfItsKind x
  front_kinds x z is = (all_parts IsOfItsKind x z (subst (All IsOfItsKind) is merge.by_nodes)).0

  begin_root : (x z : List Member) (p j v : ℕ) → m ≡ x ++ by_node (event.Begin p j v) ∷ z → is_called_at (state_at m).config p ≡ false
  begin_root x z p j v is = free_roots p j
      (ap (list_any (is_root_of p j)) (ap events is ∙ events_parts x (by_node (event.Begin p j v) ∷ z)) ∙ list_any-append (is_root_of p j) (events x) (event.Begin p j v ∷ events z)
      ∙ or_right (list_any (is_root_of p j) (events x)) (list_any (is_root_of p j) (event.Begin p j v ∷ events z))
      (or_left (p == p && j == j) (list_any (is_root_of p j) (events z)) (and_from (p == p) (j == j) (eq-eqb p p refl) (eq-eqb j j refl))))

  free_at : (x z : List Member) (e : Event) (c r : List HistoryLine) → m ≡ x ++ by_node e ∷ z → history ≡ c ++ r → lines x ≡ without_roots c → waits (state_at x) r e ≡ false
  free_at x z (event.Begin p j v) c r is has same =
      let at = here x z (event.Begin p j v) (by_node (event.Begin p j v)) is refl in
      or_from (is_called_at (state_at x).config p) (is_beyond j (told p r))
      (final_calls x (by_node (event.Begin p j v) ∷ z) p is (gate_place (state_at x) p at.legal.live) ∙ begin_root x z p j v is)
      (not_told_beyond x z (event.Begin p j v) c r p j is has same (and_from (p == p) (j == j) (eq-eqb p p refl) (eq-eqb j j refl))
      (λ k w s d xs.
      let whole : history ≡ (c ++ w.between) ++ to.Root p k ∷ w.later = has ∙ ap (λ ls. c ++ ls) w.parts ∙ sym (append_assoc c w.between (to.Root p k ∷ w.later)) in
      let shut : list_any (reopens_there p) (lines d) ≡ false =
      (any_parts (reopens_there p) (lines d) (without_roots w.between) (ap (list_any (reopens_there p)) (sym (later_is c w.between x d p k s same xs)) ∙ later_shut (c ++ w.between) w.later p k whole s)).0 in
      none_begins_closed (events x) (events d) (events z) p j v (run_at x (by_node (event.Begin p j v) ∷ z) is) (events s.front) (ap events xs ∙ events_parts s.front d) s.closed_there
      (none_reopened p d (all_parts IsOfItsKind s.front d (subst (All IsOfItsKind) xs (front_kinds x (by_node (event.Begin p j v) ∷ z) is))).1 shut))
      (told p r) refl)
  free_at x z (event.Call p j v) c r is has same =
      let at = here x z (event.Call p j v) (by_node (event.Call p j v)) is refl in
      not_told_beyond x z (event.Call p j v) c r p j is has same (and_from (p == p) (j == j) (eq-eqb p p refl) (eq-eqb j j refl))
      (λ k w s d xs. both_ways (is_called_at (state_at m).config p) (root_of s.front s.rest p k s.parts s.open_there)
      (sym (final_calls x (by_node (event.Call p j v) ∷ z) p is (gate_place (state_at x) p at.legal.live)) ∙ call_is_there (state_at x) p at.legal.serves_through))
      (told p r) refl
  free_at x z (event.End p k v) c r is has same = false_from_ne_true (closes_before p k r) (λ h.
      let w = root_behind p k r h in
      let whole : history ≡ (c ++ w.between) ++ to.Root p k ∷ w.later = has ∙ ap (λ ls. c ++ ls) w.parts ∙ sym (append_assoc c w.between (to.Root p k ∷ w.later)) in
      let s = merge.open_roots (c ++ w.between) w.later p k whole in
      ⊎_elim
      (λ (u : (d : List Member) × (s.front ≡ x ++ by_node (event.End p k v) ∷ d)).
      let es : events s.front ≡ events x ++ event.End p k v ∷ events u.0 = ap events u.1 ∙ events_parts x (by_node (event.End p k v) ∷ u.0) in
      let run : IsRun (events x ++ event.End p k v ∷ events u.0) = subst IsRun es (fronts_are_runs (events s.front) (events s.rest) (run_at s.front s.rest s.parts)) in
      ended_for_good (events x) (events u.0) p k v run (ap (λ ys. has_root (state_after ys) p k) (sym es) ∙ s.open_there))
      (λ (u : (d : List Member) × (s.rest ≡ d ++ by_node (event.End p k v) ∷ z) × (x ≡ s.front ++ d)).
      both_ways (list_any is_close s.later) s.behind_closes
      (ap (list_any is_close) (later_is c w.between x u.0 p k s same u.2) ∙ list_any-append is_close (lines u.0) (without_roots w.between)
      ∙ or_right (list_any is_close (lines u.0)) (list_any is_close (without_roots w.between)) (close_stays w.between w.close)))
      (parted_at x (by_node (event.End p k v)) z s.front s.rest (sym is ∙ s.parts)))
  free_at x z _ c r is has same = refl

  -- a close finds what is told of its port
  close_parts : (x z d : List Member) (p : ℕ) (c g : List HistoryLine) (more_ : List HistoryLine) → lines x ≡ without_roots c
      → lines (x ++ of_history (to.Close p) ∷ d) ++ more_ ≡ without_roots (c ++ to.Close p ∷ g) → lines d ++ more_ ≡ without_roots g
  close_parts x z d p c g more_ same whole = append_cancel_left (lines x ++ to.Close p ∷ []) (lines d ++ more_) (without_roots g)
      (append_assoc (lines x) (to.Close p ∷ []) (lines d ++ more_) ∙ sym (append_assoc (lines x) (to.Close p ∷ lines d) more_)
      ∙ ap (λ ls. ls ++ more_) (sym (lines_parts x (of_history (to.Close p) ∷ d))) ∙ whole
      ∙ filter-append (λ l. not (is_root l)) c (to.Close p ∷ g) ∙ ap (λ ls. ls ++ to.Close p ∷ without_roots g) (sym same)
      ∙ sym (append_assoc (lines x) (to.Close p ∷ []) (without_roots g)))

  met_drained : (x z : List Member) (p q k : ℕ) (c r : List HistoryLine) → m ≡ x ++ of_history (to.Close p) ∷ z → history ≡ c ++ to.Close p ∷ r → lines x ≡ without_roots c
      → (t : IsToldOf p r) → t.line ≡ to.Drained q k → (is_called_at (state_at x).config p || (exchange (state_at x) p).serial == k) ≡ true
  met_drained x z p q k c r is has same t line_is = by (is_called_at (state_at x).config p) refl
    where
      g : List HistoryLine
      g = c ++ to.Close p ∷ t.between

      whole : history ≡ g ++ to.Drained q k ∷ t.later
      whole = has ∙ ap (λ ls. c ++ to.Close p ∷ ls) (t.parts ∙ ap (λ l. t.between ++ l ∷ t.later) line_is) ∙ sym (append_assoc c (to.Close p ∷ t.between) (to.Drained q k ∷ t.later))

      at : AtLine m (without_roots g) (to.Drained q k)
      at = at_line m (without_roots g) (to.Drained q k) (without_roots t.later)
          (merge.lines_are ∙ ap without_roots whole ∙ filter-append (λ l. not (is_root l)) g (to.Drained q k ∷ t.later))

      is_p : q ≡ p
      is_p = eqb-true q p (ap (tells p) (sym line_is) ∙ t.tells_it)

      serial : ((exchange (state_at at.before) p).serial == k) ≡ true
      serial = ap (λ i. (exchange (state_at at.before) i).serial == k) (sym is_p) ∙ (and_parts (is_drained (state_at at.before) q) _ (drained_at at.before at.after q k at.parts)).1

      kept : is_called_at (state_at x).config p ≡ false → ((exchange (state_at x) p).serial == k) ≡ true
      kept uncalled = ⊎_elim
          (λ (v : (d : List Member) × (at.before ≡ x ++ of_history (to.Close p) ∷ d)).
          let es : events at.before ≡ events x ++ event.Close p ∷ events v.0 = ap events v.1 ∙ events_parts x (of_history (to.Close p) ∷ v.0) in
          let run : IsRun (events x ++ event.Close p ∷ events v.0) =
          subst IsRun es (fronts_are_runs (events at.before) (events (of_history (to.Drained q k) ∷ at.after)) (run_at at.before (of_history (to.Drained q k) ∷ at.after) at.parts)) in
          let ls : lines v.0 ++ [] ≡ without_roots t.between =
          close_parts x z v.0 p c t.between [] same (append-nil (lines (x ++ of_history (to.Close p) ∷ v.0)) ∙ ap lines (sym v.1) ∙ at.lines_before) in
          let shut : list_any (reopens_there p) (lines v.0) ≡ false = ap (list_any (reopens_there p)) (sym (append-nil (lines v.0)) ∙ ls) ∙ shut_stays p t.between t.shut in
          let kinds : All IsOfItsKind v.0 =
          (all_parts IsOfItsKind (x ++ of_history (to.Close p) ∷ []) v.0 (subst (All IsOfItsKind) (v.1 ∙ sym (append_assoc x (of_history (to.Close p) ∷ []) v.0))
          (front_kinds at.before (of_history (to.Drained q k) ∷ at.after) at.parts))).1 in
          let stayed : (exchange (state_at at.before) p).serial ≡ (exchange (state_at x) p).serial =
          ap (λ ys. (exchange (state_after ys) p).serial) es ∙ keeps_serial (events x) (events v.0) p run (none_reopened p v.0 kinds shut) uncalled in
          ap (λ i. i == k) (sym stayed) ∙ serial)
          (λ (v : (d : List Member) × (of_history (to.Drained q k) ∷ at.after ≡ d ++ of_history (to.Close p) ∷ z) × (x ≡ at.before ++ d)).
          let lost : without_roots c ++ [] ≡ without_roots c ++ (to.Close p ∷ without_roots t.between ++ lines v.0) =
          append-nil (without_roots c) ∙ sym same ∙ ap lines v.2 ∙ lines_parts at.before v.0
          ∙ ap (λ ls. ls ++ lines v.0) (at.lines_before ∙ filter-append (λ l. not (is_root l)) c (to.Close p ∷ t.between))
          ∙ append_assoc (without_roots c) (to.Close p ∷ without_roots t.between) (lines v.0) in
          absurd (cc (append_cancel_left (without_roots c) [] (to.Close p ∷ without_roots t.between ++ lines v.0) lost)))
          (parted_at x (of_history (to.Close p)) z at.before (of_history (to.Drained q k) ∷ at.after) (sym is ∙ at.parts))

      by : (b : Bool) → is_called_at (state_at x).config p ≡ b → (is_called_at (state_at x).config p || (exchange (state_at x) p).serial == k) ≡ true
      by true called = or_left (is_called_at (state_at x).config p) ((exchange (state_at x) p).serial == k) called
      by false uncalled = or_right (is_called_at (state_at x).config p) ((exchange (state_at x) p).serial == k) (kept uncalled)

  met_root : (x z : List Member) (p q k : ℕ) (c r : List HistoryLine) → m ≡ x ++ of_history (to.Close p) ∷ z → history ≡ c ++ to.Close p ∷ r → lines x ≡ without_roots c
      → (t : IsToldOf p r) → t.line ≡ to.Root q k → has_root (state_at x) p k ≡ true
  met_root x z p q k c r is has same t line_is = ⊎_elim
      (λ (v : (d : List Member) × (s.front ≡ x ++ of_history (to.Close p) ∷ d)).
      let es : events s.front ≡ events x ++ event.Close p ∷ events v.0 = ap events v.1 ∙ events_parts x (of_history (to.Close p) ∷ v.0) in
      let run : IsRun (events x ++ event.Close p ∷ events v.0) = subst IsRun es (fronts_are_runs (events s.front) (events s.rest) (run_at s.front s.rest s.parts)) in
      let ls : lines v.0 ++ s.later ≡ without_roots t.between = close_parts x z v.0 p c t.between s.later same (ap (λ y. lines y ++ s.later) (sym v.1) ∙ s.place) in
      let shut : list_any (reopens_there p) (lines v.0) ≡ false =
      (any_parts (reopens_there p) (lines v.0) s.later (ap (list_any (reopens_there p)) ls ∙ shut_stays p t.between t.shut)).0 in
      let kinds : All IsOfItsKind v.0 =
      (all_parts IsOfItsKind (x ++ of_history (to.Close p) ∷ []) v.0 (subst (All IsOfItsKind) (v.1 ∙ sym (append_assoc x (of_history (to.Close p) ∷ []) v.0))
      (front_kinds s.front s.rest s.parts))).1 in
      root_when_closed (events x) (events v.0) p k run (none_reopened p v.0 kinds shut) (ap (λ ys. has_root (state_after ys) p k) (sym es) ∙ s.open_there))
      (λ (v : (d : List Member) × (s.rest ≡ d ++ of_history (to.Close p) ∷ z) × (x ≡ s.front ++ d)).
      absurd (both_ways (list_any is_close s.later) s.behind_closes
      (ap (list_any is_close) (later_is c (to.Close p ∷ t.between) x v.0 p k s same v.2) ∙ list_any-append is_close (lines v.0) (to.Close p ∷ without_roots t.between)
      ∙ or_right (list_any is_close (lines v.0)) true refl)))
      (parted_at x (of_history (to.Close p)) z s.front s.rest (sym is ∙ s.parts))
    where
      is_p : q ≡ p
      is_p = eqb-true q p (ap (tells p) (sym line_is) ∙ t.tells_it)

      whole : history ≡ (c ++ to.Close p ∷ t.between) ++ to.Root p k ∷ t.later
      whole = has ∙ ap (λ ls. c ++ to.Close p ∷ ls) (t.parts ∙ ap (λ l. t.between ++ l ∷ t.later) (line_is ∙ ap (λ i. to.Root i k) is_p))
          ∙ sym (append_assoc c (to.Close p ∷ t.between) (to.Root p k ∷ t.later))

      s : StoodOpen m (c ++ to.Close p ∷ t.between) p k
      s = merge.open_roots (c ++ to.Close p ∷ t.between) t.later p k whole

  met_at : (x z : List Member) (p : ℕ) (c r : List HistoryLine) → m ≡ x ++ of_history (to.Close p) ∷ z → history ≡ c ++ to.Close p ∷ r → lines x ≡ without_roots c
      → is_met (state_at x) p (told p r) ≡ true
  met_at x z p c r is has same = ap (is_met (state_at x) p) (ap (told p) t.parts ∙ told_first p t.between t.line t.later t.untold t.tells_it) ∙ by t.line refl
    where
      t : IsToldOf p r
      t = telling.closes p c r has

      by : (l : HistoryLine) → t.line ≡ l → is_met (state_at x) p (Some l) ≡ true
      by (to.Drained q k) line_is = met_drained x z p q k c r is has same t line_is
      by (to.Root q k) line_is = met_root x z p q k c r is has same t line_is
      by _ line_is = absurd (both_ways false refl (ap (tells p) (sym line_is) ∙ t.tells_it))

  rooted_at : (x z : List Member) (p k : ℕ) (c r : List HistoryLine) → m ≡ x ++ z → history ≡ c ++ to.Root p k ∷ r → lines x ≡ without_roots c
      → ((gate (state_at x).config p).closed && not (is_called_at (state_at x).config p)) ≡ true
  rooted_at x z p k c r is has same =
      and_from (gate (state_at x).config p).closed (not (is_called_at (state_at x).config p))
      (ap (λ ys. (gate (state_after ys).config p).closed) es ∙ shut_on (events at.before) (events at.after) p run (none_reopened p at.after kinds shut))
      (ap not (final_calls x z p is made ∙ root_of s.front s.rest p k s.parts s.open_there))
    where
      by : IsShutBy p c
      by = telling.roots p k c r has

      s : StoodOpen m c p k
      s = merge.open_roots c r p k has

      plain : lines x ≡ without_roots by.front ++ to.Close p ∷ without_roots by.between
      plain = same ∙ ap without_roots by.parts ∙ filter-append (λ l. not (is_root l)) by.front (to.Close p ∷ by.between)

      at : AtLine x (without_roots by.front) (to.Close p)
      at = at_line x (without_roots by.front) (to.Close p) (without_roots by.between) plain

      es : events x ≡ events at.before ++ event.Close p ∷ events at.after
      es = ap events at.parts ∙ events_parts at.before (of_history (to.Close p) ∷ at.after)

      run : IsRun (events at.before ++ event.Close p ∷ events at.after)
      run = subst IsRun es (fronts_are_runs (events x) (events z) (run_at x z is))

      kinds : All IsOfItsKind at.after
      kinds = (all_parts IsOfItsKind (at.before ++ of_history (to.Close p) ∷ []) at.after
          (subst (All IsOfItsKind) (at.parts ∙ sym (append_assoc at.before (of_history (to.Close p) ∷ []) at.after)) (front_kinds x z is))).1

      shut : list_any (reopens_there p) (lines at.after) ≡ false
      shut =
          let one : lines at.after ≡ without_roots by.between = append_cancel_left (without_roots by.front ++ to.Close p ∷ []) (lines at.after) (without_roots by.between)
          (append_assoc (without_roots by.front) (to.Close p ∷ []) (lines at.after) ∙ ap (λ ls. ls ++ to.Close p ∷ lines at.after) (sym at.lines_before)
          ∙ sym (lines_parts at.before (of_history (to.Close p) ∷ at.after)) ∙ sym (ap lines at.parts) ∙ plain
          ∙ sym (append_assoc (without_roots by.front) (to.Close p ∷ []) (without_roots by.between))) in
          ap (list_any (reopens_there p)) one ∙ shut_stays p by.between by.shut

      made : p < length (state_at x).config.gates
      made =
          let here = place (events at.before) (events at.after) (event.Close p) run in
          let first = gate_place (state_after (events at.before)) p here.legal.live in
          let many = (extends_further (events at.before) (event.Close p ∷ events at.after) run).many in
          subst (λ ys. p < length (state_after ys).config.gates) (sym es) (omega (arith, first, many))

  pub guided : Guided m history
  guided = record { nodes = node_at; free = free_at; met = met_at; drained = drained_at; rooted = rooted_at }
