-- A course in which ports are closed: what was closed stays closed, what is left at a port has a root,
-- and the ports may be reopened.
use Rattle.std.proofs.Common.{◌≡◌, ◌∙◌, ℕ, true, false, List, [], ◌∷◌, ◌++◌, append_assoc, map, refl, sym, ap, subst, inl, inr, arith}
use Rattle.std.specs.Prelude.{filter}
use Rattle.std.proofs.lemmas.List.{append-nil}
use Rattle.quiesce_laws.specs.Lists.{In}
use Rattle.quiesce_laws.proofs.GateLaws.{all_closed, closed_at, closes_are_of_change, closes_run, reopen_allowed}
use Rattle.quiesce_laws.proofs.MeanwhileLaws.{runs_on}
use Rattle.quiesce_laws.proofs.TurningLaws.{IsLivePort, SameLinks, live_still}
use Rattle.quiesce_core.specs.declared.event.Event.{Event}
use Rattle.quiesce_core.specs.declared.event.Event.TheVariants as event
use Rattle.quiesce_core.specs.Doers.{is_of_change}
use Rattle.quiesce_core.specs.Runs.{IsRun, state_after}
use Rattle.quiesce_core.specs.State.{Configuration, State, exchange, gate, is_live, owner}
use Rattle.quiesce_laws.specs.Drained.{is_drained}
use Rattle.quiesce_laws.specs.Roots.{has_root}
use Rattle.node_turn_laws.specs.World.{World}
use Rattle.node_turn_laws.proofs.ReachedLaws.{holds_where_reached}
use Rattle.report_types.specs.declared.report.HistoryLine.{HistoryLine}
use Rattle.report_types.specs.declared.report.HistoryLine.TheVariants as to
use Rattle.change_spec.specs.Lawful.{StoodOpen}
use Rattle.change_spec.specs.Members.{Member, of_history, events, lines, lines_of_events, state_at}
use Rattle.change_spec.specs.Scene.{root_line}
use Rattle.change_spec.specs.Serial.{after_changes, seen_at}
use Rattle.change_spec.proofs.MemberLaws.{events_parts}
use Rattle.change_round_laws.specs.Courses.{Course}
use Rattle.change_round_laws.proofs.ClosedPortLaws.{root_there}
use Rattle.change_round_laws.proofs.CourseLaws.{course_machine, course_run, with_changes, with_root}

-- lines of closes and reopenings
pub lines_of_closes : (ports : List ℕ) → lines_of_events (map event.Close ports) ≡ map to.Close ports
lines_of_closes [] = refl
lines_of_closes (p ∷ ports) = ap (λ ls. to.Close p ∷ ls) (lines_of_closes ports)

pub reopens_are_of_change : (ports : List ℕ) → filter is_of_change (map event.Reopen ports) ≡ map event.Reopen ports
reopens_are_of_change [] = refl
reopens_are_of_change (p ∷ ports) = ap (λ es. event.Reopen p ∷ es) (reopens_are_of_change ports)

abbrev closings : List ℕ → List Member
closings ports = map of_history (map to.Close ports)

events_of_closings : (ports : List ℕ) → events (map of_history (map to.Close ports)) ≡ map event.Close ports
events_of_closings [] = refl
events_of_closings (p ∷ ports) = ap (λ es. event.Close p ∷ es) (events_of_closings ports)

-- ports of live nodes are closed
module _ (history : List HistoryLine) (w : World) (m : List Member) (c : Course history w m) (ports : List ℕ) (live : (p : ℕ) → In ports p → IsLivePort w.machine.config p) where
  live_after : (p : ℕ) → In ports p → IsLivePort (state_after w.events).config p
  live_after p i = subst (λ (s : State). IsLivePort s.config p) (holds_where_reached w c.reached).0 (live p i)

  pub shut : Course (history ++ map to.Close ports) (after_changes w (map event.Close ports)) (m ++ map of_history (map to.Close ports))
  shut =
      let es = map event.Close ports in
      let next = with_changes es history w m (closes_are_of_change ports) (closes_run w.events ports live_after (course_run history w m c)) c in
      subst (λ h. Course h (after_changes w es) (m ++ map of_history (map to.Close ports))) (ap (λ ls. history ++ ls) (lines_of_closes ports))
      (subst (λ ls. Course (history ++ lines_of_events es) (after_changes w es) (m ++ map of_history ls)) (lines_of_closes ports) next)

  -- the events so far
  shut_events : (after_changes w (map event.Close ports)).events ≡ w.events ++ map event.Close ports
  shut_events = sym shut.events_are ∙ events_parts m (closings ports) ∙ (λ i. c.events_are i ++ events_of_closings ports i)

  shut_machine : (after_changes w (map event.Close ports)).machine ≡ state_after (w.events ++ map event.Close ports)
  shut_machine = (holds_where_reached (after_changes w (map event.Close ports)) shut.reached).0 ∙ ap state_after shut_events

  pub shut_same : SameLinks w.machine.config (after_changes w (map event.Close ports)).machine.config
  shut_same =
      subst (λ (s : State). SameLinks s.config (after_changes w (map event.Close ports)).machine.config) (sym (holds_where_reached w c.reached).0)
      (subst (λ (s : State). SameLinks (state_after w.events).config s.config) (sym shut_machine)
      (all_closed w.events ports live_after (map event.Close ports) (closes_are_of_change ports)).same)

  pub shut_at : (p : ℕ) → In ports p → (gate (after_changes w (map event.Close ports)).machine.config p).closed ≡ true
  shut_at p i = ap (λ (s : State). (gate s.config p).closed) shut_machine ∙ closed_at w.events ports live_after (map event.Close ports) (closes_are_of_change ports) p i

  -- further on, while the configuration stays
  module _ (later : List Member) (more_lines : List HistoryLine) (v : World) (now : Course ((history ++ map to.Close ports) ++ more_lines) v ((m ++ map of_history (map to.Close ports)) ++ later))
      (config : v.machine.config ≡ (after_changes w (map event.Close ports)).machine.config) where
    pub still_shut : (p : ℕ) → In ports p → (gate v.machine.config p).closed ≡ true
    still_shut p i = ap (λ (d : Configuration). (gate d p).closed) config ∙ shut_at p i

    pub still_live : (p : ℕ) → In ports p → IsLivePort v.machine.config p
    still_live p i =
        let was = live p i in
        let same = shut_same in
        subst (λ d. IsLivePort d p) (sym config)
        (record {
          made = let long = same.long in let low = was.made in omega (arith, long, low);
          live = live_still w.machine.config (after_changes w (map event.Close ports)).machine.config same (owner (after_changes w (map event.Close ports)).machine.config p) ∙ ap (is_live w.machine.config) (same.owners p) ∙ was.live;
        })

    -- what isn't drained now has a root, and its port is closed
    pub stands_open : (before : List HistoryLine) (u : World) → Course before u ((m ++ map of_history (map to.Close ports)) ++ later) → (p : ℕ) → In ports p → is_drained v.machine p ≡ false
        → StoodOpen ((m ++ map of_history (map to.Close ports)) ++ later) before p (exchange v.machine p).serial
    stands_open before u own p i undrained =
        let all = (m ++ closings ports) ++ later in
        let here : v.machine ≡ state_at all = course_machine ((history ++ map to.Close ports) ++ more_lines) v all now in
        record {
          front = all;
          rest = [];
          later = [];
          parts = sym (append-nil all);
          place = append-nil (lines all) ∙ own.lines_are;
          behind_closes = refl;
          open_there = subst (λ s. has_root s p (exchange v.machine p).serial ≡ true) here (root_there v.machine p (still_shut p i) undrained);
          closed_there = subst (λ (s : State). (gate s.config p).closed ≡ true) here (still_shut p i);
        }

    -- the roots that are left, one line each
    pub with_roots : (left : List ℕ) (before : List HistoryLine) → ((p : ℕ) → In left p → In ports p × (is_drained v.machine p ≡ false)) → Course before v ((m ++ map of_history (map to.Close ports)) ++ later)
        → Course (before ++ map root_line (map (seen_at v) left)) v ((m ++ map of_history (map to.Close ports)) ++ later)
    with_roots [] before each own = subst (λ h. Course h v ((m ++ closings ports) ++ later)) (sym (append-nil before)) own
    with_roots (p ∷ left) before each own =
        let l = root_line (seen_at v p) in
        let is = each p (inl refl) in
        let next = with_root before v ((m ++ closings ports) ++ later) p (exchange v.machine p).serial own (stands_open before v own p is.0 is.1) in
        subst (λ h. Course h v ((m ++ closings ports) ++ later)) (append_assoc before (l ∷ []) (map root_line (map (seen_at v) left))) (with_roots left (before ++ l ∷ []) (λ q i. each q (inr i)) next)

    -- the ports may be reopened
    pub reopens_run : IsRun (v.events ++ map event.Reopen ports)
    reopens_run =
        let at = (holds_where_reached v now.reached).0 in
        let there : (p : ℕ) → In ports p → IsLivePort (state_after v.events).config p = λ p i. subst (λ (s : State). IsLivePort s.config p) at (still_live p i) in
        runs_on v.events (map event.Reopen ports) (course_run ((history ++ map to.Close ports) ++ more_lines) v ((m ++ closings ports) ++ later) now)
        (λ d l e is so_far. reopen_allowed v.events ports there d l e so_far (front_kept d (e ∷ l) is))
      where
        front_kept : (d l : List Event) → d ++ l ≡ map event.Reopen ports → filter is_of_change d ++ l ≡ map event.Reopen ports
        front_kept d l is = ap (λ xs. xs ++ l) (fronts d l ports is) ∙ is
          where
            fronts : (xs ys : List Event) (qs : List ℕ) → xs ++ ys ≡ map event.Reopen qs → filter is_of_change xs ≡ xs
            fronts [] ys qs e = refl
            fronts (x ∷ xs) ys [] e = absurd (cc e)
            fronts (x ∷ xs) ys (q ∷ qs) e =
                let first : x ≡ event.Reopen q = Rattle.base.proofs.PlaceLaws.heads_are x (event.Reopen q) (xs ++ ys) (map event.Reopen qs) e in
                let rest = fronts xs ys qs (Rattle.base.proofs.PlaceLaws.tails_are x (event.Reopen q) (xs ++ ys) (map event.Reopen qs) e) in
                ap (λ y. filter is_of_change (y ∷ xs)) first ∙ ap (λ zs. event.Reopen q ∷ zs) rest ∙ ap (λ y. y ∷ xs) (sym first)
