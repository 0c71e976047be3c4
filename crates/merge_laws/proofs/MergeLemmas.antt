-- A way to the end is a merge: its members' events are a run, its lines are the history's, and each log is what its node does.
use Rattle.std.proofs.Common.{◌≡◌, ◌∙◌, ℕ, zero, suc, ◌+◌, Bool, true, false, cond, not, List, [], ◌∷◌, ◌++◌, append-nil, length, get_or, set, Option, Some, None, All, refl, sym, ap, subst, ⊎_elim, arith, get_or-set_same, get_or-set_other}
use Rattle.std.specs.Prelude.{◌==◌, is_none, fold}
use Rattle.std.specs.List.{cons_option, list_all}
use Rattle.std.specs.Option.{option_map_or}
use Rattle.std.proofs.lemmas.Bool.{and_from, and_parts, both_ways, cases_Bool, cases_eq, eqb-true, ne_eqb, not-true}
use Rattle.quiesce_core.specs.declared.event.Event.{Event}
use Rattle.quiesce_core.specs.declared.event.Event.TheVariants as event
use Rattle.quiesce_core.specs.State.{State, empty, exchange}
use Rattle.quiesce_core.specs.Doers.{is_of_change}
use Rattle.quiesce_core.specs.Effect.{effect}
use Rattle.quiesce_core.specs.Rules.{denial}
use Rattle.quiesce_core.specs.Runs.{IsRun, can_run, doer, done_by, done_from, is_doer, state_after}
use Rattle.quiesce_core.proofs.RunLaws.{run_if}
use Rattle.report_types.specs.declared.report.HistoryLine.{HistoryLine}
use Rattle.report_types.specs.declared.report.HistoryLine.TheVariants as to
use Rattle.quiesce_laws.proofs.MeanwhileLaws.{after_more}
use Rattle.change_spec.specs.Found.{is_drained_at, is_of_its_kind, passes_each}
use Rattle.change_spec.specs.Members.{Member, by_node, of_history, events, is_root, lines, state_at, without_roots}
use Rattle.change_spec.proofs.MemberLaws.{events_parts}
use Rattle.merge_laws.specs.Guarded.{Left, all_left, can_go, go, is_met, left, log_of, may_go, may_tell, told, told_state, amount}
use Rattle.std.proofs.lemmas.List.Elements.{All-cons, All-nil}
use Rattle.base.specs.Each.{EachAfter}
use Rattle.quiesce_laws.specs.Drained.{is_drained}
use Rattle.change_spec.specs.Lawful.{IsDrainedAt, IsOfItsKind}
use Rattle.merge_laws.specs.Merges.{IsMergeWith}
use Rattle.merge_laws.specs.Telling.{IsTold}
use Rattle.merge_laws.proofs.OpenRootLemmas.{stands_open}
use Rattle.merge_laws.specs.Ways.{first_event, first_of, members_of, of_line}
use Rattle.merge_laws.proofs.GuidedLemmas.{below_of}
use Rattle.merge_laws.proofs.GoingLemmas.{does_of, done_is, tells_of, told_is}

-- ---- its lines are those of the history

lines_of_line : (l : HistoryLine) (m : List Member) (r k : List HistoryLine) → lines m ++ k ≡ without_roots r → lines (cons_option (of_line l) m) ++ k ≡ without_roots (l ∷ r)
lines_of_line l m r k h = by (is_root l)
  where
    by : (b : Bool) → lines (cons_option (cond b None (Some (of_history l))) m) ++ k ≡ cond (not b) (l ∷ without_roots r) (without_roots r)
    by true = h
    by false = ap (λ ls. l ∷ ls) h

pub lines_are : (cs : List ℕ) (x : Left) → can_go x cs ≡ true → lines (members_of x cs) ++ without_roots (fold go x cs).lines ≡ without_roots x.lines
lines_are [] x can = refl
lines_are (zero ∷ cs) x can =
    let w = and_parts (may_go x 0) (can_go (go x 0) cs) can in
    let t = tells_of x w.0 in
    ap (λ o. lines (cons_option o (members_of (go x 0) cs)) ++ without_roots (fold go (go x 0) cs).lines) (ap first_of t.are)
    ∙ lines_of_line t.line (members_of (go x 0) cs) t.rest (without_roots (fold go (go x 0) cs).lines)
    (lines_are cs (go x 0) w.1 ∙ ap (λ (y : Left). without_roots y.lines) (told_is x t))
    ∙ sym (ap without_roots t.are)
lines_are (suc n ∷ cs) x can =
    let w = and_parts (may_go x (suc n)) (can_go (go x (suc n)) cs) can in
    let d = does_of x n w.0 in
    ap (λ o. lines (cons_option o (members_of (go x (suc n)) cs)) ++ without_roots (fold go (go x (suc n)) cs).lines) (ap first_event d.are)
    ∙ lines_are cs (go x (suc n)) w.1 ∙ ap (λ (y : Left). without_roots y.lines) (done_is x n d)

-- ---- its events are a run

run_of_line : (s : State) (l : HistoryLine) (rest : List HistoryLine) (m : List Member) → may_tell s rest l ≡ true → can_run (told_state s l) (events m) ≡ true
    → can_run s (events (cons_option (of_line l) m)) ≡ true
run_of_line s (to.Close p) rest m t h = and_from (is_none (denial s (event.Close p))) (can_run (effect s (event.Close p)) (events m)) (and_parts (is_none (denial s (event.Close p))) (is_met s p (told p rest)) t).0 h
run_of_line s (to.Reopen p) rest m t h = and_from (is_none (denial s (event.Reopen p))) (can_run (effect s (event.Reopen p)) (events m)) t h
run_of_line s (to.Make k node from) rest m t h = and_from (is_none (denial s (event.Make k node from))) (can_run (effect s (event.Make k node from)) (events m)) t h
run_of_line s (to.Link p k x) rest m t h = and_from (is_none (denial s (event.Link p k x))) (can_run (effect s (event.Link p k x)) (events m)) t h
run_of_line s (to.Unlink p) rest m t h = and_from (is_none (denial s (event.Unlink p))) (can_run (effect s (event.Unlink p)) (events m)) t h
run_of_line s (to.Remove k) rest m t h = and_from (is_none (denial s (event.Remove k))) (can_run (effect s (event.Remove k)) (events m)) t h
run_of_line s _ rest m t h = h

pub goes_on : (cs : List ℕ) (x : Left) → can_go x cs ≡ true → can_run x.state (events (members_of x cs)) ≡ true
goes_on [] x can = refl
goes_on (zero ∷ cs) x can =
    let w = and_parts (may_go x 0) (can_go (go x 0) cs) can in
    let t = tells_of x w.0 in
    ap (λ o. can_run x.state (events (cons_option o (members_of (go x 0) cs)))) (ap first_of t.are)
    ∙ run_of_line x.state t.line t.rest (members_of (go x 0) cs) t.may
    (subst (λ s. can_run s (events (members_of (go x 0) cs)) ≡ true) (ap (λ (y : Left). y.state) (told_is x t)) (goes_on cs (go x 0) w.1))
goes_on (suc n ∷ cs) x can =
    let w = and_parts (may_go x (suc n)) (can_go (go x (suc n)) cs) can in
    let d = does_of x n w.0 in
    ap (λ o. can_run x.state (events (cons_option o (members_of (go x (suc n)) cs)))) (ap first_event d.are)
    ∙ and_from (is_none (denial x.state d.event)) (can_run (effect x.state d.event) (events (members_of (go x (suc n)) cs))) (ap is_none d.may.allowed)
    (subst (λ s. can_run s (events (members_of (go x (suc n)) cs)) ≡ true) (ap (λ (y : Left). y.state) (done_is x n d)) (goes_on cs (go x (suc n)) w.1))

pub runs : (cs : List ℕ) (history : List HistoryLine) (logs : List (List Event)) → can_go (all_left history logs) cs ≡ true
    → IsRun (events (members_of (all_left history logs) cs))
runs cs history logs can = run_if (events (members_of (all_left history logs) cs)) (goes_on cs (all_left history logs) can)

-- ---- each log is what its node does

done_of_line : (s : State) (l : HistoryLine) (m : List Member) (k : ℕ) → done_from s k (events (cons_option (of_line l) m)) ≡ done_from (told_state s l) k (events m)
done_of_line s (to.Close p) m k = refl
done_of_line s (to.Reopen p) m k = refl
done_of_line s (to.Make i node from) m k = refl
done_of_line s (to.Link p i y) m k = refl
done_of_line s (to.Unlink p) m k = refl
done_of_line s (to.Remove i) m k = refl
done_of_line s _ m k = refl

other_doer : (n k : ℕ) (o : Option ℕ) → option_map_or (λ m. m == n) o false ≡ true → (k ≡ n → ⊥) → option_map_or (λ m. m == k) o false ≡ false
other_doer n k None h other = absurd (both_ways false refl h)
other_doer n k (Some m) h other = ne_eqb m k (λ e. other (sym e ∙ eqb-true m n h))

pub logs_are : (cs : List ℕ) (x : Left) (k : ℕ) → can_go x cs ≡ true → done_from x.state k (events (members_of x cs)) ++ log_of (fold go x cs) k ≡ log_of x k
logs_are [] x k can = refl
logs_are (zero ∷ cs) x k can =
    let w = and_parts (may_go x 0) (can_go (go x 0) cs) can in
    let t = tells_of x w.0 in
    ap (λ o. done_from x.state k (events (cons_option o (members_of (go x 0) cs))) ++ log_of (fold go (go x 0) cs) k) (ap first_of t.are)
    ∙ ap (λ es. es ++ log_of (fold go (go x 0) cs) k) (done_of_line x.state t.line (members_of (go x 0) cs) k
    ∙ sym (ap (λ (y : Left). done_from y.state k (events (members_of (go x 0) cs))) (told_is x t)))
    ∙ logs_are cs (go x 0) k w.1 ∙ ap (λ (y : Left). log_of y k) (told_is x t)
logs_are (suc n ∷ cs) x k can =
    let w = and_parts (may_go x (suc n)) (can_go (go x (suc n)) cs) can in
    let d = does_of x n w.0 in
    let rest = members_of (go x (suc n)) cs in
    let later = log_of (fold go (go x (suc n)) cs) k in
    let further : done_from (effect x.state d.event) k (events rest) ++ later ≡ get_or (set x.logs n d.rest) k [] =
    ap (λ (y : Left). done_from y.state k (events rest) ++ later) (sym (done_is x n d)) ∙ logs_are cs (go x (suc n)) k w.1 ∙ ap (λ (y : Left). log_of y k) (done_is x n d) in
    ap (λ o. done_from x.state k (events (cons_option o rest)) ++ later) (ap first_event d.are)
    ∙ ⊎_elim
    (λ (mine : k ≡ n).
    ap (λ b. cond b (d.event ∷ done_from (effect x.state d.event) k (events rest)) (done_from (effect x.state d.event) k (events rest)) ++ later)
    (ap (λ i. is_doer x.state i d.event) mine ∙ d.may.does)
    ∙ ap (λ es. d.event ∷ es) (further ∙ ap (λ i. get_or (set x.logs n d.rest) i []) mine ∙ get_or-set_same x.logs n d.rest [] (below_of x.logs n d.event d.rest d.are))
    ∙ sym d.are ∙ ap (λ i. log_of x i) (sym mine))
    (λ (other : k ≡ n → ⊥).
    ap (λ b. cond b (d.event ∷ done_from (effect x.state d.event) k (events rest)) (done_from (effect x.state d.event) k (events rest)) ++ later)
    (other_doer n k (doer x.state d.event) d.may.does other)
    ∙ further ∙ get_or-set_other x.logs n k d.rest [] other)
    (cases_eq k n)

-- ---- each drained line is so, and the events that are no lines are of nodes

state_pushed : (m : List Member) (l : HistoryLine) → told_state (state_at m) l ≡ state_at (m ++ of_history l ∷ [])
state_pushed m l = sym (ap state_after (events_parts m (of_history l ∷ [])) ∙ after_more empty (events m) (events (of_history l ∷ [])) ∙ one l)
  where
    one : (l : HistoryLine) → fold effect (state_at m) (events (of_history l ∷ [])) ≡ told_state (state_at m) l
    one (to.Close p) = refl
    one (to.Reopen p) = refl
    one (to.Make k node from) = refl
    one (to.Link p k x) = refl
    one (to.Unlink p) = refl
    one (to.Remove k) = refl
    one _ = refl

drained_line : (m : List Member) (l : HistoryLine) (rest : List HistoryLine) (k : List Member) → may_tell (state_at m) rest l ≡ true
    → passes_each is_drained_at (m ++ of_history l ∷ []) k ≡ true → is_root l ≡ false → passes_each is_drained_at m (of_history l ∷ k) ≡ true
drained_line m (to.Drained p j) rest k t h plain = and_from (is_drained_at m (of_history (to.Drained p j))) (passes_each is_drained_at (m ++ of_history (to.Drained p j) ∷ []) k) t h
drained_line m _ rest k t h plain = h

pub drained_are : (cs : List ℕ) (x : Left) (m : List Member) → state_at m ≡ x.state → can_go x cs ≡ true → passes_each is_drained_at m (members_of x cs) ≡ true
drained_are [] x m is can = refl
drained_are (zero ∷ cs) x m is can =
    let w = and_parts (may_go x 0) (can_go (go x 0) cs) can in
    let t = tells_of x w.0 in
    let next_ : told_state (state_at m) t.line ≡ (go x 0).state = ap (λ s. told_state s t.line) is ∙ sym (ap (λ (y : Left). y.state) (told_is x t)) in
    ap (λ o. passes_each is_drained_at m (cons_option o (members_of (go x 0) cs))) (ap first_of t.are)
    ∙ ⊎_elim
    (λ (root : is_root t.line ≡ true).
    ap (λ b. passes_each is_drained_at m (cons_option (cond b None (Some (of_history t.line))) (members_of (go x 0) cs))) root
    ∙ drained_are cs (go x 0) m (root_leaves (state_at m) t.line root ∙ next_) w.1)
    (λ (plain : is_root t.line ≡ false).
    ap (λ b. passes_each is_drained_at m (cons_option (cond b None (Some (of_history t.line))) (members_of (go x 0) cs))) plain
    ∙ drained_line m t.line t.rest (members_of (go x 0) cs) (ap (λ s. may_tell s t.rest t.line) is ∙ t.may)
    (drained_are cs (go x 0) (m ++ of_history t.line ∷ []) (sym (state_pushed m t.line) ∙ next_) w.1) plain)
    (cases_Bool (is_root t.line))
  where
    root_leaves : (s : State) (l : HistoryLine) → is_root l ≡ true → s ≡ told_state s l
    root_leaves s (to.Root p k) h = refl
    root_leaves s _ h = absurd (both_ways false refl h)
drained_are (suc n ∷ cs) x m is can =
    let w = and_parts (may_go x (suc n)) (can_go (go x (suc n)) cs) can in
    let d = does_of x n w.0 in
    let next_ : state_at (m ++ by_node d.event ∷ []) ≡ (go x (suc n)).state =
    ap state_after (events_parts m (by_node d.event ∷ [])) ∙ after_more empty (events m) (d.event ∷ []) ∙ ap (λ s. effect s d.event) is ∙ sym (ap (λ (y : Left). y.state) (done_is x n d)) in
    ap (λ o. passes_each is_drained_at m (cons_option o (members_of (go x (suc n)) cs))) (ap first_event d.are)
    ∙ drained_are cs (go x (suc n)) (m ++ by_node d.event ∷ []) next_ w.1

pub kinds_are : (cs : List ℕ) (x : Left) → can_go x cs ≡ true → list_all is_of_its_kind (members_of x cs) ≡ true
kinds_are [] x can = refl
kinds_are (zero ∷ cs) x can =
    let w = and_parts (may_go x 0) (can_go (go x 0) cs) can in
    let t = tells_of x w.0 in
    ap (λ o. list_all is_of_its_kind (cons_option o (members_of (go x 0) cs))) (ap first_of t.are) ∙ by (is_root t.line) (members_of (go x 0) cs) t.line (kinds_are cs (go x 0) w.1)
  where
    by : (b : Bool) (m : List Member) (l : HistoryLine) → list_all is_of_its_kind m ≡ true → list_all is_of_its_kind (cons_option (cond b None (Some (of_history l))) m) ≡ true
    by true m l h = h
    by false m l h = h
kinds_are (suc n ∷ cs) x can =
    let w = and_parts (may_go x (suc n)) (can_go (go x (suc n)) cs) can in
    let d = does_of x n w.0 in
    ap (λ o. list_all is_of_its_kind (cons_option o (members_of (go x (suc n)) cs))) (ap first_event d.are)
    ∙ and_from (not (is_of_change d.event)) (list_all is_of_its_kind (members_of (go x (suc n)) cs)) (ap not d.may.node) (kinds_are cs (go x (suc n)) w.1)

-- ---- so it is a merge

kinds_all : (m : List Member) → list_all is_of_its_kind m ≡ true → All IsOfItsKind m
kinds_all [] h = All-nil IsOfItsKind
kinds_all (x ∷ m) h =
    let w = and_parts (is_of_its_kind x) (list_all is_of_its_kind m) h in All-cons IsOfItsKind x m (kind x w.0) (kinds_all m w.1)
  where
    kind : (x : Member) → is_of_its_kind x ≡ true → IsOfItsKind x
    kind (by_node e) h = not-true (is_of_change e) h
    kind (of_history l) h = tt

drained_each : (before m : List Member) → passes_each is_drained_at before m ≡ true → EachAfter IsDrainedAt before m
drained_each before [] h = tt
drained_each before (x ∷ m) h =
    let w = and_parts (is_drained_at before x) (passes_each is_drained_at (before ++ x ∷ []) m) h in (one x w.0, drained_each (before ++ x ∷ []) m w.1)
  where
    one : (x : Member) → is_drained_at before x ≡ true → IsDrainedAt before x
    one (of_history (to.Drained p k)) h =
        let w = and_parts (is_drained (state_at before) p) ((exchange (state_at before) p).serial == k) h in
        (w.0, eqb-true (exchange (state_at before) p).serial k w.1)
    one _ h = tt

no_lines : (x : Left) → left x ≡ 0 → x.lines ≡ []
no_lines x h = none_of x.lines (omega (arith, h))
  where
    none_of : (ls : List HistoryLine) → length ls ≡ 0 → ls ≡ []
    none_of [] h = refl
    none_of (l ∷ ls) h = absurd (omega (arith, h))

no_events : (logs : List (List Event)) → amount logs ≡ 0 → (k : ℕ) → get_or logs k [] ≡ []
no_events [] h k = refl
no_events ([] ∷ logs) h zero = refl
no_events ((e ∷ es) ∷ logs) h k =
    let is : amount ((e ∷ es) ∷ logs) ≡ length (e ∷ es) + amount logs = refl in
    let some_ : length (e ∷ es) ≡ length es + 1 = omega arith in
    absurd (omega (arith, is, some_, h))
no_events ([] ∷ logs) h (suc k) = let is : amount ([] ∷ logs) ≡ length {A = Event} [] + amount logs = refl in no_events logs (omega (arith, is, h)) k

module _ (history : List HistoryLine) (logs : List (List Event)) (cs : List ℕ) (can : can_go (all_left history logs) cs ≡ true) (ends : left (fold go (all_left history logs) cs) ≡ 0) where
  abbrev start : Left
  start = all_left history logs

  pub ways_are_merges : IsTold history → IsMergeWith history (members_of (all_left history logs) cs)
  ways_are_merges telling = record {
    runs = runs cs history logs can;
    lines_are = sym (append-nil (lines (members_of start cs))) ∙ ap (λ ls. lines (members_of start cs) ++ without_roots ls) (sym (no_lines (fold go start cs) ends)) ∙ lines_are cs start can;
    by_nodes = kinds_all (members_of start cs) (kinds_are cs start can);
    drained = drained_each [] (members_of start cs) (drained_are cs start [] refl can);
    open_roots = λ c r p k has. stands_open history logs cs c r p k can (no_lines (fold go start cs) ends) has (telling.roots p k c r has);
  }

  pub logs_are_done : (k : ℕ) → done_by k (events (members_of (all_left history logs) cs)) ≡ get_or logs k []
  logs_are_done k =
      sym (append-nil (done_by k (events (members_of start cs))))
      ∙ ap (λ es. done_by k (events (members_of start cs)) ++ es) (sym (no_events (fold go start cs).logs (omega (arith, ends)) k))
      ∙ logs_are cs start k can
