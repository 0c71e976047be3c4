-- On a way to the end each root that is told as open stands open at a place behind all closes, and its port is closed there.
use Rattle.std.proofs.Common.{◌≡◌, ◌∙◌, ℕ, zero, suc, Bool, true, false, cond, not, ◌&&◌, ◌||◌, List, [], ◌∷◌, ◌++◌, append_assoc, Option, Some, None, refl, sym, ap, ap₂, subst, ⊎_elim}
use Rattle.std.specs.Prelude.{◌==◌, is_none, is_some, fold}
use Rattle.std.specs.List.{cons_option, list_any}
use Rattle.std.proofs.lemmas.Bool.{and_from, and_parts, both_ways, cases_Bool, eq-eqb, eqb-true, or_from, or_left, or_parts, or_right}
use Rattle.std.proofs.lemmas.List.Elements.{filter-append}
use Rattle.std.proofs.lemmas.List.Folds.{list_any-append}
use Rattle.base.proofs.PlaceLaws.{heads_are, tails_are}
use Rattle.quiesce_word.specs.Phases.{is_idle}
use Rattle.quiesce_core.specs.declared.event.Event.{Event}
use Rattle.quiesce_core.specs.declared.event.Event.TheVariants as event
use Rattle.quiesce_core.specs.declared.state.Exchange.{Exchange}
use Rattle.quiesce_core.specs.State.{Configuration, State, empty, exchange, gate}
use Rattle.quiesce_core.specs.Doers.{is_of_change}
use Rattle.quiesce_core.specs.Effect.{effect}
use Rattle.quiesce_core.specs.Rules.{denial}
use Rattle.quiesce_core.specs.Runs.{state_after}
use Rattle.quiesce_core.proofs.LegalLaws.{legal}
use Rattle.quiesce_laws.specs.Events.{reopens}
use Rattle.quiesce_laws.specs.Roots.{has_root}
use Rattle.quiesce_laws.proofs.ExchangeLaws.{PortStep, stays, begins, calls, ends, port_step}
use Rattle.quiesce_laws.proofs.MeanwhileLaws.{after_more}
use Rattle.report_types.specs.declared.report.HistoryLine.{HistoryLine}
use Rattle.report_types.specs.declared.report.HistoryLine.TheVariants as to
use Rattle.change_spec.specs.Lawful.{StoodOpen}
use Rattle.change_spec.specs.Members.{Member, by_node, of_history, events, is_close, is_root, lines, state_at, without_roots}
use Rattle.change_spec.proofs.MemberLaws.{events_parts, lines_parts}
use Rattle.merge_laws.specs.Guarded.{Left, all_left, can_go, closes_before, go, is_met, is_root_line, log_of, may_go, may_tell, may_tell_first, tell_first, told, told_state, waits}
use Rattle.merge_laws.specs.Telling.{IsShutBy, reopens_there}
use Rattle.merge_laws.proofs.GuideLemmas.{told_first}
use Rattle.merge_laws.proofs.GoingLemmas.{May, Sound, does_of, done_is, go_keeps, last_message, root_is_busy, tells_of, told_is}
use Rattle.base.proofs.OptionLaws.{None-from_is_none}
use Rattle.quiesce_core.proofs.RunLaws.{node_events_keep_the_configuration, runs_are_consistent, runs_are_well_formed}
use Rattle.quiesce_core.proofs.AlterLaws.{reconfigured}
use Rattle.quiesce_core.specs.Legal.{Legal}
use Rattle.quiesce_core.specs.declared.state.Gate.{Gate}
use Rattle.quiesce_laws.proofs.ExtensionLaws.{closed_next}
use Rattle.quiesce_laws.proofs.ChangeSwapLaws.{exchange_same}
use Rattle.merge_laws.specs.Ways.{first_event, first_of, members_of, of_line}

-- an end of the root waits while a close is left before the line that tells it
closes_first : (p k : ℕ) (g r : List HistoryLine) → list_any is_close g ≡ true → closes_before p k (g ++ to.Root p k ∷ r) ≡ true
closes_first p k [] r h = absurd (both_ways false refl h)
closes_first p k (l ∷ g) r h = by (closes_first p k g r) (is_close l) refl
  where
    there : list_any (is_root_line p k) (g ++ to.Root p k ∷ r) ≡ true
    there = list_any-append (is_root_line p k) g (to.Root p k ∷ r)
        ∙ or_right (list_any (is_root_line p k) g) (list_any (is_root_line p k) (to.Root p k ∷ r))
        (or_left (p == p && k == k) (list_any (is_root_line p k) r) (and_from (p == p) (k == k) (eq-eqb p p refl) (eq-eqb k k refl)))

    by : (list_any is_close g ≡ true → closes_before p k (g ++ to.Root p k ∷ r) ≡ true) → (b : Bool) → is_close l ≡ b → closes_before p k (l ∷ (g ++ to.Root p k ∷ r)) ≡ true
    by further true close = or_left (is_close l && list_any (is_root_line p k) (g ++ to.Root p k ∷ r)) (closes_before p k (g ++ to.Root p k ∷ r))
        (and_from (is_close l) (list_any (is_root_line p k) (g ++ to.Root p k ∷ r)) close there)
    by further false close = or_right (is_close l && list_any (is_root_line p k) (g ++ to.Root p k ∷ r)) (closes_before p k (g ++ to.Root p k ∷ r))
        (further (sym (ap (λ b. b || list_any is_close g) close) ∙ h))

-- so no event of a node ends the root
root_kept : (s : State) (lines : List HistoryLine) (n : ℕ) (e : Event) (p k : ℕ) → Sound s → May s lines n e → closes_before p k lines ≡ true → has_root s p k ≡ true → has_root (effect s e) p k ≡ true
root_kept s ls n e p k h m closes root = by (port_step s e h.formed h.consistent (legal s e m.allowed) p)
  where
    busy : is_idle (exchange s p).phase ≡ false
    busy = root_is_busy s p k root

    by : PortStep s e p (exchange (effect s e) p) → has_root (effect s e) p k ≡ true
    by (stays off serial within idle) = ap₂ (λ b (j : Bool). b && j) (ap₂ (λ i w. not i && not (is_some w)) idle within) (ap (λ j. j == k) serial) ∙ root
    by (begins j v it may y) = absurd (both_ways (is_idle (exchange s p).phase) busy may.idle)
    by (calls j v u it may served y) = absurd (both_ways (is_idle (exchange s p).phase) busy may.idle)
    by (ends j v it may y) =
        let is_k : j ≡ k = last_message s p j v may.message ∙ eqb-true (exchange s p).serial k (and_parts _ ((exchange s p).serial == k) root).1 in
        absurd (both_ways (closes_before p j ls) (subst (λ x. waits s ls x ≡ false) it m.free) (ap (λ i. closes_before p i ls) is_k ∙ closes))

-- ---- where a line comes

line_more : (l : HistoryLine) (m : List Member) (a : List HistoryLine) → lines m ≡ without_roots a → lines (cons_option (of_line l) m) ≡ without_roots (l ∷ a)
line_more l m a h = by (is_root l)
  where
    by : (b : Bool) → lines (cons_option (cond b None (Some (of_history l))) m) ≡ cond (not b) (l ∷ without_roots a) (without_roots a)
    by true = h
    by false = ap (λ ls. l ∷ ls) h

option_first : (o : Option Member) (m k : List Member) → cons_option o (m ++ k) ≡ cons_option o m ++ k
option_first None m k = refl
option_first (Some y) m k = refl

pub record Comes (x : Left) (cs : List ℕ) (a : List HistoryLine) (l : HistoryLine) (b : List HistoryLine) : Type 0 where
  pub first : List ℕ
  pub later : List ℕ
  pub can_first : can_go x first ≡ true
  pub now : (fold go x first).lines ≡ l ∷ b
  pub may : may_go (fold go x first) 0 ≡ true
  pub can_later : can_go (go (fold go x first) 0) later ≡ true
  pub ends : fold go (go (fold go x first) 0) later ≡ fold go x cs
  pub lines_first : lines (members_of x first) ≡ without_roots a
  pub parts : members_of x cs ≡ members_of x first ++ members_of (fold go x first) (zero ∷ later)

not_empty : (a : List HistoryLine) (l : HistoryLine) (b : List HistoryLine) → a ++ l ∷ b ≡ [] → ⊥
not_empty [] l b h = cc (h)
not_empty (k ∷ a) l b h = cc (h)

come : (cs : List ℕ) (x : Left) (a : List HistoryLine) (l : HistoryLine) (b : List HistoryLine) → can_go x cs ≡ true → (fold go x cs).lines ≡ [] → x.lines ≡ a ++ l ∷ b → Comes x cs a l b
come [] x a l b can none_ is = absurd (not_empty a l b (sym is ∙ none_))
come (zero ∷ cs) x [] l b can none_ is =
    let w = and_parts (may_go x 0) (can_go (go x 0) cs) can in
    record { first = []; later = cs; can_first = refl; now = is; may = w.0; can_later = w.1; ends = refl; lines_first = refl; parts = refl }
come (zero ∷ cs) x (j ∷ a) l b can none_ is =
    let w = and_parts (may_go x 0) (can_go (go x 0) cs) can in
    let t = tells_of x w.0 in
    let one : t.line ≡ j = heads_are t.line j t.rest (a ++ l ∷ b) (sym t.are ∙ is) in
    let on = come cs (go x 0) a l b w.1 none_ (ap (λ (y : Left). y.lines) (told_is x t) ∙ tails_are t.line j t.rest (a ++ l ∷ b) (sym t.are ∙ is)) in
    let first_is : first_of x.lines ≡ of_line j = ap first_of t.are ∙ ap of_line one in
    record {
      first = 0 ∷ on.first;
      later = on.later;
      can_first = and_from (may_go x 0) (can_go (go x 0) on.first) w.0 on.can_first;
      now = on.now;
      may = on.may;
      can_later = on.can_later;
      ends = on.ends;
      lines_first = ap (λ o. lines (cons_option o (members_of (go x 0) on.first))) first_is ∙ line_more j (members_of (go x 0) on.first) a on.lines_first;
      parts = ap (cons_option (first_of x.lines)) on.parts ∙ option_first (first_of x.lines) (members_of (go x 0) on.first) (members_of (fold go (go x 0) on.first) (0 ∷ on.later));
    }
come (suc n ∷ cs) x a l b can none_ is =
    let w = and_parts (may_go x (suc n)) (can_go (go x (suc n)) cs) can in
    let d = does_of x n w.0 in
    let on = come cs (go x (suc n)) a l b w.1 none_ (ap (λ (y : Left). y.lines) (done_is x n d) ∙ is) in
    record {
      first = suc n ∷ on.first;
      later = on.later;
      can_first = and_from (may_go x (suc n)) (can_go (go x (suc n)) on.first) w.0 on.can_first;
      now = on.now;
      may = on.may;
      can_later = on.can_later;
      ends = on.ends;
      lines_first = ap (λ o. lines (cons_option o (members_of (go x (suc n)) on.first))) (ap first_event d.are) ∙ on.lines_first;
      parts = ap (cons_option (first_event (log_of x n))) on.parts
          ∙ option_first (first_event (log_of x n)) (members_of (go x (suc n)) on.first) (members_of (fold go (go x (suc n)) on.first) (0 ∷ on.later));
    }

-- ---- the root stands, and the port is closed, until no close is left

-- at a place of these members, behind all closes of these lines
record Opens (s : State) (p k : ℕ) (g : List HistoryLine) (m : List Member) : Type 0 where
  since : List Member
  rest : List Member
  later : List HistoryLine
  parts : m ≡ since ++ rest
  place : lines since ++ later ≡ without_roots g
  behind : list_any is_close later ≡ false
  root : has_root (fold effect s (events since)) p k ≡ true
  shut : (gate (fold effect s (events since)).config p).closed ≡ true

close_none : (g : List HistoryLine) → list_any is_close g ≡ false → list_any is_close (without_roots g) ≡ false
close_none [] h = refl
close_none (l ∷ g) h = by (is_root l) (close_none g (or_parts (is_close l) (list_any is_close g) h).1)
  where
    by : (b : Bool) → list_any is_close (without_roots g) ≡ false → list_any is_close (cond (not b) (l ∷ without_roots g) (without_roots g)) ≡ false
    by true rest = rest
    by false rest = or_from (is_close l) (list_any is_close (without_roots g)) (or_parts (is_close l) (list_any is_close g) h).0 rest

no_more : (s : State) (p k : ℕ) (g : List HistoryLine) (m : List Member) → list_any is_close g ≡ false → has_root s p k ≡ true
    → (gate s.config p).closed ≡ true → Opens s p k g m
no_more s p k g m none_ root shut = record {
  since = [];
  rest = m;
  later = without_roots g;
  parts = refl;
  place = refl;
  behind = close_none g none_;
  root = root;
  shut = shut;
}

fold_line : (s : State) (l : HistoryLine) (u : List Member) → fold effect s (events (of_history l ∷ u)) ≡ fold effect (told_state s l) (events u)
fold_line s (to.Close p) u = refl
fold_line s (to.Reopen p) u = refl
fold_line s (to.Make k node from) u = refl
fold_line s (to.Link p k x) u = refl
fold_line s (to.Unlink p) u = refl
fold_line s (to.Remove k) u = refl
fold_line s _ u = refl

any_line : (s : State) (l : HistoryLine) (p k : ℕ) (g : List HistoryLine) (m : List Member) → Opens (told_state s l) p k g m
    → Opens s p k (l ∷ g) (cons_option (of_line l) m)
any_line s (to.Root q j) p k g m o = record {
  since = o.since;
  rest = o.rest;
  later = o.later;
  parts = o.parts;
  place = o.place;
  behind = o.behind;
  root = o.root;
  shut = o.shut;
}
any_line s l p k g m o = plain refl
  where
    plain : is_root l ≡ false → Opens s p k (l ∷ g) (cons_option (of_line l) m)
    plain h = subst (λ b. Opens s p k (l ∷ g) (cons_option (cond b None (Some (of_history l))) m)) (sym h) (record {
      since = of_history l ∷ o.since;
      rest = o.rest;
      later = o.later;
      parts = ap (λ ms. of_history l ∷ ms) o.parts;
      place = ap (λ ls. l ∷ ls) o.place ∙ sym (ap (λ b. cond (not b) (l ∷ without_roots g) (without_roots g)) h);
      behind = o.behind;
      root = ap (λ t. has_root t p k) (fold_line s l o.since) ∙ o.root;
      shut = ap (λ (t : State). (gate t.config p).closed) (fold_line s l o.since) ∙ o.shut;
    })

an_event : (s : State) (e : Event) (p k : ℕ) (g : List HistoryLine) (m : List Member) → Opens (effect s e) p k g m → Opens s p k g (by_node e ∷ m)
an_event s e p k g m o = record {
  since = by_node e ∷ o.since;
  rest = o.rest;
  later = o.later;
  parts = ap (λ ms. by_node e ∷ ms) o.parts;
  place = o.place;
  behind = o.behind;
  root = o.root;
  shut = o.shut;
}

-- a line leaves each root, and each closed port but the one that it reopens
module _ (s : State) (rest : List HistoryLine) (p k : ℕ) (h : Sound s) (root : has_root s p k ≡ true) (shut : (gate s.config p).closed ≡ true) where
  record Stays (t : State) : Type 0 where
    root_then : has_root t p k ≡ true
    shut_then : (gate t.config p).closed ≡ true

  behind : (x : Event) → is_none (denial s x) ≡ true → is_of_change x ≡ true → reopens p x ≡ false → Stays (effect s x)
  behind x a c free =
      let l = legal s x (None-from_is_none (denial s x) a) in
      record {
        root_then = ap (λ (y : Exchange). (not (is_idle y.phase) && not (is_some y.within)) && y.serial == k) (exchange_same s x h.formed l c p) ∙ root;
        shut_then = closed_next s x p l free shut;
      }

  line_leaves : (l : HistoryLine) → may_tell s rest l ≡ true → reopens_there p l ≡ false → Stays (told_state s l)
  line_leaves (to.Close q) t free = behind (event.Close q) (and_parts (is_none (denial s (event.Close q))) (is_met s q (told q rest)) t).0 refl refl
  line_leaves (to.Reopen q) t free = behind (event.Reopen q) t refl free
  line_leaves (to.Make i node from) t free = behind (event.Make i node from) t refl refl
  line_leaves (to.Link q i x) t free = behind (event.Link q i x) t refl refl
  line_leaves (to.Unlink q) t free = behind (event.Unlink q) t refl refl
  line_leaves (to.Remove i) t free = behind (event.Remove i) t refl refl
  line_leaves _ t free = record { root_then = root; shut_then = shut }

opens : (cs : List ℕ) (x : Left) (g r : List HistoryLine) (p k : ℕ) → Sound x.state → can_go x cs ≡ true → (fold go x cs).lines ≡ [] → x.lines ≡ g ++ to.Root p k ∷ r
    → list_any (reopens_there p) g ≡ false → has_root x.state p k ≡ true → (gate x.state.config p).closed ≡ true → Opens x.state p k g (members_of x cs)
opens [] x g r p k h can none_ is free root shut = absurd (not_empty g (to.Root p k) r (sym is ∙ none_))
opens (zero ∷ cs) x [] r p k h can none_ is free root shut = no_more x.state p k [] (members_of x (zero ∷ cs)) refl root shut
opens (zero ∷ cs) x (l ∷ g) r p k h can none_ is free root shut = ⊎_elim
    (λ (close : list_any is_close (l ∷ g) ≡ true).
    let w = and_parts (may_go x 0) (can_go (go x 0) cs) can in
    let t = tells_of x w.0 in
    let one : t.line ≡ l = heads_are t.line l t.rest (g ++ to.Root p k ∷ r) (sym t.are ∙ is) in
    let left_is : (go x 0).lines ≡ g ++ to.Root p k ∷ r = ap (λ (y : Left). y.lines) (told_is x t) ∙ tails_are t.line l t.rest (g ++ to.Root p k ∷ r) (sym t.are ∙ is) in
    let first : (go x 0).state ≡ told_state x.state t.line = ap (λ (y : Left). y.state) (told_is x t) in
    let state_is : (go x 0).state ≡ told_state x.state l = first ∙ ap (told_state x.state) one in
    let both = or_parts (reopens_there p l) (list_any (reopens_there p) g) free in
    let stay = line_leaves x.state t.rest p k h root shut t.line t.may (ap (reopens_there p) one ∙ both.0) in
    let on : Opens (go x 0).state p k g (members_of (go x 0) cs) = opens cs (go x 0) g r p k (go_keeps x 0 h w.0) w.1 none_ left_is both.1
    (ap (λ s. has_root s p k) first ∙ stay.root_then) (ap (λ (s : State). (gate s.config p).closed) first ∙ stay.shut_then) in
    subst (λ o. Opens x.state p k (l ∷ g) (cons_option o (members_of (go x 0) cs))) (sym (ap first_of t.are ∙ ap of_line one))
    (any_line x.state l p k g (members_of (go x 0) cs) (subst (λ s. Opens s p k g (members_of (go x 0) cs)) state_is on)))
    (λ (done : list_any is_close (l ∷ g) ≡ false). no_more x.state p k (l ∷ g) (members_of x (zero ∷ cs)) done root shut)
    (cases_Bool (list_any is_close (l ∷ g)))
opens (suc n ∷ cs) x g r p k h can none_ is free root shut = ⊎_elim
    (λ (close : list_any is_close g ≡ true).
    let w = and_parts (may_go x (suc n)) (can_go (go x (suc n)) cs) can in
    let d = does_of x n w.0 in
    let state_is : (go x (suc n)).state ≡ effect x.state d.event = ap (λ (y : Left). y.state) (done_is x n d) in
    let kept : has_root (go x (suc n)).state p k ≡ true =
    ap (λ s. has_root s p k) state_is ∙ root_kept x.state x.lines n d.event p k h d.may (ap (closes_before p k) is ∙ closes_first p k g r close) root in
    let closed_ : (gate (go x (suc n)).state.config p).closed ≡ true =
    ap (λ (s : State). (gate s.config p).closed) state_is
    ∙ ap (λ (c : Configuration). (gate c p).closed) (node_events_keep_the_configuration x.state d.event d.may.node) ∙ shut in
    let on : Opens (go x (suc n)).state p k g (members_of (go x (suc n)) cs) =
    opens cs (go x (suc n)) g r p k (go_keeps x (suc n) h w.0) w.1 none_ (ap (λ (y : Left). y.lines) (done_is x n d) ∙ is) free kept closed_ in
    subst (λ o. Opens x.state p k g (cons_option o (members_of (go x (suc n)) cs))) (sym (ap first_event d.are))
    (an_event x.state d.event p k g (members_of (go x (suc n)) cs) (subst (λ s. Opens s p k g (members_of (go x (suc n)) cs)) state_is on)))
    (λ (done : list_any is_close g ≡ false). no_more x.state p k g (members_of x (suc n ∷ cs)) done root shut)
    (cases_Bool (list_any is_close g))

-- ---- all together

fold_of_line : (s : State) (l : HistoryLine) (m : List Member) → fold effect s (events (cons_option (of_line l) m)) ≡ fold effect (told_state s l) (events m)
fold_of_line s (to.Close p) m = refl
fold_of_line s (to.Reopen p) m = refl
fold_of_line s (to.Make k node from) m = refl
fold_of_line s (to.Link p k x) m = refl
fold_of_line s (to.Unlink p) m = refl
fold_of_line s (to.Remove k) m = refl
fold_of_line s _ m = refl

pub state_along : (cs : List ℕ) (x : Left) → can_go x cs ≡ true → fold effect x.state (events (members_of x cs)) ≡ (fold go x cs).state
state_along [] x can = refl
state_along (zero ∷ cs) x can =
    let w = and_parts (may_go x 0) (can_go (go x 0) cs) can in
    let t = tells_of x w.0 in
    ap (λ o. fold effect x.state (events (cons_option o (members_of (go x 0) cs)))) (ap first_of t.are)
    ∙ fold_of_line x.state t.line (members_of (go x 0) cs)
    ∙ ap (λ s. fold effect s (events (members_of (go x 0) cs))) (sym (ap (λ (y : Left). y.state) (told_is x t))) ∙ state_along cs (go x 0) w.1
state_along (suc n ∷ cs) x can =
    let w = and_parts (may_go x (suc n)) (can_go (go x (suc n)) cs) can in
    let d = does_of x n w.0 in
    ap (λ o. fold effect x.state (events (cons_option o (members_of (go x (suc n)) cs)))) (ap first_event d.are)
    ∙ ap (λ s. fold effect s (events (members_of (go x (suc n)) cs))) (sym (ap (λ (y : Left). y.state) (done_is x n d))) ∙ state_along cs (go x (suc n)) w.1

sound_along : (cs : List ℕ) (x : Left) → Sound x.state → can_go x cs ≡ true → Sound (fold go x cs).state
sound_along [] x h can = h
sound_along (c ∷ cs) x h can = let w = and_parts (may_go x c) (can_go (go x c) cs) can in sound_along cs (go x c) (go_keeps x c h w.0) w.1

module _ (history : List HistoryLine) (logs : List (List Event)) (cs : List ℕ) (c r : List HistoryLine) (p k : ℕ)
    (can : can_go (all_left history logs) cs ≡ true) (none_ : (fold go (all_left history logs) cs).lines ≡ [])
    (has : history ≡ c ++ to.Root p k ∷ r) (by : IsShutBy p c) where
  abbrev x : Left
  x = all_left history logs

  start : Sound x.state
  start = record { formed = runs_are_well_formed [] tt; consistent = runs_are_consistent [] tt }

  whole : history ≡ by.front ++ to.Close p ∷ (by.between ++ to.Root p k ∷ r)
  whole = has ∙ ap (λ ls. ls ++ to.Root p k ∷ r) by.parts ∙ append_assoc by.front (to.Close p ∷ by.between) (to.Root p k ∷ r)

  at : Comes x cs by.front (to.Close p) (by.between ++ to.Root p k ∷ r)
  at = come cs x by.front (to.Close p) (by.between ++ to.Root p k ∷ r) can none_ whole

  abbrev y : Left
  y = fold go x at.first

  here : Sound y.state
  here = sound_along at.first x start at.can_first

  line : may_tell y.state (by.between ++ to.Root p k ∷ r) (to.Close p) ≡ true
  line = sym (ap (may_tell_first y.state) at.now) ∙ at.may

  both : (is_none (denial y.state (event.Close p)) ≡ true) × (is_met y.state p (told p (by.between ++ to.Root p k ∷ r)) ≡ true)
  both = and_parts (is_none (denial y.state (event.Close p))) (is_met y.state p (told p (by.between ++ to.Root p k ∷ r))) line

  -- the root that is told next stands at the close
  root_at : has_root y.state p k ≡ true
  root_at = sym (ap (is_met y.state p) (told_first p by.between (to.Root p k) r by.untold (eq-eqb p p refl))) ∙ both.1

  state_is : (go y 0).state ≡ effect y.state (event.Close p)
  state_is = ap (λ ls. (tell_first y ls).state) at.now

  legal_close : Legal y.state (event.Close p)
  legal_close = legal y.state (event.Close p) (None-from_is_none (denial y.state (event.Close p)) both.0)

  on : Opens (go y 0).state p k by.between (members_of (go y 0) at.later)
  on = opens at.later (go y 0) by.between r p k (go_keeps y 0 here at.may) at.can_later (ap (λ (z : Left). z.lines) at.ends ∙ none_)
      (ap (λ ls. (tell_first y ls).lines) at.now) by.shut
      (ap (λ s. has_root s p k) state_is
      ∙ ap (λ (z : Exchange). (not (is_idle z.phase) && not (is_some z.within)) && z.serial == k) (exchange_same y.state (event.Close p) here.formed legal_close refl p)
      ∙ root_at)
      (ap (λ (s : State). (gate s.config p).closed) state_is
      ∙ ap (λ (g : Gate). g.closed) ((reconfigured y.state (event.Close p) legal_close).gates p)
      ∙ ap (λ b. (cond b (record (gate y.state.config p) { closed = true }) (gate y.state.config p)).closed) (eq-eqb p p refl))

  -- the state at that place
  place_is : state_at (members_of x at.first ++ of_history (to.Close p) ∷ on.since) ≡ fold effect (go y 0).state (events on.since)
  place_is =
      ap state_after (events_parts (members_of x at.first) (of_history (to.Close p) ∷ on.since))
      ∙ after_more empty (events (members_of x at.first)) (event.Close p ∷ events on.since)
      ∙ ap (λ s. fold effect (effect s (event.Close p)) (events on.since)) (state_along at.first x at.can_first)
      ∙ ap (λ s. fold effect s (events on.since)) (sym state_is)

  pub stands_open : StoodOpen (members_of (all_left history logs) cs) c p k
  stands_open = record {
    front = members_of x at.first ++ of_history (to.Close p) ∷ on.since;
    rest = on.rest;
    later = on.later;
    parts = at.parts ∙ ap (λ o. members_of x at.first ++ cons_option o (members_of (go y 0) at.later)) (ap first_of at.now)
        ∙ ap (λ ms. members_of x at.first ++ of_history (to.Close p) ∷ ms) on.parts
        ∙ sym (append_assoc (members_of x at.first) (of_history (to.Close p) ∷ on.since) on.rest);
    place = ap (λ ls. ls ++ on.later) (lines_parts (members_of x at.first) (of_history (to.Close p) ∷ on.since) ∙ ap (λ ls. ls ++ to.Close p ∷ lines on.since) at.lines_first)
        ∙ append_assoc (without_roots by.front) (to.Close p ∷ lines on.since) on.later ∙ ap (λ ls. without_roots by.front ++ to.Close p ∷ ls) on.place
        ∙ sym (ap without_roots by.parts ∙ filter-append (λ l. not (is_root l)) by.front (to.Close p ∷ by.between));
    behind_closes = on.behind;
    open_there = ap (λ s. has_root s p k) place_is ∙ on.root;
    closed_there = ap (λ (s : State). (gate s.config p).closed) place_is ∙ on.shut;
  }
