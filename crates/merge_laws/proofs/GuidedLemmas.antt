-- A list that is a merge of a report, at each place of which the guards let its next member come, is a way to the end.
use Rattle.std.proofs.Common.{◌≡◌, ◌∙◌, ℕ, zero, suc, ◌+◌, ◌≤◌, true, false, cond, not, List, [], ◌∷◌, ◌++◌, append_assoc, append-nil, length, get_or, set, Option, Some, None, refl, sym, ap, subst, ⊎_elim, arith, get_or-set_same, get_or-set_other}
use Rattle.std.specs.Prelude.{◌==◌, is_none, fold}
use Rattle.std.specs.List.{cons_option}
use Rattle.std.specs.Option.{option_map_or}
use Rattle.std.proofs.lemmas.Bool.{and_from, cases_eq, cases_lt, eq-eqb, ne_eqb}
use Rattle.std.proofs.lemmas.List.{get_or_past}
use Rattle.std.proofs.lemmas.List.Elements.{filter-append}
use Rattle.base.proofs.PlaceLaws.{heads_are, tails_are}
use Rattle.quiesce_core.specs.declared.event.Event.{Event}
use Rattle.quiesce_core.specs.declared.event.Event.TheVariants as event
use Rattle.quiesce_core.specs.State.{State}
use Rattle.quiesce_core.specs.Effect.{effect}
use Rattle.quiesce_core.specs.Rules.{denial}
use Rattle.quiesce_core.specs.Runs.{IsRun, doer, done_by, done_from, is_doer, state_after}
use Rattle.quiesce_core.proofs.InductionLaws.{IsNext, place}
use Rattle.quiesce_core.proofs.LegalLaws.{allowed}
use Rattle.quiesce_core.proofs.RunLaws.{doer_there, runs_are_consistent, runs_are_well_formed, state_more}
use Rattle.report_types.specs.declared.report.HistoryLine.{HistoryLine}
use Rattle.report_types.specs.declared.report.HistoryLine.TheVariants as to
use Rattle.change_spec.specs.Members.{Member, by_node, of_history, event_of, events, is_root, lines, state_at, without_roots}
use Rattle.change_spec.proofs.MemberLaws.{events_parts, lines_parts}
use Rattle.merge_laws.specs.Guarded.{Left, all_left, amount, can_go, do_first, go, is_met, left, may_do, may_do_first, may_go, may_tell, told, told_state}
use Rattle.merge_laws.specs.Guided.{Guided}
use Rattle.merge_laws.specs.Ways.{first_event, members_of, of_line}
use Rattle.merge_laws.proofs.GoingLemmas as going
use Rattle.merge_laws.proofs.GoingLemmas.{may_if}

-- a way to the end, on which these members come
pub record WayOf (y : Left) (z : List Member) : Type 0 where
  pub cs : List ℕ
  pub goes : can_go y cs ≡ true
  pub ends : left (fold go y cs) ≡ 0
  pub members : members_of y cs ≡ z

none_left : (ls : List (List Event)) → ((n : ℕ) → get_or ls n [] ≡ []) → amount ls ≡ 0
none_left [] h = refl
none_left (l ∷ ls) h =
    let first : length l ≡ 0 = ap (λ (es : List Event). length es) (h 0) in
    let is : amount (l ∷ ls) ≡ length l + amount ls = refl in
    omega (arith, first, is, none_left ls (λ n. h (suc n)))

step_line : (s : State) (l : HistoryLine) (r : List HistoryLine) (ls : List (List Event)) (z : List Member) → may_tell s r l ≡ true
    → WayOf (record { state = told_state s l; lines = r; logs = ls }) z → WayOf (record { state = s; lines = l ∷ r; logs = ls }) (cons_option (of_line l) z)
step_line s l r ls z may rest = record {
  cs = 0 ∷ rest.cs;
  goes = and_from (may_tell s r l) (can_go (record { state = told_state s l; lines = r; logs = ls }) rest.cs) may rest.goes;
  ends = rest.ends;
  members = ap (cons_option (of_line l)) rest.members;
}

step_event : (s : State) (n : ℕ) (e : Event) (es : List Event) (r : List HistoryLine) (ls : List (List Event)) (z : List Member) → get_or ls n [] ≡ e ∷ es → may_do s r n e ≡ true
    → WayOf (record { state = effect s e; lines = r; logs = set ls n es }) z → WayOf (record { state = s; lines = r; logs = ls }) (by_node e ∷ z)
step_event s n e es r ls z is may rest =
    let y : Left = record { state = s; lines = r; logs = ls } in
    let next : go y (suc n) ≡ record { state = effect s e; lines = r; logs = set ls n es } = ap (do_first y n) is in
    record {
      cs = suc n ∷ rest.cs;
      goes = and_from (may_go y (suc n)) (can_go (go y (suc n)) rest.cs) (ap (may_do_first s r n) is ∙ may) (subst (λ t. can_go t rest.cs ≡ true) (sym next) rest.goes);
      ends = subst (λ t. left (fold go t rest.cs) ≡ 0) (sym next) rest.ends;
      members = (λ i. cons_option (first_event (is i)) (members_of (next i) rest.cs)) ∙ ap (λ k. by_node e ∷ k) rest.members;
    }

-- who does an event
one_doer : (n k : ℕ) (o : Option ℕ) → o ≡ Some n → (k ≡ n → ⊥) → option_map_or (λ m. m == k) o false ≡ false
one_doer n k o is other = ap (λ q. option_map_or (λ m. m == k) q false) is ∙ ne_eqb n k (λ h. other (sym h))

the_doer : (n : ℕ) (o : Option ℕ) → o ≡ Some n → option_map_or (λ m. m == n) o false ≡ true
the_doer n o is = ap (λ q. option_map_or (λ m. m == n) q false) is ∙ eq-eqb n n refl

pub below_of : (ls : List (List Event)) (n : ℕ) (e : Event) (es : List Event) → get_or ls n [] ≡ e ∷ es → suc n ≤ length ls
below_of ls n e es is = ⊎_elim (λ (below : suc n ≤ length ls). below) (λ (past : length ls ≤ n). absurd (cc (get_or_past ls n [] past, is))) (cases_lt n (length ls))

module _ (m : List Member) (history : List HistoryLine) (guided : Guided m history) (run : IsRun (events m)) (whole : lines m ≡ without_roots history) where
  here : (x z : List Member) (e : Event) (k : Member) → m ≡ x ++ k ∷ z → events (k ∷ z) ≡ e ∷ events z → IsNext (events x) e
  here x z e k is one = place (events x) (events z) e (subst IsRun (ap events is ∙ events_parts x (k ∷ z) ∙ ap (λ es. events x ++ es) one) run)

  may_line : (x z : List Member) (l : HistoryLine) (c r : List HistoryLine) → m ≡ x ++ of_history l ∷ z → history ≡ c ++ l ∷ r → lines x ≡ without_roots c → may_tell (state_at x) r l ≡ true
  may_line x z (to.Close p) c r is has same =
      and_from (is_none (denial (state_at x) (event.Close p))) (is_met (state_at x) p (told p r))
      (ap is_none (allowed (state_at x) (event.Close p) (here x z (event.Close p) (of_history (to.Close p)) is refl).legal)) (guided.met x z p c r is has same)
  may_line x z (to.Reopen p) c r is has same = ap is_none (allowed (state_at x) (event.Reopen p) (here x z (event.Reopen p) (of_history (to.Reopen p)) is refl).legal)
  may_line x z (to.Make k node from) c r is has same =
      ap is_none (allowed (state_at x) (event.Make k node from) (here x z (event.Make k node from) (of_history (to.Make k node from)) is refl).legal)
  may_line x z (to.Link p k y) c r is has same = ap is_none (allowed (state_at x) (event.Link p k y) (here x z (event.Link p k y) (of_history (to.Link p k y)) is refl).legal)
  may_line x z (to.Unlink p) c r is has same = ap is_none (allowed (state_at x) (event.Unlink p) (here x z (event.Unlink p) (of_history (to.Unlink p)) is refl).legal)
  may_line x z (to.Remove k) c r is has same = ap is_none (allowed (state_at x) (event.Remove k) (here x z (event.Remove k) (of_history (to.Remove k)) is refl).legal)
  may_line x z (to.Drained p k) c r is has same = guided.drained x z p k is
  may_line x z (to.Root p k) c r is has same = guided.rooted x (of_history (to.Root p k) ∷ z) p k c r is has same
  may_line x z _ c r is has same = refl

  -- the states and the logs go along
  told_along : (x : List Member) (l : HistoryLine) → told_state (state_at x) l ≡ state_at (x ++ of_history l ∷ [])
  told_along x l = by (event_of l) refl ∙ ap state_after (sym (events_parts x (of_history l ∷ [])))
    where
      by : (o : Option Event) → event_of l ≡ o → told_state (state_at x) l ≡ state_after (events x ++ events (of_history l ∷ []))
      by None is =
          ap (λ o. option_map_or (λ e. effect (state_at x) e) o (state_at x)) is
          ∙ sym (ap (λ o. state_after (events x ++ cons_option o [])) is ∙ ap state_after (append-nil (events x)))
      by (Some e) is =
          ap (λ o. option_map_or (λ e. effect (state_at x) e) o (state_at x)) is
          ∙ sym (state_more (events x) e)
          ∙ sym (ap (λ o. state_after (events x ++ cons_option o [])) is)

  logs_line : (s : State) (l : HistoryLine) (z : List Member) (k : ℕ) → done_from s k (events (of_history l ∷ z)) ≡ done_from (told_state s l) k (events z)
  logs_line s (to.Close p) z k = refl
  logs_line s (to.Reopen p) z k = refl
  logs_line s (to.Make i node from) z k = refl
  logs_line s (to.Link p i y) z k = refl
  logs_line s (to.Unlink p) z k = refl
  logs_line s (to.Remove i) z k = refl
  logs_line s _ z k = refl

  event_along : (x : List Member) (e : Event) → effect (state_at x) e ≡ state_at (x ++ by_node e ∷ [])
  event_along x e = sym (ap state_after (events_parts x (by_node e ∷ [])) ∙ state_more (events x) e)

  pushed : {A : Type 0} (w x z : List A) (k : A) → w ≡ x ++ k ∷ z → w ≡ (x ++ k ∷ []) ++ z
  pushed w x z k is = is ∙ sym (append_assoc x (k ∷ []) z)

  root_passed : (x : List Member) (c : List HistoryLine) (p k : ℕ) → lines x ≡ without_roots c → lines x ≡ without_roots (c ++ to.Root p k ∷ [])
  root_passed x c p k same = same ∙ sym (filter-append (λ l. not (is_root l)) c (to.Root p k ∷ []) ∙ append-nil (without_roots c))

  line_passed : (x : List Member) (c : List HistoryLine) (l : HistoryLine) → is_root l ≡ false → lines x ≡ without_roots c → lines (x ++ of_history l ∷ []) ≡ without_roots (c ++ l ∷ [])
  line_passed x c l plain same =
      lines_parts x (of_history l ∷ []) ∙ ap (λ ls. ls ++ l ∷ []) same
      ∙ sym (filter-append (λ k. not (is_root k)) c (l ∷ []) ∙ ap (λ b. without_roots c ++ cond (not b) (l ∷ []) []) plain)

  event_passed : (x : List Member) (c : List HistoryLine) (e : Event) → lines x ≡ without_roots c → lines (x ++ by_node e ∷ []) ≡ without_roots c
  event_passed x c e same = lines_parts x (by_node e ∷ []) ∙ append-nil (lines x) ∙ same

  -- the next line of the list is the next line of the history
  line_next : (x z : List Member) (l j : HistoryLine) (c r : List HistoryLine) (ls : List (List Event)) → is_root j ≡ false → m ≡ x ++ of_history l ∷ z → history ≡ c ++ j ∷ r
      → lines x ≡ without_roots c → l ∷ lines z ≡ j ∷ without_roots r
      → ((k : ℕ) → get_or ls k [] ≡ done_from (state_at x) k (events (of_history l ∷ z)))
      → (m ≡ (x ++ of_history j ∷ []) ++ z → history ≡ (c ++ j ∷ []) ++ r → lines (x ++ of_history j ∷ []) ≡ without_roots (c ++ j ∷ []) → lines z ≡ without_roots r
      → ((k : ℕ) → get_or ls k [] ≡ done_from (state_at (x ++ of_history j ∷ [])) k (events z)) → WayOf (record { state = state_at (x ++ of_history j ∷ []); lines = r; logs = ls }) z)
      → WayOf (record { state = state_at x; lines = j ∷ r; logs = ls }) (of_history l ∷ z)
  line_next x z l j c r ls plain is has same left_same logs further =
      let one = heads_are l j (lines z) (without_roots r) left_same in
      let at : m ≡ x ++ of_history j ∷ z = is ∙ ap (λ k. x ++ of_history k ∷ z) one in
      subst (WayOf (record { state = state_at x; lines = j ∷ r; logs = ls })) (ap (λ b. cons_option (cond b None (Some (of_history j))) z) plain ∙ ap (λ k. of_history k ∷ z) (sym one))
      (step_line (state_at x) j r ls z (may_line x z j c r at has same)
      (subst (λ s. WayOf (record { state = s; lines = r; logs = ls }) z) (sym (told_along x j))
      (further (pushed m x z (of_history j) at) (pushed history c r j has) (line_passed x c j plain same) (tails_are l j (lines z) (without_roots r) left_same)
      (λ k. logs k ∙ ap (λ i. done_from (state_at x) k (events (of_history i ∷ z))) one ∙ logs_line (state_at x) j z k ∙ ap (λ s. done_from s k (events z)) (told_along x j)))))

  -- the next event of the list is the next of the log of its doer
  event_next : (x z : List Member) (e : Event) (c r : List HistoryLine) (ls : List (List Event)) → m ≡ x ++ by_node e ∷ z → history ≡ c ++ r → lines x ≡ without_roots c
      → ((k : ℕ) → get_or ls k [] ≡ done_from (state_at x) k (e ∷ events z))
      → ((now : List (List Event)) → m ≡ (x ++ by_node e ∷ []) ++ z → lines (x ++ by_node e ∷ []) ≡ without_roots c
      → ((k : ℕ) → get_or now k [] ≡ done_from (state_at (x ++ by_node e ∷ [])) k (events z)) → WayOf (record { state = state_at (x ++ by_node e ∷ []); lines = r; logs = now }) z)
      → WayOf (record { state = state_at x; lines = r; logs = ls }) (by_node e ∷ z)
  event_next x z e c r ls is has same logs further =
      let s = state_at x in
      let at = here x z e (by_node e) is refl in
      let node = guided.nodes x z e is in
      let d = doer_there s e at.traffic at.legal node in
      let own : is_doer s d.0 e ≡ true = the_doer d.0 (doer s e) d.1 in
      let es = done_from (effect s e) d.0 (events z) in
      let first : get_or ls d.0 [] ≡ e ∷ es = logs d.0 ∙ ap (λ b. cond b (e ∷ es) es) own in
      step_event s d.0 e es r ls z first
      (may_if s r d.0 e (record { node = node; does = own; allowed = allowed s e at.legal; free = guided.free x z e c r is has same }))
      (subst (λ t. WayOf (record { state = t; lines = r; logs = set ls d.0 es }) z) (sym (event_along x e))
      (further (set ls d.0 es) (pushed m x z (by_node e) is) (event_passed x c e same)
      (λ k. ⊎_elim
      (λ (mine : k ≡ d.0). ap (λ i. get_or (set ls d.0 es) i []) mine ∙ get_or-set_same ls d.0 es [] (below_of ls d.0 e es first)
      ∙ ap (λ t. done_from t d.0 (events z)) (event_along x e) ∙ ap (λ i. done_from (state_at (x ++ by_node e ∷ [])) i (events z)) (sym mine))
      (λ (other : k ≡ d.0 → ⊥). get_or-set_other ls d.0 k es [] other ∙ logs k
      ∙ ap (λ b. cond b (e ∷ done_from (effect s e) k (events z)) (done_from (effect s e) k (events z))) (one_doer d.0 k (doer s e) d.1 other)
      ∙ ap (λ t. done_from t k (events z)) (event_along x e))
      (cases_eq k d.0))))

  ends_from : (fuel : ℕ) (x z : List Member) (c r : List HistoryLine) (ls : List (List Event)) → length z + length r ≤ fuel → m ≡ x ++ z → history ≡ c ++ r → lines x ≡ without_roots c
      → lines z ≡ without_roots r → ((k : ℕ) → get_or ls k [] ≡ done_from (state_at x) k (events z)) → WayOf (record { state = state_at x; lines = r; logs = ls }) z
  ends_from fuel x [] c [] ls few is has same left_same logs = record { cs = []; goes = refl; ends = omega (arith, none_left ls logs); members = refl }
  ends_from zero x (k ∷ z) c r ls few is has same left_same logs = absurd (omega (arith, few))
  ends_from zero x [] c (l ∷ r) ls few is has same left_same logs = absurd (omega (arith, few))
  ends_from (suc fuel) x z c (to.Root p k ∷ r) ls few is has same left_same logs =
      step_line (state_at x) (to.Root p k) r ls z (guided.rooted x z p k c r is has same)
      (ends_from fuel x z (c ++ to.Root p k ∷ []) r ls (omega (arith, few)) is (pushed history c r (to.Root p k) has) (root_passed x c p k same) left_same logs)
  ends_from (suc fuel) x (by_node e ∷ z) c r ls few is has same left_same logs =
      event_next x z e c r ls is has same logs (λ logs_now at passed now. ends_from fuel (x ++ by_node e ∷ []) z c r logs_now (omega (arith, few)) at has passed left_same now)
  ends_from (suc fuel) x (of_history l ∷ z) c [] ls few is has same left_same logs = absurd (cc (left_same))
  ends_from (suc fuel) x [] c (l ∷ r) ls few is has same left_same logs = absurd (cc (left_same))
  ends_from (suc fuel) x (of_history l ∷ z) c (j ∷ r) ls few is has same left_same logs =
      line_next x z l j c r ls refl is has same left_same logs (λ at on passed rest now. ends_from fuel (x ++ of_history j ∷ []) z (c ++ j ∷ []) r ls (omega (arith, few)) at on passed rest now)

  pub leads_to_end : (ls : List (List Event)) → ((k : ℕ) → get_or ls k [] ≡ done_by k (events m)) → WayOf (all_left history ls) m
  leads_to_end ls logs = ends_from (length m + length history) [] m [] history ls (omega arith) refl refl refl whole logs

pub found : (m : List Member) (history : List HistoryLine) (logs : List (List Event)) (cs : List ℕ) → Guided m history → IsRun (events m) → lines m ≡ without_roots history
    → ((k : ℕ) → get_or logs k [] ≡ done_by k (events m)) → can_go (all_left history logs) cs ≡ true
    → ((c : ℕ) → may_go (fold go (all_left history logs) cs) c ≡ false) → left (fold go (all_left history logs) cs) ≡ 0
found m history logs cs guided run whole has goes stuck =
    let way = leads_to_end m history guided run whole logs has in
    going.found (all_left history logs) way.cs cs (runs_are_well_formed [] tt) (runs_are_consistent [] tt) way.goes way.ends goes stuck
