-- Logs by slots: there is one for each node made, and what a node that wasn't made does is nothing.
use Rattle.std.proofs.Common.{◌≡◌, ◌∙◌, ℕ, ◌<◌, ◌≤◌, true, false, cond, ◌&&◌, List, [], ◌∷◌, ◌++◌, length, map, get_or, Option, Some, None, refl, sym, ap, subst, ⊎_elim, arith}
use Rattle.std.specs.Prelude.{◌==◌, All, filter, filter_map}
use Rattle.std.specs.List.{cons_option, range_with_len}
use Rattle.std.proofs.lemmas.Bool.{and_parts, both_ways, cases_Bool, cases_lt, eqb-true}
use Rattle.std.proofs.lemmas.List.{append-nil, get_or-map, get_or_past, length-map}
use Rattle.std.proofs.lemmas.List.Elements.{filter_map-append}
use Rattle.std.proofs.lemmas.List.FromFn.{get_or-range_with_len, length-range_with_len}
use Rattle.std.proofs.lemmas.Option.{slice_get_within}
use Rattle.base.proofs.PlaceLaws.{slice_get-there}
use Rattle.base.proofs.RisingLaws.{places_more}
use Rattle.component_trait.specs.States.{NodeState}
use Rattle.quiesce_core.specs.declared.event.Event.{Event}
use Rattle.quiesce_core.specs.declared.event.Event.TheVariants.{Begin, Call, End, Ask, Miss, Close, Reopen, Make, Link, Unlink, Remove}
use Rattle.quiesce_core.specs.declared.state.Slot.{Slot}
use Rattle.quiesce_core.specs.State.{State, is_live, owner, slot}
use Rattle.quiesce_core.specs.Alters.{nodes_next}
use Rattle.quiesce_core.specs.Doers.{is_of_change, is_of_owner}
use Rattle.quiesce_core.specs.Effect.{effect}
use Rattle.quiesce_core.specs.Legal.{Legal}
use Rattle.quiesce_core.specs.Rules.{is_live_port}
use Rattle.quiesce_core.specs.Runs.{IsRun, done_by, is_doer, state_after}
use Rattle.quiesce_core.specs.WellFormed.{IsWellFormed}
use Rattle.quiesce_core.proofs.AlterLaws.{reconfigured, slots_grow}
use Rattle.quiesce_core.proofs.InductionLaws.{always}
use Rattle.quiesce_core.proofs.RunLaws.{done_by_more}
use Rattle.quiesce_core.proofs.TableLaws.{live_made}
use Rattle.quiesce_laws.proofs.SwapDoerLaws.{by_owner, by_target, found, nodes_do_no_change, port_of}
use Rattle.report_types.specs.declared.report.HistoryLine.{HistoryLine}
use Rattle.report_types.specs.declared.report.HistoryLine.TheVariants as to
use Rattle.report_types.specs.declared.report.NodeLog.{NodeLog}
use Rattle.report_types.specs.declared.report.Report.{Report}
use Rattle.change_spec.specs.Endings.{moved_to}
use Rattle.change_spec.specs.Lawful.{IsFolded, IsLawfulBy, IsLogIn, IsOfItsKind}
use Rattle.change_spec.specs.Members.{Member, event_of, events, lines, made_slot, without_roots}
use Rattle.change_spec.specs.Opening.{fold_of_node}
use Rattle.change_spec.specs.Statements.{Statement}
use Rattle.change_spec.proofs.MemberLaws.{changes_are_lines, events_without_roots, ended_there}
use Rattle.merge_laws.specs.Merges.{HasLogs, HasRootsApart}
use Rattle.merge_laws.proofs.RootPortLemmas.{roots_are_free}

-- ---- which slots a run makes

abbrev slot_made : Event → Option ℕ
slot_made (Make n node from) = Some n
slot_made _ = None

abbrev slots : State → List ℕ
slots s = range_with_len 0 (length s.config.slots)

made_next : (s : State) (e : Event) → Legal s e → slots (effect s e) ≡ slots s ++ cons_option (slot_made e) []
made_next s e l = ap (range_with_len 0) (reconfigured s e l).nodes ∙ by e l
  where
    by : (e : Event) → Legal s e → range_with_len 0 (nodes_next s.config e) ≡ slots s ++ cons_option (slot_made e) []
    by (Make n node from) l =
        let n_is : n ≡ length s.config.slots = eqb-true n (length s.config.slots) (and_parts (n == length s.config.slots) _ (and_parts (n == length s.config.slots && _) _ l.room).0).0 in
        places_more (length s.config.slots) ∙ ap (λ k. slots s ++ k ∷ []) (sym n_is)
    by _ l = sym (append-nil (slots s))

pub slots_are_made : (es : List Event) → IsRun es → filter_map slot_made es ≡ slots (state_after es)
slots_are_made es run = always (λ xs. filter_map slot_made xs ≡ slots (state_after xs))
    (λ before e here so_far.
    filter_map-append slot_made before (e ∷ []) ∙ ap (λ ks. ks ++ cons_option (slot_made e) []) so_far
    ∙ sym (made_next (state_after before) e here.legal) ∙ ap slots (sym here.next))
    refl es run

-- ---- so do the lines of a history

made_by_changes : (es : List Event) → filter_map slot_made es ≡ filter_map slot_made (filter is_of_change es)
made_by_changes [] = refl
made_by_changes (Make n node from ∷ es) = ap (λ ks. n ∷ ks) (made_by_changes es)
made_by_changes (Close p ∷ es) = made_by_changes es
made_by_changes (Reopen p ∷ es) = made_by_changes es
made_by_changes (Link p n x ∷ es) = made_by_changes es
made_by_changes (Unlink p ∷ es) = made_by_changes es
made_by_changes (Remove n ∷ es) = made_by_changes es
made_by_changes (_ ∷ es) = made_by_changes es

made_by_lines : (ls : List HistoryLine) → filter_map slot_made (filter_map event_of ls) ≡ filter_map made_slot ls
made_by_lines [] = refl
made_by_lines (to.Make n node from ∷ ls) = ap (λ ks. n ∷ ks) (made_by_lines ls)
made_by_lines (to.Close p ∷ ls) = made_by_lines ls
made_by_lines (to.Reopen p ∷ ls) = made_by_lines ls
made_by_lines (to.Link p n x ∷ ls) = made_by_lines ls
made_by_lines (to.Unlink p ∷ ls) = made_by_lines ls
made_by_lines (to.Remove n ∷ ls) = made_by_lines ls
made_by_lines (_ ∷ ls) = made_by_lines ls

-- ---- who wasn't made does nothing

owner_is_live : (s : State) (e : Event) → is_of_owner e ≡ true → Legal s e → is_live_port s.config (port_of e) ≡ true
owner_is_live s (Begin p k v) o l = l.live
owner_is_live s (Call p k v) o l = l.live
owner_is_live s (Miss p) o l = l.live
owner_is_live s (Ask p k v) o l = l.live
owner_is_live s (End p k v) o l = l.live
owner_is_live s _ o l = absurd (both_ways false refl o)

doer_is_made : (s : State) (n : ℕ) (e : Event) → IsWellFormed s → Legal s e → is_doer s n e ≡ true → n < length s.config.slots
doer_is_made s n e w l does = ⊎_elim
    (λ (o : is_of_owner e ≡ true).
    subst (λ k. k < length s.config.slots) (by_owner s n e o does)
    (live_made s.config (owner s.config (port_of e)) (and_parts _ (is_live s.config (owner s.config (port_of e))) (owner_is_live s e o l)).1))
    (λ (t : is_of_owner e ≡ false).
    let to_ = by_target s n e (nodes_do_no_change s n e (found s n e does)) t does in
    subst (λ k. k < length s.config.slots) to_.2 (live_made s.config to_.0.node (w.sound.targets (port_of e) to_.0 to_.1).live))
    (cases_Bool (is_of_owner e))

pub unmade_do_nothing : (n : ℕ) (es : List Event) → IsRun es → length (state_after es).config.slots ≤ n → done_by n es ≡ []
unmade_do_nothing n es run = always (λ xs. length (state_after xs).config.slots ≤ n → done_by n xs ≡ [])
    (λ before e here so_far past.
    let s = state_after before in
    let now : length (effect s e).config.slots ≤ n = subst (λ (t : State). length t.config.slots ≤ n) here.next past in
    let was : length s.config.slots ≤ n = omega (arith, slots_grow s.config e, (reconfigured s e here.legal).nodes, now) in
    done_by_more n before e ∙ ap (λ ks. ks ++ cond (is_doer s n e) (e ∷ []) []) (so_far was)
    ∙ ⊎_elim
    (λ (does : is_doer s n e ≡ true). absurd (omega (arith, doer_is_made s n e here.well here.legal does, was)))
    (λ (not_ : is_doer s n e ≡ false). ap (λ b. cond b (e ∷ []) []) not_)
    (cases_Bool (is_doer s n e)))
    (λ past. refl) es run

-- ---- the logs of a list, by slots

module _ (report : Report) (m : List Member) (one : map (λ (l : NodeLog). l.slot) report.logs ≡ filter_map made_slot report.history) (kinds : All IsOfItsKind m)
    (are : lines m ≡ without_roots report.history) (run : IsRun (events m)) where
  slots_are : map (λ (l : NodeLog). l.slot) report.logs ≡ slots (state_after (events m))
  slots_are =
      one
      ∙ sym (made_by_lines report.history) ∙ ap (filter_map slot_made) (sym (events_without_roots report.history))
      ∙ ap (λ ls. filter_map slot_made (filter_map event_of ls)) (sym are)
      ∙ ap (filter_map slot_made) (sym (changes_are_lines m kinds))
      ∙ sym (made_by_changes (events m)) ∙ slots_are_made (events m) run

  pub many : length report.logs ≡ length (state_after (events m)).config.slots
  many =
      sym (length-map report.logs (λ (l : NodeLog). l.slot)) ∙ ap (λ ks. length ks) slots_are
      ∙ length-range_with_len 0 (length (state_after (events m)).config.slots)

  -- log k is that of slot k
  pub slot_is : (k : ℕ) (d : NodeLog) → k < length report.logs → (get_or report.logs k d).slot ≡ k
  slot_is k d low =
      let n = length (state_after (events m)).config.slots in
      sym (get_or-map (λ (l : NodeLog). l.slot) report.logs k d d.slot low) ∙ ap (λ ks. get_or ks k d.slot) slots_are
      ∙ get_or-range_with_len 0 n k d.slot (omega (arith, low, many)) ∙ omega arith

  -- so the logs are what the nodes do, one by one, exactly where they are so by slots
  pub has_logs : All (IsLogIn m) report.logs → HasLogs (map (λ (l : NodeLog). l.events) report.logs) m
  has_logs logs k = ⊎_elim
      (λ (low : k < length report.logs).
      let there = slice_get-there report.logs k low in
      let d = there.0 in
      let log_is : done_by (get_or report.logs k d).slot (events m) ≡ (get_or report.logs k d).events = logs k d low in
      ap (λ i. done_by i (events m)) (sym (slot_is k d low)) ∙ log_is
      ∙ sym (get_or-map (λ (l : NodeLog). l.events) report.logs k d [] low))
      (λ (past : length report.logs ≤ k).
      unmade_do_nothing k (events m) run (omega (arith, many, past))
      ∙ sym (get_or_past (map (λ (l : NodeLog). l.events) report.logs) k [] (omega (arith, past, length-map report.logs (λ (l : NodeLog). l.events)))))
      (cases_lt k (length report.logs))

  pub are_logs : HasLogs (map (λ (l : NodeLog). l.events) report.logs) m → All (IsLogIn m) report.logs
  are_logs has k d low = ap (λ i. done_by i (events m)) (slot_is k d low) ∙ has k ∙ get_or-map (λ (l : NodeLog). l.events) report.logs k d [] low

-- ---- each node of a lawful report has a fold

module _ (statements : List Statement) (report : Report) (m : List Member) (lawful : IsLawfulBy statements report m) where
  -- each node made has a fold
  folds : (n : ℕ) (s : Slot) → slot (state_after (events m)).config n ≡ Some s → (z : NodeState) × (fold_of_node (events m) n ≡ Some z)
  folds n s is =
      let merge = lawful.merge in
      let low : n < length report.logs = omega (arith, many report m merge.one_log_a_node merge.by_nodes merge.history lawful.runs, slice_get_within (state_after (events m)).config.slots n s is) in
      let d = (slice_get-there report.logs n low).0 in
      let l = get_or report.logs n d in
      let ends : IsFolded m report.history l = lawful.folds n d low in
      let z = ended_there (fold_of_node (events m) l.slot) (moved_to report.history l.slot) l.last ends in
      (z.0, ap (fold_of_node (events m)) (sym (slot_is report m merge.one_log_a_node merge.by_nodes merge.history lawful.runs n d low)) ∙ z.1)

  pub has_roots_apart : HasRootsApart m
  has_roots_apart = roots_are_free (events m) lawful.runs folds
