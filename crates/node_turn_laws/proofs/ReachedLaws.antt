-- In every world that is reached, each node made agrees with its own events, and so the event of its turn is allowed.
use Rattle.std.proofs.Common.{◌≡◌, ◌∙◌, ◌<◌, ◌≤◌, ◌+◌, ℕ, Bool, true, false, cond, List, [], ◌∷◌, ◌++◌, length, set, Option, Some, None, refl, sym, ap, subst, arith, ⊎_elim, get_or-set_same, get_or-set_other}
use Rattle.std.specs.Prelude.{◌==◌, ◌&&◌, is_some, is_none, option_map, slice_index_or, not}
use Rattle.std.specs.Option.{option_map_or}
use Rattle.std.specs.List.{enumerate_from}
use Rattle.std.proofs.lemmas.Bool.{and_parts, both_ways, cases_eq, eq-eqb, eqb-true, ltb-true, ne_eqb}
use Rattle.std.proofs.lemmas.List.{get_or_append_left, length-append, length-set}
use Rattle.std.proofs.lemmas.List.Sums.{fold_push}
use Rattle.std.proofs.lemmas.Option.{none-some, same_Some}
use Rattle.std.proofs.Math.Seq.{get_or-append_seam}
use Rattle.config_graph.specs.Kinds.{row}
use Rattle.config_graph.specs.declared.kind.Kind.{Kind}
use Rattle.config_graph.specs.declared.node.Node.{Node}
use Rattle.component_trait.proofs.FoldLaws.{fold_keeps_kind}
use Rattle.component_trait.specs.Fold.{fold_next}
use Rattle.component_trait.specs.States.{Kept, NodeState, at_rest}
use Rattle.component_trait.specs.Tables.{opening}
use Rattle.quiesce_core.specs.Alters.{nodes_next, slot_next}
use Rattle.quiesce_core.specs.Doers.{is_of_change}
use Rattle.quiesce_core.specs.Effect.{effect}
use Rattle.quiesce_core.specs.Knowledge.{OwnPort, own_port_after, own_port_next, served_after, served_next}
use Rattle.quiesce_core.specs.Legal.{Legal}
use Rattle.quiesce_core.specs.Rules.{denial, has_its_argument, is_kind, is_path_taken, is_value, value_limit, was_moved}
use Rattle.quiesce_core.specs.Runs.{IsRun, doer, done_by, is_doer, state_after}
use Rattle.quiesce_core.specs.State.{Configuration, State, is_live, slot}
use Rattle.quiesce_core.specs.declared.event.Event.{Event}
use Rattle.quiesce_core.specs.declared.event.Event.TheVariants.{Close, Reopen, Make, Link, Unlink, Remove}
use Rattle.quiesce_core.specs.declared.state.Slot.{Slot}
use Rattle.quiesce_core.proofs.AlterLaws.{reconfigured}
use Rattle.quiesce_core.proofs.CycleLaws.{made_below}
use Rattle.base.proofs.OptionLaws.{map_or_at, map_or_true}
use Rattle.quiesce_core.proofs.KnownLaws.{nodes_know_by_index}
use Rattle.quiesce_core.proofs.LegalLaws.{allowed, legal}
use Rattle.quiesce_core.proofs.RunLaws.{changes_are_of_no_node, done_by_other, done_by_own, node_events_keep_the_configuration, nodes_know, runs_are_consistent, runs_are_well_formed, runs_grow, state_more}
use Rattle.component_trait.specs.Making.{argument_or_0}
use Rattle.node_turn_laws.proofs.TurnLaws.{posts_keep, turns_do}
use Rattle.node_turn_laws.specs.Hints.{after_move, without_hints}
use Rattle.node_turn_laws.specs.Turn.{move_of, post_waiting, turn, turn_in}
use Rattle.node_turn_laws.specs.World.{World, first_port, inbox, opened, state_of, waiting_of, with_event, with_event_of}
use Rattle.node_turn_laws.specs.Agreement.{Agrees, IsSmall, ports_next}
use Rattle.node_turn_laws.specs.Placed.{GoesOn, IsPlaced}
use Rattle.node_turn_laws.specs.Reached.{IsReached}
use Rattle.node_turn_laws.proofs.AgreementLaws.{agrees_next, small_next}
use Rattle.component_trait.proofs.TableLaws.{Small, opening_small}
use Rattle.node_turn_laws.proofs.MoveLaws.{moves_go_on}

-- ---- what holds of a node made, and of all

pub record NodeHolds (first : ℕ) (k : Kind) (o : Option NodeState) (es : List Event) : Type 0 where
  pub state : NodeState
  pub is : o ≡ Some state
  pub kind : state.kind ≡ k
  pub agrees : Agrees first state (served_after es) (λ p. own_port_after p es)
  pub small : IsSmall state

pub record Holds (folds : List (Option NodeState)) (es : List Event) : Type 0 where
  pub run : IsRun es
  pub made : length folds ≡ length (state_after es).config.slots
  pub unmade : (k : ℕ) → length (state_after es).config.slots ≤ k → done_by k es ≡ []
  pub nodes : (n : ℕ) (m : Slot) → slot (state_after es).config n ≡ Some m → NodeHolds m.first_port m.node.kind (slice_index_or folds n None) (done_by n es)

abbrev pub HoldsIn : World → Type 0
HoldsIn w = (w.machine ≡ state_after w.events) × Holds w.folds w.events

pub placed : (folds : List (Option NodeState)) (es : List Event) → Holds folds es → (n : ℕ) (m : Slot) → slot (state_after es).config n ≡ Some m → m.live ≡ true → (t : NodeState) → slice_index_or folds n None ≡ Some t
    → IsPlaced (state_after es) n m t (done_by n es)
placed folds es h n m there live t is =
    let node = h.nodes n m there in
    let same : node.state ≡ t = same_Some node.state t (sym node.is ∙ is) in
    record {
      formed = runs_are_well_formed es h.run;
      consistent = runs_are_consistent es h.run;
      made = there;
      live = live;
      knows = nodes_know es h.run n;
      knows_by_index = nodes_know_by_index es h.run n m.first_port;
      kind = sym (ap (λ (x : NodeState). x.kind) same) ∙ node.kind;
      agrees = subst (λ x. Agrees m.first_port x (served_after (done_by n es)) (λ p. own_port_after p (done_by n es))) same node.agrees;
      small = subst IsSmall same node.small;
    }

-- ---- a node's event

agrees_after : (first : ℕ) (t : NodeState) (es : List Event) (e : Event) → Agrees first t (served_next (served_after es) e) (ports_next (λ p. own_port_after p es) e)
    → Agrees first t (served_after (es ++ e ∷ [])) (λ p. own_port_after p (es ++ e ∷ []))
agrees_after first t es e a =
    let served = fold_push served_next None es e in
    let ports : (p : ℕ) → own_port_after p (es ++ e ∷ []) ≡ own_port_next p (own_port_after p es) e = λ p. fold_push (own_port_next p) (record { idle = true; serial = 0; consequent = false }) es e in
    let all : ◌≡◌ {A = ℕ → OwnPort} (λ p. own_port_after p (es ++ e ∷ [])) (ports_next (λ p. own_port_after p es) e) = λ i. λ p. ports p i in
    subst (λ u. Agrees first t u (λ p. own_port_after p (es ++ e ∷ []))) (sym served)
    (subst (λ (f : ℕ → OwnPort). Agrees first t (served_next (served_after es) e) f) (sym all) a)

node_after : (s : State) (n : ℕ) (m : Slot) (t : NodeState) (es : List Event) (e : Event) → IsPlaced s n m t es → (g : GoesOn s n m t es e) → NodeHolds m.first_port m.node.kind (Some g.next) (es ++ e ∷ [])
node_after s n m t es e at g =
    record {
      state = g.next;
      is = refl;
      kind = fold_keeps_kind m.first_port t g.next (e ∷ []) g.folds ∙ at.kind;
      agrees = agrees_after m.first_port g.next es e (agrees_next m.first_port t g.next (served_after es) (λ p. own_port_after p es) e at.agrees g.in_turn g.folds);
      small = small_next m.first_port t g.next e at.small g.hands_small g.folds;
    }

holds_after_node : (folds : List (Option NodeState)) (es : List Event) (n : ℕ) (m : Slot) (t : NodeState) (e : Event) → Holds folds es → slot (state_after es).config n ≡ Some m
    → (at : IsPlaced (state_after es) n m t (done_by n es)) → (g : GoesOn (state_after es) n m t (done_by n es) e) → Holds (set folds n (Some g.next)) (es ++ e ∷ [])
holds_after_node folds es n m t e h there at g =
    let s = state_after es in
    let config : (state_after (es ++ e ∷ [])).config ≡ s.config = ap (λ (x : State). x.config) (state_more es e) ∙ node_events_keep_the_configuration s e g.of_node in
    let within : n < length folds = omega (arith, h.made, made_below s.config n m there) in
    let mine : is_doer s n e ≡ true = map_or_at (λ i. i == n) (doer s e) false n g.own ∙ eq-eqb n n refl in
    let others : (k : ℕ) → (k ≡ n → ⊥) → is_doer s k e ≡ false = λ k ne. map_or_at (λ i. i == k) (doer s e) false n g.own ∙ ne_eqb n k (λ same. ne (sym same)) in
    record {
      run = (runs_grow es e).1 (h.run, allowed s e g.allowed);
      made = length-set folds n (Some g.next) ∙ h.made ∙ sym (ap (λ (c : Configuration). length c.slots) config);
      unmade = λ k past.
          let before : length s.config.slots ≤ k = subst (λ (c : Configuration). length c.slots ≤ k) config past in
          done_by_other k es e (others k (λ same. absurd (omega (arith, same, before, within, h.made)))) ∙ h.unmade k before;
      nodes = λ k mk made. ⊎_elim
          (λ (same : k ≡ n).
          let one : m ≡ mk = same_Some m mk (sym there ∙ sym (ap (slot s.config) same) ∙ sym (ap (λ (c : Configuration). slot c k) config) ∙ made) in
          subst (λ (x : Slot). NodeHolds x.first_port x.node.kind (slice_index_or (set folds n (Some g.next)) k None) (done_by k (es ++ e ∷ []))) one
          (subst (λ i. NodeHolds m.first_port m.node.kind (slice_index_or (set folds n (Some g.next)) i None) (done_by i (es ++ e ∷ []))) (sym same)
          (subst (λ o. NodeHolds m.first_port m.node.kind o (done_by n (es ++ e ∷ []))) (sym (get_or-set_same folds n (Some g.next) None within))
          (subst (λ xs. NodeHolds m.first_port m.node.kind (Some g.next) xs) (sym (done_by_own n es e mine)) (node_after s n m t (done_by n es) e at g)))))
          (λ (ne : k ≡ n → ⊥).
          let old = h.nodes k mk (sym (ap (λ (c : Configuration). slot c k) config) ∙ made) in
          subst (λ o. NodeHolds mk.first_port mk.node.kind o (done_by k (es ++ e ∷ []))) (sym (get_or-set_other folds n k (Some g.next) None ne))
          (subst (λ xs. NodeHolds mk.first_port mk.node.kind (slice_index_or folds k None) xs) (sym (done_by_other k es e (others k ne))) old))
          (cases_eq k n);
    }

-- ---- an event of the change

-- a slot that was made before and after, but for whether the node is live
record IsOld (c : Configuration) (n : ℕ) (m : Slot) : Type 0 where
  old : Slot
  was : slot c n ≡ Some old
  port : old.first_port ≡ m.first_port
  kind : old.node.kind ≡ m.node.kind

old_if_removed : (c : Configuration) (n : ℕ) (b : Bool) (m : Slot) → cond b (option_map (λ (k : Slot). record k { live = false }) (slot c n)) (slot c n) ≡ Some m → IsOld c n m
old_if_removed c n false m h = record { old = m; was = h; port = refl; kind = refl }
old_if_removed c n true m h = by (slot c n) refl h
  where
    by : (o : Option Slot) → slot c n ≡ o → option_map (λ (k : Slot). record k { live = false }) o ≡ Some m → IsOld c n m
    by None e g = absurd (none-some m g)
    by (Some x) e g =
        let same = same_Some (record x { live = false }) m g in
        record { old = x; was = e; port = ap (λ (y : Slot). y.first_port) same; kind = ap (λ (y : Slot). y.node.kind) same }

-- the change did an event by which no node is made
holds_after_change : (folds : List (Option NodeState)) (es : List Event) (e : Event) → Holds folds es → is_of_change e ≡ true → denial (state_after es) e ≡ None
    → length (state_after (es ++ e ∷ [])).config.slots ≡ length (state_after es).config.slots
    → ((n : ℕ) (m : Slot) → slot (state_after (es ++ e ∷ [])).config n ≡ Some m → IsOld (state_after es).config n m) → Holds folds (es ++ e ∷ [])
holds_after_change folds es e h change may count old =
    let s = state_after es in
    let none_ : (k : ℕ) → is_doer s k e ≡ false = λ k. ap (λ o. option_map_or (λ i. i == k) o false) ((changes_are_of_no_node s e (runs_are_consistent es h.run) may).0 change) in
    record {
      run = (runs_grow es e).1 (h.run, may);
      made = h.made ∙ sym count;
      unmade = λ k past. done_by_other k es e (none_ k) ∙ h.unmade k (subst (λ l. l ≤ k) count past);
      nodes = λ k m there.
          let was = old k m there in
          subst (λ i. NodeHolds i m.node.kind (slice_index_or folds k None) (done_by k (es ++ e ∷ []))) was.port
          (subst (λ j. NodeHolds was.old.first_port j (slice_index_or folds k None) (done_by k (es ++ e ∷ []))) was.kind
          (subst (λ xs. NodeHolds was.old.first_port was.old.node.kind (slice_index_or folds k None) xs) (sym (done_by_other k es e (none_ k))) (h.nodes k was.old was.was)));
    }

argument_small : (b : Bool) (o : Option ℕ) → cond b (option_map_or is_value o false) (is_none o) ≡ true → option_map_or (λ (a : ℕ). a) o 0 < value_limit
argument_small b None h = omega arith
argument_small true (Some a) h = ltb-true a value_limit h
argument_small false (Some a) h = absurd (both_ways false refl h)

-- a node that was just made
fresh_holds : (first : ℕ) (k : Kind) (a : ℕ) (kept : Kept) → a < value_limit → Small kept.items → NodeHolds first k (Some (at_rest k a kept)) []
fresh_holds first k a kept small items =
    record {
      state = at_rest k a kept;
      is = refl;
      kind = refl;
      agrees = record { services = tt; ports = λ p busy. absurd (both_ways true busy refl) };
      small = record { arg = small; items = items; service = λ w at. absurd (none-some w at) };
    }

opened_holds : (w : World) (n first : ℕ) (node : Node) (from : Option ℕ) → Holds w.folds w.events → Legal (state_after w.events) (Make n node from) → NodeHolds first node.kind (opened w node from) []
opened_holds w n first node None h l =
    let its = (and_parts (not (is_path_taken (state_after w.events).config node.path)) (has_its_argument node) l.new_path).1 in
    fresh_holds first node.kind (argument_or_0 node.arg) (opening node.kind (argument_or_0 node.arg)) (argument_small (is_some (row node.kind).arg) node.arg its) (opening_small node.kind (argument_or_0 node.arg))
opened_holds w n first node (Some k) h l =
    let its = (and_parts (not (is_path_taken (state_after w.events).config node.path)) (has_its_argument node) l.new_path).1 in
    let can = (and_parts (option_map_or (λ (m : Slot). not m.live && is_kind m.node.kind node.kind) (slot (state_after w.events).config k) false) (not (was_moved (state_after w.events).config k)) l.moves).0 in
    let m = map_or_true (λ (m : Slot). not m.live && is_kind m.node.kind node.kind) (slot (state_after w.events).config k) can in
    let old = h.nodes k m.0 m.1 in
    subst (λ o. NodeHolds first node.kind o []) (sym (ap (option_map (λ (s : NodeState). at_rest node.kind (argument_or_0 node.arg) s.kept)) old.is))
    (fresh_holds first node.kind (argument_or_0 node.arg) old.state.kept (argument_small (is_some (row node.kind).arg) node.arg its) old.small.items)

holds_after_make : (w : World) (n : ℕ) (node : Node) (from : Option ℕ) → Holds w.folds w.events → denial (state_after w.events) (Make n node from) ≡ None
    → Holds (w.folds ++ opened w node from ∷ []) (w.events ++ Make n node from ∷ [])
holds_after_make w n node from h may =
    let es = w.events in
    let e : Event = Make n node from in
    let s = state_after es in
    let l : Legal s (Make n node from) = legal s e may in
    let count : length (state_after (es ++ e ∷ [])).config.slots ≡ length s.config.slots + 1 = ap (λ (x : State). length x.config.slots) (state_more es e) ∙ (reconfigured s e l).nodes in
    record {
      run = (runs_grow es e).1 (h.run, may);
      made = omega (arith, length-append w.folds (opened w node from ∷ []), h.made, count);
      unmade = λ k past. done_by_other k es e refl ∙ h.unmade k (omega (arith, past, count));
      nodes = λ k m there. by k m (k == length s.config.slots) refl (sym ((reconfigured s e l).slots k) ∙ sym (ap (λ (x : State). slot x.config k) (state_more es e)) ∙ there) l;
    }
  where
    by : (k : ℕ) (m : Slot) (b : Bool) → (k == length (state_after w.events).config.slots) ≡ b
        → cond b (Some (record { node = node; first_port = length (state_after w.events).config.gates; from = from; live = true })) (slot (state_after w.events).config k) ≡ Some m
        → Legal (state_after w.events) (Make n node from)
        → NodeHolds m.first_port m.node.kind (slice_index_or (w.folds ++ opened w node from ∷ []) k None) (done_by k (w.events ++ Make n node from ∷ []))
    by k m true e g l =
        let at : k ≡ length (state_after w.events).config.slots = eqb-true k (length (state_after w.events).config.slots) e in
        let nothing_done : done_by k (w.events ++ Make n node from ∷ []) ≡ [] = done_by_other k w.events (Make n node from) refl ∙ h.unmade k (omega (arith, at)) in
        let new : slice_index_or (w.folds ++ opened w node from ∷ []) k None ≡ opened w node from =
        ap (λ i. slice_index_or (w.folds ++ opened w node from ∷ []) i None) (at ∙ sym h.made) ∙ get_or-append_seam w.folds (opened w node from) [] None in
        subst (λ (x : Slot). NodeHolds x.first_port x.node.kind (slice_index_or (w.folds ++ opened w node from ∷ []) k None) (done_by k (w.events ++ Make n node from ∷ [])))
        (same_Some (record { node = node; first_port = length (state_after w.events).config.gates; from = from; live = true }) m g)
        (subst (λ xs. NodeHolds (length (state_after w.events).config.gates) node.kind (slice_index_or (w.folds ++ opened w node from ∷ []) k None) xs) (sym nothing_done)
        (subst (λ o. NodeHolds (length (state_after w.events).config.gates) node.kind o []) (sym new)
        (opened_holds w n (length (state_after w.events).config.gates) node from h l)))
    by k m false e g l =
        let within : k < length w.folds = omega (arith, h.made, made_below (state_after w.events).config k m g) in
        subst (λ o. NodeHolds m.first_port m.node.kind o (done_by k (w.events ++ Make n node from ∷ []))) (sym (get_or_append_left w.folds (opened w node from ∷ []) None k within))
        (subst (λ xs. NodeHolds m.first_port m.node.kind (slice_index_or w.folds k None) xs) (sym (done_by_other k w.events (Make n node from) refl)) (h.nodes k m g))

holds_as_altered : (folds : List (Option NodeState)) (es : List Event) (e : Event) → Holds folds es → is_of_change e ≡ true → denial (state_after es) e ≡ None
    → nodes_next (state_after es).config e ≡ length (state_after es).config.slots
    → ((n : ℕ) (m : Slot) → slot_next (state_after es).config n e ≡ Some m → IsOld (state_after es).config n m) → Holds folds (es ++ e ∷ [])
holds_as_altered folds es e h change may count old =
    let s = state_after es in
    let d = reconfigured s e (legal s e may) in
    holds_after_change folds es e h change may (ap (λ (x : State). length x.config.slots) (state_more es e) ∙ d.nodes ∙ count)
    (λ n m there. old n m (sym (d.slots n) ∙ sym (ap (λ (x : State). slot x.config n) (state_more es e)) ∙ there))

machine_after : (w : World) (e : Event) → w.machine ≡ state_after w.events → effect w.machine e ≡ state_after (w.events ++ e ∷ [])
machine_after w e h = ap (λ s. effect s e) h ∙ sym (state_more w.events e)

same_slot : (c : Configuration) (n : ℕ) (m : Slot) → slot c n ≡ Some m → IsOld c n m
same_slot c n m h = record { old = m; was = h; port = refl; kind = refl }

change_holds : (w : World) (e : Event) → HoldsIn w → is_of_change e ≡ true → denial (state_after w.events) e ≡ None → HoldsIn (with_event w e)
change_holds w (Make n node from) h change may = (machine_after w (Make n node from) h.0, holds_after_make w n node from h.1 may)
change_holds w (Close p) h change may = (machine_after w (Close p) h.0, holds_as_altered w.folds w.events (Close p) h.1 refl may refl (λ n m there. same_slot (state_after w.events).config n m there))
change_holds w (Reopen p) h change may = (machine_after w (Reopen p) h.0, holds_as_altered w.folds w.events (Reopen p) h.1 refl may refl (λ n m there. same_slot (state_after w.events).config n m there))
change_holds w (Link p k x) h change may = (machine_after w (Link p k x) h.0, holds_as_altered w.folds w.events (Link p k x) h.1 refl may refl (λ n m there. same_slot (state_after w.events).config n m there))
change_holds w (Unlink p) h change may = (machine_after w (Unlink p) h.0, holds_as_altered w.folds w.events (Unlink p) h.1 refl may refl (λ n m there. same_slot (state_after w.events).config n m there))
change_holds w (Remove k) h change may = (machine_after w (Remove k) h.0, holds_as_altered w.folds w.events (Remove k) h.1 refl may refl (λ n m there. old_if_removed (state_after w.events).config n (n == k) m there))
change_holds w _ h change may = absurd (both_ways false refl change)

-- ---- a turn

-- the event of the turn, at the node's place
record Turned (w : World) (n : ℕ) (e : Event) : Type 0 where
  slot_of : Slot
  there : slot (state_after w.events).config n ≡ Some slot_of
  state : NodeState
  state_is : state_of w n ≡ Some state
  at : IsPlaced (state_after w.events) n slot_of state (done_by n w.events)
  goes : GoesOn (state_after w.events) n slot_of state (done_by n w.events) e

turned : (w : World) (n : ℕ) (begins : Bool) (e : Event) → HoldsIn w → is_live w.machine.config n ≡ true → (turn w n begins).event ≡ Some e → Turned w n e
turned w n begins e h live is =
    let v = post_waiting w n in
    let same : without_hints v ≡ without_hints w = posts_keep n w (enumerate_from 0 (waiting_of w n)) in
    let m = map_or_true (λ (x : Slot). x.live) (slot w.machine.config n) live in
    let there : slot (state_after w.events).config n ≡ Some m.0 = sym (ap (λ (x : State). slot x.config n) h.0) ∙ m.1 in
    let node = h.1.nodes n m.0 there in
    let at = placed w.folds w.events h.1 n m.0 there m.2 node.state node.is in
    let told : state_of v n ≡ Some node.state = ap (λ (u : World). slice_index_or u.folds n None) same ∙ node.is in
    let machine : v.machine ≡ state_after w.events = ap (λ (u : World). u.machine) same ∙ h.0 in
    let moved : move_of (state_after w.events) n node.state (inbox v n) begins ≡ Some e =
    sym (ap (λ s. move_of s n node.state (inbox v n) begins) machine)
    ∙ sym (ap (λ o. (option_map_or (turn_in v n begins) o (record { event = None; world = v })).event) told) ∙ is in
    record { slot_of = m.0; there = there; state = node.state; state_is = node.is; at = at; goes = moves_go_on (state_after w.events) n m.0 node.state (done_by n w.events) at (inbox v n) begins e moved }

fold_goes_on : (w : World) (n : ℕ) (e : Event) → w.machine ≡ state_after w.events → (t : Turned w n e) → fold_next (first_port w.machine n) (state_of w n) e ≡ Some t.goes.next
fold_goes_on w n e machine t =
    ap (λ i. fold_next i (state_of w n) e) (ap (λ s. first_port s n) machine ∙ map_or_at (λ (j : Slot). j.first_port) (slot (state_after w.events).config n) 0 t.slot_of t.there)
    ∙ ap (λ o. fold_next t.slot_of.first_port o e) t.state_is ∙ t.goes.folds

event_holds : (w : World) (n : ℕ) (e : Event) → HoldsIn w → Turned w n e → HoldsIn (with_event_of w n e)
event_holds w n e h t = (
  machine_after w e h.0,
  subst (λ o. Holds (set w.folds n o) (w.events ++ e ∷ [])) (sym (fold_goes_on w n e h.0 t))
      (holds_after_node w.folds w.events n t.slot_of t.state e h.1 t.there t.at t.goes),
)

turn_holds : (w : World) (n : ℕ) (begins : Bool) → HoldsIn w → is_live w.machine.config n ≡ true → HoldsIn (turn w n begins).world
turn_holds w n begins h live = subst HoldsIn (sym (turns_do w n begins)) (by (turn w n begins).event refl)
  where
    by : (o : Option Event) → (turn w n begins).event ≡ o → HoldsIn (without_hints (after_move w n o))
    by None is = h
    by (Some e) is = event_holds w n e h (turned w n begins e h live is)

-- ---- every world that is reached

pub holds_where_reached : (w : World) → IsReached w → HoldsIn w
holds_where_reached _ IsReached.at_start = (refl, record { run = tt; made = refl; unmade = λ k past. refl; nodes = λ n m there. absurd (none-some m there) })
holds_where_reached _ (IsReached.by_change w e r change may) =
    let h = holds_where_reached w r in change_holds w e h change (sym (ap (λ s. denial s e) h.0) ∙ may)
holds_where_reached _ (IsReached.by_turn w n begins r live) = turn_holds w n begins (holds_where_reached w r) live

pub record TurnGoesOn (w : World) (n : ℕ) (e : Event) : Type 0 where
  pub allowed : denial w.machine e ≡ None
  pub own : doer w.machine e ≡ Some n
  pub of_node : is_of_change e ≡ false
  pub folds : is_some (fold_next (first_port w.machine n) (state_of w n) e) ≡ true

pub turn_goes_on : (w : World) (n : ℕ) (begins : Bool) (e : Event) → IsReached w → is_live w.machine.config n ≡ true → (turn w n begins).event ≡ Some e → TurnGoesOn w n e
turn_goes_on w n begins e r live is =
    let h = holds_where_reached w r in
    let t = turned w n begins e h live is in
    record {
      allowed = ap (λ s. denial s e) h.0 ∙ allowed (state_after w.events) e t.goes.allowed;
      own = ap (λ s. doer s e) h.0 ∙ t.goes.own;
      of_node = t.goes.of_node;
      folds = ap is_some (fold_goes_on w n e h.0 t);
    }
