-- What a world says that a node has come to is the fold of the node's own events: the two readings of a node's state are one.
use Rattle.std.proofs.Common.{◌≡◌, ◌∙◌, ◌<◌, ◌≤◌, ℕ, zero, suc, Bool, true, false, cond, List, [], ◌∷◌, ◌++◌, length, set, Option, Some, None, refl, sym, ap, subst, ⊎_elim, arith, get_or-set_same, get_or-set_other}
use Rattle.std.specs.Prelude.{◌==◌, option_and_then, option_map, slice_index_or}
use Rattle.std.specs.Option.{option_map_or}
use Rattle.std.proofs.lemmas.Bool.{both_ways, cases_eq, cases_lt, eq-eqb, ne_eqb}
use Rattle.std.proofs.lemmas.List.{append-nil, get_or_append_left, get_or_past}
use Rattle.std.proofs.lemmas.List.Sums.{fold_push}
use Rattle.std.proofs.lemmas.Option.{none-some, same_Some, slice_get_within}
use Rattle.std.proofs.Math.Seq.{get_or-append_seam}
use Rattle.base.proofs.OptionLaws.{map_or_at, map_or_true, option_map_some}
use Rattle.base.proofs.PlaceLaws.{slice_get-snoc, slice_get-there}
use Rattle.config_graph.specs.declared.node.Node.{Node}
use Rattle.component_trait.specs.Fold.{fold_next}
use Rattle.component_trait.specs.States.{Kept, NodeState, at_rest}
use Rattle.component_trait.specs.Tables.{opening}
use Rattle.quiesce_core.specs.Doers.{is_make, is_of_change}
use Rattle.quiesce_core.specs.Effect.{effect}
use Rattle.quiesce_core.specs.Legal.{Legal}
use Rattle.quiesce_core.specs.Rules.{denial}
use Rattle.quiesce_core.specs.Runs.{IsRun, doer, done_by, state_after}
use Rattle.quiesce_core.specs.State.{Configuration, State, is_live, slot}
use Rattle.quiesce_core.specs.declared.event.Event.{Event}
use Rattle.quiesce_core.specs.declared.event.Event.TheVariants.{Close, Reopen, Make, Link, Unlink, Remove}
use Rattle.quiesce_core.specs.declared.state.Slot.{Slot}
use Rattle.quiesce_core.proofs.AlterLaws.{reconfigured}
use Rattle.quiesce_core.proofs.LegalLaws.{legal}
use Rattle.quiesce_core.proofs.RunLaws.{changes_are_of_no_node, done_by_more, node_events_keep_the_configuration, runs_are_consistent, state_more}
use Rattle.quiesce_core.proofs.SourceLaws.{new_slot, sources_are_gone}
use Rattle.node_turn_laws.proofs.TurnLaws.{turns_do}
use Rattle.node_turn_laws.specs.Hints.{after_move, without_hints}
use Rattle.node_turn_laws.specs.Turn.{turn}
use Rattle.node_turn_laws.specs.World.{World, first_port, opened, state_of, with_event, with_event_of}
use Rattle.node_turn_laws.specs.Reached.{IsReached}
use Rattle.node_turn_laws.proofs.ReachedLaws.{HoldsIn, TurnGoesOn, holds_where_reached, turn_goes_on}
use Rattle.change_spec.proofs.LowerLaws.{lower_after, source_there}
use Rattle.change_spec.specs.Opening.{argument_of, fold_at, fold_of_node, fold_within}
use Rattle.component_trait.specs.Making.{argument_or_0}

-- a slot as it was before an event that makes none
record WasSlot (c : Configuration) (n : ℕ) (m : Slot) : Type 0 where
  old : Slot
  there : slot c n ≡ Some old
  node : old.node ≡ m.node
  first : old.first_port ≡ m.first_port
  from : old.from ≡ m.from

removed_slot : (c : Configuration) (n : ℕ) (b : Bool) (m : Slot) → cond b (option_map (λ (k : Slot). record k { live = false }) (slot c n)) (slot c n) ≡ Some m → WasSlot c n m
removed_slot c n false m h = record { old = m; there = h; node = refl; first = refl; from = refl }
removed_slot c n true m h =
    let w = option_map_some (λ (k : Slot). record k { live = false }) (slot c n) m h in
    record { old = w.0; there = w.1; node = ap (λ (x : Slot). x.node) w.2; first = ap (λ (x : Slot). x.first_port) w.2; from = ap (λ (x : Slot). x.from) w.2 }

slot_was : (s : State) (e : Event) → Legal s e → is_make e ≡ false → (n : ℕ) (m : Slot) → slot (effect s e).config n ≡ Some m → WasSlot s.config n m
slot_was s (Make k node from) l h n m at = absurd (both_ways true h refl)
slot_was s (Remove k) l h n m at = removed_slot s.config n (n == k) m (sym ((reconfigured s (Remove k) l).slots n) ∙ at)
slot_was s e l h n m at = record { old = m; there = sym ((reconfigured s e l).slots n) ∙ at; node = refl; first = refl; from = refl }

-- with what a node in this slot opened, where this is what nodes have come to
abbrev opened_by : (ℕ → Option NodeState) → Slot → Option Kept
opened_by f m = option_map_or (λ k. option_map (λ (s : NodeState). s.kept) (f k)) m.from (Some (opening m.node.kind (argument_of m)))

abbrev come_to : (ℕ → Option NodeState) → List Event → Slot → Option NodeState
come_to f own m = option_and_then (fold_at m own) (opened_by f m)

-- each node made has come to what its own events lead to, from what it opened with
abbrev AreFolds : (ℕ → Option NodeState) → List Event → Type 0
AreFolds f es = (n : ℕ) (m : Slot) → slot (state_after es).config n ≡ Some m → f n ≡ come_to f (done_by n es) m

abbrev in_folds : List (Option NodeState) → ℕ → Option NodeState
in_folds folds n = slice_index_or folds n None

fold_more : (m : Slot) (own : List Event) (e : Event) (o : Option Kept) → fold_next m.first_port (option_and_then (fold_at m own) o) e ≡ option_and_then (fold_at m (own ++ e ∷ [])) o
fold_more m own e None = refl
fold_more m own e (Some kept) = sym (fold_push (fold_next m.first_port) (Some (at_rest m.node.kind (argument_of m) kept)) own e)

same_opened : (f g : ℕ → Option NodeState) (m : Slot) (from : Option ℕ) (own : Option Kept) → ((k : ℕ) → from ≡ Some k → f k ≡ g k)
    → option_map_or (λ k. option_map (λ (s : NodeState). s.kept) (f k)) from own ≡ option_map_or (λ k. option_map (λ (s : NodeState). s.kept) (g k)) from own
same_opened f g m None own h = refl
same_opened f g m (Some k) own h = ap (option_map (λ (s : NodeState). s.kept)) (h k refl)

same_come : (f g : ℕ → Option NodeState) (own : List Event) (m : Slot) → ((k : ℕ) → m.from ≡ Some k → f k ≡ g k) → come_to f own m ≡ come_to g own m
same_come f g own m h = ap (option_and_then (fold_at m own)) (same_opened f g m m.from (Some (opening m.node.kind (argument_of m))) h)

-- a node's event

module _ (folds : List (Option NodeState)) (es : List Event) (n : ℕ) (m : Slot) (e : Event) (run : IsRun es) (made : length folds ≡ length (state_after es).config.slots) (there : slot (state_after es).config n ≡ Some m)
    (live : m.live ≡ true) (own : doer (state_after es) e ≡ Some n) (node : is_of_change e ≡ false) (are : AreFolds (in_folds folds) es) where
  within : n < length folds
  within = let low = slice_get_within (state_after es).config.slots n m there in omega (arith, low, made)

  abbrev after : List (Option NodeState)
  after = set folds n (fold_next m.first_port (in_folds folds n) e)

  config_is : (state_after (es ++ e ∷ [])).config ≡ (state_after es).config
  config_is = ap (λ (x : State). x.config) (state_more es e) ∙ node_events_keep_the_configuration (state_after es) e node

  -- a source is gone, so it isn't this node
  source_same : (k j : ℕ) (x : Slot) → slot (state_after es).config k ≡ Some x → x.from ≡ Some j → in_folds (set folds n (fold_next m.first_port (in_folds folds n) e)) j ≡ in_folds folds j
  source_same k j x at is = get_or-set_other folds n j (fold_next m.first_port (in_folds folds n) e) None (λ (same : j ≡ n).
      let g = (sources_are_gone es run).gone k j x at is in
      let one : g.old ≡ m = same_Some g.old m (sym g.there ∙ ap (slot (state_after es).config) same ∙ there) in
      both_ways m.live (sym (ap (λ (y : Slot). y.live) one) ∙ g.removed) live)

  done_here : done_by n (es ++ e ∷ []) ≡ done_by n es ++ e ∷ []
  done_here = done_by_more n es e ∙ ap (λ b. done_by n es ++ cond b (e ∷ []) []) (map_or_at (λ i. i == n) (doer (state_after es) e) false n own ∙ eq-eqb n n refl)

  done_there : (k : ℕ) → (k ≡ n → ⊥) → done_by k (es ++ e ∷ []) ≡ done_by k es
  done_there k other =
      done_by_more k es e ∙ ap (λ b. done_by k es ++ cond b (e ∷ []) []) (map_or_at (λ i. i == k) (doer (state_after es) e) false n own ∙ ne_eqb n k (λ same. other (sym same)))
      ∙ append-nil (done_by k es)

  pub node_folds : AreFolds (in_folds (set folds n (fold_next m.first_port (in_folds folds n) e))) (es ++ e ∷ [])
  node_folds k x at' =
      let f = in_folds folds in
      let g = in_folds (set folds n (fold_next m.first_port (in_folds folds n) e)) in
      let at : slot (state_after es).config k ≡ Some x = sym (ap (λ (c : Configuration). slot c k) config_is) ∙ at' in
      ⊎_elim
      (λ (same : k ≡ n).
      let one : x ≡ m = same_Some x m (sym at ∙ ap (slot (state_after es).config) same ∙ there) in
      let now : g n ≡ fold_next m.first_port (f n) e = get_or-set_same folds n (fold_next m.first_port (f n) e) None within in
      ap g same ∙ now ∙ ap (λ o. fold_next m.first_port o e) (are n m there) ∙ fold_more m (done_by n es) e (opened_by f m)
      ∙ sym (same_come g f (done_by n es ++ e ∷ []) m (λ j is. source_same n j m there is))
      ∙ ap (λ xs. come_to g xs m) (sym done_here) ∙ sym (λ i. come_to g (done_by (same i) (es ++ e ∷ [])) (one i)))
      (λ (other : k ≡ n → ⊥).
      get_or-set_other folds n k (fold_next m.first_port (f n) e) None other ∙ are k x at
      ∙ sym (same_come g f (done_by k es) x (λ j is. source_same k j x at is))
      ∙ ap (λ xs. come_to g xs x) (sym (done_there k other)))
      (cases_eq k n)

-- an event of the change

done_by_none : (es : List Event) (e : Event) → IsRun es → is_of_change e ≡ true → denial (state_after es) e ≡ None → (k : ℕ) → done_by k (es ++ e ∷ []) ≡ done_by k es
done_by_none es e run change may k =
    done_by_more k es e
    ∙ ap (λ o. done_by k es ++ cond (option_map_or (λ i. i == k) o false) (e ∷ []) []) ((changes_are_of_no_node (state_after es) e (runs_are_consistent es run) may).0 change)
    ∙ append-nil (done_by k es)

change_folds : (f : ℕ → Option NodeState) (es : List Event) (e : Event) → IsRun es → is_of_change e ≡ true → is_make e ≡ false → denial (state_after es) e ≡ None → AreFolds f es → AreFolds f (es ++ e ∷ [])
change_folds f es e run change other may are k m at =
    let was = slot_was (state_after es) e (legal (state_after es) e may) other k m (sym (ap (λ (s : State). slot s.config k) (state_more es e)) ∙ at) in
    are k was.old was.there
    ∙ (λ i. come_to f (done_by k es) (record { node = was.node i; first_port = was.first i; from = was.from i; live = m.live }))
    ∙ ap (λ xs. come_to f xs m) (sym (done_by_none es e run change may k))

fresh_come : (node : Node) (first : ℕ) (f : ℕ → Option NodeState) (w : World) (from : Option ℕ) → ((k : ℕ) → from ≡ Some k → f k ≡ state_of w k)
    → opened w node from ≡ come_to f [] (record { node = node; first_port = first; from = from; live = true })
fresh_come node first f w None same = refl
fresh_come node first f w (Some k) same = by (state_of w k) ∙ ap (λ o. option_and_then (fold_at (record { node = node; first_port = first; from = Some k; live = true }) []) (option_map (λ (s : NodeState). s.kept) o)) (sym (same k refl))
  where
    by : (o : Option NodeState) → option_map (λ (s : NodeState). at_rest node.kind (argument_or_0 node.arg) s.kept) o
        ≡ option_and_then (fold_at (record { node = node; first_port = first; from = Some k; live = true }) []) (option_map (λ (s : NodeState). s.kept) o)
    by None = refl
    by (Some s) = refl

make_folds : (w : World) (n : ℕ) (node : Node) (from : Option ℕ) → HoldsIn w → denial (state_after w.events) (Make n node from) ≡ None → AreFolds (state_of w) w.events → AreFolds (state_of (with_event w (Make n node from))) (w.events ++ Make n node from ∷ [])
make_folds w n node from h may are k m at =
    let es = w.events in
    let e : Event = Make n node from in
    let c = (state_after es).config in
    let g = state_of (with_event w (Make n node from)) in
    let l : Legal (state_after es) (Make n node from) = legal (state_after es) (Make n node from) may in
    let early : (j : ℕ) → j < length c.slots → g j ≡ state_of w j = λ j low. get_or_append_left w.folds (opened w node from ∷ []) None j (omega (arith, low, h.1.made)) in
    let none = done_by_none es e h.1.run refl may k in
    ⊎_elim
    (λ (old : (k < length c.slots) × (slot c k ≡ Some m)).
    early k old.0 ∙ are k m old.1
    ∙ same_come (state_of w) g (done_by k es) m (λ j is. sym (early j (let low = (lower_after es h.1.run).lower k j m old.1 is in omega (arith, low, old.0))))
    ∙ ap (λ xs. come_to g xs m) (sym none))
    (λ (new : (k ≡ length c.slots) × (new_slot c node from ≡ m)).
    let nothing : done_by k (es ++ e ∷ []) ≡ [] = none ∙ h.1.unmade k (omega (arith, new.0)) in
    let here : g k ≡ opened w node from = ap (λ i. slice_index_or (w.folds ++ opened w node from ∷ []) i None) (new.0 ∙ sym h.1.made) ∙ get_or-append_seam w.folds (opened w node from) [] None in
    here ∙ fresh_come node (length c.gates) g w from (λ j is. early j (source_there c node from j l.moves is))
    ∙ ap (λ xs. come_to g xs (new_slot c node from)) (sym nothing) ∙ ap (come_to g (done_by k (es ++ e ∷ []))) new.1)
    (slice_get-snoc c.slots (new_slot c node from) m k (sym (ap (λ (s : State). slot s.config k) (state_more es e)) ∙ at))

change_reached : (w : World) (e : Event) → HoldsIn w → is_of_change e ≡ true → denial (state_after w.events) e ≡ None → AreFolds (state_of w) w.events → AreFolds (state_of (with_event w e)) (with_event w e).events
change_reached w (Make n node from) h change may are = make_folds w n node from h may are
change_reached w (Close p) h change may are = change_folds (state_of w) w.events (Close p) h.1.run refl refl may are
change_reached w (Reopen p) h change may are = change_folds (state_of w) w.events (Reopen p) h.1.run refl refl may are
change_reached w (Link p k x) h change may are = change_folds (state_of w) w.events (Link p k x) h.1.run refl refl may are
change_reached w (Unlink p) h change may are = change_folds (state_of w) w.events (Unlink p) h.1.run refl refl may are
change_reached w (Remove k) h change may are = change_folds (state_of w) w.events (Remove k) h.1.run refl refl may are
change_reached w _ h change may are = absurd (both_ways false refl change)

abbrev AreFoldsIn : World → Type 0
AreFoldsIn w = AreFolds (in_folds w.folds) w.events

event_reached : (w : World) (n : ℕ) (e : Event) → HoldsIn w → is_live w.machine.config n ≡ true → TurnGoesOn w n e → AreFoldsIn w → AreFoldsIn (with_event_of w n e)
event_reached w n e h live t are =
    let m = map_or_true (λ (x : Slot). x.live) (slot w.machine.config n) live in
    let there : slot (state_after w.events).config n ≡ Some m.0 = sym (ap (λ (x : State). slot x.config n) h.0) ∙ m.1 in
    let first : first_port w.machine n ≡ m.0.first_port = map_or_at (λ (j : Slot). j.first_port) (slot w.machine.config n) 0 m.0 m.1 in
    subst (λ i. AreFolds (in_folds (set w.folds n (fold_next i (in_folds w.folds n) e))) (w.events ++ e ∷ [])) (sym first)
    (node_folds w.folds w.events n m.0 e h.1.run h.1.made there m.2 (sym (ap (λ s. doer s e) h.0) ∙ t.own) t.of_node are)

turn_reached : (w : World) (n : ℕ) (begins : Bool) → IsReached w → is_live w.machine.config n ≡ true → AreFoldsIn w → AreFoldsIn (turn w n begins).world
turn_reached w n begins r live are = subst AreFoldsIn (sym (turns_do w n begins)) (by (turn w n begins).event refl)
  where
    by : (o : Option Event) → (turn w n begins).event ≡ o → AreFoldsIn (without_hints (after_move w n o))
    by None is = are
    by (Some e) is = event_reached w n e (holds_where_reached w r) live (turn_goes_on w n begins e r live is) are

folds_where_reached : (w : World) → IsReached w → AreFoldsIn w
folds_where_reached _ IsReached.at_start = λ n m at. absurd (none-some m at)
folds_where_reached _ (IsReached.by_change w e r change may) =
    let h = holds_where_reached w r in change_reached w e h change (sym (ap (λ s. denial s e) h.0) ∙ may) (folds_where_reached w r)
folds_where_reached _ (IsReached.by_turn w n begins r live) = turn_reached w n begins r live (folds_where_reached w r)

-- what a state that was taken over is, by the law of it
abbrev pub StatesAreHanded : Type 0
StatesAreHanded = (es : List Event) → IsRun es → (n k : ℕ) (m : Slot) → slot (state_after es).config n ≡ Some m → m.from ≡ Some k
    → fold_of_node es n ≡ option_and_then (fold_at m (done_by n es)) (option_map (λ (s : NodeState). s.kept) (fold_of_node es k))

module _ (handed : StatesAreHanded) (f : ℕ → Option NodeState) (es : List Event) (run : IsRun es) (are : AreFolds f es) (unmade : (n : ℕ) → slot (state_after es).config n ≡ None → f n ≡ None) where
  one_state : (bound n : ℕ) → n < bound → f n ≡ fold_of_node es n
  one_state zero n low = absurd (omega (arith, low))
  one_state (suc bound) n low = by_slot (slot (state_after es).config n) refl (λ k less. one_state bound k less)
    where
      by_from : (m : Slot) → slot (state_after es).config n ≡ Some m → (from : Option ℕ) → m.from ≡ from → ((k : ℕ) → k < bound → f k ≡ fold_of_node es k) → f n ≡ fold_of_node es n
      by_from m at None is earlier =
          let own = Some (opening m.node.kind (argument_of m)) in
          are n m at ∙ ap (λ o. option_and_then (fold_at m (done_by n es)) (option_map_or (λ k. option_map (λ (s : NodeState). s.kept) (f k)) o own)) is
          ∙ sym (ap (λ o. option_and_then (fold_at m (done_by n es)) (option_map_or (λ k. option_map (λ (s : NodeState). s.kept) (fold_within es n k)) o own)) is)
          ∙ sym (ap (option_and_then (λ (x : Slot). option_and_then (fold_at x (done_by n es))
          (option_map_or (λ k. option_map (λ (s : NodeState). s.kept) (fold_within es n k)) x.from (Some (opening x.node.kind (argument_of x)))))) at)
      by_from m at (Some k) is earlier =
          let below = (lower_after es run).lower n k m at is in
          let own = Some (opening m.node.kind (argument_of m)) in
          are n m at ∙ ap (λ o. option_and_then (fold_at m (done_by n es)) (option_map_or (λ k. option_map (λ (s : NodeState). s.kept) (f k)) o own)) is
          ∙ ap (λ o. option_and_then (fold_at m (done_by n es)) (option_map (λ (s : NodeState). s.kept) o)) (earlier k (omega (arith, below, low)))
          ∙ sym (handed es run n k m at is)

      by_slot : (o : Option Slot) → slot (state_after es).config n ≡ o → ((k : ℕ) → k < bound → f k ≡ fold_of_node es k) → f n ≡ fold_of_node es n
      by_slot None at earlier = unmade n at ∙ sym (ap (option_and_then (λ (x : Slot). option_and_then (fold_at x (done_by n es))
          (option_map_or (λ k. option_map (λ (s : NodeState). s.kept) (fold_within es n k)) x.from (Some (opening x.node.kind (argument_of x)))))) at)
      by_slot (Some m) at earlier = by_from m at m.from refl earlier

pub states_are_folds : StatesAreHanded → (w : World) → IsReached w → (n : ℕ) → state_of w n ≡ fold_of_node w.events n
states_are_folds handed w r n =
    let h = holds_where_reached w r in
    let c = (state_after w.events).config in
    one_state handed (state_of w) w.events h.1.run (folds_where_reached w r)
    (λ k none. ⊎_elim
    (λ (low : k < length c.slots). let x = slice_get-there c.slots k low in absurd (none-some x.0 (sym none ∙ x.1)))
    (λ (past : length c.slots ≤ k). get_or_past w.folds k None (omega (arith, past, h.1.made)))
    (cases_lt k (length c.slots)))
    (suc n) n (omega arith)
