-- How many nodes and ports events make, and in which slots.
use Rattle.std.proofs.Common.{◌≡◌, ◌∙◌, ℕ, ◌+◌, Bool, true, false, cond, List, [], ◌∷◌, ◌++◌, length, length-append, length-set, set, Option, Some, None, refl, sym, ap, arith}
use Rattle.std.specs.Prelude.{filter, filter_map, option_and_then}
use Rattle.std.specs.List.{cons_option, range_with_len, sum_by}
use Rattle.std.proofs.lemmas.Bool.{and_parts, both_ways, eqb-true}
use Rattle.std.proofs.lemmas.List.{append-nil, length-map}
use Rattle.std.proofs.lemmas.List.Elements.{filter_map-append}
use Rattle.std.proofs.lemmas.List.FromFn.{length-range_with_len}
use Rattle.std.proofs.lemmas.List.Sums.{sum_by-cons}
use Rattle.base.proofs.RisingLaws as rising
use Rattle.quiesce_laws.specs.Steps.{change_all}
use Rattle.config_graph.specs.Kinds.{row}
use Rattle.config_graph.specs.declared.node.Node.{Node}
use Rattle.quiesce_core.specs.Doers.{is_of_change}
use Rattle.quiesce_core.specs.Effect.{change_next, new_gates}
use Rattle.quiesce_core.specs.Runs.{IsRun, state_after}
use Rattle.quiesce_core.specs.State.{Configuration, State, slot}
use Rattle.quiesce_core.specs.declared.event.Event.{Event}
use Rattle.quiesce_core.specs.declared.event.Event.TheVariants.{Begin, Call, Take, Give, End, More, Ask, Hear, Miss, Close, Reopen, Make, Link, Unlink, Remove}
use Rattle.quiesce_core.specs.declared.state.Gate.{Gate}
use Rattle.quiesce_core.proofs.AlterLaws.{removed_length}
use Rattle.quiesce_core.proofs.InductionLaws.{IsNext, along, unbarred, none_barred}
use Rattle.quiesce_core.proofs.RunLaws.{effect_config}
use Rattle.report_types.specs.declared.report.HistoryLine.{HistoryLine}
use Rattle.report_types.specs.declared.report.HistoryLine.TheVariants as to
use Rattle.change_spec.specs.Members.{event_of, made_slot}

-- how many nodes, and how many ports, an event makes
abbrev pub nodes_made : Event → ℕ
nodes_made (Make n node from) = 1
nodes_made _ = 0

abbrev pub ports_made : Event → ℕ
ports_made (Make n node from) = length (row node.kind).requires_
ports_made _ = 0

same_length : {A : Type 0} (xs : List A) → length xs ≡ length xs + 0
same_length xs = omega arith

pub slots_next : (c : Configuration) (e : Event) → length (change_next c e).slots ≡ length c.slots + nodes_made e
slots_next c (Make n node from) = length-append c.slots (record { node = node; first_port = length c.gates; from = from; live = true } ∷ [])
slots_next c (Remove n) = removed_length c n (slot c n) ∙ same_length c.slots
slots_next c _ = same_length c.slots

set_long : (xs : List Gate) (p : ℕ) (g : Gate) → length (set xs p g) ≡ length xs + 0
set_long xs p g = omega (arith, length-set xs p g)

new_long : (n k : ℕ) → length (new_gates n k) ≡ k
new_long n k = length-map (range_with_len 0 k) (λ r. record { owner = n; require = r; closed = true; target = None }) ∙ length-range_with_len 0 k

pub gates_next : (c : Configuration) (e : Event) → length (change_next c e).gates ≡ length c.gates + ports_made e
gates_next c (Make n node from) =
    let k = length (row node.kind).requires_ in
    length-append c.gates (new_gates (length c.slots) k) ∙ ap (λ i. length c.gates + i) (new_long (length c.slots) k)
gates_next c (Close p) = set_long c.gates p _
gates_next c (Reopen p) = set_long c.gates p _
gates_next c (Link p n x) = set_long c.gates p _
gates_next c (Unlink p) = set_long c.gates p _
gates_next c _ = same_length c.gates

pub slots_all : (c : Configuration) (es : List Event) → length (change_all c es).slots ≡ length c.slots + sum_by nodes_made es
slots_all c [] = same_length c.slots
slots_all c (e ∷ es) = omega (arith, slots_all (change_next c e) es, slots_next c e, sum_by-cons nodes_made e es)

pub gates_all : (c : Configuration) (es : List Event) → length (change_all c es).gates ≡ length c.gates + sum_by ports_made es
gates_all c [] = same_length c.gates
gates_all c (e ∷ es) = omega (arith, gates_all (change_next c e) es, gates_next c e, sum_by-cons ports_made e es)

-- ---- the slots of a run, in the order in which they were made

abbrev pub slot_made : Event → Option ℕ
slot_made (Make n node from) = Some n
slot_made _ = None

abbrev slots_of : List Event → ℕ
slots_of es = length (state_after es).config.slots

abbrev AreNumbered : List Event → Type 0
AreNumbered es = filter_map slot_made es ≡ range_with_len 0 (slots_of es)

slots_there : (es : List Event) (e : Event) → IsNext es e → slots_of (es ++ e ∷ []) ≡ slots_of es + nodes_made e
slots_there es e here = ap (λ (s : State). length s.config.slots) here.next ∙ ap (λ (c : Configuration). length c.slots) (effect_config (state_after es) e) ∙ slots_next (state_after es).config e

none_more : (es : List Event) (e : Event) → IsNext es e → slot_made e ≡ None → nodes_made e ≡ 0 → AreNumbered es → AreNumbered (es ++ e ∷ [])
none_more es e here none zero_ h =
    filter_map-append slot_made es (e ∷ []) ∙ ap (λ o. filter_map slot_made es ++ cons_option o []) none ∙ append-nil (filter_map slot_made es) ∙ h
    ∙ ap (range_with_len 0) (sym (slots_there es e here ∙ ap (λ k. slots_of es + k) zero_ ∙ sym (same_length (state_after es).config.slots)))

one_more : (es : List Event) (n : ℕ) (node : Node) (from : Option ℕ) → IsNext es (Make n node from) → AreNumbered es → AreNumbered (es ++ Make n node from ∷ [])
one_more es n node from here h =
    let room = and_parts _ _ here.legal.room in
    let next : n ≡ slots_of es = eqb-true n (slots_of es) (and_parts _ _ room.0).0 in
    filter_map-append slot_made es (Make n node from ∷ []) ∙ ap (λ xs. xs ++ n ∷ []) h ∙ ap (λ k. range_with_len 0 (slots_of es) ++ k ∷ []) next
    ∙ sym (rising.places_more (slots_of es)) ∙ ap (range_with_len 0) (sym (slots_there es (Make n node from) here))

next_numbered : (es : List Event) (e : Event) → IsNext es e → unbarred e ≡ false → AreNumbered es → AreNumbered (es ++ e ∷ [])
next_numbered es (Make n node from) here free h = one_more es n node from here h
next_numbered es (Begin p k v) here free h = none_more es (Begin p k v) here refl refl h
next_numbered es (Call p k v) here free h = none_more es (Call p k v) here refl refl h
next_numbered es (Miss p) here free h = none_more es (Miss p) here refl refl h
next_numbered es (Take p k v) here free h = none_more es (Take p k v) here refl refl h
next_numbered es (Give p k v) here free h = none_more es (Give p k v) here refl refl h
next_numbered es (More p k v) here free h = none_more es (More p k v) here refl refl h
next_numbered es (Ask p k v) here free h = none_more es (Ask p k v) here refl refl h
next_numbered es (Hear p k v) here free h = none_more es (Hear p k v) here refl refl h
next_numbered es (End p k v) here free h = none_more es (End p k v) here refl refl h
next_numbered es (Close p) here free h = none_more es (Close p) here refl refl h
next_numbered es (Reopen p) here free h = none_more es (Reopen p) here refl refl h
next_numbered es (Link p n x) here free h = none_more es (Link p n x) here refl refl h
next_numbered es (Unlink p) here free h = none_more es (Unlink p) here refl refl h
next_numbered es (Remove n) here free h = none_more es (Remove n) here refl refl h

pub slots_are_numbered : (es : List Event) → IsRun es → filter_map slot_made es ≡ range_with_len 0 (length (state_after es).config.slots)
slots_are_numbered es run = along AreNumbered unbarred next_numbered [] es run (none_barred es) refl

-- ---- the same by lines

made_by_event : (l : HistoryLine) (xs : List ℕ) → cons_option (made_slot l) xs ≡ cons_option (option_and_then slot_made (event_of l)) xs
made_by_event (to.Make n made from) xs = refl
made_by_event (to.Link p n x) xs = refl
made_by_event (to.Unlink p) xs = refl
made_by_event (to.Remove n) xs = refl
made_by_event (to.Close p) xs = refl
made_by_event (to.Reopen p) xs = refl
made_by_event _ xs = refl

through_option : (o : Option Event) (es : List Event) → filter_map slot_made (cons_option o es) ≡ cons_option (option_and_then slot_made o) (filter_map slot_made es)
through_option None es = refl
through_option (Some e) es = refl

pub slots_by_lines : (ls : List HistoryLine) → filter_map made_slot ls ≡ filter_map slot_made (filter_map event_of ls)
slots_by_lines [] = refl
slots_by_lines (l ∷ ls) =
    ap (cons_option (made_slot l)) (slots_by_lines ls) ∙ made_by_event l (filter_map slot_made (filter_map event_of ls)) ∙ sym (through_option (event_of l) (filter_map event_of ls))

node_makes_none : (e : Event) → is_of_change e ≡ false → slot_made e ≡ None
node_makes_none (Make n node from) h = absurd (both_ways true h refl)
node_makes_none _ h = refl

made_by_change : (e : Event) (es kept : List Event) (b : Bool) → is_of_change e ≡ b → filter_map slot_made kept ≡ filter_map slot_made es
    → filter_map slot_made (cond b (e ∷ kept) kept) ≡ filter_map slot_made (e ∷ es)
made_by_change e es kept true h rest = ap (cons_option (slot_made e)) rest
made_by_change e es kept false h rest = rest ∙ sym (ap (λ o. cons_option o (filter_map slot_made es)) (node_makes_none e h))

pub slots_by_change : (es : List Event) → filter_map slot_made (filter is_of_change es) ≡ filter_map slot_made es
slots_by_change [] = refl
slots_by_change (e ∷ es) = made_by_change e es (filter is_of_change es) (is_of_change e) refl (slots_by_change es)
