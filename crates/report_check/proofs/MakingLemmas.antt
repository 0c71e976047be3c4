-- In a run each node may be made where it is, and each event's value is one.
use Rattle.std.proofs.Common.{◌≡◌, ◌∙◌, ℕ, zero, suc, Bool, true, false, cond, not, ◌&&◌, ◌||◌, List, [], ◌∷◌, ◌++◌, append_assoc, length, Option, Some, None, refl, sym, ap, subst, ⊎_elim, arith}
use Rattle.std.specs.Prelude.{◌==◌, filter_map, is_none, slice_get, slice_set}
use Rattle.std.specs.List.{cons_option, list_all, list_any}
use Rattle.std.specs.Option.{option_map_or}
use Rattle.std.proofs.lemmas.Bool.{and_from, and_parts, both_ways, eqb-true, lt-ltb, not-true, or_cases, or_left, or_right}
use Rattle.std.proofs.lemmas.Option.{same_Some}
use Rattle.std.proofs.lemmas.List.Elements.{filter_map-append}
use Rattle.std.proofs.lemmas.List.Folds.{list_all-append, list_any-append}
use Rattle.base.specs.Each.{EachAfter}
use Rattle.base.proofs.FindLaws.{find-some}
use Rattle.base.proofs.OptionLaws.{map_or_true}
use Rattle.component_trait.specs.Following.{value_of}
use Rattle.config_graph.specs.declared.node.Node.{Node}
use Rattle.config_graph.specs.declared.TheConstants.{VALUE_LIMIT}
use Rattle.quiesce_core.specs.declared.event.Event.{Event}
use Rattle.quiesce_core.specs.declared.event.Event.TheVariants as event
use Rattle.quiesce_core.specs.declared.state.Slot.{Slot}
use Rattle.quiesce_core.specs.Effect.{effect}
use Rattle.quiesce_core.specs.Legal.{CanMake, Legal}
use Rattle.quiesce_core.specs.Rules.{can_move, has_its_argument, has_room, is_kind, is_last_message, is_path_taken, is_value, was_moved}
use Rattle.quiesce_core.specs.Runs.{IsRun, done_by, done_from, is_doer, state_after}
use Rattle.quiesce_core.specs.State.{Configuration, State, empty, exchange, slot}
use Rattle.quiesce_core.specs.WellFormed.{IsWellFormed}
use Rattle.quiesce_core.proofs.InductionLaws.{always, place}
use Rattle.report_types.specs.declared.report.HistoryLine.{HistoryLine}
use Rattle.report_types.specs.declared.report.HistoryLine.TheVariants as to
use Rattle.change_spec.specs.Endings.{is_made_from, moved_to}
use Rattle.change_spec.specs.Members.{event_of, made_slot}
use Rattle.change_spec.specs.Scene.{config_after}
use Rattle.quiesce_laws.specs.Steps.{change_all}
use Rattle.change_round_laws.proofs.LineLaws.{config_of}
use Rattle.report_check.specs.Makeable.{IsMakeable, is_left_over, is_makeable}

-- ---- a state that went somewhere was taken over

abbrev is_from : ℕ → Slot → Bool
is_from k m = option_map_or (λ f. f == k) m.from false

set_any : (p : Slot → Bool) (xs : List Slot) (n : ℕ) (x y : Slot) → slice_get xs n ≡ Some x → p y ≡ p x → list_any p xs ≡ true → list_any p (slice_set xs n y) ≡ true
set_any p [] n x y at same any = any
set_any p (z ∷ xs) zero x y at same any = ap (λ b. b || list_any p xs) (same ∙ ap p (sym (same_Some z x at))) ∙ any
set_any p (z ∷ xs) (suc n) x y at same any = ⊎_elim
    (λ (here : p z ≡ true). or_left (p z) (list_any p (slice_set xs n y)) here)
    (λ (there : list_any p xs ≡ true). or_right (p z) (list_any p (slice_set xs n y)) (set_any p xs n x y at same there))
    (or_cases (p z) (list_any p xs) any)

removed_moved : (c : Configuration) (n k : ℕ) (o : Option Slot) → slot c n ≡ o → was_moved c k ≡ true → list_any (is_from k) (option_map_or (λ (m : Slot). slice_set c.slots n (record m { live = false })) o c.slots) ≡ true
removed_moved c n k None at was = was
removed_moved c n k (Some m) at was = set_any (is_from k) c.slots n m (record m { live = false }) at refl was

-- it stays taken over, behind each line
moved_next : (c : Configuration) (l : HistoryLine) (k : ℕ) → was_moved c k ≡ true → was_moved (change_all c (cons_option (event_of l) [])) k ≡ true
moved_next c (to.Make n node from) k was =
    list_any-append (is_from k) c.slots (record { node = node; first_port = length c.gates; from = from; live = true } ∷ []) ∙ or_left (was_moved c k) _ was
moved_next c (to.Remove n) k was = removed_moved c n k (slot c n) refl was
moved_next c _ k was = was

made_now : (c : Configuration) (l : HistoryLine) (k j : ℕ) → is_made_from k j l ≡ true → was_moved (change_all c (cons_option (event_of l) [])) k ≡ true
made_now c (to.Make n node from) k j made =
    list_any-append (is_from k) c.slots (record { node = node; first_port = length c.gates; from = from; live = true } ∷ [])
    ∙ or_right (was_moved c k) _ (or_left (option_map_or (λ f. f == k) from false) false (by (n == j) made))
  where
    by : (b : Bool) → cond b (option_map_or (λ f. f == k) from false) false ≡ true → option_map_or (λ f. f == k) from false ≡ true
    by true h = h
    by false h = absurd (both_ways false refl h)
made_now c _ k j made = absurd (both_ways false refl made)

behind : (c : Configuration) (o : Option Event) (es : List Event) → change_all c (cons_option o es) ≡ change_all (change_all c (cons_option o [])) es
behind c None es = refl
behind c (Some e) es = refl

taken_over : (c : Configuration) (ls : List HistoryLine) (k j : ℕ) → (list_any (is_made_from k j) ls || was_moved c k) ≡ true → was_moved (change_all c (filter_map event_of ls)) k ≡ true
taken_over c [] k j either = either
taken_over c (l ∷ ls) k j either =
    let d = change_all c (cons_option (event_of l) []) in
    ap (λ (e : Configuration). was_moved e k) (behind c (event_of l) (filter_map event_of ls))
    ∙ taken_over d ls k j
    (⊎_elim
    (λ (any : (is_made_from k j l || list_any (is_made_from k j) ls) ≡ true). ⊎_elim
    (λ (here : is_made_from k j l ≡ true). or_right (list_any (is_made_from k j) ls) (was_moved d k) (made_now c l k j here))
    (λ (there : list_any (is_made_from k j) ls ≡ true). or_left (list_any (is_made_from k j) ls) (was_moved d k) there)
    (or_cases (is_made_from k j l) (list_any (is_made_from k j) ls) any))
    (λ (was : was_moved c k ≡ true). or_right (list_any (is_made_from k j) ls) (was_moved d k) (moved_next c l k was))
    (or_cases (is_made_from k j l || list_any (is_made_from k j) ls) (was_moved c k) either))

went_nowhere : (ls : List HistoryLine) (k : ℕ) → was_moved (config_after ls) k ≡ false → is_none (moved_to ls k) ≡ true
went_nowhere ls k unmoved = by (moved_to ls k) refl
  where
    by : (o : Option ℕ) → moved_to ls k ≡ o → is_none o ≡ true
    by None is = refl
    by (Some j) is =
        let found = find-some (λ i. list_any (is_made_from k i) ls) (filter_map made_slot ls) j is in
        absurd (both_ways (was_moved (config_after ls) k) unmoved (taken_over empty.config ls k j (or_left (list_any (is_made_from k j) ls) (was_moved empty.config k) found.1)))

-- ---- each node may be made

makeable : (before : List HistoryLine) (n : ℕ) (node : Node) (from : Option ℕ) → CanMake (config_after before) n node from → is_makeable before n node from ≡ true
makeable before n node from l =
    and_from (has_room c n node && has_its_argument node) (option_map_or (is_left_over before) from true)
    (and_from (has_room c n node) (has_its_argument node) l.room (and_parts (not (is_path_taken c node.path)) (has_its_argument node) l.new_path).1)
    (by from l.moves)
  where
    c : Configuration
    c = config_after before

    by : (o : Option ℕ) → option_map_or (λ k. can_move c k node.kind) o true ≡ true → option_map_or (is_left_over before) o true ≡ true
    by None h = refl
    by (Some k) h =
        let both = and_parts (option_map_or (λ (m : Slot). not m.live && is_kind m.node.kind node.kind) (slot c k) false) (not (was_moved c k)) h in
        let m = map_or_true (λ (m : Slot). not m.live && is_kind m.node.kind node.kind) (slot c k) both.0 in
        ap (λ o. option_map_or (λ (x : Slot). not x.live && is_none (moved_to before k)) o false) m.1
        ∙ and_from (not m.0.live) (is_none (moved_to before k)) (and_parts (not m.0.live) (is_kind m.0.node.kind node.kind) m.2).0 (went_nowhere before k (not-true (was_moved c k) both.1))

pub makes_of_run : (before ls : List HistoryLine) → IsRun (filter_map event_of (before ++ ls)) → EachAfter IsMakeable before ls
makes_of_run before [] run = tt
makes_of_run before (l ∷ ls) run =
    (one l (subst IsRun (filter_map-append event_of before (l ∷ ls)) run), makes_of_run (before ++ l ∷ []) ls (subst (λ xs. IsRun (filter_map event_of xs)) (sym (append_assoc before (l ∷ []) ls)) run))
  where
    one : (x : HistoryLine) → IsRun (filter_map event_of before ++ filter_map event_of (x ∷ ls)) → IsMakeable before x
    one (to.Make n node from) h =
        let next = place (filter_map event_of before) (filter_map event_of ls) (event.Make n node from) h in
        makeable before n node from (subst (λ (c : Configuration). CanMake c n node from) (config_of before) next.legal)
    one _ h = tt

-- ---- values

abbrev pub has_value : Event → Bool
has_value e = is_value (value_of e)

last_is_small : (s : State) (p k v : ℕ) → IsWellFormed s → is_last_message s p k v ≡ true → is_value v ≡ true
last_is_small s p k v well h =
    let same = eqb-true v (exchange s p).value (and_parts (k == (exchange s p).serial) (v == (exchange s p).value) h).1 in
    lt-ltb v VALUE_LIMIT (omega (arith, same, (well.bounds p).value))

small_next : (s : State) (e : Event) → IsWellFormed s → Legal s e → has_value e ≡ true
small_next s (event.Begin p k v) well l = l.value
small_next s (event.Call p k v) well l = l.value
small_next s (event.Give p k v) well l = l.value
small_next s (event.More p k v) well l = l.value
small_next s (event.Ask p k v) well l = l.value
small_next s (event.Take p k v) well l = last_is_small s p k v well l.message
small_next s (event.Hear p k v) well l = last_is_small s p k v well l.message
small_next s (event.End p k v) well l = last_is_small s p k v well l.message
small_next s _ well l = refl

all_small : (es : List Event) → IsRun es → list_all has_value es ≡ true
all_small es run = always (λ xs. list_all has_value xs ≡ true)
    (λ before e here so_far.
    list_all-append has_value before (e ∷ [])
    ∙ and_from (list_all has_value before) (has_value e && true) so_far (and_from (has_value e) true (small_next (state_after before) e here.well here.legal) refl))
    refl es run

own_pass : (p : Event → Bool) (s : State) (n : ℕ) (es : List Event) → list_all p es ≡ true → list_all p (done_from s n es) ≡ true
own_pass p s n [] all = refl
own_pass p s n (e ∷ es) all = by (is_doer s n e) (own_pass p (effect s e) n es parts.1)
  where
    parts : (p e ≡ true) × (list_all p es ≡ true)
    parts = and_parts (p e) (list_all p es) all

    by : (b : Bool) → list_all p (done_from (effect s e) n es) ≡ true → list_all p (cond b (e ∷ done_from (effect s e) n es) (done_from (effect s e) n es)) ≡ true
    by true rest = and_from (p e) (list_all p (done_from (effect s e) n es)) parts.0 rest
    by false rest = rest

pub values_of_run : (es : List Event) (n : ℕ) → IsRun es → list_all has_value (done_by n es) ≡ true
values_of_run es n run = own_pass has_value empty n es (all_small es run)
