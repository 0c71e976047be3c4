-- To which node a state went: the slot that was made from another, by the configuration and by events.
use Rattle.std.proofs.Common.{◌≡◌, ◌∙◌, ℕ, suc, ◌+◌, ◌<◌, ◌≤◌, Bool, true, false, not, cond, List, [], ◌∷◌, ◌++◌, length, set, Option, Some, None, refl, sym, ap, subst, ⊎_elim, arith}
use Rattle.std.specs.Prelude.{◌==◌, ◌||◌, find, nat_lt, position, slice_get}
use Rattle.std.specs.List.{list_any, position_or_len, range_with_len}
use Rattle.std.specs.Option.{option_map_or}
use Rattle.std.proofs.lemmas.Bool.{and_parts, cases_eq, cases_lt, eq-eqb, eqb-true, le-ltb, lt-ltb, ne_eqb}
use Rattle.std.proofs.lemmas.List.{length_push}
use Rattle.std.proofs.lemmas.List.Folds.{list_any-append}
use Rattle.std.proofs.lemmas.Option.{slice_get_past, slice_get_within}
use Rattle.base.proofs.PlaceLaws.{slice_get-append_front, slice_get-last, slice_get-set_other, slice_get-set_same}
use Rattle.config_graph.specs.declared.node.Node.{Node}
use Rattle.quiesce_core.specs.Effect.{change_next}
use Rattle.quiesce_core.specs.Runs.{IsRun, state_after}
use Rattle.quiesce_core.specs.State.{Configuration, State, slot}
use Rattle.quiesce_core.specs.declared.event.Event.{Event}
use Rattle.quiesce_core.specs.declared.event.Event.TheVariants.{Begin, Call, Take, Give, End, More, Ask, Hear, Miss, Close, Reopen, Make, Link, Unlink, Remove}
use Rattle.quiesce_core.specs.declared.state.Slot.{Slot}
use Rattle.quiesce_core.proofs.InductionLaws.{IsNext, along, unbarred, none_barred}
use Rattle.quiesce_core.proofs.RunLaws.{effect_config}
use Rattle.change_board.specs.Collecting.{took_over}
use Rattle.std.proofs.Math.Bool.{or-false}

-- the first place at which a test passes, of numbers and of a list's elements
lower_both : (q n : ℕ) → nat_lt q n ≡ nat_lt (1 + q) (suc n)
lower_both q n = ⊎_elim
    (λ (below : q < n). lt-ltb q n below ∙ sym (lt-ltb (1 + q) (suc n) (omega (arith, below))))
    (λ (past : n ≤ q). le-ltb q n past ∙ sym (le-ltb (1 + q) (suc n) (omega (arith, past))))
    (cases_lt q n)

found_by : (p_ : Bool) (a q n : ℕ) (first rest : Option ℕ) → first ≡ Some a → rest ≡ cond (nat_lt q n) (Some (a + 1 + q)) None
    → cond p_ first rest ≡ cond (nat_lt (cond (not p_) (1 + q) 0) (suc n)) (Some (a + cond (not p_) (1 + q) 0)) None
found_by true a q n first rest is later = is ∙ ap Some (omega arith) ∙ ap (λ b. cond b (Some (a + 0)) None) (sym (lt-ltb 0 (suc n) (omega arith)))
found_by false a q n first rest is later =
    later ∙ ap (λ i. cond (nat_lt q n) (Some i) None) (omega arith) ∙ ap (λ b. cond b (Some (a + (1 + q))) None) (lower_both q n)

found_from : {A : Type 0} (p : A → Bool) (test : ℕ → Bool) (a : ℕ) (xs : List A) → ((j : ℕ) → j < length xs → test (a + j) ≡ option_map_or p (slice_get xs j) false)
    → find test (range_with_len a (length xs)) ≡ cond (nat_lt (position_or_len p xs) (length xs)) (Some (a + position_or_len p xs)) None
found_from p test a [] h = refl
found_from p test a (x ∷ xs) h =
    let here : test a ≡ p x = subst (λ i. test i ≡ p x) (omega arith) (h 0 (omega arith)) in
    let later = found_from p test (a + 1) xs (λ j l. subst (λ i. test i ≡ option_map_or p (slice_get xs j) false) (omega arith) (h (suc j) (omega (arith, l)))) in
    ap (λ b. cond b (Some a) (find test (range_with_len (a + 1) (length xs)))) here
    ∙ found_by (p x) a (position_or_len p xs) (length xs) (Some a) (find test (range_with_len (a + 1) (length xs))) refl later

pub found_at : {A : Type 0} (p : A → Bool) (test : ℕ → Bool) (xs : List A) → ((j : ℕ) → j < length xs → test j ≡ option_map_or p (slice_get xs j) false)
    → find test (range_with_len 0 (length xs)) ≡ position p xs
found_at p test xs h =
    found_from p test 0 xs (λ j l. subst (λ i. test i ≡ option_map_or p (slice_get xs j) false) (omega arith) (h j l))
    ∙ ap (λ q. cond (nat_lt (position_or_len p xs) (length xs)) (Some q) None) (omega arith)

-- whether an event makes slot j from slot n
abbrev pub makes_from : ℕ → ℕ → Event → Bool
makes_from n j (Make i node from) = cond (i == j) (option_map_or (λ k. k == n) from false) false
makes_from n j _ = false

abbrev is_from : ℕ → Configuration → ℕ → Bool
is_from n c j = option_map_or (took_over n) (slot c j) false

pushed_elsewhere : {A : Type 0} (xs : List A) (y : A) (j : ℕ) → (j ≡ length xs → ⊥) → slice_get (xs ++ y ∷ []) j ≡ slice_get xs j
pushed_elsewhere xs y j other = ⊎_elim
    (λ (within : j < length xs). slice_get-append_front xs (y ∷ []) j within)
    (λ (past : length xs ≤ j). slice_get_past (xs ++ y ∷ []) j (omega (arith, past, other, length_push xs y)) ∙ sym (slice_get_past xs j past))
    (cases_lt j (length xs))

module _ (n : ℕ) where
  -- a node that is removed keeps from where it was made
  removed_from : (c : Configuration) (r j : ℕ) (o : Option Slot) → slot c r ≡ o
      → option_map_or (took_over n) (slice_get (option_map_or (λ (m : Slot). set c.slots r (record m { live = false })) o c.slots) j) false ≡ is_from n c j
  removed_from c r j None is = refl
  removed_from c r j (Some m) is = ⊎_elim
      (λ (same : j ≡ r). ap (λ i. option_map_or (took_over n) (slice_get (set c.slots r (record m { live = false })) i) false) same
      ∙ ap (λ o. option_map_or (took_over n) o false) (slice_get-set_same c.slots r (record m { live = false }) (slice_get_within c.slots r m is))
      ∙ sym (ap (λ o. option_map_or (took_over n) o false) (ap (slot c) same ∙ is)))
      (λ (other : j ≡ r → ⊥). ap (λ o. option_map_or (took_over n) o false) (slice_get-set_other c.slots r (record m { live = false }) j other))
      (cases_eq j r)

  abbrev AreFrom : List Event → Type 0
  AreFrom es = (j : ℕ) → list_any (makes_from n j) es ≡ is_from n (state_after es).config j

  config_there : (es : List Event) (e : Event) → IsNext es e → (state_after (es ++ e ∷ [])).config ≡ change_next (state_after es).config e
  config_there es e here = ap (λ (s : State). s.config) here.next ∙ effect_config (state_after es) e

  stays_from : (es : List Event) (e : Event) → IsNext es e → ((j : ℕ) → makes_from n j e ≡ false) → ((j : ℕ) → is_from n (change_next (state_after es).config e) j ≡ is_from n (state_after es).config j)
      → AreFrom es → AreFrom (es ++ e ∷ [])
  stays_from es e here none same h = λ j.
      list_any-append (makes_from n j) es (e ∷ []) ∙ ap (λ b. list_any (makes_from n j) es || (b || false)) (none j) ∙ or-false (list_any (makes_from n j) es)
      ∙ h j ∙ sym (same j) ∙ sym (ap (λ c. is_from n c j) (config_there es e here))

  made_from : (es : List Event) (k : ℕ) (node : Node) (from : Option ℕ) → IsNext es (Make k node from) → AreFrom es → AreFrom (es ++ Make k node from ∷ [])
  made_from es k node from here h = λ j.
      let c = (state_after es).config in
      let made : Slot = record { node = node; first_port = length c.gates; from = from; live = true } in
      let room = and_parts _ _ here.legal.room in
      let next : k ≡ length c.slots = eqb-true k (length c.slots) (and_parts _ _ room.0).0 in
      let parts = list_any-append (makes_from n j) es (Make k node from ∷ []) in
      let there = sym (ap (λ d. is_from n d j) (config_there es (Make k node from) here)) in
      ⊎_elim
      (λ (same : j ≡ length c.slots).
      parts
      ∙ ap (λ b. b || (makes_from n j (Make k node from) || false)) (h j ∙ ap (λ o. option_map_or (took_over n) o false) (slice_get_past c.slots j (omega (arith, same))))
      ∙ ap (λ b. cond b (option_map_or (λ i. i == n) from false) false || false) (eq-eqb k j (next ∙ sym same)) ∙ or-false (option_map_or (λ i. i == n) from false)
      ∙ sym (ap (λ o. option_map_or (took_over n) o false) (ap (slice_get (c.slots ++ made ∷ [])) same ∙ slice_get-last c.slots made)) ∙ there)
      (λ (other : j ≡ length c.slots → ⊥).
      parts
      ∙ ap (λ b. list_any (makes_from n j) es || (cond b (option_map_or (λ i. i == n) from false) false || false)) (ne_eqb k j (λ e. other (sym e ∙ next)))
      ∙ or-false (list_any (makes_from n j) es) ∙ h j ∙ sym (ap (λ o. option_map_or (took_over n) o false) (pushed_elsewhere c.slots made j other)) ∙ there)
      (cases_eq j (length c.slots))

  next_from : (es : List Event) (e : Event) → IsNext es e → unbarred e ≡ false → AreFrom es → AreFrom (es ++ e ∷ [])
  next_from es (Make k node from) here free h = made_from es k node from here h
  next_from es (Remove r) here free h = stays_from es (Remove r) here (λ j. refl) (λ j. removed_from (state_after es).config r j (slot (state_after es).config r) refl) h
  next_from es (Begin p k v) here free h = stays_from es (Begin p k v) here (λ j. refl) (λ j. refl) h
  next_from es (Call p k v) here free h = stays_from es (Call p k v) here (λ j. refl) (λ j. refl) h
  next_from es (Miss p) here free h = stays_from es (Miss p) here (λ j. refl) (λ j. refl) h
  next_from es (Take p k v) here free h = stays_from es (Take p k v) here (λ j. refl) (λ j. refl) h
  next_from es (Give p k v) here free h = stays_from es (Give p k v) here (λ j. refl) (λ j. refl) h
  next_from es (More p k v) here free h = stays_from es (More p k v) here (λ j. refl) (λ j. refl) h
  next_from es (Ask p k v) here free h = stays_from es (Ask p k v) here (λ j. refl) (λ j. refl) h
  next_from es (Hear p k v) here free h = stays_from es (Hear p k v) here (λ j. refl) (λ j. refl) h
  next_from es (End p k v) here free h = stays_from es (End p k v) here (λ j. refl) (λ j. refl) h
  next_from es (Close p) here free h = stays_from es (Close p) here (λ j. refl) (λ j. refl) h
  next_from es (Reopen p) here free h = stays_from es (Reopen p) here (λ j. refl) (λ j. refl) h
  next_from es (Link p m x) here free h = stays_from es (Link p m x) here (λ j. refl) (λ j. refl) h
  next_from es (Unlink p) here free h = stays_from es (Unlink p) here (λ j. refl) (λ j. refl) h

  pub from_events : (es : List Event) → IsRun es → AreFrom es
  from_events es run = along AreFrom unbarred next_from [] es run (none_barred es) (λ j. refl)

  -- the first of the slots that was made from it
  pub heir_by_events : (es : List Event) → IsRun es
      → find (λ j. list_any (makes_from n j) es) (range_with_len 0 (length (state_after es).config.slots)) ≡ position (took_over n) (state_after es).config.slots
  heir_by_events es run = found_at (took_over n) (λ j. list_any (makes_from n j) es) (state_after es).config.slots (λ j l. from_events es run j)
