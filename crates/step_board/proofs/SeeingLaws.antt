-- What a scan sees of the nodes and ports of a world is what there is.
use Rattle.std.proofs.Common.{◌≡◌, ◌∙◌, ◌<◌, ◌≤◌, ◌+◌, ℕ, zero, suc, Bool, false, cond, List, [], ◌∷◌, Option, Some, map, length, refl, sym, ap, subst, arith, ⊎_elim}
use Rattle.std.specs.Prelude.{◌==◌, ◌&&◌, find, option_map, slice_index_or}
use Rattle.std.specs.List.{list_all, range_with_len}
use Rattle.std.specs.Option.{option_map_or}
use Rattle.std.proofs.lemmas.Bool.{cases_eq, eq-eqb, ne_eqb}
use Rattle.std.proofs.lemmas.List.FromFn.{get_or-map-range_with_len, length-map-range_with_len}
use Rattle.base.proofs.FindLaws.{find-map}
use Rattle.change_board.proofs.SightLaws.{seen_fold}
use Rattle.change_board.specs.Scans.{look_entry, ports_of}
use Rattle.change_board.specs.Sights.{Sight, fold_seen, is_seen_done, seen_in, sight_entry}
use Rattle.component_trait.specs.Moves as moves
use Rattle.quiesce_core.specs.Runs.{done_by, state_after}
use Rattle.quiesce_core.specs.State.{Configuration, State}
use Rattle.quiesce_core.specs.Words.{word_of}
use Rattle.quiesce_core.specs.declared.event.Event.{Event}
use Rattle.node_turn_laws.specs.Reached.{IsReached}
use Rattle.node_turn_laws.specs.Round.{is_done}
use Rattle.node_turn_laws.specs.World.{World, state_of}
use Rattle.step_board.specs.Seeing.{found_at, sight_of, sights_of}
use Rattle.change_spec.specs.Opening.{fold_of_node}
use Rattle.step_board.specs.RunFacts.{machine_is}
use Rattle.step_board.proofs.StandingLemmas.{AreSeen}

-- ---- looks

pub looks_seen : (w : World) (s : State) (ps : List ℕ) → w.machine ≡ s → AreSeen w (map look_entry (map (found_at s) ps))
looks_seen w s [] e = tt
looks_seen w s (p ∷ ps) e = ((refl, ap (λ m. word_of m p) (sym e)), looks_seen w s ps e)

pub looks_at_all : (s : State) (ps : List ℕ) → ports_of (map (found_at s) ps) ≡ ps
looks_at_all s [] = refl
looks_at_all s (p ∷ ps) = ap (λ qs. p ∷ qs) (looks_at_all s ps)

-- ---- sights

abbrev logs_of : List Event → ℕ → List (List Event)
logs_of es count = map (λ n. done_by n es) (range_with_len 0 count)

log_at : (es : List Event) (count n : ℕ) → n < count → slice_index_or (logs_of es count) n [] ≡ done_by n es
log_at es count n below = get_or-map-range_with_len (λ k. done_by k es) 0 count n n [] below (omega arith)

sights_from : (w : World) (logs : List (List Event)) (a n : ℕ) → ((k : ℕ) → k < a + n → slice_index_or logs k [] ≡ done_by k w.events)
    → AreSeen w (map sight_entry (map (sight_of logs) (range_with_len a n)))
sights_from w logs a zero h = tt
sights_from w logs a (suc n) h = ((refl, h a (omega arith)), sights_from w logs (a + 1) n (λ k below. h k (omega (arith, below))))

module _ (w : World) (logs : List (List Event)) (is : logs ≡ logs_of w.events (length w.machine.config.slots)) where
  abbrev count : ℕ
  count = length w.machine.config.slots

  length_is : length logs ≡ count
  length_is = ap length is ∙ length-map-range_with_len (λ n. done_by n w.events) 0 count

  pub log_there : (k : ℕ) → k < length logs → slice_index_or logs k [] ≡ done_by k w.events
  log_there k below = ap (λ ls. slice_index_or ls k []) is ∙ log_at w.events count k (omega (arith, below, length_is))

  pub sights_seen : AreSeen w (map sight_entry (sights_of logs))
  sights_seen = sights_from w logs 0 (length logs) (λ k below. log_there k (omega (arith, below)))

pub find_in_range : (a n k : ℕ) → a ≤ k → k < a + n → find (λ x. x == k) (range_with_len a n) ≡ Some k
find_in_range a zero k low high = absurd (omega (arith, low, high))
find_in_range a (suc n) k low high = ⊎_elim
    (λ (same : a ≡ k). rw (eq-eqb a k same) (ap Some same))
    (λ (other : a ≡ k → ⊥). rw (ne_eqb a k other) (find_in_range (a + 1) n k (omega (arith, low, other)) (omega (arith, high))))
    (cases_eq a k)

pub sighted_at : (logs : List (List Event)) (k : ℕ) → k < length logs → seen_in (sights_of logs) k ≡ Some (slice_index_or logs k [])
sighted_at logs k below =
    ap (option_map (λ (s : Sight). s.events))
    (find-map (λ (s : Sight). s.slot == k) (sight_of logs) (range_with_len 0 (length logs))
    ∙ ap (option_map (sight_of logs)) (find_in_range 0 (length logs) k (omega arith) (omega (arith, below))))

-- ---- what nodes have come to, by what was seen of them

module _ (w : World) (r : IsReached w) (folds : (n : ℕ) → state_of w n ≡ fold_of_node w.events n) (c : Configuration) (same : c ≡ w.machine.config) (seen : ℕ → Option (List Event))
    (all : (k : ℕ) → k < length w.machine.config.slots → seen k ≡ Some (done_by k w.events)) where
  machine : w.machine ≡ state_after w.events
  machine = machine_is w r

  pub seen_state : (n : ℕ) → fold_seen c seen n ≡ state_of w n
  seen_state n =
      ap (λ d. fold_seen d seen n) (same ∙ ap (λ (s : State). s.config) machine)
      ∙ seen_fold w.events seen n (λ k below. all k (subst (λ (s : State). k < length s.config.slots) (sym machine) below))
      ∙ sym (folds n)

  pub seen_done : (n : ℕ) → is_seen_done c seen n ≡ is_done w n
  seen_done n = ap (λ o. option_map_or moves.is_done o false) (seen_state n)

pub all_agree : (f g : ℕ → Bool) (xs : List ℕ) → ((n : ℕ) → f n ≡ g n) → list_all f xs ≡ list_all g xs
all_agree f g [] h = refl
all_agree f g (x ∷ xs) h = ap (λ b. b && list_all f xs) (h x) ∙ ap (λ b. g x && b) (all_agree f g xs h)

pub find_agree : (f g : ℕ → Bool) (xs : List ℕ) → ((n : ℕ) → f n ≡ g n) → find f xs ≡ find g xs
find_agree f g [] h = refl
find_agree f g (x ∷ xs) h = ap (λ b. cond b (Some x) (find f xs)) (h x) ∙ ap (cond (g x) (Some x)) (find_agree f g xs h)
