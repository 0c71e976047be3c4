-- A round by its turns, slot by slot.
use Rattle.std.proofs.Common.{◌≡◌, ◌∙◌, ◌+◌, ◌-◌, ◌<◌, ℕ, Bool, true, false, cond, List, [], ◌∷◌, ◌++◌, Option, Some, suc, refl, sym, ap, subst, arith}
use Rattle.std.specs.Prelude.{◌||◌, ◌&&◌, filter, find, fold, not}
use Rattle.std.proofs.Math.Bool.{or-false}
use Rattle.std.proofs.Math.Logic.{∥∥₁_map}
use Rattle.std.specs.List.{range_with_len}
use Rattle.std.proofs.lemmas.List.Elements.{filter-append}
use Rattle.std.proofs.lemmas.List.Sums.{fold-append}
use Rattle.quiesce_core.specs.State.{Configuration, is_live}
use Rattle.node_turn_laws.specs.Reached.{IsReached}
use Rattle.node_turn_laws.specs.Round.{Round, give_turn}
use Rattle.node_turn_laws.specs.World.{World}
use Rattle.step_board.specs.Going.{Gave, GaveTurnIfLive, ShowsSome, Went, WentOn, before_turns, live_below, turn_if_live, turns_below}
use Rattle.step_board.specs.TurnFacts.{went_live, went_none}
use Rattle.base.proofs.RisingLaws.{places_more}

pub filtered_more : (p : ℕ → Bool) (k : ℕ) → filter p (range_with_len 0 (k + 1)) ≡ filter p (range_with_len 0 k) ++ cond (p k) (k ∷ []) []
filtered_more p k = ap (filter p) (places_more k) ∙ filter-append p (range_with_len 0 k) (k ∷ [])

pub went_below : (begins : Bool) (w : World) (k : ℕ) → IsReached w → WentOn w (turns_below begins w k).world
went_below begins w k r = went_live w begins (range_with_len 0 k) (before_turns w) (went_none w r)

turns_next : (begins : Bool) (w : World) (k : ℕ) → turns_below begins w (k + 1) ≡ cond (is_live w.machine.config k) (give_turn begins (turns_below begins w k) k) (turns_below begins w k)
turns_next begins w k =
    ap (fold (give_turn begins) (before_turns w)) (filtered_more (λ n. is_live w.machine.config n) k)
    ∙ fold-append (give_turn begins) (before_turns w) (live_below w k) (cond (is_live w.machine.config k) (k ∷ []) [])
    ∙ by (is_live w.machine.config k)
  where
    by : (b : Bool) → fold (give_turn begins) (turns_below begins w k) (cond b (k ∷ []) []) ≡ cond b (give_turn begins (turns_below begins w k) k) (turns_below begins w k)
    by true = refl
    by false = refl

module _ {B : Type 0} (S : B → World → Type 0) where
  pub gave_next : (begins : Bool) (w : World) (k : ℕ) (mid new : B) (moved more_ : Bool) → IsReached w → Gave S mid moved (turns_below begins w k) → GaveTurnIfLive S mid new begins k more_
      → Gave S new (moved || more_) (turns_below begins w (k + 1))
  gave_next begins w k mid new moved more_ r h turn_ =
      subst (Gave S new (moved || more_)) (sym (turns_next begins w k))
      (by (is_live w.machine.config k) (ap (λ (c : Configuration). is_live c k) (went_below begins w k r).config) (turn_ so_far.world h.shows))
    where
      so_far : Round
      so_far = turns_below begins w k

      if_so : Bool → Round
      if_so b = cond b (give_turn begins (before_turns so_far.world) k) (before_turns so_far.world)

      by : (b : Bool) → is_live so_far.world.machine.config k ≡ b → Gave S new more_ (turn_if_live begins so_far.world k) → Gave S new (moved || more_) (cond b (give_turn begins so_far k) so_far)
      by true is g =
          let g' = subst (λ b. Gave S new more_ (if_so b)) is g in
          record { shows = g'.shows; moved_is = ap (λ b. b || more_) h.moved_is ∙ ap (λ b. so_far.moved || b) g'.moved_is }
      by false is g =
          let g' = subst (λ b. Gave S new more_ (if_so b)) is g in
          record { shows = g'.shows; moved_is = ap (λ b. b || more_) h.moved_is ∙ ap (λ b. so_far.moved || b) g'.moved_is ∙ or-false so_far.moved }

  pub went_so_far : (begins : Bool) (w : World) (k : ℕ) (mid new : B) (moved : Bool) → IsReached w → Gave S mid moved (turns_below begins w k) → ((v : World) → S mid v → S new v) → Went S new w
  went_so_far begins w k mid new moved r h same =
      record { world = (turns_below begins w k).world; went_on = went_below begins w k r; shows = same (turns_below begins w k).world h.shows }

  pub some_given : (mid new : B) (begins : Bool) (k : ℕ) (more_ : Bool) → GaveTurnIfLive S mid new begins k more_ → ShowsSome S mid → ShowsSome S new
  some_given mid new begins k more_ turn_ some = ∥∥₁_map some (λ h. ((turn_if_live begins h.0 k).world, (turn_ h.0 h.1).shows))

-- ---- the first live node that isn't done

-- the first of those from a slot on is the node there, or the first of those behind it
module _ (live done : ℕ → Bool) (k n : ℕ) (below : k < n) where
  abbrev undone_behind : Option ℕ
  undone_behind = find (λ i. not (done i)) (filter live (range_with_len (k + 1) (n - (k + 1))))

  undone_from : find (λ i. not (done i)) (filter live (range_with_len k (n - k))) ≡ cond (live k && not (done k)) (Some k) undone_behind
  undone_from = let gap : n - k ≡ suc (n - (k + 1)) = omega (arith, below) in ap (λ m. find (λ i. not (done i)) (filter live (range_with_len k m))) gap ∙ by (live k)
    where
      behind : List ℕ
      behind = filter live (range_with_len (k + 1) (n - (k + 1)))

      by : (b : Bool) → find (λ i. not (done i)) (cond b (k ∷ behind) behind) ≡ cond (b && not (done k)) (Some k) undone_behind
      by true = refl
      by false = refl

  pub undone_here : live k ≡ true → done k ≡ false → find (λ i. not (done i)) (filter live (range_with_len k (n - k))) ≡ Some k
  undone_here alive undone =
      undone_from ∙ ap (λ b. cond b (Some k) undone_behind) (ap (λ b. b && not (done k)) alive ∙ ap not undone)

  pub undone_later : (live k && not (done k)) ≡ false → find (λ i. not (done i)) (filter live (range_with_len k (n - k))) ≡ undone_behind
  undone_later passed = undone_from ∙ ap (λ b. cond b (Some k) undone_behind) passed
