-- Rounds in which no node begins leave nothing open after at most as many as there are events left.
use Rattle.std.proofs.Common.{◌≡◌, ◌∙◌, ℕ, zero, suc, ◌+◌, ◌≤◌, Bool, true, false, cond, List, [], ◌∷◌, ap, inl, inr, ◌⊎◌, ⊎_elim, arith}
use Rattle.std.specs.Prelude.{◌↔◌, ◌||◌, fold, is_some}
use Rattle.std.specs.List.{Contains, range_with_len}
use Rattle.std.proofs.lemmas.Bool.{cases_Bool}
use Rattle.base.proofs.ContainsLaws.{Contains-from_filter, Contains-here, Contains-there}
use Rattle.quiesce_word.specs.Phases.{is_idle}
use Rattle.node_turn_laws.proofs.HintLaws.{traffic_where_reached, well_where_reached}
use Rattle.node_turn_laws.proofs.PostedLaws.{round_reaches}
use Rattle.node_turn_laws.specs.Posted.{ArePosted}
use Rattle.quiesce_core.specs.Rest.{rest}
use Rattle.quiesce_core.specs.State.{Configuration, State, exchange, is_live}
use Rattle.quiesce_core.specs.Traffic.{IsConsistent}
use Rattle.quiesce_core.specs.WellFormed.{IsWellFormed}
use Rattle.change_round_laws.proofs.CourseLaws.{turn_config}
use Rattle.node_turn_laws.proofs.ReachedLaws.{turn_goes_on}
use Rattle.node_turn_laws.specs.Reached.{IsReached}
use Rattle.node_turn_laws.specs.Round.{Round, after_rounds, give_turn, live_nodes, round}
use Rattle.node_turn_laws.specs.Turn.{turn}
use Rattle.node_turn_laws.specs.World.{World}
use Rattle.change_round_laws.specs.Waits.{IsAllIdle}
use Rattle.change_round_laws.proofs.MoveLemmas.{RestFalls, turn_spends}

-- what node_turn_laws and quiesce_laws say
abbrev pub StillIsIdle : Type 0
StillIsIdle = (w : World) (allowed : Bool) → IsReached w → ArePosted w → (round allowed w).moved ≡ false → (p : ℕ) → is_idle (exchange w.machine p).phase ≡ true

abbrev pub RoundsPost : Type 0
RoundsPost = (w : World) (allowed : Bool) → IsReached w → ArePosted (round allowed w).world

abbrev pub NothingLeft : Type 0
NothingLeft = (s : State) → IsWellFormed s → IsConsistent s → (rest s ≡ 0) ↔ ((p : ℕ) → is_idle (exchange s p).phase ≡ true)

either_one : (a b : Bool) → cond (a || b) 1 0 ≤ cond a 1 0 + cond b 1 0
either_one true b = omega arith
either_one false b = omega arith

turns_spend : RestFalls → (ns : List ℕ) (r : Round) (k : ℕ) → IsReached r.world → ((n : ℕ) → Contains ns n → is_live r.world.machine.config n ≡ true) → rest r.world.machine + cond r.moved 1 0 ≤ k
    → rest (fold (give_turn false) r ns).world.machine + cond (fold (give_turn false) r ns).moved 1 0 ≤ k
turns_spend falls [] r k reached live h = h
turns_spend falls (n ∷ ns) r k reached live h =
    let w = r.world in
    let alive = live n (Contains-here n ns) in
    let spent = turn_spends falls w n reached alive in
    let one = either_one r.moved (is_some (turn w n false).event) in
    let same = turn_config w n false (λ e is. (turn_goes_on w n false e reached alive is).of_node) in
    turns_spend falls ns (give_turn false r n) k (IsReached.by_turn w n false reached alive)
    (λ i in_. ap (λ (c : Configuration). is_live c i) same ∙ live i (Contains-there n i ns in_)) (omega (arith, h, spent, one))

pub round_spends : RestFalls → (w : World) → IsReached w → rest (round false w).world.machine + cond (round false w).moved 1 0 ≤ rest w.machine
round_spends falls w r =
    turns_spend falls (live_nodes w) (record { world = w; moved = false }) (rest w.machine) r
    (λ n in_. (Contains-from_filter (λ k. is_live w.machine.config k) (range_with_len 0 (Rattle.std.specs.Prelude.length w.machine.config.slots)) n in_).1) (omega arith)

pub round_moves : RestFalls → (w : World) → IsReached w → (round false w).moved ≡ true → rest (round false w).world.machine + 1 ≤ rest w.machine
round_moves falls w r moved =
    let spent = round_spends falls w r in
    let one : ◌≡◌ {A = ℕ} (cond (round false w).moved 1 0) 1 = ap {B = ℕ} (λ b. cond b 1 0) moved in
    omega (arith, spent, one)

module _ (still : StillIsIdle) (post : RoundsPost) (falls : RestFalls) (nothing : NothingLeft) (w : World) (reached : IsReached w) (posted : ArePosted w) where
  -- all rounds so far moved, and each cost an event
  record Moved (j : ℕ) : Type 0 where
    reached_so : IsReached (after_rounds false w j)
    posted_so : ArePosted (after_rounds false w j)
    spent : rest (after_rounds false w j).machine + j ≤ rest w.machine

  abbrev Found : ℕ → Type 0
  Found k = (j : ℕ) × (j ≤ k) × IsAllIdle (after_rounds false w j).machine

  after : (j : ℕ) → Found j ⊎ Moved j
  after zero = inr (record { reached_so = reached; posted_so = posted; spent = omega arith })
  after (suc j) = ⊎_elim
      (λ (found : Found j). let low = found.1 in inl (found.0, omega (arith, low), found.2))
      (λ (m : Moved j).
      let v = after_rounds false w j in
      ⊎_elim
      (λ (moved : (round false v).moved ≡ true).
      let one = round_moves falls v m.reached_so moved in
      let spent = m.spent in
      inr (record { reached_so = (round_reaches v false m.reached_so).0; posted_so = post v false m.reached_so; spent = omega (arith, one, spent) }))
      (λ (stands : (round false v).moved ≡ false). inl (j, omega arith, still v false m.reached_so m.posted_so stands))
      (cases_Bool (round false v).moved))
      (after j)

  pub drained : Found (rest w.machine)
  drained = ⊎_elim
      (λ (found : Found (rest w.machine)). found)
      (λ (m : Moved (rest w.machine)).
      let v = after_rounds false w (rest w.machine) in
      let spent = m.spent in
      let none_ : rest v.machine ≡ 0 = omega (arith, spent) in
      (rest w.machine, omega arith, (nothing v.machine (well_where_reached v m.reached_so) (traffic_where_reached v m.reached_so)).0 none_))
      (after (rest w.machine))
