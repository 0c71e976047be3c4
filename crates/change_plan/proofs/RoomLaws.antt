-- Laws of room: so many nodes and ports are wanted and no others; there is room or there isn't, never both, and where there is
-- none the refusal is one.
use Rattle.std.proofs.Common.{◌≡◌, ◌⊎◌, ◌∙◌, ◌+◌, ℕ, Result, Ok, Err, IfErr, IsOk, OnOk, ap, arith, length, sum_by, inl, inr, refl, sym}
use Rattle.std.specs.List.{range_with_len}
use Rattle.std.proofs.lemmas.Bool.{cases_lt}
use Rattle.config_graph.specs.Graph.{Graph, requires_at}
use Rattle.config_graph.specs.declared.TheConstants.{MAX_NODES, MAX_PORTS}
use Rattle.config_graph.specs.declared.node.Made.{Made}
use Rattle.change_plan.specs.Differences.{IsGone}
use Rattle.change_plan.specs.Refusals.{CreatesSoMany}
use Rattle.change_plan.specs.Room.{HasRoom, RoomFault}
use Rattle.change_plan.specs.declared.error.PlanError.{PlanError}
use Rattle.change_plan.specs.declared.error.PlanError.TheVariants.{NotRemoved, NotCreated, KindsDiffer, MovedTwice, NodesFull, PortsFull, NoMemory}
use Rattle.change_plan.proofs.SelectsLaws.{Selects-one}

-- how much is wanted
pub one_wanted : (old new : Graph) (n p m q : ℕ) → CreatesSoMany old new n p → CreatesSoMany old new m q → (n ≡ m) × (p ≡ q)
one_wanted old new n p m q a b =
    let same : a.created ≡ b.created = Selects-one (IsGone new old) (range_with_len 0 (length new.nodes)) a.created b.created a.gone b.gone in
    (a.nodes_are ∙ ap length same ∙ sym b.nodes_are, a.ports_are ∙ ap (sum_by (requires_at new.nodes)) same ∙ sym b.ports_are)

module _ (made : Made) (n p : ℕ) where
  pub room_or_fault : HasRoom made n p ⊎ ((e : PlanError) × RoomFault made n p e)
  room_or_fault =
      elim (cases_lt MAX_NODES (made.nodes + n)) [
        | inl full ↦ inr (NodesFull made.nodes n, record { made_is = refl; wanted_is = refl; full = full })
        | inr nodes_fit ↦
            elim (cases_lt MAX_PORTS (made.ports + p)) [
              | inl full ↦ inr (PortsFull made.ports p, (nodes_fit, record { made_is = refl; wanted_is = refl; full = full }))
              | inr ports_fit ↦ inl (record { nodes_fit = nodes_fit; ports_fit = ports_fit })
            ]
      ]

  pub no_room : (e : PlanError) → HasRoom made n p → ¬ RoomFault made n p e
  no_room (NodesFull a w) room x = omega (arith, x.full, room.nodes_fit)
  no_room (PortsFull a w) room (low, x) = omega (arith, x.full, room.ports_fit)
  no_room (NotRemoved q) room x = x
  no_room (NotCreated q) room x = x
  no_room (KindsDiffer q r) room x = x
  no_room (MovedTwice q) room x = x
  no_room NoMemory room x = x

  pub one_room : (d e : PlanError) → RoomFault made n p d → RoomFault made n p e → d ≡ e
  one_room (NodesFull a w) (NodesFull b v) x y = λ k. NodesFull ((x.made_is ∙ sym y.made_is) k) ((x.wanted_is ∙ sym y.wanted_is) k)
  one_room (NodesFull a w) (PortsFull b v) x (low, y) = absurd (omega (arith, x.full, low))
  one_room (PortsFull a w) (NodesFull b v) (low, x) y = absurd (omega (arith, y.full, low))
  one_room (PortsFull a w) (PortsFull b v) (low, x) (also, y) = λ k. PortsFull ((x.made_is ∙ sym y.made_is) k) ((x.wanted_is ∙ sym y.wanted_is) k)
  one_room (NotRemoved q) e x y = absurd x
  one_room (NotCreated q) e x y = absurd x
  one_room (KindsDiffer q r) e x y = absurd x
  one_room (MovedTwice q) e x y = absurd x
  one_room NoMemory e x y = absurd x
  one_room d (NotRemoved q) x y = absurd y
  one_room d (NotCreated q) x y = absurd y
  one_room d (KindsDiffer q r) x y = absurd y
  one_room d (MovedTwice q) x y = absurd y
  one_room d NoMemory x y = absurd y

  -- so an answer that is right is the only one
  module _ {T : Type 0} (r : Result T PlanError) (accepted : OnOk r (HasRoom made n p)) (refused : IfErr r (RoomFault made n p)) where
    pub accepts_room : HasRoom made n p → IsOk r
    accepts_room room = by r refused
      where
        by : (s : Result T PlanError) → IfErr s (RoomFault made n p) → IsOk s
        by (Ok x) told = refl
        by (Err e) told = absurd (no_room e room told)

    pub refuses_fault : (e : PlanError) → RoomFault made n p e → r ≡ Err e
    refuses_fault e fault = by r accepted refused
      where
        by : (s : Result T PlanError) → OnOk s (HasRoom made n p) → IfErr s (RoomFault made n p) → s ≡ Err e
        by (Ok x) has told = absurd (no_room e has fault)
        by (Err d) has told = ap Err (one_room d e told fault)
