-- The steps by which seats are taken in and given out, at any seat that is a node's or the change's.
use Rattle.std.proofs.Common.{◌≡◌, ◌∙◌, ℕ, ◌<◌, List, [], ◌∷◌, sym, ap, subst}
use Rattle.atomic_table.specs.Table.{Allows, Joins, Splits, step}
use Rattle.config_graph.specs.declared.TheConstants.{MAX_PORTS}
use Rattle.txn_spec.specs.Merging.{AreAllAmong, Learns, Meets, Merges, MergesBy}
use Rattle.txn_spec.specs.Steps.{IsChange, IsNode, Seat}
use Rattle.txn_spec.specs.Views.{change_of, given_out, node_of, nobody, of_change, of_node, seat_again, with_seat, with_sight}
use Rattle.txn_spec.specs.Traces.{Holds, port_place}
use Rattle.txn_gate.proofs.AsSeats as seats
use Rattle.txn_spec.specs.declared.view.NodeView.{NodeView}
use Rattle.txn_spec.proofs.MergingLaws as merging
use Rattle.txn_spec.proofs.SeatStepLaws as seat_
use mathlib.Core.Option.{none}

module _ (id : ℕ) (me : Seat) (is : IsChange me) where
  module _ (other : ℕ) (you : Seat) (node : IsNode you) where
    -- what holds of the change's seat and a node's
    as_both : (P : Seat → Seat → Type 0) → P (of_change me.0.nodes (change_of me.0), []) (of_node (node_of you.0), []) → P me you
    as_both P h = subst (λ (y : Seat × Seat). P y.0 y.1) (λ i. (sym is i, sym node i)) h

    pub takes_seat : Joins Holds id me.0 other you.0 (with_seat me.0 you.0) nobody
    takes_seat = as_both (λ m y. Joins Holds id m.0 other y.0 (with_seat m.0 y.0) nobody) (seat_.takes_seat id me.0.nodes (change_of me.0) other (node_of you.0))

    pub takes_sight : Joins Holds id me.0 other you.0 (with_sight me.0 you.0) nobody
    takes_sight = as_both (λ m y. Joins Holds id m.0 other y.0 (with_sight m.0 y.0) nobody) (seat_.takes_sight id me.0.nodes (change_of me.0) other (node_of you.0))

  module _ (nodes : List NodeView) (some : me.0.nodes ≡ node_of me.0 ∷ nodes) where
    -- what holds of a change's seat that took one in
    as_holder : (P : Seat → Type 0) → P (of_change (node_of me.0 ∷ nodes) (change_of me.0), []) → P me
    as_holder P h = subst P (sym (is ∙ ap (λ ns. (of_change ns (change_of me.0), [])) some)) h

    pub gives_back : Splits Holds id me.0 (given_out me.0) (seat_again me.0)
    gives_back = as_holder (λ m. Splits Holds id m.0 (given_out m.0) (seat_again m.0)) (seat_.gives_back id (node_of me.0) nodes (change_of me.0))

    pub meets : (slots i : ℕ) → Allows Holds slots id me i (λ x. x) (Meets (step slots i 0 0 none) me)
    meets slots i = as_holder (λ m. Allows Holds slots id m i (λ x. x) (Meets (step slots i 0 0 none) m)) (merging.meets slots id i (node_of me.0) nodes (change_of me.0))

  pub learns : (slots i : ℕ) → Allows Holds slots id me i (λ x. x) (Learns (step slots i 0 0 none) me)
  learns slots i = subst (λ m. Allows Holds slots id m i (λ x. x) (Learns (step slots i 0 0 none) m)) (sym is) (merging.learns slots id i me.0.nodes (change_of me.0))

  pub merges : (slots p i : ℕ) → i ≡ port_place p → p < MAX_PORTS → AreAllAmong (change_of me.0).seats me.0.nodes → Allows Holds slots id me i (λ x. x) (Merges (step slots i 0 0 none) me)
  merges slots p i place few all =
      subst (λ m. Allows Holds slots id m i (λ x. x) (Merges (step slots i 0 0 none) m)) (sym is)
      (subst (λ (y : ℕ × ℕ). Allows Holds slots id (of_change me.0.nodes (change_of me.0), []) y.0 (λ x. x) (MergesBy y.1 (of_change me.0.nodes (change_of me.0), []))) (λ j. (sym place j, sym (seats.port_back p i place few) j))
      (merging.merges slots id p me.0.nodes (change_of me.0) few all))

-- a node's seat is given on to a new one
pub leaves : (id : ℕ) (me : Seat) → IsNode me → Splits Holds id me.0 nobody me.0
leaves id me is = subst (λ (m : Seat). Splits Holds id m.0 nobody m.0) (sym is) (seat_.leaves id (node_of me.0))
