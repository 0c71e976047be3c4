use Rattle.std.proofs.Common.{◌∙◌, ◌+◌, List, ℕ, subst, sym}
use Rattle.live_hands.specs.Hands.{Seen}
use Rattle.txn_gate.specs.Seats.{record_of}
use Rattle.txn_records.specs.Entries.{config_of}
use Rattle.live_board.specs.Turning.{GaveTurns, no_turn, none_yet, one_turn, ways}
use Rattle.live_board.proofs.turning.give_turns.Goals as goal
use Rattle.live_board.proofs.turning.give_turns.Goals.{then-is_live+in_ok-more, else-is_live}

pub loop-slot-init : goal.loop-slot-init
loop-slot-init g c = none_yet

pub loop-slot-preserved : goal.loop-slot-preserved
loop-slot-preserved g c =
    let n = c.loop-slot.slot in
    let gates = g.J.Named.gates in
    let config = config_of (record_of c.args.seat.now) in
    let old = ways c.args.door.now c.args.hand.now in
    let now = ways c.loop-slot.door c.loop-slot.hand in
    elim c.if-is_live.branch [
      | then-is_live+in_ok-more w ↦
          let next = ways w.give_turn.new.door w.give_turn.new.hand in
          subst (λ (d : List ℕ). GaveTurns gates config c.args.begins old (n + 1) (ways d c.if-is_live.hand) c.if-is_live.moved) (sym w.door-is)
          (subst (λ (h : List Seen). GaveTurns gates config c.args.begins old (n + 1) (ways w.give_turn.new.door h) c.if-is_live.moved) (sym w.hand-is)
          (subst (λ m. GaveTurns gates config c.args.begins old (n + 1) next m) (sym w.moved-is)
          (one_turn n now next c.loop-slot.moved w.in_ok-more.more (sym c.is_live.ensures ∙ w.if-is_live.true) c.loop-slot.invariant w.in_ok-more.ensures)))
      | else-is_live w ↦
          subst (λ (d : List ℕ). GaveTurns gates config c.args.begins old (n + 1) (ways d c.if-is_live.hand) c.if-is_live.moved) (sym w.door-is)
          (subst (λ (h : List Seen). GaveTurns gates config c.args.begins old (n + 1) (ways c.loop-slot.door h) c.if-is_live.moved) (sym w.hand-is)
          (subst (λ m. GaveTurns gates config c.args.begins old (n + 1) now m) (sym w.moved-is)
          (no_turn n now c.loop-slot.moved (sym c.is_live.ensures ∙ w.if-is_live.false) c.loop-slot.invariant)))
    ]
