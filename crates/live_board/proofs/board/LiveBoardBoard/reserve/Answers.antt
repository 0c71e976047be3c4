use Rattle.std.proofs.Common.{arith, ◌≡◌, ◌≤◌, ◌+◌, ◌∙◌, Bool, ap, cond, length, refl, subst, sym}
use Rattle.std.specs.Prelude.{nat_lt}
use Rattle.std.proofs.lemmas.Bool.{le-ltb, lt-ltb}
use Rattle.txn_gate.specs.Seats.{record_of}
use Rattle.txn_spec.specs.Views.{change_of}
use Rattle.txn_records.specs.Entries.{config_of}
use Rattle.live_board.proofs.BoardLaws.{adds_places, adds_room, same_part}
use Rattle.live_board.proofs.board.LiveBoardBoard.reserve.Goals as goal
use Rattle.live_board.proofs.board.LiveBoardBoard.reserve.Goals.{then-more, else-more}

pub returns-in_err-self-inside-clause-board : goal.returns-in_err-self-inside-clause-board
returns-in_err-self-inside-clause-board g c = adds_places _ c.args.self.now c.self.view_is _ refl refl refl refl c.make_room.ensures.heirs c.make_room.ensures.longer

pub returns-clause-board : goal.returns-clause-board
returns-clause-board g c =
    let lines = c.self.inside.lines in
    let slots = length (config_of (record_of c.self.inside.seat)).slots in
    let more_lines : c.if-more.lines ≡ cond (nat_lt c.self.inside.sources c.made-made.result.nodes) (lines + 1) lines =
    elim c.if-more.branch [
      | then-more w ↦ w.lines-is ∙ sym (ap (λ (b : Bool). cond b (lines + 1) lines) (lt-ltb c.self.inside.sources c.made-made.result.nodes w.if-more.true))
      | else-more w ↦ w.lines-is ∙ sym (ap (λ (b : Bool). cond b (lines + 1) lines) (le-ltb c.self.inside.sources c.made-made.result.nodes (omega (arith, w.if-more.false))))
    ] in
    adds_room _ c.args.self.now c.self.view_is _ (same_part c.reserve.ensures.seat (λ s. (change_of s.me.0).entries)) refl c.made-made.ensures.nodes
    (more_lines ∙ ap (λ n. cond (nat_lt c.self.inside.sources n) (lines + 1) lines) c.made-made.ensures.nodes)
    c.make_room.ensures.heirs
    (subst (λ n. n ≤ length c.make_room.new.heirs.items) c.made-made.ensures.nodes c.in_ok-self-inside.ensures.enough)
