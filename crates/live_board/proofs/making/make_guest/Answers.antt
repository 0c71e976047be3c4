use Rattle.std.proofs.Common.{◌≡◌, ◌+◌, ◌-◌, arith, subst, sym}
use Rattle.live_board.specs.Keeping.{HaveRoom}
use Rattle.txn_gate.specs.Seats.{record_of}
use Rattle.txn_records.specs.Entries.{config_of}
use Rattle.live_board.proofs.BehindLaws.{shallow_more}
use Rattle.live_board.proofs.making.make_guest.Goals as goal

pub make_next-requires-clause-room : goal.make_next-requires-clause-room
make_next-requires-clause-room g c =
    let q = c.requires.room in
    let spare = c.args.seat.now.spare in
    let one : spare ≡ (spare - 1) + 1 = omega (arith, c.requires.spare) in
    let b = c.take_blank-blank.ensures (spare - 1) q.1 (subst (λ n. HaveRoom c.args.blanks.now.items n q.1) one q.2) in
    (q.0, shallow_more (config_of (record_of c.args.seat.now)) q.0 q.1 c.take_blank-blank.result.room b.1 q.3, q.4 c.in-Some.slot c.in-Some.is, q.5)

pub returns-in-None-clause-room : goal.returns-in-None-clause-room
returns-in-None-clause-room g c = λ lines room.
    let spare = c.make_first.ensures.made.spare in
    (c.take_blank-blank.ensures c.make_first.new.seat.spare lines (subst (λ n. HaveRoom c.args.blanks.now.items n lines) (sym spare) room)).0

pub returns-in-Some-clause-room : goal.returns-in-Some-clause-room
returns-in-Some-clause-room g c = λ lines room.
    let spare = c.make_next.ensures.made.spare in
    (c.take_blank-blank.ensures c.make_next.new.seat.spare lines (subst (λ n. HaveRoom c.args.blanks.now.items n lines) (sym spare) room)).0
