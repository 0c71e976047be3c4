use Rattle.std.proofs.Common.{◌≡◌, ◌<◌, [], length, Some, sym, ap, ◌∙◌, subst, arith}
use Rattle.txn_records.specs.Entries.{config_of}
use Rattle.change_board.specs.Transcripts.{entries}
use Rattle.change_engine.specs.Breaking.{BrokeInRound}
use Rattle.change_engine.specs.Calls.{HasBrokenOff, HasLeft, HasPassivated}
use Rattle.change_engine.specs.Draining.{Waits}
use Rattle.change_engine.specs.Growing.{BrokeOff, telling}
use Rattle.change_engine.specs.Passivating.{AreLivePorts, HasPlaceFor}
use Rattle.change_engine.proofs.Breaking.{broke_off}
use Rattle.change_engine.proofs.ChangeLemmas.{all_live, drained, has_broken_off, has_left, has_passivated, no_memory_if, open_place, pending_if}
use Rattle.base.proofs.AnswerLaws.{ok_if}
use Rattle.change_engine.proofs.engine.Engine.passivate.Goals as goal

pub drain-drained-requires : goal.drain-drained-requires
drain-drained-requires g c =
    let w = c.requires.prepared in
    let e = c.args.self.now in
    let change = c.in-Some.change in
    let open_ : e.change ≡ Some change = sym c.take.ensures.value ∙ c.in-Some.is in
    let same = c.deref.ensures.value in
    let place = open_place g.B.Board g.met.B.Board.is_of_run e w.0 w.1 c.args.plan.now w.2 change w.3 open_ in
    record {
      live = (
        entries w.0,
        w.3.is_open.tells.board,
        subst (AreLivePorts (config_of (entries w.0))) (sym same)
            (all_live g.B.Board g.met.B.Board.is_of_run e w.0 w.1 c.args.plan.now w.2 change w.3.is_open open_),
      );
      line_place = omega (arith, place.commit_lines, change.closed.ok.0, ap length same);
      place = subst (HasPlaceFor change.waiting) (change.closed.ok.0 ∙ ap length (sym same)) place.waiting;
    }

pub returns-clause-ok : goal.returns-clause-ok
returns-clause-ok g c =
    let W = g.B.Board in
    let runs = g.met.B.Board.is_of_run in
    let w = c.requires.prepared in
    let e = c.args.self.now in
    let change = c.in-Some.change in
    let open_ : e.change ≡ Some change = sym c.take.ensures.value ∙ c.in-Some.is in
    let b = c.drain-drained.new.board in
    let v = c.drain-drained.new.history in
    let left = c.drain-drained.new.waiting.left.items in
    let waiting = record c.drain-drained.new.waiting { left = c.replace-left.new.dest } in
    let y = c.in_ok-drained.ensures in
    let same = c.deref.ensures.value in
    let place = open_place W runs e w.0 w.1 c.args.plan.now w.2 change w.3 open_ in
    ok_if (c.replace-left.result.items ≡ []) (HasPassivated W e (drained W runs e b v change waiting) c.args.plan.now c.args.rounds)
    (λ none_. has_passivated W runs e b v waiting change c.args.plan.now c.args.rounds left open_
    (subst (λ ps. Waits W (telling e.board e.history.items) (telling b v.items) ps c.args.rounds left) same y.ok) (ap (λ xs. xs.items) (sym c.replace-left.ensures.value) ∙ none_) y.room
    (omega (arith, y.len, y.capacity, place.commit_lines, change.closed.ok.0, ap length same)))
    c.answer.result c.answer.ensures.ok

pub returns-clause-pending : goal.returns-clause-pending
returns-clause-pending g c =
    let W = g.B.Board in
    let runs = g.met.B.Board.is_of_run in
    let w = c.requires.prepared in
    let e = c.args.self.now in
    let change = c.in-Some.change in
    let open_ : e.change ≡ Some change = sym c.take.ensures.value ∙ c.in-Some.is in
    let b = c.drain-drained.new.board in
    let v = c.drain-drained.new.history in
    let left = c.drain-drained.new.waiting.left.items in
    let waiting = record c.drain-drained.new.waiting { left = c.replace-left.new.dest } in
    let y = c.in_ok-drained.ensures in
    let same = c.deref.ensures.value in
    let f = drained W runs e b v change waiting in
    let place = open_place W runs e w.0 w.1 c.args.plan.now w.2 change w.3 open_ in
    let moved = ap (λ xs. xs.items) c.replace-left.ensures.value in
    pending_if (λ k roots. (k ≡ c.args.rounds) × (roots ≡ c.replace-left.result.items) × (0 < length c.replace-left.result.items)) (λ k roots. (k ≡ c.args.rounds) × HasLeft W e f c.args.plan.now c.args.rounds roots)
    (λ k roots h. (
      h.0,
      subst (HasLeft W e f c.args.plan.now c.args.rounds) (sym (h.1 ∙ moved))
          (has_left W runs e b v waiting change c.args.plan.now c.args.rounds left open_
          (subst (λ ps. Waits W (telling e.board e.history.items) (telling b v.items) ps c.args.rounds left) same y.ok) (subst (λ xs. 0 < length xs) moved h.2) y.room
          (omega (arith, y.len, y.capacity, place.abandon_lines, change.closed.ok.0, ap length same))),
    ))
    c.answer.result c.answer.ensures.pending

pub returns-in_err-drained-clause-no_memory : goal.returns-in_err-drained-clause-no_memory
returns-in_err-drained-clause-no_memory g c =
    let W = g.B.Board in
    let e = c.args.self.now in
    no_memory_if (BrokeOff W e.board c.drain-drained.new.board)
    (broke_off W e.board c.drain-drained.new.board e.history.items c.drain-drained.new.history.items c.deref.result.now c.args.rounds c.in_err-drained.ensures.err) c.from_residual.result

pub returns-in_err-drained-clause-stays_closed : goal.returns-in_err-drained-clause-stays_closed
returns-in_err-drained-clause-stays_closed g c =
    let W = g.B.Board in
    let runs = g.met.B.Board.is_of_run in
    let e = c.args.self.now in
    let change = c.in-Some.change in
    let open_ : e.change ≡ Some change = sym c.take.ensures.value ∙ c.in-Some.is in
    let b = c.drain-drained.new.board in
    let v = c.drain-drained.new.history in
    no_memory_if (HasBrokenOff W e (drained W runs e b v change (record c.drain-drained.new.waiting { left = c.replace-left.new.dest })) c.args.plan.now c.args.rounds)
    (has_broken_off W runs e b v (record c.drain-drained.new.waiting { left = c.replace-left.new.dest }) change c.args.plan.now c.args.rounds open_
    (subst (λ ps. BrokeInRound W (telling e.board e.history.items) (telling b v.items) ps c.args.rounds) c.deref.ensures.value c.in_err-drained.ensures.err)) c.from_residual.result
