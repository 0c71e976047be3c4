use Rattle.std.proofs.Common.{◌≡◌, ◌++◌, ◌∷◌, [], append_assoc, sym, ap, ◌∙◌, subst, arith}
use Rattle.std.proofs.lemmas.List.{append-nil, nil_from_length}
use Rattle.change_board.specs.Doing.{DoesEvents}
use Rattle.change_board.specs.Steps.{HasRoomForAll, MayDoAll}
use Rattle.change_board.proofs.DeedLemmas.{does_both, does_none, here_next}
use Rattle.change_board.proofs.stepping.do_steps.Goals as goal

pub loop-event-init : goal.loop-event-init
loop-event-init g c =
    let e = c.into_iter-event-iterator.ensures.into_iter_gives.0 in (
      tt,
      tt,
      does_none g.B.Board c.args.board.now,
      (c.requires.may.0, c.requires.may.1, subst (MayDoAll c.requires.may.0) (sym e) c.requires.may.2),
      e,
      subst (HasRoomForAll (g.B.Board.room c.args.board.now)) (sym e) c.requires.room,
    )

pub do_step-requires-clause-may : goal.do_step-requires-clause-may
do_step-requires-clause-may g c =
    let here = c.loop-event.invariant.3 in
    let m = subst (MayDoAll here.0) c.in-Some.ensures.steps.0 here.2 in
    (here.0, here.1, m.0)

pub do_step-requires-clause-room : goal.do_step-requires-clause-room
do_step-requires-clause-room g c =
    (subst (HasRoomForAll (g.B.Board.room c.loop-event.board)) c.in-Some.ensures.steps.0 c.loop-event.invariant.5).0

pub loop-event-preserved : goal.loop-event-preserved
loop-event-preserved g c =
    let W = g.B.Board in
    let inv = c.loop-event.invariant in
    let here = inv.3 in
    let e = c.in-Some.event in
    let rest = c.next.new.self.rest.items in
    let step = c.in-Some.ensures.steps.0 in (
      tt,
      tt,
      does_both W c.args.board.now c.loop-event.board c.do_step.new.board c.loop-event.yielded (e ∷ []) inv.2 c.do_step.ensures.board,
      here_next W c.loop-event.board c.do_step.new.board e rest c.do_step.ensures.board (here.0, here.1, subst (MayDoAll here.0) step here.2),
      append_assoc c.loop-event.yielded (e ∷ []) rest ∙ ap (λ es. c.loop-event.yielded ++ es) (sym step) ∙ inv.4,
      subst (λ room. HasRoomForAll room rest) (sym c.do_step.ensures.room) (subst (HasRoomForAll (g.B.Board.room c.loop-event.board)) step inv.5).1,
    )

pub returns : goal.returns
returns g c =
    let inv = c.loop-event.invariant in
    let rest = c.loop-event.event-iterator.rest in
    let none_ : rest.items ≡ [] = nil_from_length rest.items (omega (arith, rest.ok.0, c.in-None.ensures.steps.0)) in
    let all : c.loop-event.yielded ≡ c.args.events.items = sym (append-nil c.loop-event.yielded) ∙ ap (λ es. c.loop-event.yielded ++ es) (sym none_) ∙ inv.4 in
    subst (DoesEvents g.B.Board c.args.board.now c.loop-event.board) all inv.2
