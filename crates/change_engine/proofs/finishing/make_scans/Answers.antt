use Rattle.std.proofs.Common.{◌≡◌, ◌+◌, ◌++◌, ◌∷◌, [], length, refl, sym, ap, ◌∙◌, subst, arith, inl, inr}
use Rattle.std.proofs.lemmas.List.{append-nil, length-append}
use Rattle.change_engine.specs.Finishing.{ScansGoOn, ends_finish, rounds_in}
use Rattle.change_engine.proofs.Breaking.{broke_behind}
use Rattle.change_engine.proofs.Scanning.{all_quiet, rounds_pushed, scans_add, scans_are, scans_twice, seen_by}
use Rattle.change_engine.proofs.finishing.make_scans.Goals as goal
use Rattle.base.proofs.ListLaws.{AllByRecursion-push}
use Rattle.base.proofs.AnswerLaws.{if_err}

pub loop-made-init : goal.loop-made-init
loop-made-init g c = record {
  room = refl;
  scans = [];
  all_scans = refl;
  are_scans = λ r s. tt;
  twice = λ is r s. tt;
  go_on = tt;
  rounds_are = refl;
  few = omega arith;
  adds = λ r s. subst (g.B.Board.stands_for c.args.board.now) (sym (append-nil r)) s;
}

pub loop-made-preserved : goal.loop-made-preserved
loop-made-preserved g c =
    let W = g.B.Board in
    let inv = c.loop-made.invariant in
    let a = c.args.board.now in
    let b = c.loop-made.board in
    let d = c.scan.new.self in
    let s = c.in_ok-seen.seen in
    let x = c.in_ok-seen.ensures.ok in
    let w = seen_by W b d s x in
    record {
      room = c.in_ok-seen.ensures.room ∙ inv.room;
      scans = inv.scans ++ w ∷ [];
      all_scans = length-append inv.scans (w ∷ []) ∙ ap (λ k. k + 1) inv.all_scans;
      are_scans = scans_are W a b d inv.scans s x inv.adds inv.are_scans;
      twice = scans_twice W a b d inv.scans s x inv.adds inv.twice;
      go_on = AllByRecursion-push (ScansGoOn g.B.Board.alone) inv.scans w inv.go_on (ap (λ alone. ends_finish alone s) (sym c.is_alone-alone.ensures) ∙ sym c.if-ends_finish.ensures);
      rounds_are = ap (λ k. k + c.count_of-rounds.result) inv.rounds_are ∙ ap (λ k. rounds_in inv.scans + k) c.count_of-rounds.ensures.value ∙ sym (rounds_pushed inv.scans w);
      few = omega (arith, inv.few, c.count_of-rounds.ensures.few);
      adds = scans_add W a b d inv.scans s x inv.adds;
    }

pub returns-then-ends_finish-clause-ok : goal.returns-then-ends_finish-clause-ok
returns-then-ends_finish-clause-ok g c =
    let W = g.B.Board in
    let inv = c.loop-made.invariant in
    let a = c.args.board.now in
    let b = c.loop-made.board in
    let d = c.scan.new.self in
    let s = c.in_ok-seen.seen in
    let x = c.in_ok-seen.ensures.ok in
    let w = seen_by W b d s x in
    let long : length (inv.scans ++ w ∷ []) ≡ c.loop-made._made + 1 = length-append inv.scans (w ∷ []) ∙ ap (λ k. k + 1) inv.all_scans in
    record {
      scans = inv.scans ++ w ∷ [];
      few = omega (arith, long, c.loop-made-test);
      are_scans = scans_are W a b d inv.scans s x inv.adds inv.are_scans;
      twice = scans_twice W a b d inv.scans s x inv.adds inv.twice;
      rounds_are = ap (λ k. k + c.count_of-rounds.result) inv.rounds_are ∙ ap (λ k. rounds_in inv.scans + k) c.count_of-rounds.ensures.value ∙ sym (rounds_pushed inv.scans w);
      ends = inl (record { before = inv.scans; final = w; parts = refl; go_on = inv.go_on; ends = ap (λ alone. ends_finish alone s) (sym c.is_alone-alone.ensures) ∙ sym c.if-ends_finish.ensures });
      adds = scans_add W a b d inv.scans s x inv.adds;
    }

pub returns-clause-ok : goal.returns-clause-ok
returns-clause-ok g c =
    let inv = c.loop-made.invariant in
    let t = c.loop-made-test in
    record {
      scans = inv.scans;
      few = omega (arith, inv.all_scans, c.loop-made.auto);
      are_scans = inv.are_scans;
      twice = inv.twice;
      rounds_are = inv.rounds_are;
      ends = inr (omega (arith, inv.all_scans, t, c.loop-made.auto), inv.go_on);
      adds = inv.adds;
    }

pub returns-in_err-seen-clause-err : goal.returns-in_err-seen-clause-err
returns-in_err-seen-clause-err g c =
    let W = g.B.Board in
    let inv = c.loop-made.invariant in
    if_err (broke_behind W c.args.board.now c.loop-made.board c.scan.new.self _ (all_quiet inv.scans) inv.adds c.in_err-seen.ensures.err) c.from_residual.result
