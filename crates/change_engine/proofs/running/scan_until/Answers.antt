use Rattle.std.proofs.Common.{◌++◌, ◌∷◌, [], refl, sym, ap, ◌∙◌, subst, arith}
use Rattle.std.proofs.lemmas.List.{append-nil}
use Rattle.base.proofs.EachLaws.{each_pushed}
use Rattle.base.proofs.AnswerLaws.{if_err}
use Rattle.change_engine.specs.Running.{RunsOn, ends_run}
use Rattle.change_engine.proofs.Breaking.{broke_behind, saw_alone}
use Rattle.change_engine.proofs.RunLemmas.{out_pushed, run_enough, run_on, run_out, since_pushed}
use Rattle.change_engine.proofs.Scanning.{all_quiet, scans_add, scans_are, scans_twice, seen_by}
use Rattle.change_engine.proofs.running.scan_until.Goals as goal

pub loop-scan-init : goal.loop-scan-init
loop-scan-init g c = record {
  room = refl;
  scans = [];
  are_scans = λ r s. tt;
  twice = λ is r s. tt;
  go_on = tt;
  not_out = refl;
  ended_is = refl;
  adds = λ r s. subst (g.B.Board.stands_for c.args.board.now) (sym (append-nil r)) s;
}

pub loop-scan-preserved : goal.loop-scan-preserved
loop-scan-preserved g c =
    let W = g.B.Board in
    let inv = c.loop-scan.invariant in
    let a = c.args.board.now in
    let b = c.loop-scan.board in
    let d = c.scan.new.self in
    let s = c.in_ok-seen.seen in
    let x = c.in_ok-seen.ensures.ok in
    let w = seen_by W b d s x in
    record {
      room = c.in_ok-seen.ensures.room ∙ inv.room;
      scans = inv.scans ++ w ∷ [];
      are_scans = scans_are W a b d inv.scans s x inv.adds inv.are_scans;
      twice = scans_twice W a b d inv.scans s x inv.adds inv.twice;
      go_on = (each_pushed (RunsOn W.alone c.args.k c.args.shown) inv.scans w).1 (
        inv.go_on,
        run_on W.alone c.args.k c.args.shown c.loop-scan.ended inv.scans inv.ended_is
            (omega (arith, c.from.ensures, c.if-from-ended.false)) inv.not_out,
      );
      not_out = out_pushed W.alone inv.scans w ∙ ap (λ one. ends_run one s) (sym c.is_alone-alone.ensures) ∙ sym c.ends_run.ensures ∙ c.if-ends_run.false;
      ended_is = c.saturating_sub-ended.ensures ∙ sym (since_pushed c.args.shown inv.scans w);
      adds = scans_add W a b d inv.scans s x inv.adds;
    }

pub returns-then-from-ended-clause-ok : goal.returns-then-from-ended-clause-ok
returns-then-from-ended-clause-ok g c =
    let inv = c.loop-scan.invariant in
    record {
      scans = inv.scans;
      are_scans = inv.are_scans;
      twice = inv.twice;
      go_on = inv.go_on;
      ends = run_enough g.B.Board.alone c.args.k c.args.shown c.loop-scan.ended inv.scans inv.ended_is
          (omega (arith, c.from.ensures, c.if-from-ended.true));
      ended_is = inv.ended_is;
      adds = inv.adds;
    }

pub returns-then-ends_run-clause-ok : goal.returns-then-ends_run-clause-ok
returns-then-ends_run-clause-ok g c =
    let W = g.B.Board in
    let inv = c.loop-scan.invariant in
    let a = c.args.board.now in
    let b = c.loop-scan.board in
    let d = c.scan.new.self in
    let s = c.in_ok-seen.seen in
    let x = c.in_ok-seen.ensures.ok in
    let w = seen_by W b d s x in
    record {
      scans = inv.scans ++ w ∷ [];
      are_scans = scans_are W a b d inv.scans s x inv.adds inv.are_scans;
      twice = scans_twice W a b d inv.scans s x inv.adds inv.twice;
      go_on = (each_pushed (RunsOn W.alone c.args.k c.args.shown) inv.scans w).1 (
        inv.go_on,
        run_on W.alone c.args.k c.args.shown c.loop-scan.ended inv.scans inv.ended_is
            (omega (arith, c.from.ensures, c.if-from-ended.false)) inv.not_out,
      );
      ends = run_out W.alone c.args.k c.args.shown (inv.scans ++ w ∷ [])
          (out_pushed W.alone inv.scans w ∙ ap (λ one. ends_run one s) (sym c.is_alone-alone.ensures) ∙ sym c.ends_run.ensures ∙ c.if-ends_run.true);
      ended_is = c.saturating_sub-ended.ensures ∙ sym (since_pushed c.args.shown inv.scans w);
      adds = scans_add W a b d inv.scans s x inv.adds;
    }

pub returns-in_err-seen-clause-err : goal.returns-in_err-seen-clause-err
returns-in_err-seen-clause-err g c =
    let W = g.B.Board in
    let inv = c.loop-scan.invariant in
    if_err (broke_behind W c.args.board.now c.loop-scan.board c.scan.new.self _ (all_quiet inv.scans) inv.adds c.in_err-seen.ensures.err) c.from_residual.result

pub returns-clause-err : goal.returns-clause-err
returns-clause-err g c =
    let inv = c.loop-scan.invariant in
    saw_alone g.B.Board c.args.board.now c.loop-scan.board _ (all_quiet inv.scans) inv.adds
