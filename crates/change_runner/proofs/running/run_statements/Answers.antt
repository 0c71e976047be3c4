use Rattle.std.proofs.Common.{◌≡◌, ◌∙◌, ◌++◌, ◌∷◌, [], append_assoc, sym, ap, subst, arith}
use Rattle.std.proofs.lemmas.List.{nil_from_length}
use Rattle.change_engine.specs.Calls.{HasStarted}
use Rattle.change_spec.specs.Follows.{Follows}
use Rattle.change_transcript_laws.specs.Pieces.{items_of}
use Rattle.change_spec.specs.Asked.{CanDoAll, after_start, statements_of}
use Rattle.change_runner.proofs.LogLemmas.{logs_are_made}
use Rattle.change_runner.proofs.RunLemmas.{Progress, begun, ended, next_, ready, stop_told, stopped}
use Rattle.change_runner.proofs.running.run_statements.Goals as goal

pub loop-step-init : goal.loop-step-init
loop-step-init g c =
    let W = g.B.Board in
    let H = g.L.Listener.heard in
    let start = c.args.start in
    let e = c.into_iter-step-iterator.ensures.into_iter_gives.0 in
    let engine = c.in_ok-engine.engine in
    let listener = c.committed.new.self in (
      tt,
      tt,
      begun W H start c.into_iter-step-iterator.result.rest.items engine listener
          (subst (λ xs. HasStarted W engine start.name xs start.graph) c.into_vec.ensures c.in_ok-engine.ensures) (subst (CanDoAll (after_start start)) (sym e) c.requires.steps)
          (subst (λ x. H listener (x ∷ [])) c.graph.ensures (c.in_ok-committed.ensures [] c.requires.listener)),
      e,
    )

pub carry_out_step-requires : goal.carry_out_step-requires
carry_out_step-requires g c =
    let W = g.B.Board in
    let H = g.L.Listener.heard in
    let l = c.loop-step in
    let p = subst (λ rs. Progress W H c.args.start l.yielded rs l.engine l.listener l.given_up) c.in-Some.ensures.steps.0 l.invariant.2 in
    record {
      here = (items_of p.pieces, p.idle, p.flag, ready W H c.args.start l.yielded c.in-Some.step c.next.new.self.rest.items l.engine l.listener l.given_up p);
      heard = (p.graphs, p.heard);
    }

pub loop-step-preserved : goal.loop-step-preserved
loop-step-preserved g c =
    let W = g.B.Board in
    let H = g.L.Listener.heard in
    let l = c.loop-step in
    let step = c.in-Some.step in
    let rest = c.next.new.self.rest.items in
    let same = c.in-Some.ensures.steps.0 in
    let new = c.carry_out_step.new in
    let p = subst (λ rs. Progress W H c.args.start l.yielded rs l.engine l.listener l.given_up) same l.invariant.2 in
    let x = c.in_ok-given_up.ensures.carried (items_of p.pieces) p.idle p.flag (ready W H c.args.start l.yielded step rest l.engine l.listener l.given_up p) in (
      tt,
      tt,
      next_ W H c.args.start l.yielded rest l.engine new.engine l.listener new.listener l.given_up c.in_ok-given_up.given_up step p x c.in_ok-given_up.ensures.heard,
      append_assoc l.yielded (step ∷ []) rest ∙ ap (λ es. l.yielded ++ es) (sym same) ∙ l.invariant.3,
    )

pub returns : goal.returns
returns g c =
    let W = g.B.Board in
    let H = g.L.Listener.heard in
    let l = c.loop-step in
    let rest = l.step-iterator.rest in
    let all = c.args.steps.items in
    let none_ : rest.items ≡ [] = nil_from_length rest.items (omega (arith, rest.ok.0, c.in-None.ensures.steps.0)) in
    let p = ended W H c.args.start all l.yielded rest.items l.engine l.listener l.given_up none_ l.invariant.3 l.invariant.2 in
    let x = c.in_ok-report in
    let run = stopped W H c.args.start all l.engine l.listener l.given_up x.report x.board p x.ensures in
    let statements = statements_of c.args.start all in
    record {
      ok = run;
      follows = subst (Follows statements) (sym run.history_is) (c.transcripts_follow_their_scripts.ensures.follows W.alone statements run.transcript run.is_transcript);
      logs = logs_are_made W statements x.report x.board g.met.B.Board.is_of_run run;
      heard = stop_told W H c.args.start all l.engine l.listener l.given_up x.report x.board p x.ensures;
    }
