use Rattle.std.proofs.Common.{refl, ◌∙◌, arith}
use Rattle.txn_records.specs.Entries.{config_of}
use Rattle.change_board.specs.Transcripts.{entries}
use Rattle.change_engine.specs.declared.engine.Engine.{Engine}
use Rattle.change_engine.proofs.EngineLemmas.{as_many, few_ports, has_run}
use Rattle.change_engine.proofs.Breaking.{saw_alone, saw_before}
use Rattle.change_engine.proofs.Passing.{looks_quiet}
use Rattle.change_engine.proofs.Scanning.{all_quiet}
use Rattle.base.proofs.AnswerLaws.{if_err}
use Rattle.change_engine.proofs.engine.Engine.run.Goals as goal

pub port_count-requires : goal.port_count-requires
port_count-requires g c =
    let i = c.requires.idle in
    let e = c.args.self.now in
    record { few = omega (arith, few_ports e.layout e.graph (entries i.0) (g.met.B.Board.is_of_run e.board (entries i.0) i.1.tells.board) i.1.tells.layout) }

pub count_ended-shown-requires : goal.count_ended-shown-requires
count_ended-shown-requires g c =
    let i = c.requires.idle in
    let e = c.args.self.now in
    record { made = (entries i.0, i.1.tells.board, omega (arith, c.port_count.ensures, as_many e.layout e.graph (config_of (entries i.0)) i.1.tells.layout)) }

pub returns-clause-ok : goal.returns-clause-ok
returns-clause-ok g c =
    let e = c.args.self.now in
    let f : Engine g.row.B.Denot = record { board = c.scan_until.new.board; history = c.push.new.self; graph = e.graph; layout = e.layout; change = e.change } in
    has_run g.B.Board e f c.count_ended-shown.new.board c.port_count.result c.count_ended-shown.result c.args.k c.in_ok-ended.ended refl refl refl
    (λ t h. c.port_count.ensures ∙ as_many e.layout e.graph (config_of (entries t)) h.tells.layout)
    c.count_ended-shown.ensures.counts c.in_ok-ended.ensures.ok c.in_ok-push.ensures.items

pub returns-in_err-ended-clause-untold : goal.returns-in_err-ended-clause-untold
returns-in_err-ended-clause-untold g c =
    let x = c.count_ended-shown.ensures.counts in
    if_err (record {
      broke = saw_before g.B.Board c.args.self.now.board c.count_ended-shown.new.board c.scan_until.new.board _ (looks_quiet x.looks) x.adds c.in_err-ended.ensures.err;
      history_is = refl;
      layout_is = refl;
      change_is = refl;
    }) c.from_residual.result

pub returns-in_err-push-clause-untold : goal.returns-in_err-push-clause-untold
returns-in_err-push-clause-untold g c =
    let W = g.B.Board in
    let x = c.count_ended-shown.ensures.counts in
    let y = c.in_ok-ended.ensures.ok in
    if_err (record {
      broke = saw_before W c.args.self.now.board c.count_ended-shown.new.board c.scan_until.new.board _ (looks_quiet x.looks) x.adds
          (saw_alone W c.count_ended-shown.new.board c.scan_until.new.board _ (all_quiet y.scans) y.adds);
      history_is = c.in_err-push.ensures.items;
      layout_is = refl;
      change_is = refl;
    }) c.from_residual-in_err-push.result
