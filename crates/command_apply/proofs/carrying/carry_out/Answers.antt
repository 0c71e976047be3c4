-- A request is talked over, and a refusal is written.
use Rattle.command_spec.specs.Runs.{run_of}
use Rattle.command_apply.proofs.ApplyLaws.{applied_by, stopped}
use Rattle.command_apply.proofs.carrying.carry_out.Goals as goal

pub returns-in-Ok-clause-applies : goal.returns-in-Ok-clause-applies
returns-in-Ok-clause-applies g c words =
    let seen = run_of g.H.Shelf g.K.Sink words c.args.shelf.now c.fetch_request.new.shelf c.args.out.now c.talk.new.out c.talk.result in
    applied_by c.args.asked.now (g.I.Read.remaining c.args.input) seen c.in-Ok.request c.in-Ok.ensures.comes (c.talk.ensures seen)

pub returns-in-Err-clause-applies : goal.returns-in-Err-clause-applies
returns-in-Err-clause-applies g c words =
    let seen = run_of g.H.Shelf g.K.Sink words c.args.shelf.now c.fetch_request.new.shelf c.args.out.now c.write_answer.new.out c.write_answer.result in
    stopped c.args.asked.now (g.I.Read.remaining c.args.input) seen c.in-Err.stop c.in-Err.ensures.comes (c.write_answer.ensures seen)
