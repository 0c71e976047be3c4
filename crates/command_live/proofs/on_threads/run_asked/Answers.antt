-- A run on threads is one by the call that knows such runs alone; another command has no form for it.
use Rattle.std.proofs.Common.{[], refl}
use Rattle.command_answers.specs.Answers.{usage}
use Rattle.command_answers.specs.declared.status.Status.TheVariants as status
use Rattle.command_spec.specs.Known.{on_threads}
use Rattle.command_spec.specs.Runs.{no_form, run_of}
use Rattle.command_words.proofs.WordsLaws.{threads_asked}
use Rattle.command_apply.proofs.RunningLaws.{not_known, runs_alone}
use Rattle.command_apply.proofs.KnowingLaws.{not_on_threads}
use Rattle.command_live.proofs.Returning.{ends_no_run}
use Rattle.command_live.proofs.on_threads.run_asked.Goals as goal
use Rattle.std.proofs.lemmas.Bool.{false≢true}

pub run_live-requires-clause-crew : goal.run_live-requires-clause-crew
run_live-requires-clause-crew g c κs alive = threads_asked _ _ _ _ (rw c.in-Live.is at c.requires.asked.1)

pub returns-in-Live-clause-runs : goal.returns-in-Live-clause-runs
returns-in-Live-clause-runs g c words asks = (rw c.as_str.ensures at c.run_live.ensures.runs) on_threads words (refl, rw c.in-Live.is at asks)

pub returns-in-Live-clause-agrees : goal.returns-in-Live-clause-agrees
returns-in-Live-clause-agrees g c words asks = (rw c.as_str.ensures at c.run_live.ensures.agrees) words (rw c.in-Live.is at asks)

pub returns-in-Live-clause-untouched : goal.returns-in-Live-clause-untouched
returns-in-Live-clause-untouched g c none = absurd ((rw c.in-Live.is at none) refl)

pub returns-in_default-clause-runs : goal.returns-in_default-clause-runs
returns-in_default-clause-runs g c words asks =
    let seen = run_of g.H.Shelf g.K.Sink words c.args.shelf.now c.args.shelf.now c.args.out.now c.write_usage.new.out c.write_usage.result in
    runs_alone on_threads seen usage refl
    (no_form (not_known on_threads words c.args.command (not_on_threads c.args.command c.in_default.not-Live) asks)) (c.write_usage.ensures seen)

pub returns-in_default-clause-back : goal.returns-in_default-clause-back
returns-in_default-clause-back g c =
    let seen = run_of g.H.Shelf g.K.Sink [] c.args.shelf.now c.args.shelf.now c.args.out.now c.write_usage.new.out c.write_usage.result in
    (λ some. absurd (false≢true some), λ is. absurd (ends_no_run status.Usage _ seen refl (c.write_usage.ensures seen) is))
