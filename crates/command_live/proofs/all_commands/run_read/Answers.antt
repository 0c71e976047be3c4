-- A run on threads gives its seat back; another command has none to give.
use Rattle.std.proofs.Common.{refl}
use Rattle.command_spec.specs.Known.{all_commands, on_one_thread}
use Rattle.command_words.proofs.WordsLaws.{one_command, threads_asked}
use Rattle.command_apply.proofs.KnowingLaws.{on_one}
use Rattle.command_live.proofs.Knowing.{known_to_all}
use Rattle.command_live.proofs.all_commands.run_read.Goals as goal
use Rattle.std.proofs.lemmas.Bool.{false≢true}

pub run_live-requires-clause-crew : goal.run_live-requires-clause-crew
run_live-requires-clause-crew g c κs alive = threads_asked _ _ _ _ (rw c.in-Live.is at c.requires.asked.1)

pub returns-in-Live-clause-runs : goal.returns-in-Live-clause-runs
returns-in-Live-clause-runs g c words asks = (rw c.as_str.ensures at c.run_live.ensures.runs) all_commands words (refl, rw c.in-Live.is at asks)

pub returns-in-Live-clause-seat : goal.returns-in-Live-clause-seat
returns-in-Live-clause-seat g c words asks =
    let live = rw c.in-Live.is at asks in
    record {
      back = (λ some. (c.in-Live.script, c.in-Live.workers, c.in-Live.observers, live, c.run_live.ensures.back.0 some), λ x. c.run_live.ensures.back.1 x.4);
      agrees = (rw c.as_str.ensures at c.run_live.ensures.agrees) words live;
    }

pub returns-in-Live-clause-untouched : goal.returns-in-Live-clause-untouched
returns-in-Live-clause-untouched g c none = absurd (rw c.in-Live.is at none)

pub returns-in_default-clause-runs : goal.returns-in_default-clause-runs
returns-in_default-clause-runs g c words asks =
    known_to_all on_one_thread _ c.args.command (on_one c.args.command c.in_default.not-Live, asks) (c.run_command.ensures.runs words asks)

pub returns-in_default-clause-seat : goal.returns-in_default-clause-seat
returns-in_default-clause-seat g c words asks = record {
  back = (λ some. absurd (false≢true some), λ x. absurd (c.in_default.not-Live x.0 x.1 x.2 (one_command words _ _ asks x.3)));
  agrees = tt;
}

pub returns-in_default-clause-untouched : goal.returns-in_default-clause-untouched
returns-in_default-clause-untouched g c none = c.run_command.ensures.untouched (λ known. none)
