use Rattle.command_spec.proofs.EachCommand as promises
use Rattle.command_spec.proofs.promises.live_promises.Goals as goal

pub returns : goal.returns
returns c =
    record {
      watched = promises.live_ran;
      unwatched = λ r name workers a is.
          let ran = promises.live_ran r name workers 0 a is in
          record {
            was_run = ran.was_run;
            bytes = ran.bytes;
            shown = (c.runs_end_by_their_reports.ensures.unwatched ran.was_run.report ran.bytes).0 ran.shown;
            written = ran.written;
          };
    }
