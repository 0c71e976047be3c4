use Rattle.quiesce_core.proofs.LoadLaws.{ask_judged, begin_judged, call_judged, end_judged, hear_judged, miss_judged, stale_judged, take_judged}
use Rattle.quiesce_core.proofs.words.words_judge_events.Goals as goal

pub returns : goal.returns
returns c = record {
  begin = begin_judged;
  call = call_judged;
  miss = miss_judged;
  take = take_judged;
  stale = stale_judged;
  hear = hear_judged;
  ask = ask_judged;
  end = end_judged;
}
