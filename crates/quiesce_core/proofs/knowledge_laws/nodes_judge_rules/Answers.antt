use Rattle.quiesce_core.proofs.KnownLaws.{judged_calls, judged_ended, judged_heard, judged_mores, judged_serves_through, judged_taken}
use Rattle.quiesce_core.proofs.knowledge_laws.nodes_judge_rules.Goals as goal

pub returns : goal.returns
returns c = record {
  taken = λ s n m k u h. judged_taken s h.well_formed h.consistent n m h.made k h.known u h.serves;
  heard = λ s n m k u h. judged_heard s h.well_formed h.consistent n m h.made k h.known u h.serves;
  depends = λ s n m k u h. judged_serves_through s h.well_formed h.consistent n m h.made k h.known u h.serves;
  calls = λ s n m k u h. judged_calls s h.well_formed h.consistent n m h.made k h.known u h.serves;
  mores = λ s n m k u h. judged_mores s h.well_formed h.consistent n m h.made k h.known u h.serves;
  ended = λ s n m k u h. judged_ended s h.well_formed h.consistent n m h.made k h.known u h.serves;
}
