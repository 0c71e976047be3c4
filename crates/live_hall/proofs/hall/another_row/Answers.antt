use Rattle.std.proofs.Common.{◌≡◌, ◌∙◌, ◌<◌, ap, arith, length, length-set, refl, replicate, rules}
use Rattle.config_graph.specs.declared.TheConstants.{MAX_NODES}
use Rattle.base.proofs.PairedLaws.{after, found_is_there, here, paired_second, seen_more, seen_same}
use Rattle.live_hall.specs.Doors.{Opens, missed}
use Rattle.live_hall.specs.declared.lock.Lock.{Lock}
use Rattle.live_hall.proofs.hall.another_row.Goals as goal

pub returns-in_err-push-clause-kept : goal.returns-in_err-push-clause-kept
returns-in_err-push-clause-kept g c =
    seen_same missed c.loop-at.locks.items c.loop-at.at c.index_mut.result.now _ c.index_mut.ensures.value refl ∙ c.loop-at.invariant.kept

pub loop-at-preserved : goal.loop-at-preserved
loop-at-preserved g c =
    let i = c.loop-at.invariant in
    let t = c.loop-at-test.true in
    let xs = c.args.cells.now.items in
    let ls = c.loop-at.locks.items in
    let ms = c.loop-at.more.items in
    let l = c.index_mut.result.now in
    let new : Lock = record { key = c.second_key-key.result; missed = 0 } in
    let few : length ms < length xs = omega arith in
    let old = here Opens xs ls c.loop-at.at c.index.result.now l i.opens (omega arith) (omega arith) (search rules) c.index_mut.ensures.value in
    let p = paired_second Opens xs ms c.index.result.now new (found_is_there xs (length ms) c.index.result.now few (search rules)) i.more_open (search rules) in
    let f = seen_more missed 0 ms new c.loop-at.at i.more_fresh refl in
    record {
      locks = length-set _ _ _ ∙ i.locks;
      opens = after Opens xs ls c.loop-at.at c.index.result.now l i.opens (omega arith) (omega arith) (search rules) c.index_mut.ensures.value _ (search rules);
      kept = seen_same missed ls c.loop-at.at l _ c.index_mut.ensures.value refl ∙ i.kept;
      count = search (rules, arith);
      more_open = search rules;
      more_fresh = search rules;
    }

pub returns-clause-more : goal.returns-clause-more
returns-clause-more g c =
    let i = c.loop-at.invariant in
    let t = c.loop-at-test.false in
    let all : c.loop-at.at ≡ MAX_NODES = omega arith in
    (i.count ∙ all, i.more_open, i.more_fresh ∙ ap (λ n. replicate n 0) all)
