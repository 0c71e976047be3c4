use Rattle.std.proofs.Common.{◌≡◌, ◌∙◌, ◌<◌, ap, arith, length, length-set, replicate, rules}
use Rattle.config_graph.specs.declared.TheConstants.{MAX_NODES}
use Rattle.base.proofs.PairedLaws.{after, found_is_there, here, paired_second, seen_more, seen_same}
use Rattle.live_hands.specs.Hands.{seen, shown, unused}
use Rattle.live_hands.specs.Opens.{Opens}
use Rattle.live_hands.specs.declared.entry.Entry.{Entry}
use Rattle.live_hands.proofs.inboxes.another_row.Goals as goal

pub returns-in_err-push-clause-kept : goal.returns-in_err-push-clause-kept
returns-in_err-push-clause-kept c =
    let e = c.index_mut.result.now in
    seen_same shown c.loop-at.entries.items c.loop-at.at e _ c.index_mut.ensures.value (ap (λ k. seen k e.refused) c.another-way.ensures.knows.0) ∙ c.loop-at.invariant.kept

pub loop-at-preserved : goal.loop-at-preserved
loop-at-preserved c =
    let i = c.loop-at.invariant in
    let t = c.loop-at-test.true in
    let xs = c.args.inboxes.now.items in
    let es = c.loop-at.entries.items in
    let ms = c.loop-at.more.items in
    let e = c.index_mut.result.now in
    let new : Entry = record { way = c.another-way.result; refused = 0 } in
    let few : length ms < length xs = omega arith in
    let old = here Opens xs es c.loop-at.at c.index.result.now e i.opens (omega arith) (omega arith) (search rules) c.index_mut.ensures.value in
    let p = paired_second Opens xs ms c.index.result.now new (found_is_there xs (length ms) c.index.result.now few (search rules)) i.more_open (old.0, search rules) in
    let f = seen_more shown unused ms new c.loop-at.at i.more_fresh (ap (λ k. seen k 0) c.another-way.ensures.knows.1) in
    record {
      entries = length-set _ _ _ ∙ i.entries;
      opens = after Opens xs es c.loop-at.at c.index.result.now e i.opens (omega arith) (omega arith) (search rules) c.index_mut.ensures.value _ (old.0, search rules);
      kept = seen_same shown es c.loop-at.at e _ c.index_mut.ensures.value (ap (λ k. seen k e.refused) c.another-way.ensures.knows.0) ∙ i.kept;
      count = search (rules, arith);
      more_open = search rules;
      more_fresh = search rules;
    }

pub returns-clause-more : goal.returns-clause-more
returns-clause-more c =
    let i = c.loop-at.invariant in
    let t = c.loop-at-test.false in
    let all : c.loop-at.at ≡ MAX_NODES = omega arith in
    (i.more_open, i.more_fresh ∙ ap (λ n. replicate n unused) all)
