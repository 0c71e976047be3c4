use Rattle.std.proofs.Common.{rules, arith, ◌∙◌}
use Rattle.std.specs.Prelude.{is_ok}
use Rattle.live_board.proofs.KeptLaws.{kept_pushed, stored_pushed}
use Rattle.live_board.proofs.keeping.make_places.Goals as goal

pub returns-in_err-push-clause-kept : goal.returns-in_err-push-clause-kept
returns-in_err-push-clause-kept g c = kept_pushed g.J.Named.gates c.loop.kept.items c.push.new.self.items (is_ok c.push.result) c.loop.invariant.kept c.push.ensures.items

pub returns-in_err-push-clause-stored : goal.returns-in_err-push-clause-stored
returns-in_err-push-clause-stored g c = λ n. stored_pushed c.loop.kept.items c.push.new.self.items (is_ok c.push.result) c.push.ensures.items n ∙ c.loop.invariant.stored n

pub loop-preserved : goal.loop-preserved
loop-preserved g c = record {
  kept = kept_pushed g.J.Named.gates c.loop.kept.items c.push.new.self.items (is_ok c.push.result) c.loop.invariant.kept c.push.ensures.items;
  stored = λ n. stored_pushed c.loop.kept.items c.push.new.self.items (is_ok c.push.result) c.push.ensures.items n ∙ c.loop.invariant.stored n;
  count = search (rules, arith);
}
