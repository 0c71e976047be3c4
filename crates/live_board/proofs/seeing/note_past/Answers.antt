use Rattle.std.proofs.Common.{◌∙◌, ◌<◌, ◌≤◌, ◌++◌, ap, arith, length, map, subst}
use Rattle.std.proofs.lemmas.List.{take_all}
use Rattle.change_board.specs.Sights.{Sight}
use Rattle.live_board.specs.Lengths.{AreLengths, noted}
use Rattle.live_board.proofs.LengthLaws.{lengths_more, noted_count}
use Rattle.live_board.proofs.seeing.note_past.Goals as goal

pub loop-at-preserved : goal.loop-at-preserved
loop-at-preserved c =
    let i = c.loop-at.invariant in
    let test = c.loop-at-test.true in
    let few : c.loop-at.at < length c.args.past.now.items = omega (arith, test, i.all) in
    let x = c.index-node.result.now in
    record {
      lengths = λ before h.
          lengths_more (λ p. record { slot = p.slot; events = p.log.items }) c.args.past.now.items c.loop-at.at x before c.loop-at.lengths.items c.note.new.lengths.items few c.index-node.ensures
          (c.note.ensures ∙ ap (noted c.loop-at.lengths.items x.slot) (c.len.ensures ∙ x.log.ok.0)) (i.lengths before h);
      count = ap length c.note.ensures ∙ noted_count c.loop-at.lengths.items x.slot c.len.result ∙ i.count;
      all = i.all;
    }

pub returns-clause-lengths : goal.returns-clause-lengths
returns-clause-lengths c = λ before h.
    let i = c.loop-at.invariant in
    let test = c.loop-at-test.false in
    let past : length c.args.past.now.items ≤ c.loop-at.at = omega (arith, test, i.all) in
    subst (λ xs. AreLengths (before ++ map {B = Sight} (λ p. record { slot = p.slot; events = p.log.items }) xs) c.loop-at.lengths.items) (take_all c.loop-at.at c.args.past.now.items past) (i.lengths before h)
