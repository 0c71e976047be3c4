use Rattle.std.proofs.Common.{◌∙◌, ◌+◌, ap, sym}
use Rattle.std.specs.Prelude.{◌&&◌}
use Rattle.txn_records.specs.Looks.{ended_in_word}
use Rattle.change_board.specs.Scans.{Found, is_idle_if_live}
use Rattle.step_board.specs.Seeing.{found_at}
use Rattle.step_board.proofs.LookLemmas.{all_more, sum_more}
use Rattle.step_board.proofs.scanning.look_at_ports.Goals as goal

pub loop-port-preserved : goal.loop-port-preserved
loop-port-preserved g c =
    let s = g.N.Nodes.machine c.args.nodes.now in
    let k = c.loop-port.port in
    let test = is_idle_if_live s.config in
    let h = c.look_at-seen.ensures in
    record {
      idle = h.idle ∙ ap (λ b. b && test (found_at s k)) c.loop-port.invariant.idle ∙ sym (all_more (found_at s) k test);
      ended = h.ended ∙ ap (λ n. n + ended_in_word (found_at s k).word) c.loop-port.invariant.ended ∙ sym (sum_more (found_at s) k (λ (f : Found). ended_in_word f.word));
      few = h.few;
    }
