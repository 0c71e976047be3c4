use Rattle.std.proofs.Common.{◌≡◌, length, map, refl, subst}
use Rattle.std.specs.List.{range_with_len}
use Rattle.report_types.specs.declared.report.NodeLog.{NodeLog}
use Rattle.txn_records.specs.Entries.{config_of}
use Rattle.live_board.proofs.TakenLemmas.{all_among, taken_is}
use Rattle.live_board.proofs.laws.scripts_leave_all_taken_in.Goals as goal

pub returns : goal.returns
returns g c = record {
  all = λ statements report b h.
      all_among b report.logs h.logs_are (subst (λ q. map (λ (l : NodeLog). l.slot) report.logs ≡ range_with_len 0 (length (config_of q).slots)) h.stands.is h.slots);
  carried = λ statements report b h.
      c.boards_carry_out_on_threads.ensures.carried statements report b b.entries b.nodes refl (λ t s. s.is)
      (taken_is b report.logs h.logs_are (subst (λ q. map (λ (l : NodeLog). l.slot) report.logs ≡ range_with_len 0 (length (config_of q).slots)) h.stands.is h.slots)) h;
}
