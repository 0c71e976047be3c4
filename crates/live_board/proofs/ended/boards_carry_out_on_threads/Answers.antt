use Rattle.live_board.proofs.CarriedLemmas.{carried}
use Rattle.live_board.proofs.ended.boards_carry_out_on_threads.Goals as goal

pub returns : goal.returns
returns g c = record { carried = λ statements report board r nodes alone stands taken h. carried g.B.Board statements report board r nodes alone stands taken h }
