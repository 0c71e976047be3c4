use Rattle.std.specs.Prelude.{None}
use Rattle.live_board.proofs.SeenLines.{told}
use Rattle.live_board.proofs.seat_laws.seats_tell_of_their_line.Goals as goal

pub returns : goal.returns
returns c = record { made = λ configuration k line seats is made. told configuration k None line seats is made }
