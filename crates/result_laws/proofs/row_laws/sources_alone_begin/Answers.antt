use Rattle.result_laws.proofs.Beginning.{begins}
use Rattle.result_laws.proofs.row_laws.sources_alone_begin.Goals as goal

pub returns : goal.returns
returns c = record { begins = λ statements report alone l. begins c.a_moved_state_is_the_last_one.ensures.handed statements report l alone }
