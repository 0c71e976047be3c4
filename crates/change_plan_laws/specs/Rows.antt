-- Worked changes.
use Rattle.std.specs.Prelude.{List, [], ◌∷◌, ◌++◌, codes, Some}
use Rattle.config_graph.specs.Graph.{Graph}
use Rattle.config_graph.specs.declared.kind.Kind.TheVariants as kind
use Rattle.config_graph.specs.declared.node.Link.{Link as LinkOf}
use Rattle.config_graph.specs.declared.node.Node.{Node}
use Rattle.change_plan.specs.declared.plan_data.Move.{Move}
use Rattle.change_plan.specs.declared.plan_data.Plan.{Plan}
use Rattle.quiesce_core.specs.declared.event.Event.{Event}
use Rattle.quiesce_core.specs.declared.event.Event.TheVariants.{Begin, Close}
use Rattle.quiesce_laws.specs.Starts.{start_of}
use Rattle.change_plan_laws.specs.Systems.{account_at, bank, leads, line, map_m, sink_t, source_at}

-- A branch moves money between two accounts. One of these is replaced by one with another argument, and its state goes
-- on.

abbrev pub from_a : LinkOf
from_a = leads 2 0 0

abbrev pub to_b : LinkOf
to_b = leads 2 1 1

abbrev pub by_w : LinkOf
by_w = leads 3 0 2

abbrev pub a_goes_on : Move
a_goes_on = record { from = codes "a"; to = codes "a" }

abbrev pub replacing : Plan
replacing =
    record {
      unlink = record { node = 2; require = 0 } ∷ [];
      remove = 0 ∷ [];
      create = 0 ∷ [];
      link = from_a ∷ [];
      moves = record { old = 0; new = 0 } ∷ [];
      freeze = 0 ∷ 2 ∷ 3 ∷ [];
    }

-- the system was started, and the gates of all frozen nodes are closed
abbrev pub bank_closed : List Event
bank_closed = start_of (bank 3 100) ++ Close 0 ∷ Close 1 ∷ Close 2 ∷ []

abbrev pub source : Node
source = source_at (codes "s") 3

-- Two accounts are replaced by two with other paths, and their states go over crosswise.

abbrev pub two_accounts : Node → Node → Graph
two_accounts m n = record { nodes = m ∷ n ∷ []; links = [] }

abbrev pub first_accounts : Graph
first_accounts = two_accounts (account_at (codes "a") 1) (account_at (codes "b") 2)

abbrev pub next_accounts : Graph
next_accounts = two_accounts (account_at (codes "c") 3) (account_at (codes "d") 4)

abbrev pub crosswise : Plan
crosswise =
    record {
      unlink = [];
      remove = 0 ∷ 1 ∷ [];
      create = 0 ∷ 1 ∷ [];
      link = [];
      moves = record { old = 1; new = 0 } ∷ record { old = 0; new = 1 } ∷ [];
      freeze = 0 ∷ 1 ∷ [];
    }

-- A sink is added beside a source that feeds another: nothing is frozen, and the source goes on meanwhile.

abbrev pub s_to_t : LinkOf
s_to_t = leads 0 0 1

abbrev pub feeding : List Node → Graph
feeding more_ = record { nodes = source ∷ sink_t ∷ more_; links = s_to_t ∷ [] }

abbrev pub adding : Plan
adding = record { unlink = []; remove = []; create = 2 ∷ []; link = []; moves = []; freeze = [] }

-- the system was started, and a transaction of the source has begun
abbrev pub feeding_busy : List Event
feeding_busy = start_of (feeding []) ++ Begin 0 1 1 ∷ []

-- A map between a source and a sink is replaced: both links go, and the new node has a port of its own.

abbrev pub m_to_t : LinkOf
m_to_t = leads 0 0 2

abbrev pub s_to_map : LinkOf
s_to_map = leads 1 0 0

abbrev pub another_map : Plan
another_map =
    record {
      unlink = record { node = 0; require = 0 } ∷ record { node = 1; require = 0 } ∷ [];
      remove = 0 ∷ [];
      create = 0 ∷ [];
      link = m_to_t ∷ s_to_map ∷ [];
      moves = [];
      freeze = 0 ∷ 1 ∷ [];
    }

abbrev pub line_closed : List Event
line_closed = start_of (line 10) ++ Close 0 ∷ Close 1 ∷ []

-- A map that stands at the end of a chain is linked. Its direct set is itself and the map before it; the source before
-- that may still begin a transaction that comes to it.

abbrev pub second_map : Node
second_map = record { path = codes "n"; kind = kind.Map; arg = Some 2 }

abbrev pub m_to_n : LinkOf
m_to_n = leads 0 0 1

abbrev pub n_to_t : LinkOf
n_to_t = leads 1 0 3

abbrev pub s_to_m : LinkOf
s_to_m = leads 2 0 0

abbrev pub chain : List LinkOf → Graph
chain more_ = record { nodes = map_m 1 ∷ second_map ∷ source ∷ sink_t ∷ []; links = m_to_n ∷ more_ ++ s_to_m ∷ [] }

abbrev pub linking : Plan
linking = record { unlink = []; remove = []; create = []; link = n_to_t ∷ []; moves = []; freeze = 0 ∷ 1 ∷ 2 ∷ [] }

-- the gates of the direct set are closed, and of the enlarged one
abbrev pub direct_closed : List Event
direct_closed = start_of (chain []) ++ Close 0 ∷ Close 1 ∷ []

abbrev pub all_closed : List Event
all_closed = start_of (chain []) ++ Close 0 ∷ Close 1 ∷ Close 2 ∷ []
