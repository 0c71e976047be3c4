-- A run after which a node is settled, and what may still come: one event at least of each kind but Reopen, Make and
-- Link.
use Rattle.std.specs.Prelude.{ℕ, List, [], ◌∷◌, Option, Some, None, codes}
use Rattle.config_graph.specs.declared.kind.Kind.{Kind}
use Rattle.config_graph.specs.declared.kind.Kind.TheVariants as kind
use Rattle.config_graph.specs.declared.node.Node.{Node}
use Rattle.quiesce_core.specs.declared.event.Event.{Event}
use Rattle.quiesce_core.specs.declared.event.Event.TheVariants.{Begin, Call, Take, Give, End, More, Ask, Hear, Miss, Close, Reopen, Make, Link, Unlink, Remove}

abbrev pub node : List ℕ → Kind → Option ℕ → Node
node path of_kind arg = record { path = path; kind = of_kind; arg = arg }

-- An asker leads to an adder over port 0. A teller leads to a branch over port 1, and this to an account over port 2;
-- its port 3 is unlinked. A source, in slot 5, leads to a sink over port 4, which is closed.
abbrev pub at_rest : List Event
at_rest =
    Make 0 (node (codes "asker") kind.Asker (Some 1)) None ∷ Make 1 (node (codes "adder") kind.Adder None) None
    ∷ Make 2 (node (codes "teller") kind.Teller (Some 1)) None ∷ Make 3 (node (codes "branch") kind.Branch None) None
    ∷ Make 4 (node (codes "account") kind.Account (Some 1)) None ∷ Make 5 (node (codes "source") kind.Source (Some 1)) None
    ∷ Make 6 (node (codes "sink") kind.Sink None) None
    ∷ Link 0 1 0 ∷ Link 1 3 0 ∷ Link 2 4 0 ∷ Link 4 6 0 ∷ Reopen 0 ∷ Reopen 1 ∷ []

-- a transaction with an intermediate reply, one with a call and a miss, and then the source goes
abbrev pub may_come : List Event
may_come =
    Begin 0 1 7 ∷ Take 0 1 7 ∷ More 0 1 8 ∷ Ask 0 1 9 ∷ Hear 0 1 9 ∷ Give 0 1 10 ∷ End 0 1 10
    ∷ Begin 1 1 7 ∷ Take 1 1 7 ∷ Call 2 1 8 ∷ Take 2 1 8 ∷ Give 2 1 9 ∷ End 2 1 9 ∷ Miss 3 ∷ Give 1 1 10 ∷ End 1 1 10
    ∷ Close 1 ∷ Unlink 4 ∷ Remove 5 ∷ []
