-- Small runs, at a place of which something is held or under way.
use Rattle.std.specs.Prelude.{List, [], ◌∷◌, ◌++◌, Some, None, codes}
use Rattle.config_graph.specs.declared.kind.Kind.TheVariants.{Account, Branch, Fork, Philosopher, Place, Sink, Source, Teller}
use Rattle.quiesce_core.specs.declared.event.Event.{Event}
use Rattle.quiesce_core.specs.declared.event.Event.TheVariants.{Begin, Call, End, Give, Link, Make, Reopen, Take}
use Rattle.quiesce_laws.specs.Worked.{node}

-- A philosopher sits at a place with one fork, for which the place asks first, by port 0. Port 1 leads nowhere.
abbrev pub seated : List Event
seated =
    Make 0 (node (codes "f") Fork None) None ∷ Make 1 (node (codes "p") Place (Some 0)) None ∷ Make 2 (node (codes "q") Philosopher (Some 1)) None
    ∷ Link 0 0 0 ∷ Link 2 1 0 ∷ Reopen 0 ∷ Reopen 1 ∷ Reopen 2 ∷ Begin 2 1 0 ∷ Take 2 1 0 ∷ []

-- the fork was given, and the place has heard of it
abbrev pub given : List Event
given = seated ++ Call 0 1 1 ∷ Take 0 1 1 ∷ Give 0 1 1 ∷ []

abbrev pub with_fork : List Event
with_fork = given ++ End 0 1 1 ∷ []

-- a sink has taken the item of a source, and then the source has heard of it
abbrev pub taken : List Event
taken = Make 0 (node (codes "s") Source (Some 1)) None ∷ Make 1 (node (codes "t") Sink None) None ∷ Link 0 1 0 ∷ Reopen 0 ∷ Begin 0 1 1 ∷ Take 0 1 1 ∷ []

abbrev pub counted : List Event
counted = taken ++ Give 0 1 1 ∷ End 0 1 1 ∷ []

-- A teller moves 1 from an account of 100 to one of nothing, over a branch. The first took it off, the branch has heard of
-- that, and the second has put it on.
abbrev pub asked_to_pay : List Event
asked_to_pay =
    Make 0 (node (codes "a") Account (Some 100)) None ∷ Make 1 (node (codes "b") Account (Some 0)) None ∷ Make 2 (node (codes "m") Branch None) None ∷ Make 3 (node (codes "t") Teller (Some 1)) None
    ∷ Link 0 0 0 ∷ Link 1 1 0 ∷ Link 2 2 0 ∷ Reopen 0 ∷ Reopen 1 ∷ Reopen 2 ∷ Begin 2 1 1 ∷ Take 2 1 1 ∷ Call 0 1 3 ∷ []

abbrev pub paid : List Event
paid = asked_to_pay ++ Take 0 1 3 ∷ []

abbrev pub between_accounts : List Event
between_accounts = paid ++ Give 0 1 1 ∷ End 0 1 1 ∷ Call 1 1 2 ∷ []

abbrev pub put : List Event
put = between_accounts ++ Take 1 1 2 ∷ []
