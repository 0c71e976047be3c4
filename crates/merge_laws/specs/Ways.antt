-- The members that come on a way: a list of chains, of each of which the next member comes.
use Rattle.std.specs.Prelude.{ℕ, zero, suc, List, [], ◌∷◌, cond, Option, Some, None}
use Rattle.std.specs.List.{cons_option}
use Rattle.quiesce_core.specs.declared.event.Event.{Event}
use Rattle.report_types.specs.declared.report.HistoryLine.{HistoryLine}
use Rattle.change_spec.specs.Members.{Member, by_node, of_history, is_root}
use Rattle.merge_laws.specs.Guarded.{Left, go, log_of}

-- the member that comes from a chain: none where it is a line on what was open
abbrev pub of_line : HistoryLine → Option Member
of_line l = cond (is_root l) None (Some (of_history l))

abbrev pub first_of : List HistoryLine → Option Member
first_of [] = None
first_of (l ∷ ls) = of_line l

abbrev pub first_event : List Event → Option Member
first_event [] = None
first_event (e ∷ es) = Some (by_node e)

abbrev pub member_of : Left → ℕ → Option Member
member_of x zero = first_of x.lines
member_of x (suc n) = first_event (log_of x n)

abbrev pub members_of : Left → List ℕ → List Member
members_of x [] = []
members_of x (c ∷ cs) = cons_option (member_of x c) (members_of (go x c) cs)
