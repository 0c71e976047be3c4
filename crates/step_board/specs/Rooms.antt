-- For how many nodes, and earlier nodes of lines, a table has memory.
use Rattle.std.specs.Prelude.{Bool, true, nat_lt, length, vec_capacity}
use Rattle.step_board.specs.declared.held.Held.{Held}
use Rattle.step_board.specs.declared.held.Held.TheVariants as held

-- whether the past of a node has room for one more
abbrev pub has_past_room : Held → Bool
has_past_room (held.Node h) = nat_lt (length h.past.items) (vec_capacity h.past)
has_past_room (held.Handed x) = true
