-- What is left of some transactions and their consequents, and how many of their events a list has.
use Rattle.std.specs.Prelude.{◌≡◌, ℕ, ◌+◌, Bool, true, List, [], ◌∷◌, length, None, sum_by, cond, IsTrue}
use Rattle.std.specs.List.{range_with_len}
use Rattle.quiesce_core.specs.declared.event.Event.{Event}
use Rattle.quiesce_core.specs.declared.event.Event.TheVariants.{Hear}
use Rattle.quiesce_core.specs.State.{State, exchange}
use Rattle.quiesce_core.specs.Rest.{port_rest}
use Rattle.quiesce_core.specs.Rules.{calls_have_ended, denial}
use Rattle.quiesce_core.specs.Effect.{effect}
use Rattle.quiesce_laws.specs.Advances.{is_advance, is_onward}
use Rattle.quiesce_laws.specs.Belongs.{Transactions, belongs, is_event_of}

-- what is left of the port's transaction
abbrev pub rest_at : State → ℕ → ℕ
rest_at s p = port_rest s p (exchange s p).phase

-- the sum of what is left over the ports that pass
abbrev pub rest_where : (ℕ → Bool) → State → ℕ
rest_where test s = sum_by (λ p. cond (test p) (rest_at s p) 0) (range_with_len 0 (length s.config.gates))

-- the part of `rest` that belongs to some transactions and their consequents
abbrev pub rest_of : Transactions → State → ℕ
rest_of set s = rest_where (belongs set s) s

-- of the events that happen in a row from a state on, how many are of these transactions and their consequents
abbrev pub count_of : Transactions → State → List Event → ℕ
count_of set s [] = 0
count_of set s (e ∷ es) = cond (is_event_of set s e) 1 0 + count_of set (effect s e) es

-- whether each call of a service ended that hears a further message by the event
abbrev pub is_heard_between_calls : State → Event → Bool
is_heard_between_calls s (Hear p k v) = calls_have_ended s p
is_heard_between_calls s _ = true

-- An event that may happen and is one of a transaction: of one that is open, as each such event is. It is neither a
-- call nor a miss nor an intermediate reply, which a node's kind may leave; and where a service goes on by it, none of
-- its calls is open.
pub record Possible (s : State) : Type 0 where
  pub event : Event
  pub advances : IsTrue (is_advance event)
  pub onward : IsTrue (is_onward event)
  pub allowed : denial s event ≡ None
  pub between_calls : IsTrue (is_heard_between_calls s event)
