-- To be believed (definitions.md).
-- The rules of each event as a record, one field a rule, in the order in which they are looked at.
use Rattle.std.specs.Prelude.{ℕ, true, not, ◌&&◌, Option, Some, is_none, IsTrue}
use Rattle.std.specs.Option.{option_map_or}
use Rattle.config_graph.specs.declared.node.Node.{Node}
use Rattle.quiesce_core.specs.declared.event.Event.{Event}
use Rattle.quiesce_core.specs.declared.event.Event.TheVariants.{Begin, Call, Take, Give, End, More, Ask, Hear, Miss, Close, Reopen, Make, Link, Unlink, Remove}
use Rattle.quiesce_core.specs.State.{Configuration, State, is_live, owner, exchange, service, target_service}
use Rattle.quiesce_word.specs.Phases.{is_idle, is_asked, is_answered, is_in_more}
use Rattle.quiesce_core.specs.Effect.{with_target}
use Rattle.quiesce_core.specs.Reach.{has_no_cycle}
use Rattle.quiesce_core.specs.Rules.{is_live_port, is_open, is_linked, is_next_serial, is_port_serial, is_last_message, is_value, is_missing, serves_through, has_calls_left, was_heard, is_taken, calls_have_ended, has_mores_left, is_settled, has_room, is_path_taken, has_its_argument, can_move, has_provision, is_apart}

pub record CanBegin (s : State) (p k v : ℕ) : Type 0 where
  pub live : IsTrue (is_live_port s.config p)
  pub opened : IsTrue (is_open s.config p)
  pub linked : IsTrue (is_linked s.config p)
  pub idle : IsTrue (is_idle (exchange s p).phase)
  pub next_serial : IsTrue (is_next_serial s p k)
  pub value : IsTrue (is_value v)

pub record CanCall (s : State) (p k v : ℕ) : Type 0 where
  pub live : IsTrue (is_live_port s.config p)
  pub serves_through : IsTrue (serves_through s (owner s.config p) p)
  pub calls_left : IsTrue (has_calls_left s (owner s.config p))
  pub heard : IsTrue (was_heard (service s (owner s.config p)))
  pub linked : IsTrue (is_linked s.config p)
  pub idle : IsTrue (is_idle (exchange s p).phase)
  pub next_serial : IsTrue (is_next_serial s p k)
  pub value : IsTrue (is_value v)

pub record CanMiss (s : State) (p : ℕ) : Type 0 where
  pub live : IsTrue (is_live_port s.config p)
  pub serves_through : IsTrue (serves_through s (owner s.config p) p)
  pub calls_left : IsTrue (has_calls_left s (owner s.config p))
  pub heard : IsTrue (was_heard (service s (owner s.config p)))
  pub idle : IsTrue (is_idle (exchange s p).phase)
  pub missing : IsTrue (is_missing s p)

pub record CanTake (s : State) (p k v : ℕ) : Type 0 where
  pub live : IsTrue (is_live_port s.config p)
  pub asked : IsTrue (is_asked (exchange s p).phase)
  pub untaken : IsTrue (not (is_taken s p))
  pub free : IsTrue (is_none (target_service s p))
  pub message : IsTrue (is_last_message s p k v)

pub record CanGive (s : State) (p k v : ℕ) : Type 0 where
  pub live : IsTrue (is_live_port s.config p)
  pub taken : IsTrue (is_taken s p)
  pub heard : IsTrue (was_heard (target_service s p))
  pub serial : IsTrue (is_port_serial s p k)
  pub calls_ended : IsTrue (calls_have_ended s p)
  pub value : IsTrue (is_value v)

pub record CanMore (s : State) (p k v : ℕ) : Type 0 where
  pub live : IsTrue (is_live_port s.config p)
  pub taken : IsTrue (is_taken s p)
  pub heard : IsTrue (was_heard (target_service s p))
  pub serial : IsTrue (is_port_serial s p k)
  pub calls_ended : IsTrue (calls_have_ended s p)
  pub mores_left : IsTrue (has_mores_left s p)
  pub value : IsTrue (is_value v)

pub record CanAsk (s : State) (p k v : ℕ) : Type 0 where
  pub live : IsTrue (is_live_port s.config p)
  pub in_more : IsTrue (is_in_more (exchange s p).phase)
  pub serial : IsTrue (is_port_serial s p k)
  pub value : IsTrue (is_value v)

pub record CanHear (s : State) (p k v : ℕ) : Type 0 where
  pub live : IsTrue (is_live_port s.config p)
  pub asked : IsTrue (is_asked (exchange s p).phase)
  pub taken : IsTrue (is_taken s p)
  pub unheard : IsTrue (not (was_heard (target_service s p)))
  pub message : IsTrue (is_last_message s p k v)

pub record CanEnd (s : State) (p k v : ℕ) : Type 0 where
  pub live : IsTrue (is_live_port s.config p)
  pub answered : IsTrue (is_answered (exchange s p).phase)
  pub message : IsTrue (is_last_message s p k v)

pub record CanTurn (c : Configuration) (p : ℕ) : Type 0 where
  pub live : IsTrue (is_live_port c p)

pub record CanMake (c : Configuration) (n : ℕ) (node : Node) (from : Option ℕ) : Type 0 where
  pub room : IsTrue (has_room c n node)
  pub new_path : IsTrue (not (is_path_taken c node.path) && has_its_argument node)
  pub moves : IsTrue (option_map_or (λ k. can_move c k node.kind) from true)

pub record CanLink (s : State) (p n x : ℕ) : Type 0 where
  pub live : IsTrue (is_live_port s.config p)
  pub unlinked : IsTrue (not (is_linked s.config p))
  pub provision : IsTrue (has_provision s.config n x)
  pub settled : IsTrue (is_settled s (owner s.config p))
  pub no_cycle : IsTrue (has_no_cycle (with_target s.config p (Some (record { node = n; provide = x }))))

pub record CanUnlink (s : State) (p : ℕ) : Type 0 where
  pub live : IsTrue (is_live_port s.config p)
  pub linked : IsTrue (is_linked s.config p)
  pub settled : IsTrue (is_settled s (owner s.config p))

pub record CanRemove (s : State) (n : ℕ) : Type 0 where
  pub live : IsTrue (is_live s.config n)
  pub settled : IsTrue (is_settled s n)
  pub apart : IsTrue (is_apart s.config n)

-- each rule of the event holds
abbrev pub Legal : State → Event → Type 0
Legal s (Begin p k v) = CanBegin s p k v
Legal s (Call p k v) = CanCall s p k v
Legal s (Miss p) = CanMiss s p
Legal s (Take p k v) = CanTake s p k v
Legal s (Give p k v) = CanGive s p k v
Legal s (More p k v) = CanMore s p k v
Legal s (Ask p k v) = CanAsk s p k v
Legal s (Hear p k v) = CanHear s p k v
Legal s (End p k v) = CanEnd s p k v
Legal s (Close p) = CanTurn s.config p
Legal s (Reopen p) = CanTurn s.config p
Legal s (Make n node from) = CanMake s.config n node from
Legal s (Link p n x) = CanLink s p n x
Legal s (Unlink p) = CanUnlink s p
Legal s (Remove n) = CanRemove s n
