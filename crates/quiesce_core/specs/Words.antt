-- To be believed (definitions.md).
-- The words of a state: what each port and each slot shows of itself in one number, and what an event makes of them.
use Rattle.std.specs.Prelude.{ℕ, IsTrue, true, false, Option, Some, None, is_none, if◌then◌else◌}
use Rattle.std.specs.Option.{option_map_or}
use Rattle.quiesce_word.specs.Words.{is_spent, pack}
use Rattle.quiesce_word.specs.SlotWords.{pack_slot}
use Rattle.quiesce_word.specs.declared.phase.Phase.TheVariants as phase
use Rattle.quiesce_word.specs.declared.word.Word.{Word}
use Rattle.quiesce_word.specs.declared.slot_word.SlotWord.{SlotWord}
use Rattle.quiesce_core.specs.declared.event.Event.{Event}
use Rattle.quiesce_core.specs.declared.event.Event.TheVariants.{Begin, Call, Take, Give, End, More, Ask, Hear, Miss, Close, Reopen, Make, Link, Unlink, Remove}
use Rattle.quiesce_core.specs.declared.state.Slot.{Slot}
use Rattle.quiesce_word.specs.Phases.{is_idle}
use Rattle.quiesce_core.specs.Fields.{fields_of}
use Rattle.quiesce_core.specs.Rules.{has_calls_left, is_live_port, serves_through, was_heard}
use Rattle.quiesce_core.specs.State.{Configuration, State, slot, owner, exchange, service}

-- the word of a port
abbrev pub word_of : State → ℕ → ℕ
word_of s p = pack (fields_of s p)

-- what a slot shows of the node that was made there, also once it is removed
abbrev pub slot_fields_of : Slot → SlotWord
slot_fields_of m = record { kind = m.node.kind; first_port = m.first_port; arg = m.node.arg; from = m.from }

-- the word of a slot, 0 where no node was made
abbrev pub slot_word_of : Configuration → ℕ → ℕ
slot_word_of c n = option_map_or (λ m. pack_slot (slot_fields_of m)) (slot c n) 0

-- the port whose word an event changes; the other events change none
abbrev pub changed_port : Event → Option ℕ
changed_port (Begin p k v) = Some p
changed_port (Call p k v) = Some p
changed_port (Give p k v) = Some p
changed_port (More p k v) = Some p
changed_port (Ask p k v) = Some p
changed_port (End p k v) = Some p
changed_port (Close p) = Some p
changed_port (Reopen p) = Some p
changed_port (Link p n x) = Some p
changed_port (Unlink p) = Some p
changed_port (Take p k v) = None
changed_port (Hear p k v) = None
changed_port (Miss p) = None
changed_port (Make n node from) = None
changed_port (Remove n) = None

-- what it makes of what that port shows
abbrev pub fields_after : Event → Word → Word
fields_after (Begin p k v) w = record w { phase = phase.Asked; serial = k; value = v; consequent = false }
fields_after (Call p k v) w = record w { phase = phase.Asked; serial = k; value = v; consequent = true }
fields_after (Give p k v) w = record w { phase = phase.Answered; value = v }
fields_after (More p k v) w = record w { phase = phase.More; value = v }
fields_after (Ask p k v) w = record w { phase = phase.Asked; value = v }
fields_after (End p k v) w = record w { phase = phase.Idle; value = 0; consequent = false }
fields_after (Close p) w = record w { closed = true }
fields_after (Reopen p) w = record w { closed = false }
fields_after (Link p n x) w = record w { target = Some (record { node = n; provide = x }) }
fields_after (Unlink p) w = record w { target = None }
fields_after (Take p k v) w = w
fields_after (Hear p k v) w = w
fields_after (Miss p) w = w
fields_after (Make n node from) w = w
fields_after (Remove n) w = w

-- the slot whose word an event changes: that of the node that it makes
abbrev pub changed_slot : Event → Option ℕ
changed_slot (Make n node from) = Some n
changed_slot (Begin p k v) = None
changed_slot (Call p k v) = None
changed_slot (Take p k v) = None
changed_slot (Give p k v) = None
changed_slot (More p k v) = None
changed_slot (Ask p k v) = None
changed_slot (Hear p k v) = None
changed_slot (End p k v) = None
changed_slot (Miss p) = None
changed_slot (Close p) = None
changed_slot (Reopen p) = None
changed_slot (Link p n x) = None
changed_slot (Unlink p) = None
changed_slot (Remove n) = None

-- the rule by which a root is denied at an idle port of a live node, by what the port shows: it is closed, unlinked
-- or spent
abbrev pub root_denial : Word → Option ℕ
root_denial w = if w.closed then Some 2 else if is_none w.target then Some 3 else if is_spent w then Some 5 else None

-- what the owner of an idle port knows before it calls there: its service may call through the port, and heard the
-- last message
pub record CallsThrough (s : State) (p : ℕ) : Type 0 where
  pub live : IsTrue (is_live_port s.config p)
  pub serves_through : IsTrue (serves_through s (owner s.config p) p)
  pub calls_left : IsTrue (has_calls_left s (owner s.config p))
  pub heard : IsTrue (was_heard (service s (owner s.config p)))
  pub idle : IsTrue (is_idle (exchange s p).phase)
