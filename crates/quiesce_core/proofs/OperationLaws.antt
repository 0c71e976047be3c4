-- By which operation of the gates, with which operand, each event makes the new word of the old one.
use Rattle.std.proofs.Common.{◌≡◌, ◌∙◌, ℕ, ◌+◌, ◌<◌, ◌^◌, true, false, length, Option, Some, None, refl, sym, ap, subst, arith}
use Rattle.std.specs.Prelude.{bit_and, bit_or, bit_xor, is_some, nat_le, ◌==◌}
use Rattle.std.specs.Int.Bits.{or_zero_l}
use Rattle.std.proofs.lemmas.Bool.{and_parts, both_ways, eqb-true, leb-true, ltb-true, not-true}
use Rattle.config_graph.specs.declared.node.Node.{Node}
use Rattle.config_graph.specs.declared.node.Target.{Target}
use Rattle.quiesce_word.specs.Operands.{call_difference, end_difference, link_difference, message_difference}
use Rattle.quiesce_word.specs.Phases.{is_in_more}
use Rattle.quiesce_word.specs.SlotWords.{pack_slot}
use Rattle.quiesce_word.specs.Words.{FitsTarget, pack}
use Rattle.quiesce_word.specs.declared.operands.TheConstants.{ALL_BUT_CLOSED, CLOSED}
use Rattle.quiesce_word.specs.declared.phase.Phase.TheVariants as phase
use Rattle.quiesce_word.proofs.PhaseLaws.{answered_is, asked_unless_more, more_is}
use Rattle.quiesce_word.proofs.OperandLaws.{and_opens, call_turns, end_turns, link_turns, message_turns, or_closes, unlink_turns}
use Rattle.quiesce_core.specs.declared.event.Event.TheVariants.{Begin, Call, Give, End, More, Ask, Close, Reopen, Make, Link, Unlink}
use Rattle.quiesce_core.specs.declared.state.Service.{Service}
use Rattle.quiesce_core.specs.Rules.{is_linked, is_taken, last_serial, value_limit, was_heard}
use Rattle.quiesce_core.specs.Runs.{Step}
use Rattle.quiesce_core.specs.State.{State, exchange, target, target_service}
use Rattle.quiesce_core.specs.Traffic.{IsConsistent}
use Rattle.quiesce_core.specs.WellFormed.{IsWellFormed}
use Rattle.quiesce_core.specs.Words.{slot_word_of, word_of}
use Rattle.quiesce_core.specs.Fields.{fields_of}
use Rattle.base.proofs.OptionLaws.{map_or_at}
use Rattle.quiesce_core.proofs.LegalLaws.{legal}
use Rattle.quiesce_core.proofs.SoundnessLaws.{well_formed_next}
use Rattle.quiesce_core.proofs.StateLaws.{served_busy, taken_is, target_service_is}
use Rattle.quiesce_core.proofs.WordLaws.{port_word_follows, port_words_fit, slot_word_made, slot_word_unmade}

-- where the last message was heard, a taken port is asked
pub heard_is_asked : (s : State) (p : ℕ) → IsConsistent s → is_taken s p ≡ true → was_heard (target_service s p) ≡ true → (exchange s p).phase ≡ phase.Asked
heard_is_asked s p k taken heard =
    let at = taken_is s p taken in
    let there : target_service s p ≡ Some at.serving = target_service_is s p at.to at.leads ∙ at.serviced in
    let was : at.serving.heard ≡ true = sym (map_or_at (λ (w : Service). w.heard) (target_service s p) false at.serving there) ∙ heard in
    let serving = k.serving at.to.node at.serving at.serviced in
    asked_unless_more (exchange s p).phase (served_busy s p k at.to.node at.serving at.serviced at.of_port)
    (λ more_. both_ways at.serving.heard (serving.waits (ap (λ q. is_in_more (exchange s q).phase) at.of_port ∙ more_)) was)

-- ---- exchanges

value_fits : (s : State) (p : ℕ) → IsWellFormed s → (exchange s p).value < 2 ^ 24
value_fits s p w = (w.bounds p).value

pub call_by : (s t : State) (p k v : ℕ) → IsWellFormed s → Step s (Call p k v) t → word_of t p ≡ bit_xor (word_of s p) (call_difference (fields_of s p) v)
call_by s t p k v w step =
    let l = legal s (Call p k v) step.allowed in
    let next = and_parts (k == (exchange s p).serial + 1) (nat_le k last_serial) l.next_serial in
    let is : k ≡ (exchange s p).serial + 1 = eqb-true k ((exchange s p).serial + 1) next.0 in
    ap pack (port_word_follows s t (Call p k v) w step p refl)
    ∙ ap (λ j. pack (record (fields_of s p) { phase = phase.Asked; serial = j; value = v; consequent = true })) is
    ∙ sym (call_turns (fields_of s p) v (port_words_fit s w p) (omega (arith, leb-true k last_serial next.1, is)) (ltb-true v value_limit l.value) (fields_of s p) (port_words_fit s w p) refl refl refl refl)

pub give_by : (s t : State) (p k v : ℕ) → IsWellFormed s → IsConsistent s → Step s (Give p k v) t
    → word_of t p ≡ bit_xor (word_of s p) (message_difference phase.Asked (exchange s p).value phase.Answered v)
give_by s t p k v w c step =
    let l = legal s (Give p k v) step.allowed in
    ap pack (port_word_follows s t (Give p k v) w step p refl)
    ∙ sym (message_turns phase.Asked phase.Answered (exchange s p).value v (value_fits s p w) (ltb-true v value_limit l.value) (fields_of s p) (port_words_fit s w p) (heard_is_asked s p c l.taken l.heard) refl)

pub more_by : (s t : State) (p k v : ℕ) → IsWellFormed s → IsConsistent s → Step s (More p k v) t
    → word_of t p ≡ bit_xor (word_of s p) (message_difference phase.Asked (exchange s p).value phase.More v)
more_by s t p k v w c step =
    let l = legal s (More p k v) step.allowed in
    ap pack (port_word_follows s t (More p k v) w step p refl)
    ∙ sym (message_turns phase.Asked phase.More (exchange s p).value v (value_fits s p w) (ltb-true v value_limit l.value) (fields_of s p) (port_words_fit s w p) (heard_is_asked s p c l.taken l.heard) refl)

pub ask_by : (s t : State) (p k v : ℕ) → IsWellFormed s → Step s (Ask p k v) t
    → word_of t p ≡ bit_xor (word_of s p) (message_difference phase.More (exchange s p).value phase.Asked v)
ask_by s t p k v w step =
    let l = legal s (Ask p k v) step.allowed in
    ap pack (port_word_follows s t (Ask p k v) w step p refl)
    ∙ sym (message_turns phase.More phase.Asked (exchange s p).value v (value_fits s p w) (ltb-true v value_limit l.value) (fields_of s p) (port_words_fit s w p) (more_is (exchange s p).phase l.in_more) refl)

pub end_by : (s t : State) (p k v : ℕ) → IsWellFormed s → Step s (End p k v) t → word_of t p ≡ bit_xor (word_of s p) (end_difference v (is_some (exchange s p).within))
end_by s t p k v w step =
    let l = legal s (End p k v) step.allowed in
    let message = and_parts (k == (exchange s p).serial) (v == (exchange s p).value) l.message in
    let is : (exchange s p).value ≡ v = sym (eqb-true v (exchange s p).value message.1) in
    ap pack (port_word_follows s t (End p k v) w step p refl)
    ∙ sym (end_turns (is_some (exchange s p).within) v (omega (arith, value_fits s p w, is)) (fields_of s p) (port_words_fit s w p) (answered_is (exchange s p).phase l.answered) is refl)

-- ---- gates

pub close_by : (s t : State) (p : ℕ) → IsWellFormed s → Step s (Close p) t → word_of t p ≡ bit_or (word_of s p) CLOSED
close_by s t p w step = ap pack (port_word_follows s t (Close p) w step p refl) ∙ sym (or_closes (fields_of s p) (port_words_fit s w p))

pub reopen_by : (s t : State) (p : ℕ) → IsWellFormed s → Step s (Reopen p) t → word_of t p ≡ bit_and (word_of s p) ALL_BUT_CLOSED
reopen_by s t p w step = ap pack (port_word_follows s t (Reopen p) w step p refl) ∙ sym (and_opens (fields_of s p) (port_words_fit s w p))

no_target : (o : Option Target) → is_some o ≡ false → o ≡ None
no_target None h = refl
no_target (Some t) h = absurd (both_ways true h refl)

pub link_by : (s t : State) (p n x : ℕ) → IsWellFormed s → Step s (Link p n x) t → word_of t p ≡ bit_xor (word_of s p) (link_difference (record { node = n; provide = x }))
link_by s t p n x w step =
    let l = legal s (Link p n x) step.allowed in
    let to : Target = record { node = n; provide = x } in
    let next : IsWellFormed t = subst (λ u. IsWellFormed u) (sym step.changed) (well_formed_next s (Link p n x) w l) in
    let follows = port_word_follows s t (Link p n x) w step p refl in
    let fits : FitsTarget to = (port_words_fit t next p).target to (ap (λ f. f.target) follows) in
    ap pack follows ∙ sym (link_turns to fits (fields_of s p) (port_words_fit s w p) (no_target (target s.config p) (not-true (is_linked s.config p) l.unlinked)))

pub unlink_by : (s t : State) (p : ℕ) (to : Target) → IsWellFormed s → target s.config p ≡ Some to → Step s (Unlink p) t → word_of t p ≡ bit_xor (word_of s p) (link_difference to)
unlink_by s t p to w linked step =
    ap pack (port_word_follows s t (Unlink p) w step p refl)
    ∙ sym (unlink_turns to ((port_words_fit s w p).target to linked) (fields_of s p) (port_words_fit s w p) linked)

pub begin_by : (s t : State) (p k v : ℕ) → IsWellFormed s → Step s (Begin p k v) t
    → word_of t p ≡ pack (record (fields_of s p) { phase = phase.Asked; serial = k; value = v; consequent = false })
begin_by s t p k v w step = ap pack (port_word_follows s t (Begin p k v) w step p refl)

-- ---- slots

pub make_by : (s t : State) (n : ℕ) (node : Node) (from : Option ℕ) → IsWellFormed s → Step s (Make n node from) t
    → slot_word_of t.config n ≡ bit_or (slot_word_of s.config n) (pack_slot (record { kind = node.kind; first_port = length s.config.gates; arg = node.arg; from = from }))
make_by s t n node from w step =
    let filled = pack_slot (record { kind = node.kind; first_port = length s.config.gates; arg = node.arg; from = from }) in
    slot_word_made s t n node from w step ∙ sym (or_zero_l filled) ∙ sym (ap (λ k. bit_or k filled) (slot_word_unmade s t n node from step))
