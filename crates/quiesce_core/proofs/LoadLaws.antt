-- What the word that a step loads tells of the events that it may do at the port.
use Rattle.std.proofs.Common.{◌≡◌, ◌∙◌, ℕ, ◌+◌, ◌≤◌, ◌&&◌, not, Bool, true, false, cond, length, Option, Some, None, refl, sym, ap, subst, ⊎_elim, arith}
use Rattle.std.specs.Prelude.{is_none, is_some, nat_le, option_map, ◌==◌}
use Rattle.std.specs.Option.{option_map_or}
use Rattle.std.proofs.lemmas.Bool.{and_from, and_parts, both_ways, cases_eq, eq-eqb, eqb-true, le-leb, lt-leb, ne_eqb, or_parts}
use Rattle.std.proofs.lemmas.List.{get_or_past}
use Rattle.std.proofs.lemmas.Option.{slice_get_past}
use Rattle.config_graph.specs.declared.node.Target.{Target}
use Rattle.quiesce_word.specs.Phases.{is_answered, is_asked, is_idle, is_in_more}
use Rattle.quiesce_word.specs.SlotWords.{pack_slot}
use Rattle.quiesce_word.specs.Words.{is_message_to, is_missing, is_spent, pack, unpack}
use Rattle.quiesce_word.specs.declared.operands.TheConstants.{CLOSED}
use Rattle.quiesce_word.specs.declared.word.Word.{Word}
use Rattle.quiesce_core.specs.Rules.{denial, is_last_message, is_linked, is_live_port, is_next_serial, is_open, is_value, last_serial, was_heard}
use Rattle.quiesce_core.specs.Runs.{is_doer}
use Rattle.quiesce_core.specs.State.{Configuration, State, exchange, fresh_exchange, fresh_gate, gate, service, target, target_service}
use Rattle.quiesce_core.specs.Traffic.{IsConsistent}
use Rattle.quiesce_core.specs.WellFormed.{IsWellFormed}
use Rattle.quiesce_core.specs.Words.{CallsThrough, root_denial, slot_fields_of, slot_word_of, word_of}
use Rattle.quiesce_core.specs.Fields.{fields_of}
use Rattle.quiesce_core.specs.declared.event.Event.TheVariants.{Begin, Call, Take, End, Ask, Hear, Miss}
use Rattle.quiesce_core.specs.declared.state.Service.{Service}
use Rattle.quiesce_core.specs.declared.state.Slot.{Slot}
use Rattle.base.proofs.OptionLaws.{map_or_true}
use Rattle.quiesce_core.proofs.LegalLaws.{allowed, legal}
use Rattle.quiesce_core.proofs.StabilityLaws.{busy_is_live}
use Rattle.quiesce_core.proofs.StateLaws.{is_taken_if, target_service_is}
use Rattle.quiesce_word.proofs.PhaseLaws.{answered_busy, asked_busy, more_busy}
use Rattle.quiesce_core.proofs.WordLaws.{port_words_decode}

-- ---- what was never made

pub unmade_port : (s : State) → IsWellFormed s → (p : ℕ) → length s.config.gates ≤ p → word_of s p ≡ CLOSED
unmade_port s w p past =
    let g : gate s.config p ≡ fresh_gate = get_or_past s.config.gates p fresh_gate past in
    let x : exchange s p ≡ fresh_exchange = get_or_past s.traffic.exchanges p fresh_exchange (omega (arith, past, w.exchanges)) in
    λ i. pack (record { closed = (g i).closed; phase = (x i).phase; consequent = is_some (x i).within; target = (g i).target; serial = (x i).serial; value = (x i).value })

pub unmade_slot : (c : Configuration) (n : ℕ) → length c.slots ≤ n → slot_word_of c n ≡ 0
unmade_slot c n past = ap (λ o. option_map_or (λ (m : Slot). pack_slot (slot_fields_of m)) o 0) (slice_get_past c.slots n past)

-- ---- serials and messages

next_if_unspent : (k : ℕ) → k ≤ last_serial → nat_le (k + 1) last_serial ≡ not (k == last_serial)
next_if_unspent k few = ⊎_elim
    (λ (last : k ≡ last_serial). lt-leb (k + 1) last_serial (omega (arith, last)) ∙ sym (ap not (eq-eqb k last_serial last)))
    (λ (before : k ≡ last_serial → ⊥). le-leb (k + 1) last_serial (omega (arith, few, before)) ∙ sym (ap not (ne_eqb k last_serial before)))
    (cases_eq k last_serial)

next_serial_is : (s : State) (p : ℕ) → IsWellFormed s → is_next_serial s p ((exchange s p).serial + 1) ≡ not (is_spent (fields_of s p))
next_serial_is s p w =
    let k = (exchange s p).serial in
    ap (λ b. b && nat_le (k + 1) last_serial) (eq-eqb (k + 1) (k + 1) refl) ∙ next_if_unspent k (w.bounds p).serial

last_message_is : (s : State) (p : ℕ) → is_last_message s p (exchange s p).serial (exchange s p).value ≡ true
last_message_is s p =
    and_from ((exchange s p).serial == (exchange s p).serial) ((exchange s p).value == (exchange s p).value) (eq-eqb _ _ refl) (eq-eqb _ _ refl)

-- ---- what a root, a call and a miss find

-- a rule by its number, and those after it where it holds
abbrev rule : Bool → ℕ → Option ℕ → Option ℕ
rule holds n next = cond holds next (Some n)

root_of : (c l u : Bool) → rule (not c) 2 (rule l 3 (rule (not u) 5 None)) ≡ cond c (Some 2) (cond (not l) (Some 3) (cond u (Some 5) None))
root_of true l u = refl
root_of false true true = refl
root_of false true false = refl
root_of false false u = refl

unlinked_is : (o : Option Target) → not (is_some o) ≡ is_none o
unlinked_is None = refl
unlinked_is (Some t) = refl

begin_at : (s : State) (p v : ℕ) → IsWellFormed s → is_live_port s.config p ≡ true → is_value v ≡ true → is_idle (exchange s p).phase ≡ true
    → denial s (Begin p ((exchange s p).serial + 1) v) ≡ root_denial (fields_of s p)
begin_at s p v w live value idle =
    let spent = is_spent (fields_of s p) in
    let next = next_serial_is s p w in
    (λ i. rule (live i) 1 (rule (is_open s.config p) 2 (rule (is_linked s.config p) 3 (rule (idle i) 4 (rule (next i) 5 (rule (value i) 6 None))))))
    ∙ root_of (gate s.config p).closed (is_linked s.config p) spent
    ∙ ap (λ b. cond (gate s.config p).closed (Some 2) (cond b (Some 3) (cond spent (Some 5) None))) (unlinked_is (target s.config p))

pub begin_judged : (s : State) (p v : ℕ) → IsWellFormed s → is_live_port s.config p ≡ true → is_value v ≡ true → is_idle (unpack (word_of s p)).phase ≡ true
    → denial s (Begin p ((unpack (word_of s p)).serial + 1) v) ≡ root_denial (unpack (word_of s p))
begin_judged s p v w live value =
    let P : Word → Type 0 = λ x. is_idle x.phase ≡ true → denial s (Begin p (x.serial + 1) v) ≡ root_denial x in
    subst P (sym (port_words_decode s w p)) (begin_at s p v w live value)

some_if : (o : Option Target) → is_none o ≡ false → is_some o ≡ true
some_if None h = absurd (both_ways true h refl)
some_if (Some t) h = refl

call_at : (s : State) (p v : ℕ) → IsWellFormed s → CallsThrough s p → is_value v ≡ true → is_missing (fields_of s p) ≡ false → denial s (Call p ((exchange s p).serial + 1) v) ≡ None
call_at s p v w c value found =
    let both = or_parts (is_none (target s.config p)) (is_spent (fields_of s p)) found in
    allowed s (Call p ((exchange s p).serial + 1) v) (record {
      live = c.live;
      serves_through = c.serves_through;
      calls_left = c.calls_left;
      heard = c.heard;
      linked = some_if (target s.config p) both.0;
      idle = c.idle;
      next_serial = next_serial_is s p w ∙ ap not both.1;
      value = value;
    })

pub call_judged : (s : State) (p v : ℕ) → IsWellFormed s → CallsThrough s p → is_value v ≡ true → is_missing (unpack (word_of s p)) ≡ false
    → denial s (Call p ((unpack (word_of s p)).serial + 1) v) ≡ None
call_judged s p v w c value =
    let P : Word → Type 0 = λ x. is_missing x ≡ false → denial s (Call p (x.serial + 1) v) ≡ None in
    subst P (sym (port_words_decode s w p)) (call_at s p v w c value)

pub miss_judged : (s : State) (p : ℕ) → IsWellFormed s → CallsThrough s p → is_missing (unpack (word_of s p)) ≡ true → denial s (Miss p) ≡ None
miss_judged s p w c missing = allowed s (Miss p) (record {
  live = c.live;
  serves_through = c.serves_through;
  calls_left = c.calls_left;
  heard = c.heard;
  idle = c.idle;
  missing = sym (ap is_missing (port_words_decode s w p)) ∙ missing;
})

-- ---- what a target finds

take_at : (s : State) (p n : ℕ) → IsConsistent s → service s n ≡ None → is_message_to n (fields_of s p) ≡ true → denial s (Take p (exchange s p).serial (exchange s p).value) ≡ None
take_at s p n k none_ message =
    let both = and_parts (is_asked (exchange s p).phase) (option_map_or (λ (t : Target). t.node == n) (target s.config p) false) message in
    let t = map_or_true (λ (t : Target). t.node == n) (target s.config p) both.1 in
    let free : target_service s p ≡ None = target_service_is s p t.0 t.1 ∙ ap (service s) (eqb-true t.0.node n t.2) ∙ none_ in
    allowed s (Take p (exchange s p).serial (exchange s p).value) (record {
      live = busy_is_live s p k (asked_busy (exchange s p).phase both.0);
      asked = both.0;
      untaken = ap (λ o. not (option_map_or (λ (v : Service). v.port == p) o false)) free;
      free = ap is_none free;
      message = last_message_is s p;
    })

pub take_judged : (s : State) (p n : ℕ) → IsWellFormed s → IsConsistent s → service s n ≡ None → is_message_to n (unpack (word_of s p)) ≡ true
    → denial s (Take p (unpack (word_of s p)).serial (unpack (word_of s p)).value) ≡ None
take_judged s p n w k none_ =
    let P : Word → Type 0 = λ x. is_message_to n x ≡ true → denial s (Take p x.serial x.value) ≡ None in
    subst P (sym (port_words_decode s w p)) (take_at s p n k none_)

not_its_own : (o : Option Target) (n : ℕ) → option_map_or (λ (t : Target). t.node == n) o false ≡ option_map_or (λ m. m == n) (option_map (λ (t : Target). t.node) o) false
not_its_own None n = refl
not_its_own (Some t) n = refl

pub stale_judged : (s : State) (p n k v : ℕ) → IsWellFormed s → is_message_to n (unpack (word_of s p)) ≡ false → denial s (Take p k v) ≡ None → is_doer s n (Take p k v) ≡ false
stale_judged s p n k v w stale may =
    let l = legal s (Take p k v) may in
    sym (not_its_own (target s.config p) n)
    ∙ sym (ap (λ b. b && option_map_or (λ (t : Target). t.node == n) (target s.config p) false) l.asked)
    ∙ sym (ap (is_message_to n) (port_words_decode s w p)) ∙ stale

hear_at : (s : State) (p n : ℕ) (u : Service) → IsConsistent s → service s n ≡ Some u → u.port ≡ p → u.heard ≡ false → is_asked (exchange s p).phase ≡ true
    → denial s (Hear p (exchange s p).serial (exchange s p).value) ≡ None
hear_at s p n u k serviced of_port unheard asked =
    let serving = k.serving n u serviced in
    let to : Target = record { node = n; provide = serving.provide } in
    let leads : target s.config p ≡ Some to = sym (ap (target s.config) of_port) ∙ serving.linked in
    allowed s (Hear p (exchange s p).serial (exchange s p).value) (record {
      live = busy_is_live s p k (asked_busy (exchange s p).phase asked);
      asked = asked;
      taken = is_taken_if s p to u leads serviced of_port;
      unheard = ap (λ o. not (was_heard o)) (target_service_is s p to leads ∙ serviced) ∙ ap not unheard;
      message = last_message_is s p;
    })

pub hear_judged : (s : State) (p n : ℕ) (u : Service) → IsWellFormed s → IsConsistent s → service s n ≡ Some u → u.port ≡ p → u.heard ≡ false → is_asked (unpack (word_of s p)).phase ≡ true
    → denial s (Hear p (unpack (word_of s p)).serial (unpack (word_of s p)).value) ≡ None
hear_judged s p n u w k serviced of_port unheard =
    let P : Word → Type 0 = λ x. is_asked x.phase ≡ true → denial s (Hear p x.serial x.value) ≡ None in
    subst P (sym (port_words_decode s w p)) (hear_at s p n u k serviced of_port unheard)

-- ---- what an owner sees

ask_at : (s : State) (p v : ℕ) → IsConsistent s → is_value v ≡ true → is_in_more (exchange s p).phase ≡ true → denial s (Ask p (exchange s p).serial v) ≡ None
ask_at s p v k value more_ = allowed s (Ask p (exchange s p).serial v) (record {
  live = busy_is_live s p k (more_busy (exchange s p).phase more_);
  in_more = more_;
  serial = eq-eqb _ _ refl;
  value = value;
})

pub ask_judged : (s : State) (p v : ℕ) → IsWellFormed s → IsConsistent s → is_value v ≡ true → is_in_more (unpack (word_of s p)).phase ≡ true
    → denial s (Ask p (unpack (word_of s p)).serial v) ≡ None
ask_judged s p v w k value =
    let P : Word → Type 0 = λ x. is_in_more x.phase ≡ true → denial s (Ask p x.serial v) ≡ None in
    subst P (sym (port_words_decode s w p)) (ask_at s p v k value)

end_at : (s : State) (p : ℕ) → IsConsistent s → is_answered (exchange s p).phase ≡ true → denial s (End p (exchange s p).serial (exchange s p).value) ≡ None
end_at s p k answered = allowed s (End p (exchange s p).serial (exchange s p).value) (record {
  live = busy_is_live s p k (answered_busy (exchange s p).phase answered);
  answered = answered;
  message = last_message_is s p;
})

pub end_judged : (s : State) (p : ℕ) → IsWellFormed s → IsConsistent s → is_answered (unpack (word_of s p)).phase ≡ true
    → denial s (End p (unpack (word_of s p)).serial (unpack (word_of s p)).value) ≡ None
end_judged s p w k =
    let P : Word → Type 0 = λ x. is_answered x.phase ≡ true → denial s (End p x.serial x.value) ≡ None in
    subst P (sym (port_words_decode s w p)) (end_at s p k)
