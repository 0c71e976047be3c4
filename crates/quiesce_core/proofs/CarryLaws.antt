-- Which values the events of a transaction carry: the Take has that of the Begin or Call, the Hear that of the Ask, and the End that of
-- the Give.
use Rattle.std.proofs.Common.{◌≡◌, ◌∙◌, ℕ, ◌≤◌, Bool, true, false, ◌||◌, List, [], ◌∷◌, ◌++◌, append_assoc, None, refl, ap, sym, subst, ⊎_elim, arith}
use Rattle.std.specs.List.{list_any}
use Rattle.std.proofs.lemmas.Bool.{both_ways, cases_Bool, eq-eqb, eqb-true, not-true}
use Rattle.quiesce_core.specs.declared.event.Event.{Event}
use Rattle.quiesce_core.specs.declared.event.Event.TheVariants.{Begin, Call, Take, Give, End, More, Ask, Hear}
use Rattle.quiesce_core.specs.declared.state.Exchange.{Exchange}
use Rattle.quiesce_word.specs.declared.phase.Phase.{Phase}
use Rattle.quiesce_word.specs.declared.phase.Phase.TheVariants as phase
use Rattle.quiesce_core.specs.State.{State, exchange}
use Rattle.quiesce_word.specs.Phases.{is_answered, is_asked, is_in_more}
use Rattle.quiesce_core.specs.Rules.{is_port_serial, is_taken}
use Rattle.quiesce_core.specs.Knowledge.{StandsThere}
use Rattle.quiesce_core.specs.Doers.{is_ask_at, is_end_at, is_give_at}
use Rattle.quiesce_core.specs.Effect.{effect}
use Rattle.quiesce_core.specs.Legal.{Legal}
use Rattle.quiesce_core.specs.Runs.{IsRun, state_after}
use Rattle.quiesce_core.specs.Traffic.{IsConsistent}
use Rattle.quiesce_core.specs.WellFormed.{IsWellFormed}
use Rattle.quiesce_word.proofs.PhaseLaws.{answered_not_asked, answered_not_more, more_not_answered}
use Rattle.quiesce_core.proofs.AlterLaws.{exchanges_next}
use Rattle.quiesce_core.proofs.PortEventLaws.{Starts, Turn, asks, ends, gives, passes, replies, starts, turn_of}
use Rattle.quiesce_core.proofs.InductionLaws.{IsNext, along, none_barred, place, unbarred}
use Rattle.quiesce_core.proofs.RunLaws.{fronts_are_runs}
use Rattle.quiesce_core.proofs.StabilityLaws.{answers_stay, replies_stay, taken_ports_stay}
use Rattle.quiesce_core.proofs.KnowledgeLemmas.{message_is}
use Rattle.quiesce_core.proofs.StateLaws.{taken_is}

-- the serial never falls
serial_rises : (s : State) (p k : ℕ) (e : Event) → Turn s p e → k ≤ (exchange s p).serial → k ≤ (exchange (effect s e) p).serial
serial_rises s p k e (passes now g m) h = subst (λ (x : Exchange). k ≤ x.serial) (sym now) h
serial_rises s p k e (starts start) h = subst (λ i. k ≤ i) (sym (ap (λ (x : Exchange). x.serial) start.now)) (omega (arith, h))
serial_rises s p k e (gives v t g now) h = subst (λ (x : Exchange). k ≤ x.serial) (sym now) h
serial_rises s p k e (replies v t m now) h = subst (λ (x : Exchange). k ≤ x.serial) (sym now) h
serial_rises s p k e (asks v m a g now) h = subst (λ (x : Exchange). k ≤ x.serial) (sym now) h
serial_rises s p k e (ends a d now) h = subst (λ (x : Exchange). k ≤ x.serial) (sym now) h

-- a transaction that was begun is not begun again
new_serial : (s : State) (p k : ℕ) (e : Event) → k ≤ (exchange s p).serial → Starts s p e → (exchange (effect s e) p).serial ≡ k → ⊥
new_serial s p k e h start same = omega (arith, h, ap (λ (x : Exchange). x.serial) start.now, same)

module _ (p k v : ℕ) where
  -- until the request is taken, its value stands at the port
  record IsAsked (s : State) : Type 0 where
    since : k ≤ (exchange s p).serial
    stands : (exchange s p).serial ≡ k → is_asked (exchange s p).phase ≡ true → is_taken s p ≡ false → (exchange s p).value ≡ v

  asked_next : (s : State) (e : Event) → IsWellFormed s → IsConsistent s → Legal s e → IsAsked s → IsAsked (effect s e)
  asked_next s e w c l h = record { since = serial_rises s p k e (turn_of s e w l p) h.since; stands = by (turn_of s e w l p) }
    where
      still : is_give_at p e ≡ false → is_taken s p ≡ true → is_taken (effect s e) p ≡ false → ⊥
      still g taken untaken = both_ways (is_taken (effect s e) p) untaken (taken_ports_stay s e w c l p taken g)

      by : Turn s p e → (exchange (effect s e) p).serial ≡ k → is_asked (exchange (effect s e) p).phase ≡ true → is_taken (effect s e) p ≡ false → (exchange (effect s e) p).value ≡ v
      by (passes now g m) same asked untaken = ap (λ (x : Exchange). x.value) now ∙ h.stands (sym (ap (λ (x : Exchange). x.serial) now) ∙ same) (sym (ap (λ (x : Exchange). is_asked x.phase) now) ∙ asked)
          (⊎_elim (λ (t : is_taken s p ≡ true). absurd (still g t untaken)) (λ (f : is_taken s p ≡ false). f) (cases_Bool (is_taken s p)))
      by (starts start) same asked untaken = absurd (new_serial s p k e h.since start same)
      by (gives u t g now) same asked untaken = absurd (both_ways false refl (sym (ap (λ (x : Exchange). is_asked x.phase) now) ∙ asked))
      by (replies u t m now) same asked untaken = absurd (both_ways false refl (sym (ap (λ (x : Exchange). is_asked x.phase) now) ∙ asked))
      by (asks u m a g now) same asked untaken = absurd (still g (c.taken p m) untaken)
      by (ends a d now) same asked untaken = absurd (both_ways false refl (sym (ap (λ (x : Exchange). is_asked x.phase) now) ∙ asked))

  -- until a further message is sent, the last one stands
  record IsSent (s : State) : Type 0 where
    since : k ≤ (exchange s p).serial
    stands : (exchange s p).serial ≡ k → is_asked (exchange s p).phase ≡ true → (exchange s p).value ≡ v

  sent_next : (s : State) (e : Event) → IsWellFormed s → IsConsistent s → Legal s e → is_ask_at p e ≡ false → IsSent s → IsSent (effect s e)
  sent_next s e w c l none_ h = record { since = serial_rises s p k e (turn_of s e w l p) h.since; stands = by (turn_of s e w l p) }
    where
      by : Turn s p e → (exchange (effect s e) p).serial ≡ k → is_asked (exchange (effect s e) p).phase ≡ true → (exchange (effect s e) p).value ≡ v
      by (passes now g m) same asked = ap (λ (x : Exchange). x.value) now ∙ h.stands (sym (ap (λ (x : Exchange). x.serial) now) ∙ same) (sym (ap (λ (x : Exchange). is_asked x.phase) now) ∙ asked)
      by (starts start) same asked = absurd (new_serial s p k e h.since start same)
      by (gives u t g now) same asked = absurd (both_ways false refl (sym (ap (λ (x : Exchange). is_asked x.phase) now) ∙ asked))
      by (replies u t m now) same asked = absurd (both_ways false refl (sym (ap (λ (x : Exchange). is_asked x.phase) now) ∙ asked))
      by (asks u m a g now) same asked = absurd (both_ways (is_ask_at p e) none_ a)
      by (ends a d now) same asked = absurd (both_ways false refl (sym (ap (λ (x : Exchange). is_asked x.phase) now) ∙ asked))

  -- once it is answered, the answer stands until its end, and nothing more is asked
  record IsGiven (s : State) : Type 0 where
    since : k ≤ (exchange s p).serial
    unasked : (exchange s p).serial ≡ k → is_asked (exchange s p).phase ≡ false
    not_more : (exchange s p).serial ≡ k → is_in_more (exchange s p).phase ≡ false
    stands : (exchange s p).serial ≡ k → is_answered (exchange s p).phase ≡ true → (exchange s p).value ≡ v

  -- so it isn't taken
  untaken : (s : State) → IsConsistent s → IsGiven s → (exchange s p).serial ≡ k → is_taken s p ≡ true → ⊥
  untaken s c h same taken =
      let t = taken_is s p taken in
      neither (exchange s p).phase (h.unasked same) (h.not_more same) (sym (ap (λ i. is_asked (exchange s i).phase || is_in_more (exchange s i).phase) t.of_port) ∙ (c.serving t.to.node t.serving t.serviced).busy)
    where
      neither : (f : Phase) → is_asked f ≡ false → is_in_more f ≡ false → (is_asked f || is_in_more f) ≡ true → ⊥
      neither f a b h = both_ways (is_in_more f) b (sym (ap (λ x. x || is_in_more f) a) ∙ h)

  given_next : (s : State) (e : Event) → IsWellFormed s → IsConsistent s → Legal s e → IsGiven s → IsGiven (effect s e)
  given_next s e w c l h = by (turn_of s e w l p)
    where
      before : exchange (effect s e) p ≡ exchange s p → (exchange (effect s e) p).serial ≡ k → (exchange s p).serial ≡ k
      before now same = sym (ap (λ (x : Exchange). x.serial) now) ∙ same

      by : Turn s p e → IsGiven (effect s e)
      by (passes now g m) = record {
        since = serial_rises s p k e (passes now g m) h.since;
        unasked = λ same. ap (λ (x : Exchange). is_asked x.phase) now ∙ h.unasked (before now same);
        not_more = λ same. ap (λ (x : Exchange). is_in_more x.phase) now ∙ h.not_more (before now same);
        stands = λ same answered. ap (λ (x : Exchange). x.value) now ∙ h.stands (before now same) (sym (ap (λ (x : Exchange). is_answered x.phase) now) ∙ answered);
      }
      by (starts start) = record {
        since = serial_rises s p k e (starts start) h.since;
        unasked = λ same. absurd (new_serial s p k e h.since start same);
        not_more = λ same. absurd (new_serial s p k e h.since start same);
        stands = λ same answered. absurd (new_serial s p k e h.since start same);
      }
      by (gives u t g now) = record {
        since = serial_rises s p k e (gives u t g now) h.since;
        unasked = λ same. absurd (untaken s c h (sym (ap (λ (x : Exchange). x.serial) now) ∙ same) t);
        not_more = λ same. absurd (untaken s c h (sym (ap (λ (x : Exchange). x.serial) now) ∙ same) t);
        stands = λ same answered. absurd (untaken s c h (sym (ap (λ (x : Exchange). x.serial) now) ∙ same) t);
      }
      by (replies u t m now) = record {
        since = serial_rises s p k e (replies u t m now) h.since;
        unasked = λ same. absurd (untaken s c h (sym (ap (λ (x : Exchange). x.serial) now) ∙ same) t);
        not_more = λ same. absurd (untaken s c h (sym (ap (λ (x : Exchange). x.serial) now) ∙ same) t);
        stands = λ same answered. absurd (untaken s c h (sym (ap (λ (x : Exchange). x.serial) now) ∙ same) t);
      }
      by (asks u m a g now) = record {
        since = serial_rises s p k e (asks u m a g now) h.since;
        unasked = λ same. absurd (both_ways (is_in_more (exchange s p).phase) (h.not_more (sym (ap (λ (x : Exchange). x.serial) now) ∙ same)) m);
        not_more = λ same. ap (λ (x : Exchange). is_in_more x.phase) now;
        stands = λ same answered. absurd (both_ways false refl (sym (ap (λ (x : Exchange). is_answered x.phase) now) ∙ answered));
      }
      by (ends a d now) = record {
        since = serial_rises s p k e (ends a d now) h.since;
        unasked = λ same. ap (λ (x : Exchange). is_asked x.phase) now;
        not_more = λ same. ap (λ (x : Exchange). is_in_more x.phase) now;
        stands = λ same answered. absurd (both_ways false refl (sym (ap (λ (x : Exchange). is_answered x.phase) now) ∙ answered));
      }

-- ---- along a run

-- what each step keeps goes from behind an event to a later one
carried : (Q : State → Type 0) (bars : Event → Bool) → ((s : State) (e : Event) → IsWellFormed s → IsConsistent s → Legal s e → bars e ≡ false → Q s → Q (effect s e))
    → (before between : List Event) (e : Event) → IsRun (before ++ e ∷ between) → list_any bars between ≡ false → Q (state_after (before ++ e ∷ [])) → Q (state_after (before ++ e ∷ between))
carried Q bars step before between e run free h =
    subst (λ xs. Q (state_after xs)) (append_assoc before (e ∷ []) between)
    (along (λ xs. Q (state_after xs)) bars (λ xs f here never so_far. subst Q (sym here.next) (step (state_after xs) f here.well here.traffic here.legal never so_far))
    (before ++ e ∷ []) between (subst (λ xs. IsRun xs) (sym (append_assoc before (e ∷ []) between)) run) free h)

-- the two places of such events
record Two (before between after : List Event) (e f : Event) : Type 0 where
  first : IsNext before e
  run : IsRun (before ++ e ∷ between)
  second : IsNext (before ++ e ∷ between) f

two : (before between after : List Event) (e f : Event) → IsRun (before ++ e ∷ between ++ f ∷ after) → Two before between after e f
two before between after e f h =
    record {
      first = place before (between ++ f ∷ after) e (subst (λ xs. IsRun xs) (append_assoc before (e ∷ between) (f ∷ after)) h);
      run = fronts_are_runs (before ++ e ∷ between) (f ∷ after) h;
      second = place (before ++ e ∷ between) after f h;
    }

-- the exchange of the port of an event behind it
behind : (before : List Event) (e : Event) (p : ℕ) → IsNext before e → exchange (state_after (before ++ e ∷ [])) p ≡ exchange (effect (state_after before) e) p
behind before e p here = ap (λ (s : State). exchange s p) here.next

-- ---- the values

-- what stands at the port of an event behind it
record Stands (s : State) (p k v : ℕ) : Type 0 where
  serial : (exchange s p).serial ≡ k
  value : (exchange s p).value ≡ v

asked_start : (s : State) (p k v : ℕ) → Stands s p k v → IsAsked p k v s
asked_start s p k v h = record { since = omega (arith, h.serial); stands = λ same asked free. h.value }

sent_start : (s : State) (p k v : ℕ) → Stands s p k v → IsSent p k v s
sent_start s p k v h = record { since = omega (arith, h.serial); stands = λ same asked. h.value }

given_start : (s : State) (p k v : ℕ) → Stands s p k v → is_answered (exchange s p).phase ≡ true → IsGiven p k v s
given_start s p k v h answered = record {
  since = omega (arith, h.serial);
  unasked = λ same. answered_not_asked (exchange s p).phase answered;
  not_more = λ same. answered_not_more (exchange s p).phase answered;
  stands = λ same a. h.value;
}

port_serial_is : (s : State) (p k : ℕ) → is_port_serial s p k ≡ true → k ≡ (exchange s p).serial
port_serial_is s p k h = eqb-true k (exchange s p).serial h

begun_here : (before : List Event) (p k v : ℕ) → IsNext before (Begin p k v) → Stands (state_after (before ++ Begin p k v ∷ [])) p k v
begun_here before p k v here =
    let now : exchange (state_after (before ++ Begin p k v ∷ [])) p ≡ record { phase = phase.Asked; serial = k; value = v; within = None } =
    behind before (Begin p k v) p here ∙ exchanges_next (state_after before) (Begin p k v) here.well here.legal p ∙ rw (eq-eqb p p refl) refl in
    record { serial = ap (λ (x : Exchange). x.serial) now; value = ap (λ (x : Exchange). x.value) now }

called_here : (before : List Event) (p k v : ℕ) → IsNext before (Call p k v) → Stands (state_after (before ++ Call p k v ∷ [])) p k v
called_here before p k v here =
    let now = behind before (Call p k v) p here ∙ exchanges_next (state_after before) (Call p k v) here.well here.legal p in
    record {
      serial = ap (λ (x : Exchange). x.serial) now ∙ rw (eq-eqb p p refl) refl;
      value = ap (λ (x : Exchange). x.value) now ∙ rw (eq-eqb p p refl) refl;
    }

asked_here : (before : List Event) (p k v : ℕ) → IsNext before (Ask p k v) → Stands (state_after (before ++ Ask p k v ∷ [])) p k v
asked_here before p k v here =
    let now = behind before (Ask p k v) p here ∙ exchanges_next (state_after before) (Ask p k v) here.well here.legal p in
    record {
      serial = ap (λ (x : Exchange). x.serial) now ∙ rw (eq-eqb p p refl) (sym (port_serial_is (state_after before) p k here.legal.serial));
      value = ap (λ (x : Exchange). x.value) now ∙ rw (eq-eqb p p refl) refl;
    }

given_here : (before : List Event) (p k v : ℕ) → IsNext before (Give p k v) → Stands (state_after (before ++ Give p k v ∷ [])) p k v × (is_answered (exchange (state_after (before ++ Give p k v ∷ [])) p).phase ≡ true)
given_here before p k v here =
    let now = behind before (Give p k v) p here ∙ exchanges_next (state_after before) (Give p k v) here.well here.legal p in (
      record {
        serial = ap (λ (x : Exchange). x.serial) now ∙ rw (eq-eqb p p refl) (sym (port_serial_is (state_after before) p k here.legal.serial));
        value = ap (λ (x : Exchange). x.value) now ∙ rw (eq-eqb p p refl) refl;
      },
      ap (λ (x : Exchange). is_answered x.phase) now ∙ rw (eq-eqb p p refl) refl,
    )

replied_here : (before : List Event) (p k v : ℕ) → IsNext before (More p k v) → Stands (state_after (before ++ More p k v ∷ [])) p k v × (is_in_more (exchange (state_after (before ++ More p k v ∷ [])) p).phase ≡ true)
replied_here before p k v here =
    let now = behind before (More p k v) p here ∙ exchanges_next (state_after before) (More p k v) here.well here.legal p in (
      record {
        serial = ap (λ (x : Exchange). x.serial) now ∙ rw (eq-eqb p p refl) (sym (port_serial_is (state_after before) p k here.legal.serial));
        value = ap (λ (x : Exchange). x.value) now ∙ rw (eq-eqb p p refl) refl;
      },
      ap (λ (x : Exchange). is_in_more x.phase) now ∙ rw (eq-eqb p p refl) refl,
    )

-- a request is taken with the value with which it was begun or called
requested : (before between after : List Event) (e : Event) (p k v w : ℕ) → Two before between after e (Take p k w) → Stands (state_after (before ++ e ∷ [])) p k v → w ≡ v
requested before between after e p k v w t start =
    let s : State = state_after (before ++ e ∷ between) in
    let there = carried (IsAsked p k v) unbarred (λ s f well c l free. asked_next p k v s f well c l) before between e t.run (none_barred between) (asked_start (state_after (before ++ e ∷ [])) p k v start) in
    let l = t.second.legal in
    let message = message_is s p k w l.message in
    message.1 ∙ there.stands (sym message.0) l.asked (not-true (is_taken s p) l.untaken)

pub takes_carry_begins : (before between after : List Event) (p k v w : ℕ) → IsRun (before ++ Begin p k v ∷ between ++ Take p k w ∷ after) → w ≡ v
takes_carry_begins before between after p k v w h =
    let t = two before between after (Begin p k v) (Take p k w) h in requested before between after (Begin p k v) p k v w t (begun_here before p k v t.first)

pub takes_carry_calls : (before between after : List Event) (p k v w : ℕ) → IsRun (before ++ Call p k v ∷ between ++ Take p k w ∷ after) → w ≡ v
takes_carry_calls before between after p k v w h =
    let t = two before between after (Call p k v) (Take p k w) h in requested before between after (Call p k v) p k v w t (called_here before p k v t.first)

-- a further message is heard with the value with which it was sent
pub hears_carry_asks : (before between after : List Event) (p k v w : ℕ) → IsRun (before ++ Ask p k v ∷ between ++ Hear p k w ∷ after) → list_any (is_ask_at p) between ≡ false → w ≡ v
hears_carry_asks before between after p k v w h free =
    let t = two before between after (Ask p k v) (Hear p k w) h in
    let s : State = state_after (before ++ Ask p k v ∷ between) in
    let there = carried (IsSent p k v) (is_ask_at p) (λ s f well c l none_. sent_next p k v s f well c l none_) before between (Ask p k v) t.run free
    (sent_start (state_after (before ++ Ask p k v ∷ [])) p k v (asked_here before p k v t.first)) in
    let l = t.second.legal in
    let message = message_is s p k w l.message in
    message.1 ∙ there.stands (sym message.0) l.asked

-- a transaction ends with the value with which it was answered
pub ends_carry_gives : (before between after : List Event) (p k v w : ℕ) → IsRun (before ++ Give p k v ∷ between ++ End p k w ∷ after) → w ≡ v
ends_carry_gives before between after p k v w h =
    let t = two before between after (Give p k v) (End p k w) h in
    let s : State = state_after (before ++ Give p k v ∷ between) in
    let start = given_here before p k v t.first in
    let there = carried (IsGiven p k v) unbarred (λ s f well c l free. given_next p k v s f well c l) before between (Give p k v) t.run (none_barred between)
    (given_start (state_after (before ++ Give p k v ∷ [])) p k v start.0 start.1) in
    let l = t.second.legal in
    let message = message_is s p k w l.message in
    message.1 ∙ there.stands (sym message.0) l.answered

-- a reply stands at the port until something is sent or ended upon it
pub intermediate_replies_stand : (before between : List Event) (p k v : ℕ) → IsRun (before ++ More p k v ∷ between) → list_any (is_ask_at p) between ≡ false
    → StandsThere (state_after (before ++ More p k v ∷ between)) p true v × ((exchange (state_after (before ++ More p k v ∷ between)) p).serial ≡ k)
intermediate_replies_stand before between p k v h free =
    let start = replied_here before p k v (place before between (More p k v) h) in
    carried (λ s. StandsThere s p true v × ((exchange s p).serial ≡ k)) (is_ask_at p) (λ s e w c l none_ q.
    let same = replies_stay s e w c l p q.0.in_more none_ in (
      record { value = ap (λ (x : Exchange). x.value) same ∙ q.0.value; answered = ap (λ (x : Exchange). is_answered x.phase) same ∙ q.0.answered; in_more = ap (λ (x : Exchange). is_in_more x.phase) same ∙ q.0.in_more },
      ap (λ (x : Exchange). x.serial) same ∙ q.1,
    ))
    before between (More p k v) h free
    (record { value = start.0.value; answered = more_not_answered (exchange (state_after (before ++ More p k v ∷ [])) p).phase start.1; in_more = start.1 }, start.0.serial)

pub answers_stand : (before between : List Event) (p k v : ℕ) → IsRun (before ++ Give p k v ∷ between) → list_any (is_end_at p) between ≡ false
    → StandsThere (state_after (before ++ Give p k v ∷ between)) p false v × ((exchange (state_after (before ++ Give p k v ∷ between)) p).serial ≡ k)
answers_stand before between p k v h free =
    let start = given_here before p k v (place before between (Give p k v) h) in
    carried (λ s. StandsThere s p false v × ((exchange s p).serial ≡ k)) (is_end_at p) (λ s e w c l none_ q.
    let same = answers_stay s e w c l p q.0.answered none_ in (
      record { value = ap (λ (x : Exchange). x.value) same ∙ q.0.value; answered = ap (λ (x : Exchange). is_answered x.phase) same ∙ q.0.answered; in_more = ap (λ (x : Exchange). is_in_more x.phase) same ∙ q.0.in_more },
      ap (λ (x : Exchange). x.serial) same ∙ q.1,
    ))
    before between (Give p k v) h free
    (record { value = start.0.value; answered = start.1; in_more = answered_not_more (exchange (state_after (before ++ Give p k v ∷ [])) p).phase start.1 }, start.0.serial)
