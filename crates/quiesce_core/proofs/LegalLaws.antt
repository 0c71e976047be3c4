-- Where no rule fails each holds, and the other way round.
use Rattle.std.proofs.Common.{◌≡◌, ℕ, Bool, true, false, cond, List, [], ◌∷◌, Option, Some, None, refl, sym, ap, ◌∙◌, ⊎_elim}
use Rattle.std.specs.Prelude.{⊤, ◌↔◌}
use Rattle.std.proofs.lemmas.Bool.{cases_Bool}
use Rattle.quiesce_core.specs.declared.event.Event.{Event}
use Rattle.quiesce_core.specs.declared.event.Event.TheVariants.{Begin, Call, Take, Give, End, More, Ask, Hear, Miss, Close, Reopen, Make, Link, Unlink, Remove}
use Rattle.quiesce_core.specs.State.{State}
use Rattle.quiesce_core.specs.Rules.{rules_at, first_failing, denial}
use Rattle.quiesce_core.specs.Legal.{Legal}

AllHold : List (ℕ × Bool) → Type 0
AllHold [] = ⊤
AllHold (rule ∷ rules) = (rule.1 ≡ true) × AllHold rules

all_hold : (rules : List (ℕ × Bool)) → first_failing rules ≡ None → AllHold rules
unfolding AllHold
all_hold [] h = tt
all_hold (rule ∷ rules) h = ⊎_elim
    (λ (e : rule.1 ≡ true). (e, all_hold rules (sym (ap (λ b. cond b (first_failing rules) (Some rule.0)) e) ∙ h)))
    (λ (e : rule.1 ≡ false).
    let f : ◌≡◌ {A = Option ℕ} (Some rule.0) None = sym (ap (λ b. cond b (first_failing rules) (Some rule.0)) e) ∙ h in absurd (cc))
    (cases_Bool rule.1)

none_fails : (rules : List (ℕ × Bool)) → AllHold rules → first_failing rules ≡ None
unfolding AllHold
none_fails [] h = refl
none_fails (rule ∷ rules) h = ap (λ b. cond b (first_failing rules) (Some rule.0)) h.0 ∙ none_fails rules h.1

pub legal : (s : State) (e : Event) → denial s e ≡ None → Legal s e
unfolding AllHold
legal s (Begin p k v) h =
    let a = all_hold (rules_at s (Begin p k v)) h in record { live = a.0; opened = a.1.0; linked = a.1.1.0; idle = a.1.1.1.0; next_serial = a.1.1.1.1.0; value = a.1.1.1.1.1.0 }
legal s (Call p k v) h =
    let a = all_hold (rules_at s (Call p k v)) h in record { live = a.0; serves_through = a.1.0; calls_left = a.1.1.0; heard = a.1.1.1.0; linked = a.1.1.1.1.0; idle = a.1.1.1.1.1.0; next_serial = a.1.1.1.1.1.1.0; value = a.1.1.1.1.1.1.1.0 }
legal s (Miss p) h =
    let a = all_hold (rules_at s (Miss p)) h in record { live = a.0; serves_through = a.1.0; calls_left = a.1.1.0; heard = a.1.1.1.0; idle = a.1.1.1.1.0; missing = a.1.1.1.1.1.0 }
legal s (Take p k v) h =
    let a = all_hold (rules_at s (Take p k v)) h in record { live = a.0; asked = a.1.0; untaken = a.1.1.0; free = a.1.1.1.0; message = a.1.1.1.1.0 }
legal s (Give p k v) h =
    let a = all_hold (rules_at s (Give p k v)) h in record { live = a.0; taken = a.1.0; heard = a.1.1.0; serial = a.1.1.1.0; calls_ended = a.1.1.1.1.0; value = a.1.1.1.1.1.0 }
legal s (More p k v) h =
    let a = all_hold (rules_at s (More p k v)) h in record { live = a.0; taken = a.1.0; heard = a.1.1.0; serial = a.1.1.1.0; calls_ended = a.1.1.1.1.0; mores_left = a.1.1.1.1.1.0; value = a.1.1.1.1.1.1.0 }
legal s (Ask p k v) h =
    let a = all_hold (rules_at s (Ask p k v)) h in record { live = a.0; in_more = a.1.0; serial = a.1.1.0; value = a.1.1.1.0 }
legal s (Hear p k v) h =
    let a = all_hold (rules_at s (Hear p k v)) h in record { live = a.0; asked = a.1.0; taken = a.1.1.0; unheard = a.1.1.1.0; message = a.1.1.1.1.0 }
legal s (End p k v) h =
    let a = all_hold (rules_at s (End p k v)) h in record { live = a.0; answered = a.1.0; message = a.1.1.0 }
legal s (Close p) h =
    let a = all_hold (rules_at s (Close p)) h in record { live = a.0 }
legal s (Reopen p) h =
    let a = all_hold (rules_at s (Reopen p)) h in record { live = a.0 }
legal s (Make n node from) h =
    let a = all_hold (rules_at s (Make n node from)) h in record { room = a.0; new_path = a.1.0; moves = a.1.1.0 }
legal s (Link p n x) h =
    let a = all_hold (rules_at s (Link p n x)) h in record { live = a.0; unlinked = a.1.0; provision = a.1.1.0; settled = a.1.1.1.0; no_cycle = a.1.1.1.1.0 }
legal s (Unlink p) h =
    let a = all_hold (rules_at s (Unlink p)) h in record { live = a.0; linked = a.1.0; settled = a.1.1.0 }
legal s (Remove n) h =
    let a = all_hold (rules_at s (Remove n)) h in record { live = a.0; settled = a.1.0; apart = a.1.1.0 }

pub allowed : (s : State) (e : Event) → Legal s e → denial s e ≡ None
unfolding AllHold
allowed s (Begin p k v) h = none_fails (rules_at s (Begin p k v)) (h.live, (h.opened, (h.linked, (h.idle, (h.next_serial, (h.value, tt))))))
allowed s (Call p k v) h = none_fails (rules_at s (Call p k v)) (h.live, (h.serves_through, (h.calls_left, (h.heard, (h.linked, (h.idle, (h.next_serial, (h.value, tt))))))))
allowed s (Miss p) h = none_fails (rules_at s (Miss p)) (h.live, (h.serves_through, (h.calls_left, (h.heard, (h.idle, (h.missing, tt))))))
allowed s (Take p k v) h = none_fails (rules_at s (Take p k v)) (h.live, (h.asked, (h.untaken, (h.free, (h.message, tt)))))
allowed s (Give p k v) h = none_fails (rules_at s (Give p k v)) (h.live, (h.taken, (h.heard, (h.serial, (h.calls_ended, (h.value, tt))))))
allowed s (More p k v) h = none_fails (rules_at s (More p k v)) (h.live, (h.taken, (h.heard, (h.serial, (h.calls_ended, (h.mores_left, (h.value, tt)))))))
allowed s (Ask p k v) h = none_fails (rules_at s (Ask p k v)) (h.live, (h.in_more, (h.serial, (h.value, tt))))
allowed s (Hear p k v) h = none_fails (rules_at s (Hear p k v)) (h.live, (h.asked, (h.taken, (h.unheard, (h.message, tt)))))
allowed s (End p k v) h = none_fails (rules_at s (End p k v)) (h.live, (h.answered, (h.message, tt)))
allowed s (Close p) h = none_fails (rules_at s (Close p)) (h.live, tt)
allowed s (Reopen p) h = none_fails (rules_at s (Reopen p)) (h.live, tt)
allowed s (Make n node from) h = none_fails (rules_at s (Make n node from)) (h.room, (h.new_path, (h.moves, tt)))
allowed s (Link p n x) h = none_fails (rules_at s (Link p n x)) (h.live, (h.unlinked, (h.provision, (h.settled, (h.no_cycle, tt)))))
allowed s (Unlink p) h = none_fails (rules_at s (Unlink p)) (h.live, (h.linked, (h.settled, tt)))
allowed s (Remove n) h = none_fails (rules_at s (Remove n)) (h.live, (h.settled, (h.apart, tt)))

pub legal_events : (s : State) (e : Event) → (denial s e ≡ None) ↔ Legal s e
legal_events s e = (legal s e, allowed s e)
