-- What holds of a crowd after all acts, and of a node that was found settled.
use Rattle.std.proofs.Common.{◌≡◌, ℕ, ◌<◌, ◌≤◌, Bool, true, false, List, [], ◌∷◌, length, refl, sym, subst, inl, inr, ⊎_elim, arith}
use Rattle.std.specs.Prelude.{nat_le, fold, is_none, Option, Some, None}
use Rattle.std.specs.List.{list_any}
use Rattle.std.proofs.lemmas.Bool.{and_parts, both_ways, or_parts, or_right}
use Rattle.config_graph.specs.Wiring.{Reach}
use Rattle.quiesce_core.specs.declared.event.Event.{Event}
use Rattle.quiesce_core.specs.declared.event.Event.TheVariants.{Reopen, Make, Link, Unlink, Remove}
use Rattle.quiesce_core.specs.Alters.{nodes_next}
use Rattle.quiesce_core.specs.Effect.{effect}
use Rattle.quiesce_core.specs.Legal.{Legal}
use Rattle.quiesce_core.specs.Reach.{IsPortOf, wiring_of}
use Rattle.quiesce_core.specs.Rules.{denial}
use Rattle.quiesce_core.specs.Runs.{can_run, Steps, stays, onward}
use Rattle.quiesce_core.specs.Settled.{Settled}
use Rattle.quiesce_core.specs.State.{Configuration, State}
use Rattle.quiesce_core.specs.WellFormed.{IsSound}
use Rattle.quiesce_core.proofs.AlterLaws.{reconfigured}
use Rattle.quiesce_core.proofs.LegalLaws.{legal}
use Rattle.quiesce_core.proofs.StepsLaws.{both}
use Rattle.quiesce_core.proofs.TableLaws.{live_made}
use Rattle.quiesce_laws.specs.Events.{is_link}
use Rattle.quiesce_laws.proofs.ExtensionLaws.{extends_next, no_new_link, owned_before, reached_before}
use Rattle.quiesce_laws.proofs.StillLaws.{Concerns}
use Rattle.crowd_laws.specs.Crowds.{World, busy, idle, closed, events_of}
use Rattle.crowd_laws.specs.Acts.{Act, begins, calls, ends, shuts, opens, says, comes, changes, May, MayCome, MayGoOn, come_to, after, is_opening_act, events_first, events_by, events_told, world_after}
use Rattle.crowd_laws.specs.Beginning.{IsStart}
use Rattle.crowd_laws.specs.Quiet.{IsQuiescent}
use Rattle.crowd_laws.proofs.Alike.{Alike, alike_back, port_alike, reach_alike}
use Rattle.crowd_laws.proofs.Changing.{changes_next}
use Rattle.crowd_laws.proofs.Coming.{well_of}
use Rattle.crowd_laws.proofs.Holding.{Holds, came, holds_alone, holds_first}
use Rattle.crowd_laws.proofs.Shutting.{IsOff, off_next, off_within, leads_to_it, none_concerned, off_there, sound_there}

holds_next : (w : World) (a : Act) → Holds w → May w a → Holds (after w a)
holds_next w (changes e) h may = changes_next w e h may
holds_next w (begins i p) h may = holds_alone w (begins i p) refl h may
holds_next w (calls i p j) h may = holds_alone w (calls i p j) refl h may
holds_next w (ends i) h may = holds_alone w (ends i) refl h may
holds_next w (shuts p) h may = holds_alone w (shuts p) refl h may
holds_next w (opens p) h may = holds_alone w (opens p) refl h may
holds_next w (says p l) h may = holds_alone w (says p l) refl h may
holds_next w (comes p) h may = holds_alone w (comes p) refl h may

-- what each act keeps is kept by all, but for those that are barred
kept_by_acts : (P : World → Type 0) (bars : Act → Bool) → ((w : World) (a : Act) → bars a ≡ false → P w → May w a → P (after w a)) → (w : World) (as_ : List Act)
    → list_any bars as_ ≡ false → P w → MayGoOn w as_ → P (world_after w as_)
kept_by_acts P bars next w [] free h may = h
kept_by_acts P bars next w (a ∷ as_) free h may =
    let parts = or_parts (bars a) (list_any bars as_) free in kept_by_acts P bars next (after w a) as_ parts.1 (next w a parts.0 h may.0) may.1

no_act_barred : (as_ : List Act) → list_any (λ (a : Act). false) as_ ≡ false
no_act_barred [] = refl
no_act_barred (a ∷ as_) = no_act_barred as_

pub holds_on : (w : World) (as_ : List Act) → Holds w → MayGoOn w as_ → Holds (world_after w as_)
holds_on w as_ h may = kept_by_acts (Holds) (λ a. false) (λ v a free k m. holds_next v a k m) w as_ (no_act_barred as_) h may

pub holds_then : (w : World) (as_ : List Act) → IsStart w → MayGoOn w as_ → Holds (world_after w as_)
holds_then w as_ s may = holds_on w as_ (holds_first w s) may

-- what came and the changes are steps of the machine

is_none_then : {A : Type 0} (o : Option A) → is_none o ≡ true → o ≡ None
is_none_then None h = refl
is_none_then (Some x) h = absurd (both_ways false refl h)

steps_if : (s : State) (es : List Event) → can_run s es ≡ true → Steps s es (fold effect s es)
steps_if s [] h = stays s
steps_if s (e ∷ es) h =
    let parts = and_parts (is_none (denial s e)) (can_run (effect s e) es) h in
    onward s (effect s e) (fold effect (effect s e) es) e es (record { allowed = is_none_then (denial s e) parts.0; changed = refl }) (steps_if (effect s e) es parts.1)

steps_come : (w : World) (p : ℕ) → Holds w → (m : MayCome w p) → Steps w.machine (events_by w (comes p)) (after w (comes p)).machine
steps_come w p h m =
    subst (λ ls. Steps w.machine (events_first w.machine p ls) (come_to w p ls).machine) (sym m.first)
    (steps_if w.machine (events_of w.machine p m.line) (came w p m.line m.later h m.first m.unspent).may)

steps_by : (w : World) (a : Act) → Holds w → May w a → Steps w.machine (events_by w a) (after w a).machine
steps_by w (changes e) h may = onward w.machine (effect w.machine e) (effect w.machine e) e [] (record { allowed = may.allowed; changed = refl }) (stays (effect w.machine e))
steps_by w (comes p) h may = steps_come w p h may
steps_by w (begins i p) h may = stays w.machine
steps_by w (calls i p j) h may = stays w.machine
steps_by w (ends i) h may = stays w.machine
steps_by w (shuts p) h may = stays w.machine
steps_by w (opens p) h may = stays w.machine
steps_by w (says p busy) h may = stays w.machine
steps_by w (says p idle) h may = stays w.machine
steps_by w (says p closed) h may = stays w.machine

pub steps_told : (w : World) (as_ : List Act) → Holds w → MayGoOn w as_ → Steps w.machine (events_told w as_) (world_after w as_).machine
steps_told w [] h may = stays w.machine
steps_told w (a ∷ as_) h may =
    both w.machine (after w a).machine (world_after w (a ∷ as_)).machine (events_by w a) (events_told (after w a) as_) (steps_by w a h may.0) (steps_told (after w a) as_ (holds_next w a h may.0) may.1)

-- a node that was found settled
record IsQuietened (n : ℕ) (w : World) : Type 0 where
  holds : Holds w
  off : IsOff w.machine.config n w.crowd
  made : n < length w.machine.config.slots

-- no port concerns it that didn't
fewer_alike : (c d : Configuration) (n : ℕ) → Alike c d → (p : ℕ) → Concerns d n p → Concerns c n p
fewer_alike c d n a p of_it =
    let back = alike_back c d a in ⊎_elim
    (λ (own : IsPortOf d n p). inl (port_alike d c back n p own))
    (λ (r : Reach (wiring_of d) n p). inr (reach_alike d c back n p r))
    of_it

come_quietened : (n : ℕ) (w : World) (p : ℕ) (may : MayCome w p) → IsQuietened n w → Holds (come_to w p (may.line ∷ may.later)) → IsQuietened n (come_to w p (may.line ∷ may.later))
come_quietened n w p may q h =
    let it = came w p may.line may.later q.holds may.first may.unspent in
    let then_ = come_to w p (may.line ∷ may.later) in
    record {
      holds = h;
      off = off_within w.machine.config then_.machine.config n then_.crowd (fewer_alike w.machine.config then_.machine.config n it.alike) (record { said = q.off.said; free = q.off.free });
      made = subst (λ xs. n < length xs) (sym it.alike.slots) q.made;
    }

changed_quietened : (n : ℕ) (w : World) (e : Event) → (l : Legal w.machine e) → is_link e ≡ false → length w.machine.config.slots ≤ nodes_next w.machine.config e → IsQuietened n w
    → IsOff (effect w.machine e).config n w.crowd × (n < length (effect w.machine e).config.slots)
changed_quietened n w e l unlinked no_fewer q =
    let c = w.machine.config in
    let d = (effect w.machine e).config in
    let more_ = extends_next w.machine e l in
    let before = q.made in (
      off_within c d n w.crowd (λ p of_it. ⊎_elim
          (λ (own : IsPortOf d n p). inl (owned_before c d more_ n p q.made own))
          (λ (r : Reach (wiring_of d) n p). inr (reached_before c d (well_of w.machine q.holds.reached).sound more_ (no_new_link w.machine e l unlinked) n p r))
          of_it) q.off,
      subst (λ k. n < k) (sym (reconfigured w.machine e l).nodes) (omega (arith, before, no_fewer)),
    )

quietened_next : (n : ℕ) (w : World) (a : Act) → is_opening_act a ≡ false → IsQuietened n w → May w a → IsQuietened n (after w a)
quietened_next n w (begins i p) free q may = record { holds = holds_next w (begins i p) q.holds may; off = off_next w.machine.config n w (begins i p) refl q.holds q.off may; made = q.made }
quietened_next n w (calls i p j) free q may = record { holds = holds_next w (calls i p j) q.holds may; off = off_next w.machine.config n w (calls i p j) refl q.holds q.off may; made = q.made }
quietened_next n w (ends i) free q may = record { holds = holds_next w (ends i) q.holds may; off = off_next w.machine.config n w (ends i) refl q.holds q.off may; made = q.made }
quietened_next n w (shuts p) free q may = record { holds = holds_next w (shuts p) q.holds may; off = off_next w.machine.config n w (shuts p) refl q.holds q.off may; made = q.made }
quietened_next n w (opens p) free q may = record { holds = holds_next w (opens p) q.holds may; off = off_next w.machine.config n w (opens p) refl q.holds q.off may; made = q.made }
quietened_next n w (says p l) free q may = record { holds = holds_next w (says p l) q.holds may; off = off_next w.machine.config n w (says p l) refl q.holds q.off may; made = q.made }
quietened_next n w (comes p) free q may =
    subst (λ xs. IsQuietened n (come_to w p xs)) (sym may.first)
    (come_quietened n w p may q (subst (λ xs. Holds (come_to w p xs)) may.first (holds_next w (comes p) q.holds may)))
quietened_next n w (changes (Unlink p)) free q may =
    let it = changed_quietened n w (Unlink p) (legal w.machine (Unlink p) may.allowed) refl (omega arith) q in
    record { holds = holds_next w (changes (Unlink p)) q.holds may; off = it.0; made = it.1 }
quietened_next n w (changes (Remove m)) free q may =
    let it = changed_quietened n w (Remove m) (legal w.machine (Remove m) may.allowed) refl (omega arith) q in
    record { holds = holds_next w (changes (Remove m)) q.holds may; off = it.0; made = it.1 }
quietened_next n w (changes (Reopen p)) free q may = absurd (both_ways true free refl)
quietened_next n w (changes (Make m node from)) free q may =
    let it = changed_quietened n w (Make m node from) (legal w.machine (Make m node from) may.allowed) refl (omega arith) q in
    record {
      holds = holds_next w (changes (Make m node from)) q.holds may;
      off = record { said = λ p of_it. or_right (nat_le (length w.machine.config.gates) p) (w.crowd.is_said p) (it.0.said p of_it); free = it.0.free };
      made = it.1;
    }
quietened_next n w (changes (Link p m x)) free q may = absurd (both_ways true free refl)
quietened_next n w (changes _) free q may = absurd (both_ways false refl may.is_one)

-- so it is quiescent
pub quiescent_there : (w : World) (n : ℕ) → Holds w → Settled w.machine n → IsQuiescent w n
quiescent_there w n h settled = record {
  live = settled.live;
  initiated_none = λ t m own. none_concerned w.machine.config sound n w.crowd q.off t (h.stands t m) (inl own);
  begins_none = λ later. let v = then_ later.acts later.may later.closed_ in
      none_concerned (world_after w later.acts).machine.config (sound_there (world_after w later.acts) n v.holds) n (world_after w later.acts).crowd v.off
      later.transaction (v.holds.stands later.transaction later.open_) (inl later.is_one);
  serves_none = λ t m to. none_concerned w.machine.config sound n w.crowd q.off t (h.stands t m) (leads_to_it w.machine.config n t to);
  is_asked_none = λ later. let v = then_ later.acts later.may later.closed_ in
      none_concerned (world_after w later.acts).machine.config (sound_there (world_after w later.acts) n v.holds) n (world_after w later.acts).crowd v.off
      later.transaction (v.holds.stands later.transaction later.open_) (leads_to_it (world_after w later.acts).machine.config n later.transaction later.is_one);
}
  where
    sound : IsSound w.machine.config
    sound = sound_there w n h

    q : IsQuietened n w
    q = record { holds = h; off = off_there w n h settled; made = live_made w.machine.config n settled.live }

    then_ : (as_ : List Act) → MayGoOn w as_ → list_any is_opening_act as_ ≡ false → IsQuietened n (world_after w as_)
    then_ as_ may closed_ = kept_by_acts (IsQuietened n) is_opening_act (λ v a free k m. quietened_next n v a free k m) w as_ closed_ q may
