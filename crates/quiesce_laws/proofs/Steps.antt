-- What is left, by the steps: all of it, and the part of marked ports.
use Rattle.std.proofs.Common.{◌≡◌, ℕ, ◌+◌, ◌≤◌, Bool, true, false, cond, Some, refl, sym, ap, ◌∙◌, subst, ⊎_elim, arith}
use Rattle.std.specs.Prelude.{◌==◌, option_map}
use Rattle.std.specs.Option.{option_map_or}
use Rattle.std.proofs.lemmas.Bool.{both_ways, cases_Bool}
use Rattle.config_graph.specs.declared.node.Target.{Target}
use Rattle.quiesce_core.specs.declared.event.Event.{Event}
use Rattle.quiesce_core.specs.declared.event.Event.TheVariants.{Begin, Call, Take, Give, End, More, Ask, Hear, Miss, Close, Reopen, Make, Link, Unlink, Remove}
use Rattle.quiesce_core.specs.declared.state.Service.{Service}
use Rattle.quiesce_core.specs.State.{State, owner, target}
use Rattle.quiesce_core.specs.Effect.{effect}
use Rattle.quiesce_core.specs.Legal.{Legal}
use Rattle.quiesce_core.specs.Rest.{full, rest}
use Rattle.quiesce_core.specs.Runs.{Step}
use Rattle.quiesce_core.specs.Traffic.{IsConsistent}
use Rattle.quiesce_core.specs.WellFormed.{IsWellFormed}
use Rattle.quiesce_core.proofs.LegalLaws.{legal}
use Rattle.quiesce_laws.specs.Advances.{is_advance, is_begin}
use Rattle.quiesce_laws.specs.Drain.{rest_where}
use Rattle.quiesce_laws.proofs.Falls.{Calling, Moves, take_falls, hear_falls, ask_falls, end_falls, give_falls, more_falls, miss_calls, miss_falls, call_calls, call_moves, begin_rises}
use Rattle.quiesce_laws.proofs.Sharing.{marked_after, is_marked, falls_part, moves_part, rises_part, rises_all, part_le}
use Rattle.quiesce_laws.proofs.ChangeFalls.{spares_part}
use Rattle.quiesce_laws.proofs.Sparing.{All, Apart, link_spares, spares}
use Rattle.quiesce_laws.proofs.Advancing.{advance_port}

-- a call or a miss is of the port that is serviced
calls_of_port : (s : State) (p : ℕ) (b : ℕ → Bool) (at : Calling s p) → is_marked b s (Miss p) ≡ b at.serving.port
calls_of_port s p b at = ap (λ o. option_map_or b (option_map (λ (w : Service). w.port) o) false) at.serviced

miss_part : (s : State) (p : ℕ) (b : ℕ → Bool) → Calling s p → cond (is_marked b s (Miss p)) 1 0 + rest_where (marked_after b s (Miss p)) (effect s (Miss p)) ≤ rest_where b s
miss_part s p b at =
    subst (λ m. cond m 1 0 + rest_where b (effect s (Miss p)) ≤ rest_where b s) (sym (calls_of_port s p b at))
    (falls_part s (effect s (Miss p)).traffic at.serving.port b (miss_falls s p at))

call_part : (s : State) (p k v : ℕ) (b : ℕ → Bool) (at : Calling s p) → Moves s (effect s (Call p k v)).traffic p at.serving.port
    → cond (is_marked b s (Call p k v)) 1 0 + rest_where (marked_after b s (Call p k v)) (effect s (Call p k v)) ≤ rest_where b s
call_part s p k v b at moves =
    subst (λ m. cond m 1 0 + rest_where (λ q. cond (q == p) m (b q)) (effect s (Call p k v)) ≤ rest_where b s) (sym (calls_of_port s p b at))
    (moves_part s (effect s (Call p k v)).traffic p at.serving.port b moves)

pub marked_part : (s : State) (e : Event) (b : ℕ → Bool) → IsWellFormed s → IsConsistent s → Legal s e
    → cond (is_marked b s e) 1 0 + rest_where (marked_after b s e) (effect s e) ≤ rest_where b s
marked_part s (Begin p k v) b w c l = omega (arith, rises_part s (effect s (Begin p k v)).traffic p b (begin_rises s p k v w c l))
marked_part s (Call p k v) b w c l = let at = call_calls s p k v w c l in call_part s p k v b at (call_moves s p k v w c l at)
marked_part s (Miss p) b w c l = miss_part s p b (miss_calls s p w c l)
marked_part s (Take p k v) b w c l = falls_part s (effect s (Take p k v)).traffic p b (take_falls s p k v w c l)
marked_part s (Give p k v) b w c l = falls_part s (effect s (Give p k v)).traffic p b (give_falls s p k v w c l)
marked_part s (End p k v) b w c l = falls_part s (effect s (End p k v)).traffic p b (end_falls s p k v w c l)
marked_part s (More p k v) b w c l = falls_part s (effect s (More p k v)).traffic p b (more_falls s p k v w c l)
marked_part s (Ask p k v) b w c l = falls_part s (effect s (Ask p k v)).traffic p b (ask_falls s p k v w c l)
marked_part s (Hear p k v) b w c l = falls_part s (effect s (Hear p k v)).traffic p b (hear_falls s p k v w c l)
marked_part s (Close p) b w c l = omega (arith, spares_part s (effect s (Close p)) w c All (spares s (Close p) w c l refl refl) b)
marked_part s (Reopen p) b w c l = omega (arith, spares_part s (effect s (Reopen p)) w c All (spares s (Reopen p) w c l refl refl) b)
marked_part s (Make n node from) b w c l = omega (arith, spares_part s (effect s (Make n node from)) w c All (spares s (Make n node from) w c l refl refl) b)
marked_part s (Link p n x) b w c l = omega (arith, spares_part s (effect s (Link p n x)) w c (Apart s.config (owner s.config p)) (link_spares s p n x w c l) b)
marked_part s (Unlink p) b w c l = omega (arith, spares_part s (effect s (Unlink p)) w c All (spares s (Unlink p) w c l refl refl) b)
marked_part s (Remove n) b w c l = omega (arith, spares_part s (effect s (Remove n)) w c All (spares s (Remove n) w c l refl refl) b)

abbrev pub every : ℕ → Bool
every p = true

pub all_rest : (s : State) → rest_where every s ≡ rest s
all_rest s = refl

-- a call is made for a port that is serviced
all_followed : (s : State) (e : Event) → IsWellFormed s → IsConsistent s → Legal s e → is_begin e ≡ false → (q : ℕ) → marked_after every s e q ≡ true
all_followed s (Begin p k v) w c l h q = absurd (both_ways true h refl)
all_followed s (Call p k v) w c l h q =
    let at = call_calls s p k v w c l in
    ap (λ o. cond (q == p) (option_map_or every (option_map (λ (w : Service). w.port) o) false) true) at.serviced ∙ both (q == p)
  where
    both : (b : Bool) → cond b true true ≡ true
    both true = refl
    both false = refl
all_followed s _ w c l h q = refl

advance_marked : (s : State) (e : Event) → IsConsistent s → Legal s e → is_advance e ≡ true → is_marked every s e ≡ true
advance_marked s e c l h = ap (λ o. option_map_or every o false) (advance_port s e c l h).of_it

all_part : (s : State) (e : Event) → IsWellFormed s → IsConsistent s → Legal s e → is_begin e ≡ false → cond (is_marked every s e) 1 0 + rest (effect s e) ≤ rest s
all_part s e w c l h =
    let part = marked_part s e every w c l in
    let less : rest_where every (effect s e) ≤ rest_where (marked_after every s e) (effect s e) = part_le (effect s e) every (marked_after every s e) (λ q busy on. all_followed s e w c l h q) in
    omega (arith, part, less, all_rest s, all_rest (effect s e))

advance_only : (e : Event) → is_advance e ≡ true → is_begin e ≡ false
advance_only (Begin p k v) h = absurd (both_ways false refl h)
advance_only _ h = refl

-- all of what is left falls at each event of an open transaction, and rises at none but Begin
pub rest_next : (s : State) (e : Event) → IsWellFormed s → IsConsistent s → Legal s e → is_begin e ≡ false → cond (is_advance e) 1 0 + rest (effect s e) ≤ rest s
rest_next s e w c l h = ⊎_elim
    (λ (on : is_advance e ≡ true).
    let flag : ◌≡◌ {A = ℕ} (cond (is_marked every s e) 1 0) (cond (is_advance e) 1 0) = ap (λ b. cond b 1 0) (advance_marked s e c l on ∙ sym on) in omega (arith, flag, all_part s e w c l h))
    (λ (off : is_advance e ≡ false). let flag : ◌≡◌ {A = ℕ} (cond (is_advance e) 1 0) 0 = ap (λ b. cond b 1 0) off in omega (arith, flag, all_part s e w c l h))
    (cases_Bool (is_advance e))

pub rest_falls : (s s' : State) (e : Event) → IsWellFormed s → IsConsistent s → Step s e s' → is_advance e ≡ true → rest s' + 1 ≤ rest s
rest_falls s s' e w c step h =
    let one : ◌≡◌ {A = ℕ} (cond (is_advance e) 1 0) 1 = ap (λ b. cond b 1 0) h in
    omega (arith, one, rest_next s e w c (legal s e step.allowed) (advance_only e h), ap (λ x. rest x) step.changed)

pub rest_stays : (s s' : State) (e : Event) → IsWellFormed s → IsConsistent s → Step s e s' → is_begin e ≡ false → rest s' ≤ rest s
rest_stays s s' e w c step h = omega (arith, rest_next s e w c (legal s e step.allowed) h, ap (λ x. rest x) step.changed)

-- and at a Begin by all of one transaction
pub rest_rises : (s s' : State) (p k v : ℕ) (t : Target) → IsWellFormed s → IsConsistent s → Step s (Begin p k v) s' → target s.config p ≡ Some t → rest s' ≡ rest s + full s.config t.node t.provide
rest_rises s s' p k v t w c step e =
    let r = begin_rises s p k v w c (legal s (Begin p k v) step.allowed) in
    let one : r.to ≡ t = cc (r.leads, e) in
    ap (λ x. rest x) step.changed ∙ rises_all s (effect s (Begin p k v)).traffic p r ∙ ap (λ (u : Target). rest s + full s.config u.node u.provide) one
