-- The root of a transaction, by the run and by the state: what was called for a transaction belongs to it while it is open.
use Rattle.std.proofs.Common.{◌≡◌, ℕ, ◌+◌, ◌≤◌, true, false, not, List, [], ◌∷◌, ◌++◌, append_assoc, Some, refl, sym, ap, ◌∙◌, subst, inl, inr, ⊎_elim, arith}
use Rattle.std.specs.Prelude.{◌⊎◌, ◌==◌, option_map}
use Rattle.std.proofs.lemmas.Bool.{and_from, and_parts, both_ways, eq-eqb, eqb-true}
use Rattle.quiesce_core.specs.declared.event.Event.{Event}
use Rattle.quiesce_core.specs.declared.event.Event.TheVariants.{Call}
use Rattle.quiesce_core.specs.declared.state.Exchange.{Exchange}
use Rattle.quiesce_word.specs.declared.phase.Phase.TheVariants as phase
use Rattle.quiesce_core.specs.declared.state.Service.{Service}
use Rattle.quiesce_core.specs.State.{State, owner, exchange, service}
use Rattle.quiesce_word.specs.Phases.{is_idle}
use Rattle.quiesce_core.specs.Effect.{with_call, effect}
use Rattle.quiesce_core.specs.Legal.{Legal}
use Rattle.quiesce_core.specs.Runs.{IsRun, HasRoot, root, consequent, state_after}
use Rattle.quiesce_core.specs.Traffic.{IsConsistent}
use Rattle.quiesce_core.specs.WellFormed.{IsWellFormed}
use Rattle.quiesce_core.proofs.TableLaws.{exchange_place}
use Rattle.quiesce_core.proofs.RunLaws.{runs_are_well_formed, runs_are_consistent}
use Rattle.quiesce_laws.specs.Belongs as mine
use Rattle.quiesce_laws.specs.Belongs.{Transactions, Belongs, belongs, singleton, open_in}
use Rattle.quiesce_laws.proofs.Belonging.{belongs_is_found, open_parts}
use Rattle.quiesce_core.proofs.InductionLaws.{along, place}
use Rattle.quiesce_laws.proofs.ExtensionLaws.{none_barred}
use Rattle.quiesce_laws.proofs.Carrying.{caller_busy}
use Rattle.quiesce_laws.proofs.ExchangeLaws.{PortStep, stays, begins, calls, ends, turns_at, port_step, served_untouched}
use Rattle.quiesce_core.proofs.PortEventLaws.{next_serial}
use Rattle.quiesce_core.proofs.StateLaws.{exchange_here, exchange_there, idle_unserved}

-- Transaction k of port p, which was called for transaction j of port r: while it is open, both stay as they were.
record Kept (s : State) (p k r j : ℕ) : Type 0 where
  grown : k ≤ (exchange s p).serial
  still : (exchange s p).serial ≡ k → (is_idle (exchange s p).phase ≡ true) ⊎ (((exchange s p).within ≡ Some r) × ((exchange s r).serial ≡ j))

-- the serial of a port that is serviced stays
served_serial : (s : State) (e : Event) (m : ℕ) (v : Service) → IsWellFormed s → IsConsistent s → Legal s e → service s m ≡ Some v → (exchange (effect s e) v.port).serial ≡ (exchange s v.port).serial
served_serial s e m v w c l served = by (port_step s e w c l v.port)
  where
    off : turns_at e ≡ Some v.port → ⊥
    off at = served_untouched s e c l m v served at

    by : PortStep s e v.port (exchange (effect s e) v.port) → (exchange (effect s e) v.port).serial ≡ (exchange s v.port).serial
    by (stays turns serial within idle) = serial
    by (begins i x is may y) = absurd (off (ap turns_at is))
    by (calls i x u is may called_ y) = absurd (off (ap turns_at is))
    by (ends i x is may y) = absurd (off (ap turns_at is))

kept_next : (s : State) (e : Event) (p k r j : ℕ) → IsWellFormed s → IsConsistent s → Legal s e → Kept s p k r j → Kept (effect s e) p k r j
kept_next s e p k r j w c l h = by (port_step s e w c l p)
  where
    -- it isn't started again
    past : (i : ℕ) → i ≡ (exchange s p).serial + 1 → (exchange (effect s e) p).serial ≡ i → Kept (effect s e) p k r j
    past i next now = record { grown = omega (arith, h.grown, next, now); still = λ same. absurd (omega (arith, h.grown, next, now, same)) }

    caller_serial : (exchange s p).within ≡ Some r → (exchange (effect s e) r).serial ≡ (exchange s r).serial
    caller_serial within =
        let at = c.consequent p r within in
        subst (λ i. (exchange (effect s e) i).serial ≡ (exchange s i).serial) at.of_port (served_serial s e (owner s.config p) at.serving w c l at.serviced)

    by : PortStep s e p (exchange (effect s e) p) → Kept (effect s e) p k r j
    by (stays turns serial within idle) = record {
      grown = omega (arith, h.grown, serial);
      still = λ same. ⊎_elim
          (λ (was : is_idle (exchange s p).phase ≡ true). inl (idle ∙ was))
          (λ (open_ : ((exchange s p).within ≡ Some r) × ((exchange s r).serial ≡ j)). inr (within ∙ open_.0, caller_serial open_.0 ∙ open_.1))
          (h.still (sym serial ∙ same));
    }
    by (begins i v is may y) = past i (next_serial s p i may.next_serial) (ap (λ (x : Exchange). x.serial) y)
    by (calls i v u is may served y) = past i (next_serial s p i may.next_serial) (ap (λ (x : Exchange). x.serial) y)
    by (ends i v is may y) = record { grown = omega (arith, h.grown, ap (λ (x : Exchange). x.serial) y); still = λ same. inl (ap (λ (x : Exchange). is_idle x.phase) y) }

-- just after the call
kept_called : (s : State) (p k v : ℕ) (u : Service) → IsWellFormed s → IsConsistent s → Legal s (Call p k v) → service s (owner s.config p) ≡ Some u → Kept (effect s (Call p k v)) p k u.port ((exchange s u.port).serial)
kept_called s p k v u w c l serviced =
    let x : Exchange = record { phase = phase.Asked; serial = k; value = v; within = option_map (λ (y : Service). y.port) (service s (owner s.config p)) } in
    let here : exchange (effect s (Call p k v)) p ≡ x = exchange_here (with_call s (owner s.config p)) p x (exchange_place s p w l.live) in
    record {
      grown = omega (arith, ap (λ (y : Exchange). y.serial) here);
      still = λ same. inr (
        ap (λ (y : Exchange). y.within) here ∙ ap (λ o. option_map (λ (y : Service). y.port) o) serviced,
        ap (λ (y : Exchange). y.serial) (exchange_there (with_call s (owner s.config p)) p u.port x (λ same. idle_unserved s p c l.idle (owner s.config p) u serviced same)),
      );
    }

called_kept : (es before after : List Event) (p k v : ℕ) (u : Service) → IsRun es → es ≡ before ++ Call p k v ∷ after → service (state_after before) (owner (state_after before).config p) ≡ Some u
    → Kept (state_after es) p k u.port ((exchange (state_after before) u.port).serial)
called_kept es before after p k v u run parts serviced =
    let j = (exchange (state_after before) u.port).serial in
    let whole : (before ++ Call p k v ∷ []) ++ after ≡ es = append_assoc before (Call p k v ∷ []) after ∙ sym parts in
    let here = place before after (Call p k v) (subst (λ xs. IsRun xs) parts run) in
    subst (λ xs. Kept (state_after xs) p k u.port j) whole
    (along (λ xs. Kept (state_after xs) p k u.port j) (λ e. false)
    (λ xs e next free so_far. subst (λ s. Kept s p k u.port j) (sym next.next) (kept_next (state_after xs) e p k u.port j next.well next.traffic next.legal so_far))
    (before ++ Call p k v ∷ []) after (subst (λ xs. IsRun xs) (sym whole) run) (none_barred after)
    (subst (λ s. Kept s p k u.port j) (sym here.next) (kept_called (state_after before) p k v u here.well here.traffic here.legal serviced)))

open_from : (s : State) (p k : ℕ) → is_idle (exchange s p).phase ≡ false → (exchange s p).serial ≡ k → open_in s p k ≡ true
open_from s p k busy same = and_from (not (is_idle (exchange s p).phase)) ((exchange s p).serial == k) (ap not busy) (eq-eqb (exchange s p).serial k same)

-- what has a root by the run belongs to it, while it is open
pub rooted : (es : List Event) (p k q j : ℕ) → IsRun es → HasRoot es p k q j → open_in (state_after es) p k ≡ true → Belongs (singleton q j) (state_after es) p
rooted es x k y j run (root p i v before after parts) open_ =
    mine.member p (and_from (p == p) ((exchange (state_after es) p).serial == i) (eq-eqb p p refl) (eq-eqb (exchange (state_after es) p).serial i (open_parts (state_after es) p i open_).1))
rooted es x k y j run (consequent p i v q n before after u parts serviced up) open_ =
    let s : State = state_after es in
    let here = open_parts (state_after es) p i open_ in
    ⊎_elim
    (λ (idle : is_idle (exchange (state_after es) p).phase ≡ true). absurd (both_ways (is_idle (exchange (state_after es) p).phase) here.0 idle))
    (λ (called : ((exchange (state_after es) p).within ≡ Some u.port) × ((exchange (state_after es) u.port).serial ≡ (exchange (state_after before) u.port).serial)).
    mine.consequent p u.port called.0
    (rooted es u.port ((exchange (state_after before) u.port).serial) q n run up
    (open_from (state_after es) u.port ((exchange (state_after before) u.port).serial) (caller_busy (state_after es) p u.port (runs_are_consistent es run) called.0) called.1)))
    ((called_kept es before after p i v u run parts serviced).still here.1)

-- what belongs to a transaction of a set belongs to the set
wider : (set : Transactions) (s : State) (q j : ℕ) → set q j ≡ true → (p : ℕ) → Belongs (singleton q j) s p → Belongs set s p
wider set s q j h x (mine.member p is) =
    let both = and_parts (p == q) ((exchange s p).serial == j) is in
    mine.member p (ap (λ i. set p i) (eqb-true (exchange s p).serial j both.1) ∙ ap (λ i. set i j) (eqb-true p q both.0) ∙ h)
wider set s q j h x (mine.consequent p r e b) = mine.consequent p r e (wider set s q j h r b)

-- so the events of a transaction are counted where its root was open
pub counted : (es more_ : List Event) (p k q j : ℕ) → IsRun (es ++ more_) → HasRoot (es ++ more_) p k q j → open_in (state_after (es ++ more_)) p k ≡ true → open_in (state_after es) q j ≡ true
    → belongs (open_in (state_after es)) (state_after (es ++ more_)) p ≡ true
counted es more_ p k q j run has now before =
    (belongs_is_found (open_in (state_after es)) (state_after (es ++ more_)) (runs_are_well_formed (es ++ more_) run) (runs_are_consistent (es ++ more_) run) p).1
    (wider (open_in (state_after es)) (state_after (es ++ more_)) q j before p (rooted (es ++ more_) p k q j run has now))
