-- Transactions and their consequents: the test finds them, and an event brings a transaction to a set only by a call for one of it.
use Rattle.std.proofs.Common.{◌≡◌, ℕ, zero, suc, ◌+◌, Bool, true, false, not, length, Option, Some, None, refl, sym, ap, ◌∙◌, ⊎_elim, arith}
use Rattle.std.specs.Prelude.{◌||◌, ◌==◌, ◌↔◌}
use Rattle.std.specs.Option.{option_map_or}
use Rattle.std.proofs.lemmas.Bool.{and_from, and_parts, both_ways, eq-eqb, eqb-true, not-true, or_cases, or_left, or_right}
use Rattle.quiesce_core.specs.State.{State, owner, target, provision, exchange}
use Rattle.quiesce_word.specs.Phases.{is_idle}
use Rattle.quiesce_core.specs.Reach.{can_walk}
use Rattle.quiesce_core.specs.Traffic.{IsConsistent}
use Rattle.quiesce_core.specs.WellFormed.{IsWellFormed}
use Rattle.quiesce_core.proofs.CycleLaws.{walk_to, no_walk}
use Rattle.base.proofs.OptionLaws.{map_or_true, map_or_at}
use Rattle.quiesce_laws.specs.Belongs.{Transactions, Belongs, member, consequent, belongs, belongs_within, is_member, open_in}
use Rattle.quiesce_core.proofs.StateLaws.{busy_made}

found : (set : Transactions) (s : State) (k p : ℕ) → belongs_within set s k p ≡ true → Belongs set s p
found set s zero p h = member p h
found set s (suc k) p h = ⊎_elim
    (λ (is : is_member set s p ≡ true). member p is)
    (λ (later : option_map_or (belongs_within set s k) (exchange s p).within false ≡ true).
    let w = map_or_true (belongs_within set s k) (exchange s p).within later in
    consequent p w.0 w.1 (found set s k w.0 w.2))
    (or_cases (is_member set s p) (option_map_or (belongs_within set s k) (exchange s p).within false) h)

-- The owner of a port that is itself called leads to the node that calls for it: so much longer is a walk from there.
longer_walk : (s : State) (p q r j : ℕ) → IsWellFormed s → IsConsistent s → (exchange s p).within ≡ Some q → (exchange s q).within ≡ Some r → can_walk s.config j (owner s.config p) ≡ true
    → can_walk s.config (suc j) (owner s.config q) ≡ true
longer_walk s p q r j w k e f walks =
    let called = k.consequent p q e in
    let calling = k.consequent q r f in
    let at = k.serving (owner s.config p) called.serving called.serviced in
    walk_to s.config j (owner s.config q) (owner s.config p) (record {
      port = q;
      provide = at.provide;
      serves = provision s.config r;
      depends = (w.sound.ports q (busy_made s q k calling.busy), calling.depends_on);
      linked = sym (ap (λ i. target s.config i) called.of_port) ∙ at.linked;
    }) walks

one_more : (set : Transactions) (s : State) (k q : ℕ) → (exchange s q).within ≡ None → belongs_within set s k q ≡ belongs_within set s (suc k) q
one_more set s zero q e = ends (is_member set s q) ∙ sym (ap (λ o. is_member set s q || option_map_or (belongs_within set s zero) o false) e)
  where
    ends : (b : Bool) → b ≡ (b || false)
    ends true = refl
    ends false = refl
one_more set s (suc k) q e =
    ap (λ o. is_member set s q || option_map_or (belongs_within set s k) o false) e
    ∙ sym (ap (λ o. is_member set s q || option_map_or (belongs_within set s (suc k)) o false) e)

module _ (set : Transactions) (s : State) (w : IsWellFormed s) (k : IsConsistent s) where
  called : (n p q : ℕ) → (exchange s p).within ≡ Some q → (o : Option ℕ) → (exchange s q).within ≡ o
      → ((r : ℕ) → (exchange s q).within ≡ Some r → belongs_within set s n q ≡ belongs_within set s (suc n) q) → belongs_within set s n q ≡ belongs_within set s (suc n) q
  called n p q e None f next = one_more set s n q f
  called n p q e (Some r) f next = next r f

  at : (n p : ℕ) (o : Option ℕ) → (exchange s p).within ≡ o
      → ((q r : ℕ) → (exchange s p).within ≡ Some q → (exchange s q).within ≡ Some r → belongs_within set s n q ≡ belongs_within set s (suc n) q)
      → belongs_within set s (suc n) p ≡ belongs_within set s (suc (suc n)) p
  at n p None e next = one_more set s (suc n) p e
  at n p (Some q) e next =
      ap (λ o. is_member set s p || option_map_or (belongs_within set s n) o false) e
      ∙ ap (λ b. is_member set s p || b) (called n p q e (exchange s q).within refl (λ r f. next q r e f))
      ∙ sym (ap (λ o. is_member set s p || option_map_or (belongs_within set s (suc n)) o false) e)

  -- no chain of calls is longer than there are nodes
  settled : (n j p : ℕ) → n + j ≡ suc (length s.config.slots) → can_walk s.config j (owner s.config p) ≡ true → belongs_within set s n p ≡ belongs_within set s (suc n) p
  settled zero j p size walks =
      let same : j ≡ suc (length s.config.slots) = omega arith in
      absurd (both_ways (can_walk s.config j (owner s.config p)) (ap (λ i. can_walk s.config i (owner s.config p)) same ∙ no_walk s.config w.sound.no_cycle (owner s.config p)) walks)
  settled (suc n) j p size walks =
      at n p (exchange s p).within refl (λ q r e f. settled n (suc j) q (omega arith) (longer_walk s p q r j w k e f walks))

  complete : (p : ℕ) → Belongs set s p → belongs set s p ≡ true
  unfolding belongs
  complete q (member p h) = or_left (is_member set s p) (option_map_or (belongs_within set s (length s.config.slots)) (exchange s p).within false) h
  complete r (consequent p q e b) =
      settled (suc (length s.config.slots)) 0 p (omega arith) refl
      ∙ or_right (is_member set s p) (option_map_or (belongs_within set s (suc (length s.config.slots))) (exchange s p).within false)
      (map_or_at (belongs_within set s (suc (length s.config.slots))) (exchange s p).within false q e ∙ complete q b)

  pub belongs_is_found : (p : ℕ) → (belongs set s p ≡ true) ↔ Belongs set s p
  unfolding belongs
  belongs_is_found p = (found set s (suc (length s.config.slots)) p, complete p)

pub belongs_if : (set : Transactions) (s : State) (p : ℕ) → belongs set s p ≡ true → Belongs set s p
unfolding belongs
belongs_if set s p h = found set s (suc (length s.config.slots)) p h

-- what is of the set belongs to it
pub member_belongs : (set : Transactions) (s : State) (p : ℕ) → is_member set s p ≡ true → belongs set s p ≡ true
unfolding belongs
member_belongs set s p h = or_left (is_member set s p) (option_map_or (belongs_within set s (length s.config.slots)) (exchange s p).within false) h

pub open_parts : (s : State) (p k : ℕ) → open_in s p k ≡ true → (is_idle (exchange s p).phase ≡ false) × ((exchange s p).serial ≡ k)
open_parts s p k h =
    let both = and_parts (not (is_idle (exchange s p).phase)) ((exchange s p).serial == k) h in
    (not-true (is_idle (exchange s p).phase) both.0, eqb-true (exchange s p).serial k both.1)

-- what is open belongs to what is open
pub open_belongs : (s : State) (p : ℕ) → is_idle (exchange s p).phase ≡ false → belongs (open_in s) s p ≡ true
open_belongs s p busy =
    member_belongs (open_in s) s p
    (and_from (not (is_idle (exchange s p).phase)) ((exchange s p).serial == (exchange s p).serial) (ap not busy) (eq-eqb (exchange s p).serial (exchange s p).serial refl))
