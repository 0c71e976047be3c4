-- The part of what is left that belongs to some transactions, by the steps.
use Rattle.std.proofs.Common.{◌≡◌, ℕ, ◌+◌, ◌<◌, ◌≤◌, true, false, cond, refl, sym, ap, ◌∙◌, subst, ⊎_elim, arith}
use Rattle.std.specs.Prelude.{◌==◌}
use Rattle.std.proofs.lemmas.Bool.{and_parts, both_ways, cases_Bool, eqb-true}
use Rattle.quiesce_core.specs.declared.event.Event.{Event}
use Rattle.quiesce_core.specs.declared.event.Event.TheVariants.{Begin, Call}
use Rattle.quiesce_core.specs.State.{State, exchange}
use Rattle.quiesce_word.specs.Phases.{is_idle}
use Rattle.quiesce_core.specs.Effect.{effect}
use Rattle.quiesce_core.specs.Legal.{Legal}
use Rattle.quiesce_core.specs.Rest.{rest}
use Rattle.quiesce_core.specs.Runs.{Step}
use Rattle.quiesce_core.specs.Traffic.{IsConsistent}
use Rattle.quiesce_core.specs.WellFormed.{IsWellFormed}
use Rattle.quiesce_core.proofs.LegalLaws.{legal}
use Rattle.quiesce_laws.specs.Belongs.{Transactions, belongs, is_event_of, singleton, open_in, starts_one}
use Rattle.quiesce_laws.specs.Drain.{rest_where, rest_of}
use Rattle.quiesce_laws.proofs.Belonging.{open_belongs, open_parts}
use Rattle.quiesce_laws.proofs.Carrying.{follows}
use Rattle.quiesce_laws.proofs.Sharing.{marked_after, part_le}
use Rattle.quiesce_laws.proofs.Steps.{all_rest, every, marked_part}

pub part_next : (set : Transactions) (s : State) (e : Event) → IsWellFormed s → IsConsistent s → Legal s e → starts_one set e ≡ false
    → cond (is_event_of set s e) 1 0 + rest_of set (effect s e) ≤ rest_of set s
part_next set s e w c l off =
    let marked = marked_part s e (belongs set s) w c l in
    let less : rest_of set (effect s e) ≤ rest_where (marked_after (belongs set s) s e) (effect s e) =
    part_le (effect s e) (belongs set (effect s e)) (marked_after (belongs set s) s e) (follows set s e w c l off) in
    omega (arith, marked, less)

pub part_stays : (set : Transactions) (s s' : State) (e : Event) → IsWellFormed s → IsConsistent s → Step s e s' → starts_one set e ≡ false → rest_of set s' ≤ rest_of set s
part_stays set s s' e w c step off =
    subst (λ x. rest_of set x ≤ rest_of set s) (sym step.changed) (omega (arith, part_next set s e w c (legal s e step.allowed) off))

pub part_falls : (set : Transactions) (s s' : State) (e : Event) → IsWellFormed s → IsConsistent s → Step s e s' → starts_one set e ≡ false → is_event_of set s e ≡ true → rest_of set s' < rest_of set s
part_falls set s s' e w c step off is =
    let at : cond (is_event_of set s e) 1 0 ≡ 1 = ap {B = ℕ} (λ b. cond b 1 0) is in
    subst (λ x. rest_of set x < rest_of set s) (sym step.changed) (omega (arith, at, part_next set s e w c (legal s e step.allowed) off))

-- what is open is not started
open_stays : (s : State) (p k q j : ℕ) → open_in s p k ≡ true → is_idle (exchange s q).phase ≡ true → singleton p k q j ≡ false
open_stays s p k q j h idle = ⊎_elim
    (λ (e : singleton p k q j ≡ true).
    let same : q ≡ p = eqb-true q p (and_parts (q == p) (j == k) e).0 in
    absurd (both_ways (is_idle (exchange s p).phase) (open_parts s p k h).0 (sym (ap (λ i. is_idle (exchange s i).phase) same) ∙ idle)))
    (λ (e : singleton p k q j ≡ false). e)
    (cases_Bool (singleton p k q j))

pub open_one : (s : State) (e : Event) (p k : ℕ) → Legal s e → open_in s p k ≡ true → starts_one (singleton p k) e ≡ false
open_one s (Begin q j v) p k l h = open_stays s p k q j h l.idle
open_one s (Call q j v) p k l h = open_stays s p k q j h l.idle
open_one s _ p k l h = refl

-- a part is no more than all
pub part_of_all : (set : Transactions) (s : State) → rest_of set s ≤ rest s
part_of_all set s = omega (arith, part_le s (belongs set s) every (λ q busy on. refl), all_rest s)

-- all of what is left belongs to what is open
pub open_is_all : (s : State) → rest_of (open_in s) s ≡ rest s
open_is_all s =
    let most : rest_where every s ≤ rest_of (open_in s) s = part_le s every (belongs (open_in s) s) (λ q busy on. open_belongs s q busy) in
    omega (arith, most, part_of_all (open_in s) s, all_rest s)
