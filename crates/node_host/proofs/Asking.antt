-- The requirement at whose port an answer is expected.
use Rattle.std.proofs.Common.{◌≡◌, ℕ, ◌+◌, true, false, Option, Some, None, refl, ap, arith}
use Rattle.std.specs.Prelude.{◌==◌}
use Rattle.std.proofs.lemmas.Bool.{both_ways, eq-eqb, eqb-true}
use Rattle.component_trait.specs.Bounds.{is_request_of}
use Rattle.component_trait.specs.Fold.{asked_by, calls_at, is_request_at, wants_at}
use Rattle.component_trait.specs.Moves as moves
use Rattle.component_trait.specs.States.{NodeState}
use Rattle.component_trait.specs.declared.next.Ask.{Ask}
use Rattle.component_trait.specs.declared.next.Next.{Next}
use Rattle.component_trait.specs.declared.next.Next.TheVariants as next

same_require : (first q r : ℕ) → (first + q == first + r) ≡ true → q ≡ r
same_require first q r e = let same = eqb-true (first + q) (first + r) e in omega (arith, same)

next_is : (first r : ℕ) (o : Option Next) → is_request_at first (first + r) (asked_by o) ≡ true → (v : ℕ) × (o ≡ Some (next.Ask (record { require = r; value = v })))
next_is first r None e = absurd (both_ways false refl e)
next_is first r (Some (next.More m)) e = absurd (both_ways false refl e)
next_is first r (Some (next.Give m)) e = absurd (both_ways false refl e)
next_is first r (Some (next.Ask a)) e = (a.value, ap (λ i. Some (next.Ask (record { require = i; value = a.value }))) (same_require first a.require r e))

pub asked_is : (first r : ℕ) (t : NodeState) → calls_at first t (first + r) ≡ true → (v : ℕ) × (moves.next t ≡ Some (next.Ask (record { require = r; value = v })))
asked_is first r t e = next_is first r (moves.next t) e

request_is : (first r : ℕ) (o : Option Ask) → is_request_at first (first + r) o ≡ true → is_request_of r o ≡ true
request_is first r None e = absurd (both_ways false refl e)
request_is first r (Some a) e = eq-eqb a.require r (same_require first a.require r e)

pub wanted_is : (first r : ℕ) (t : NodeState) → wants_at first t (first + r) ≡ true → is_request_of r (moves.wants t) ≡ true
wanted_is first r t e = request_is first r (moves.wants t) e
