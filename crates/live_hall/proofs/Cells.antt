-- Each step keeps the rule of a cell.
use Rattle.std.proofs.Common.{◌≡◌, ◌≢◌, ℕ, zero, suc, true≢false, List, [], ◌∷◌, ◌++◌, set, sym, refl, ap, ◌∙◌, subst, ⊎_elim, inr}
use mathlib.Core.Option.{some, some-ne-none, some-injective}
use lib.ListN.{get_elem?}
use Rattle.atomic_table.specs.Seated.{TableId}
use Rattle.crossbeam_queue.specs.Fifo.{Forks, Learns, Pops, Pushes}
use Rattle.crossbeam_queue.proofs.Lists.{at_snoc, set_again}
use Rattle.live_hall.specs.declared.guest.Guest.{Guest}
use Rattle.live_hall.specs.declared.place.Place.{Place}
use Rattle.live_hall.specs.Houses.{EachFits, FitsCell, HousedFor, Houses, IsAt, place, unnamed}

abbrev AllAre : Place → List Place → Type 0
AllAre p views = (n : ℕ) (v : Place) → get_elem? views n ≡ some v → v ≡ p

each-snoc : (gates : TableId) (slot : ℕ) (xs : List Guest) (x : Guest) → EachFits gates slot xs → FitsCell gates slot x → EachFits gates slot (xs ++ x ∷ [])
each-snoc gates slot [] x e f = (f, tt)
each-snoc gates slot (y ∷ ys) x e f = (e.0, each-snoc gates slot ys x e.1 f)

lone : (views : List Place) (n : ℕ) (v : Place) → views ≡ unnamed ∷ [] → get_elem? views n ≡ some v → (v ≡ unnamed) × (n ≡ 0)
lone views n v is at = one n (ap (λ l. get_elem? l n) (sym is) ∙ at)
  where
    one : (n : ℕ) → get_elem? (unnamed ∷ []) n ≡ some v → (v ≡ unnamed) × (n ≡ 0)
    one zero e = (sym (some-injective _ _ e), refl)
    one (suc n) e = absurd (some-ne-none v (sym e))

not-lone : (slot : ℕ) → place slot ≢ unnamed
not-lone slot e = true≢false (ap (λ (p : Place). p.named) e)

-- a pass that knows a slot knows the cell's
named : (gates : TableId) (items : List Guest) (views : List Place) (n slot : ℕ) → Houses gates items views → get_elem? views n ≡ some (place slot) → EachFits gates slot items × AllAre (place slot) views
named gates items views n slot h at =
    ⊎_elim (λ x. absurd (not-lone slot (lone views n (place slot) x.1 at).0))
    (λ (x : (s : ℕ) × EachFits gates s items × AllAre (place s) views).
    let is : place slot ≡ place x.0 = x.2 n (place slot) at in
    let same : slot ≡ x.0 = ap (λ (p : Place). p.slot) is in
    subst (λ s. EachFits gates s items × AllAre (place s) views) (sym same) (x.1, x.2)) h

pub puts : (gates : TableId) (room n slot : ℕ) (x : Guest) → FitsCell gates slot x → Pushes (Houses gates) room n (place slot) x (λ w. w ≡ place slot)
puts gates room n slot x fits items views _ h at =
    let all = named gates items views n slot h at in
    (place slot, subst (λ vs. Houses gates (items ++ x ∷ []) vs) (sym (set_again views n (place slot) at)) (inr (slot, each-snoc gates slot items x all.0 fits, all.1)), refl)

pub takes : (gates : TableId) (n slot : ℕ) → Pops (Houses gates) n (place slot) (λ x w. (w ≡ place slot) × FitsCell gates slot x)
takes gates n slot x items views h at =
    let all = named gates (x ∷ items) views n slot h at in
    (place slot, subst (λ vs. Houses gates items vs) (sym (set_again views n (place slot) at)) (inr (slot, all.0.1, all.1)), (refl, all.0.0))

pub learns : (gates : TableId) (n : ℕ) (v : Place) → Learns (Houses gates) n v (HousedFor gates v)
learns gates n v items views h at = (views, n, h, at)

snoc-are : (p : Place) (views : List Place) → AllAre p views → AllAre p (views ++ p ∷ [])
snoc-are p views all n v e = ⊎_elim (all n v) (λ is. sym is) (at_snoc views p v n e)

pub twins : (gates : TableId) (n slot : ℕ) → Forks (Houses gates) n (place slot) (place slot) (place slot)
twins gates n slot items views h at =
    let all = named gates items views n slot h at in
    subst (λ vs. Houses gates items (vs ++ place slot ∷ [])) (sym (set_again views n (place slot) at)) (inr (slot, all.0, snoc-are (place slot) views all.1))

pub names : (gates : TableId) (n slot : ℕ) → Forks (Houses gates) n unnamed (place slot) (place slot)
names gates n slot items views h at =
    ⊎_elim (λ (x : (items ≡ []) × (views ≡ unnamed ∷ [])).
    let first = lone views n unnamed x.1 at in
    let now : set views n (place slot) ≡ place slot ∷ [] = ap (λ l. set l n (place slot)) x.1 ∙ ap (λ k. set (unnamed ∷ []) k (place slot)) first.1 in
    subst (λ vs. Houses gates items (vs ++ place slot ∷ [])) (sym now)
    (subst (λ xs. Houses gates xs (place slot ∷ place slot ∷ [])) (sym x.0) (inr (slot, tt, two))))
    (λ (x : (s : ℕ) × EachFits gates s items × AllAre (place s) views). absurd (not-lone x.0 (sym (x.2 n unnamed at)))) h
  where
    two : AllAre (place slot) (place slot ∷ place slot ∷ [])
    two zero v e = sym (some-injective _ _ e)
    two (suc zero) v e = sym (some-injective _ _ e)
    two (suc (suc k)) v e = absurd (some-ne-none v (sym e))

-- the same of a pass whose view is one
pub puts_as : (gates : TableId) (room n : ℕ) (v : Place) (x : Guest) → v ≡ place x.node.slot → IsAt gates x → Pushes (Houses gates) room n v x (λ w. w ≡ v)
puts_as gates room n v x is fits = subst (λ u. Pushes (Houses gates) room n u x (λ w. w ≡ u)) (sym is) (puts gates room n x.node.slot x (refl, fits))

pub takes_as : (gates : TableId) (n : ℕ) (v : Place) → ((slot : ℕ) × (v ≡ place slot)) → Pops (Houses gates) n v (λ x w. (w ≡ v) × FitsCell gates v.slot x)
takes_as gates n v is = subst (λ (u : Place). Pops (Houses gates) n u (λ x w. (w ≡ u) × FitsCell gates u.slot x)) (sym is.1) (takes gates n is.0)

pub twins_as : (gates : TableId) (n : ℕ) (v : Place) → ((slot : ℕ) × (v ≡ place slot)) → Forks (Houses gates) n v v v
twins_as gates n v is = subst (λ u. Forks (Houses gates) n u u u) (sym is.1) (twins gates n is.0)

pub names_as : (gates : TableId) (n slot : ℕ) (v : Place) → v ≡ unnamed → Forks (Houses gates) n v (place slot) (place slot)
names_as gates n slot v is = subst (λ u. Forks (Houses gates) n u (place slot) (place slot)) (sym is) (names gates n slot)
