-- What a hand counts, once one of its ways was used.
use Rattle.std.proofs.Common.{◌≡◌, ◌∙◌, ℕ, zero, suc, ◌<◌, List, [], ◌∷◌, ◌++◌, length, set, Option, Some, None, Result, Ok, Err, refl, sym, ap, subst, arith}
use Rattle.std.specs.Prelude.{MatchOption, MatchResult, slice_set}
use Rattle.std.proofs.lemmas.List.{length-append}
use Rattle.config_graph.specs.declared.TheConstants.{MAX_PORTS}
use Rattle.port_queue.specs.Inboxes.{CountsNext, CountsPost, Gave, Refused}
use Rattle.port_queue.specs.declared.hints.Full.{Full}
use Rattle.live_hands.specs.Hands.{IsRefused, Seen, counts_of, last_of, of, with_post, with_take}

of_set : (xs : List Seen) (n : ℕ) (s : Seen) → n < length xs → of (set xs n s) n ≡ s
of_set [] n s few = absurd (omega arith)
of_set (x ∷ xs) zero s few = refl
of_set (x ∷ xs) (suc n) s few = of_set xs n s (omega arith)

last-snoc : (xs : List ℕ) (x : ℕ) → last_of (xs ++ x ∷ []) ≡ Some x
last-snoc [] x = refl
last-snoc (y ∷ []) x = refl
last-snoc (y ∷ z ∷ zs) x = last-snoc (z ∷ zs) x

refused : (old new : Seen) → IsRefused old new → Refused (counts_of old) (counts_of new)
refused old new h = record {
  refused = h.1;
  given = ap (λ k. length k.taken) h.0;
  last = ap (λ k. last_of k.taken) h.0;
}

gave : (old : Seen) (p : ℕ) → Gave (counts_of old) p (counts_of (with_take old p))
gave old p = record {
  refused = refl;
  given = (omega (arith, length-append old.hints.taken (p ∷ [])), λ few. omega (arith, length-append old.hints.taken (p ∷ [])));
  last = last-snoc old.hints.taken p;
}

module _ (xs ys : List Seen) (n : ℕ) (few : n < length xs) where
  pub posted : (port : ℕ) (r : Result (Unit {0}) Full)
      → MatchResult r (λ _. ys ≡ slice_set xs n (with_post (of xs n) port)) (λ _. (s : Seen) × (ys ≡ slice_set xs n s) × IsRefused (of xs n) s)
      → CountsPost (counts_of (of xs n)) r (counts_of (of ys n))
  posted port (Ok u) h = ap counts_of (ap (λ l. of l n) h ∙ of_set xs n (with_post (of xs n) port) few)
  posted port (Err e) h = subst (λ s. Refused (counts_of (of xs n)) (counts_of s)) (sym (ap (λ l. of l n) h.1 ∙ of_set xs n h.0 few)) (refused (of xs n) h.0 h.2)

  pub taken : (r : Option ℕ)
      → MatchOption r ((s : Seen) × (ys ≡ slice_set xs n s) × IsRefused (of xs n) s) (λ port. (port < MAX_PORTS) × (ys ≡ slice_set xs n (with_take (of xs n) port)))
      → CountsNext (counts_of (of xs n)) r (counts_of (of ys n))
  taken None h = subst (λ s. Refused (counts_of (of xs n)) (counts_of s)) (sym (ap (λ l. of l n) h.1 ∙ of_set xs n h.0 few)) (refused (of xs n) h.0 h.2)
  taken (Some p) h = subst (λ s. Gave (counts_of (of xs n)) p (counts_of s)) (sym (ap (λ l. of l n) h.1 ∙ of_set xs n (with_take (of xs n) p) few)) (gave (of xs n) p)
