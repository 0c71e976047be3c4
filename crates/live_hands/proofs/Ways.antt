-- What a hand shows after one of its ways was used.
use Rattle.std.proofs.Common.{◌≡◌, ◌∙◌, ℕ, zero, suc, ◌<◌, List, [], ◌∷◌, length, map, set, Option, Some, None, Result, Ok, Err, sym, ap, subst, arith}
use Rattle.std.specs.Prelude.{IfErr, MatchOption, MatchResult, slice_index_or, slice_set}
use Rattle.std.proofs.lemmas.List.{map-set}
use Rattle.config_graph.specs.declared.TheConstants.{MAX_PORTS}
use Rattle.crossbeam_queue.specs.Fifo.{Held}
use Rattle.live_hands.specs.declared.entry.Entry.{Entry}
use Rattle.live_hands.specs.Hands.{IsRefused, Seen, of, shown, with_post, with_take}
use Rattle.live_hands.specs.Inbox.{HeldFor}

-- what is known of the node by its entry
of_entry : (es : List Entry) (n : ℕ) (e : Entry) → n < length es → e ≡ slice_index_or es n e → of (map shown es) n ≡ shown e
of_entry [] n e within is = absurd (omega arith)
of_entry (x ∷ xs) zero e within is = ap shown (sym is)
of_entry (x ∷ xs) (suc n) e within is = of_entry xs n e (omega arith) is

-- once another entry is in its place
module _ (es : List Entry) (xs : List Seen) (n : ℕ) (e new : Entry) (is : map shown es ≡ xs) (within : n < length es) (at : e ≡ slice_index_or es n e) where
  was : of xs n ≡ shown e
  was = ap (λ l. of l n) (sym is) ∙ of_entry es n e within at

  refused : IsRefused (shown e) (shown new) → (s : Seen) × (map shown (set es n new) ≡ slice_set xs n s) × IsRefused (of xs n) s
  refused h = (shown new, map-set shown es n new ∙ ap (λ l. slice_set l n (shown new)) is, subst (λ s. IsRefused s (shown new)) (sym was) h)

  one : (f : Seen → Seen) → shown new ≡ f (shown e) → map shown (set es n new) ≡ slice_set xs n (f (of xs n))
  one f h = map-set shown es n new ∙ ap (λ l. slice_set l n (shown new)) is ∙ ap (slice_set xs n) (h ∙ ap f (sym was))

  pub taken : (r : Option ℕ) → MatchOption r (IsRefused (shown e) (shown new)) (λ p. (p < MAX_PORTS) × (shown new ≡ with_take (shown e) p))
      → MatchOption r ((s : Seen) × (map shown (set es n new) ≡ slice_set xs n s) × IsRefused (of xs n) s)
      (λ p. (p < MAX_PORTS) × (map shown (set es n new) ≡ slice_set xs n (with_take (of xs n) p)))
  taken None h = refused h
  taken (Some p) h = (h.0, one (λ s. with_take s p) h.1)

  pub posted : {X Y : Type 0} (port : ℕ) (r : Result X Y) → MatchResult r (λ _. shown new ≡ with_post (shown e) port) (λ _. IsRefused (shown e) (shown new))
      → MatchResult r (λ _. map shown (set es n new) ≡ slice_set xs n (with_post (of xs n) port)) (λ _. (s : Seen) × (map shown (set es n new) ≡ slice_set xs n s) × IsRefused (of xs n) s)
  posted port (Ok x) h = one (λ s. with_post s port) h
  posted port (Err x) h = refused h

  -- what the inbox held by the entry it held by the hand
  pub full : {X Y : Type 0} (count : ℕ) (r : Result X Y) → IfErr r (λ _. Held count (HeldFor (shown e).hints)) → IfErr r (λ _. Held count (HeldFor (of xs n).hints))
  full count r h = subst (λ (s : Seen). IfErr r (λ _. Held count (HeldFor s.hints))) (sym was) h

  pub empty : (r : Option ℕ) → MatchOption r (Held 0 (HeldFor (shown e).hints)) (λ _. Unit {0}) → MatchOption r (Held 0 (HeldFor (of xs n).hints)) (λ _. Unit {0})
  empty r h = subst (λ (s : Seen). MatchOption r (Held 0 (HeldFor s.hints)) (λ _. Unit {0})) (sym was) h
