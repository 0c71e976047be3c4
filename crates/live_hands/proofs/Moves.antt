-- Each move keeps the rule of an inbox.
use Rattle.std.proofs.Common.{◌≡◌, ◌≢◌, ◌⊎◌, ℕ, zero, suc, ◌<◌, ◌≤◌, ◌==◌, Bool, true, false, List, [], ◌∷◌, ◌++◌, length, set, sym, refl, ap, ◌∙◌, subst, ⊎_elim, append_assoc, arith, eqb, inl, inr, length-set, length-append}
use Rattle.std.specs.Prelude.{All}
use Rattle.std.proofs.lemmas.List.Elements.{All-append}
use Rattle.std.proofs.lemmas.Bool.Decides.{nat_tests}
use mathlib.Core.Option.{some, some-ne-none, some-injective}
use lib.ListN.{get_elem?}
use Rattle.crossbeam_queue.specs.Fifo.{Pushes, Pops, Forks, Learns}
use Rattle.crossbeam_queue.proofs.Lists.{at_set, at_snoc, set_again}
use Rattle.config_graph.specs.declared.TheConstants.{MAX_PORTS}
use Rattle.live_hands.specs.declared.known.Known.{Known}
use Rattle.live_hands.specs.Inbox.{FitsHand, HeldFor, IsInbox, Marked, by, joined, known, ports}
use Rattle.base.proofs.NumberLaws.{same_number}

ports-snoc : (xs : List Marked) (x : Marked) → ports (xs ++ x ∷ []) ≡ ports xs ++ x.1 ∷ []
ports-snoc [] x = refl
ports-snoc (y ∷ ys) x = ap (λ l. y.1 ∷ l) (ports-snoc ys x)

joined-snoc : (b : Bool) (p x : ℕ) (xs : List ℕ) → joined b p (xs ++ x ∷ []) ≡ joined b p xs ++ x ∷ []
joined-snoc true p x xs = refl
joined-snoc false p x xs = refl

other : (m n : ℕ) → n ≢ m → (m == n) ≡ false
other m n apart = grind (arith, nat_tests)

by-own : (n : ℕ) (xs : List Marked) (p : ℕ) → by n (xs ++ (n, p) ∷ []) ≡ by n xs ++ p ∷ []
by-own n [] p = ap (λ b. joined b p []) (same_number n)
by-own n (y ∷ ys) p = ap (joined (y.0 == n) y.1) (by-own n ys p) ∙ joined-snoc (y.0 == n) y.1 p (by n ys)

by-other : (n : ℕ) (xs : List Marked) (m p : ℕ) → n ≢ m → by n (xs ++ (m, p) ∷ []) ≡ by n xs
by-other n [] m p apart = ap (λ b. joined b p []) (other m n apart)
by-other n (y ∷ ys) m p apart = ap (joined (y.0 == n) y.1) (by-other n ys m p apart)

at_below : (views : List Known) (n : ℕ) (v : Known) → get_elem? views n ≡ some v → n < length views
at_below [] n v at = absurd (some-ne-none v (sym at))
at_below (x ∷ xs) zero v at = omega arith
at_below (x ∷ xs) (suc n) v at = let h = at_below xs n v at in omega arith

abbrev All-of : (ℕ → Known → Type 0) → List Known → Type 0
All-of F views = ((n : ℕ) (v : Known) → get_elem? views n ≡ some v → F n v) × ((n : ℕ) → length views ≤ n → F n (known [] []))

set-of : (F G : ℕ → Known → Type 0) (views : List Known) (pass : ℕ) (v w : Known) → get_elem? views pass ≡ some v
    → ((n : ℕ) (u : Known) → n ≢ pass → F n u → G n u) → G pass w → All-of F views → All-of G (set views pass w)
set-of F G views pass v w at others mine all = (
  (λ n u here. ⊎_elim (λ (x : (n ≡ pass) × (w ≡ u)). subst (λ (y : ℕ × Known). G y.0 y.1) (λ i. (sym x.0 i, x.1 i)) mine)
      (λ (x : (n ≢ pass) × (get_elem? views n ≡ some u)). others n u x.0 (all.0 n u x.1)) (at_set views pass n w u here)),
  (λ n past. let below = at_below views pass v at in let past' : length views ≤ n = omega (arith, length-set views pass w) in others n (known [] []) (λ e. omega arith) (all.1 n past')),
)

snoc-of : (F : ℕ → Known → Type 0) (views : List Known) → All-of F views → All-of F (views ++ known [] [] ∷ [])
snoc-of F views all = (at views all, λ n past. all.1 n (omega (arith, length-append views (known [] [] ∷ []))))
  where
    here : (views : List Known) (n : ℕ) (u : Known) → get_elem? (views ++ known [] [] ∷ []) n ≡ some u → (get_elem? views n ≡ some u) ⊎ ((length views ≤ n) × (known [] [] ≡ u))
    here [] zero u e = inr (omega arith, some-injective _ _ e)
    here [] (suc n) u e = absurd (some-ne-none u (sym e))
    here (x ∷ xs) zero u e = inl e
    here (x ∷ xs) (suc n) u e = ⊎_elim inl (λ y. inr (omega arith, y.1)) (here xs n u e)

    at : (views : List Known) → All-of F views → (n : ℕ) (u : Known) → get_elem? (views ++ known [] [] ∷ []) n ≡ some u → F n u
    at views all n u e = ⊎_elim (all.0 n u) (λ y. subst (F n) y.1 (all.1 n y.0)) (here views n u e)

All-one : (P : ℕ → Type 0) (x : ℕ) → P x → All P (x ∷ [])
All-one P x p zero d b = p
All-one P x p (suc k) d b = absurd (omega arith)

pub begins : IsInbox [] (known [] [] ∷ [])
begins = ([], [], record { is_list = refl; are_ports = λ k d b. absurd (omega arith); hands = one; others = λ n past. (refl, refl) })
  where
    one : (n : ℕ) (v : Known) → get_elem? (known [] [] ∷ []) n ≡ some v → FitsHand [] [] n v
    one zero v e = subst (FitsHand [] [] 0) (some-injective _ _ e) (refl, refl)
    one (suc n) v e = absurd (some-ne-none v (sym e))

pub posts : (room n : ℕ) (v : Known) (x : ℕ) → x < MAX_PORTS → Pushes IsInbox room n v x (λ w. w ≡ known (v.posted ++ x ∷ []) v.taken)
posts room n v x port items views _ h at =
    let put = h.0 ++ (n, x) ∷ [] in
    let taken = h.1 in
    let was = h.2 in
    let w = known (v.posted ++ x ∷ []) v.taken in
    let mine = was.hands n v at in
    let all = set-of (FitsHand h.0 taken) (FitsHand put taken) views n v w at
    (λ m u apart f. (f.0 ∙ sym (by-other m h.0 n x apart), f.1))
    (ap (λ l. l ++ x ∷ []) mine.0 ∙ sym (by-own n h.0 x), mine.1)
    (was.hands, was.others) in (
      w,
      (
        put,
        taken,
        record {
          is_list = ports-snoc h.0 (n, x) ∙ ap (λ l. l ++ x ∷ []) was.is_list ∙ append_assoc (ports taken) items (x ∷ []);
          are_ports = All-append (λ p. p < MAX_PORTS) items (x ∷ []) was.are_ports (All-one (λ p. p < MAX_PORTS) x port);
          hands = all.0;
          others = all.1;
        },
      ),
      refl,
    )

pub takes : (n : ℕ) (v : Known) → Pops IsInbox n v (λ x w. (x < MAX_PORTS) × (w ≡ known v.posted (v.taken ++ x ∷ [])))
takes n v x items views h at =
    let put = h.0 in
    let taken = h.1 ++ (n, x) ∷ [] in
    let was = h.2 in
    let w = known v.posted (v.taken ++ x ∷ []) in
    let mine = was.hands n v at in
    let all = set-of (FitsHand put h.1) (FitsHand put taken) views n v w at
    (λ m u apart f. (f.0, f.1 ∙ sym (by-other m h.1 n x apart)))
    (mine.0, ap (λ l. l ++ x ∷ []) mine.1 ∙ sym (by-own n h.1 x))
    (was.hands, was.others) in (
      w,
      (
        put,
        taken,
        record {
          is_list = was.is_list ∙ sym (append_assoc (ports h.1) (x ∷ []) items) ∙ ap (λ l. l ++ items) (sym (ports-snoc h.1 (n, x)));
          are_ports = λ k d b. was.are_ports (suc k) d (omega arith);
          hands = all.0;
          others = all.1;
        },
      ),
      (was.are_ports 0 0 (omega arith), refl),
    )

pub forks : (n : ℕ) (v : Known) → Forks IsInbox n v v (known [] [])
forks n v items views h at =
    let was = h.2 in
    let all = snoc-of (FitsHand h.0 h.1) views (was.hands, was.others) in
    let P : List Known → Type 0 = λ vs. IsInbox items (vs ++ known [] [] ∷ []) in
    subst P (sym (set_again views n v at)) (h.0, h.1, record { is_list = was.is_list; are_ports = was.are_ports; hands = all.0; others = all.1 })

pub learns : (n : ℕ) (v : Known) → Learns IsInbox n v (HeldFor v)
learns n v items views h at = (views, n, h, at)
