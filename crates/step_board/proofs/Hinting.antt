-- What a turn does with hints is what a world's turn does with them.
use Rattle.std.proofs.Common.{◌≡◌, ◌∙◌, ◌≢◌, ℕ, zero, suc, ◌+◌, ◌<◌, ◌≤◌, Bool, true, false, not, cond, List, [], ◌∷◌, ◌++◌, length, set, drop, Option, Some, None, refl, ap, sym, subst, ⊎_elim, arith, take, get_or, fold}
use Rattle.std.specs.Prelude.{slice_get}
use Rattle.std.specs.List.{enumerate_from}
use Rattle.std.proofs.lemmas.Bool.{cases_eq, eq-eqb, ne_eqb}
use Rattle.std.proofs.lemmas.List.{get_or-set_other, get_or-set_same, length-set}
use Rattle.std.proofs.lemmas.Option.{same_Some, slice_get-get_or}
use Rattle.base.proofs.PlaceLaws.{slice_get-set_cases}
use Rattle.port_queue.specs.Inboxes.{after_post, has_room}
use Rattle.node_turn_laws.specs.Turn.{post, post_one, post_waiting, with_hint, with_waiting, without_hint}
use Rattle.node_turn_laws.specs.World.{World, first_port, inbox, waiting_of}
use Rattle.node_host.specs.Posting.{PostsWaiting, Hinted, IsPosted, Looked, Reposted}
use Rattle.node_host.specs.Trying.{own_box, own_post}
use Rattle.std.proofs.Math.Nat.{add-zero}

-- the hints of node n, of so many requirements, are as the world has them, and so are all inboxes
pub record Agree (w : World) (n r : ℕ) (h : Hinted) : Type 0 where
  pub told : (k : ℕ) → h.told k ≡ Some (inbox w k)
  pub two : length h.waiting ≡ 2
  pub waits : waiting_of w n ≡ take r h.waiting
  pub own : (q m : ℕ) → slice_get h.waiting q ≡ Some (Some m) → (q < r) × (m < length w.inboxes)

-- a world that differs in the inboxes and in what waits with node n
pub record SameBut (w v : World) (n : ℕ) : Type 0 where
  pub machine : v.machine ≡ w.machine
  pub folds : v.folds ≡ w.folds
  pub events : v.events ≡ w.events
  pub inboxes : length v.inboxes ≡ length w.inboxes
  pub waiting : length v.waiting ≡ length w.waiting
  pub others : (k : ℕ) → k ≢ n → waiting_of v k ≡ waiting_of w k

pub same_world : (w : World) (n : ℕ) → SameBut w w n
same_world w n = record { machine = refl; folds = refl; events = refl; inboxes = refl; waiting = refl; others = λ k ne. refl }

pub same_then : (w v u : World) (n : ℕ) → SameBut w v n → SameBut v u n → SameBut w u n
same_then w v u n a b = record {
  machine = b.machine ∙ a.machine;
  folds = b.folds ∙ a.folds;
  events = b.events ∙ a.events;
  inboxes = b.inboxes ∙ a.inboxes;
  waiting = b.waiting ∙ a.waiting;
  others = λ k ne. b.others k ne ∙ a.others k ne;
}

-- ---- one hint is posted

abbrev none_of : (A : Type 0) → Option A
none_of A = None

two_places : (xs : List (Option ℕ)) → length xs ≡ 2 → (a : Option ℕ) × (b : Option ℕ) × (xs ≡ a ∷ b ∷ [])
two_places [] h = absurd (omega (arith, h))
two_places (a ∷ []) h = absurd (omega (arith, h))
two_places (a ∷ b ∷ []) h = (a, b, refl)
two_places (a ∷ b ∷ c ∷ xs) h = absurd (omega (arith, h))

take_set : (xs : List (Option ℕ)) (r q : ℕ) (o : Option ℕ) → set (take r xs) q o ≡ take r (set xs q o)
take_set [] zero q o = refl
take_set [] (suc r) q o = refl
take_set (x ∷ xs) zero zero o = refl
take_set (x ∷ xs) zero (suc q) o = refl
take_set (x ∷ xs) (suc r) zero o = refl
take_set (x ∷ xs) (suc r) (suc q) o = ap (λ l. x ∷ l) (take_set xs r q o)

module _ (w : World) (n r q m : ℕ) (h h' : Hinted) (first : ℕ) (a : Agree w n r h) (p : IsPosted first q m h h') (below : q < r) (made : m < length w.inboxes) (there : n < length w.waiting) (first_is : first_port w.machine n ≡ first) where
  o : Option ℕ
  o = cond p.posted None (Some m)

  room_is : p.posted ≡ has_room (inbox w m)
  room_is = p.full (inbox w m) (a.told m)

  put_is : h'.told m ≡ Some (after_post (inbox w m) (first + q))
  put_is = p.put (inbox w m) (a.told m)

  waits_then : set (waiting_of w n) q o ≡ take r h'.waiting
  unfolding o
  waits_then = ap (λ l. set l q o) a.waits ∙ take_set h.waiting r q o ∙ ap (take r) (sym p.waits)

  own_then : (i k : ℕ) → slice_get h'.waiting i ≡ Some (Some k) → (i < r) × (k < length w.inboxes)
  unfolding o
  own_then i k is = ⊎_elim
      (λ (same : (i ≡ q) × (o ≡ Some k)). (subst (λ j. j < r) (sym same.0) below, by p.posted k same.1))
      (λ (old : slice_get h.waiting i ≡ Some (Some k)). a.own i k old)
      (slice_get-set_cases h.waiting q o i (Some k) (sym (ap (λ l. slice_get l i) p.waits) ∙ is))
    where
      by : (b : Bool) (k : ℕ) → cond b (none_of ℕ) (Some m) ≡ Some k → k < length w.inboxes
      by true k h = absurd (cc)
      by false k h = subst (λ j. j < length w.inboxes) (same_Some m k h) made

  two_then : length h'.waiting ≡ 2
  two_then = ap length p.waits ∙ length-set h.waiting q (cond p.posted None (Some m)) ∙ a.two

  -- the world then, by whether the inbox had room
  full_world : World
  full_world = with_waiting w n q (Some m)

  abbrev room_world : World
  room_world = with_hint (with_waiting w n q None) m (first_port w.machine n + q)

  told_full : has_room (inbox w m) ≡ false → (k : ℕ) → h'.told k ≡ Some (inbox w k)
  told_full no_room k = ⊎_elim
      (λ (same : k ≡ m). subst (λ j. h'.told j ≡ Some (inbox w j)) (sym same) (put_is ∙ ap (λ b. Some (cond b (inbox w m ++ (first + q) ∷ []) (inbox w m))) no_room))
      (λ (other : k ≢ m). p.told k other ∙ a.told k)
      (cases_eq k m)

  told_room : has_room (inbox w m) ≡ true → (k : ℕ) → h'.told k ≡ Some (inbox room_world k)
  told_room room k = ⊎_elim
      (λ (same : k ≡ m).
      subst (λ j. h'.told j ≡ Some (inbox room_world j)) (sym same)
      (put_is ∙ ap (λ b. Some (cond b (inbox w m ++ (first + q) ∷ []) (inbox w m))) room ∙ ap (λ f. Some (inbox w m ++ (f + q) ∷ [])) (sym first_is)
      ∙ ap Some (sym (get_or-set_same w.inboxes m (inbox w m ++ (first_port w.machine n + q) ∷ []) [] made))))
      (λ (other : k ≢ m). p.told k other ∙ a.told k ∙ ap Some (sym (get_or-set_other w.inboxes m k (inbox w m ++ (first_port w.machine n + q) ∷ []) [] other)))
      (cases_eq k m)

  agree_full : has_room (inbox w m) ≡ false → Agree (with_waiting w n q (Some m)) n r h'
  unfolding o
  agree_full no_room = record {
    told = told_full no_room;
    two = two_then;
    waits =
        get_or-set_same w.waiting n (set (waiting_of w n) q (Some m)) [] there
        ∙ ap (λ b. set (waiting_of w n) q (cond b None (Some m))) (sym (room_is ∙ no_room)) ∙ waits_then;
    own = own_then;
  }

  agree_room : has_room (inbox w m) ≡ true → Agree room_world n r h'
  unfolding o
  agree_room room = record {
    told = told_room room;
    two = two_then;
    waits =
        get_or-set_same w.waiting n (set (waiting_of w n) q None) [] there
        ∙ ap (λ b. set (waiting_of w n) q (cond b None (Some m))) (sym (room_is ∙ room)) ∙ waits_then;
    own = λ i k is.
        let t = own_then i k is in (t.0, subst (λ c. k < c) (sym (length-set w.inboxes m (inbox w m ++ (first_port w.machine n + q) ∷ []))) t.1);
  }

  others_then : (l : List (Option ℕ)) (k : ℕ) → k ≢ n → get_or (set w.waiting n l) k [] ≡ waiting_of w k
  others_then l k ne = get_or-set_other w.waiting n k l [] ne

  pub posted_agrees : Agree (post w n q m) n r h' × SameBut w (post w n q m) n
  posted_agrees =
      by (has_room (inbox w m)) refl
    where
      by : (b : Bool) → has_room (inbox w m) ≡ b
          → Agree (cond (not b) (with_waiting w n q (Some m)) room_world) n r h' × SameBut w (cond (not b) (with_waiting w n q (Some m)) room_world) n
      by false is = (
        agree_full is,
        record { machine = refl; folds = refl; events = refl; inboxes = refl; waiting = length-set w.waiting n (set (waiting_of w n) q (Some m)); others = others_then (set (waiting_of w n) q (Some m)) },
      )
      by true is = (
        agree_room is,
        record {
          machine = refl;
          folds = refl;
          events = refl;
          inboxes = length-set w.inboxes m (inbox w m ++ (first_port w.machine n + q) ∷ []);
          waiting = length-set w.waiting n (set (waiting_of w n) q None);
          others = others_then (set (waiting_of w n) q None);
        },
      )

-- ---- the hints that wait are posted, by port

at_of : (xs : List (Option ℕ)) (q m : ℕ) → length xs ≡ 2 → q < 2 → get_or xs q None ≡ Some m → slice_get xs q ≡ Some (Some m)
at_of xs q m two low is = slice_get-get_or xs q None (omega (arith, two, low)) ∙ ap Some is

module _ (w : World) (n r q : ℕ) (h h' : Hinted) (first : ℕ) (a : Agree w n r h) (two : q < 2) (there : n < length w.waiting) (first_is : first_port w.machine n ≡ first) where
  reposted_by : (o : Option ℕ) → get_or h.waiting q None ≡ o → Reposted o first q h h' → Agree (post_one n w (q, o)) n r h' × SameBut w (post_one n w (q, o)) n
  reposted_by None is p = (subst (λ x. Agree w n r x) (sym p) a, same_world w n)
  reposted_by (Some m) is p =
      let own = a.own q m (at_of h.waiting q m a.two two is) in posted_agrees w n r q m h h' first a p own.0 own.1 there first_is

  pub reposted : Reposted (get_or h.waiting q None) first q h h' → Agree (post_one n w (q, get_or h.waiting q None)) n r h' × SameBut w (post_one n w (q, get_or h.waiting q None)) n
  reposted p = reposted_by (get_or h.waiting q None) refl p

other_waits : (o : Option ℕ) (first q : ℕ) (h h' : Hinted) → Reposted o first q h h' → (j : ℕ) → j ≢ q → get_or h'.waiting j None ≡ get_or h.waiting j None
other_waits None first q h h' p j ne = ap (λ (x : Hinted). get_or x.waiting j None) p
other_waits (Some m) first q h h' p j ne = ap (λ l. get_or l j None) p.waits ∙ get_or-set_other h.waiting q j (cond p.posted None (Some m)) None ne

own_posted : (o : Option ℕ) (n first q : ℕ) (h h' : Hinted) (held : List ℕ) → Reposted o first q h h' → h.told n ≡ Some held → h'.told n ≡ Some (own_post n (first + q) o held)
own_posted None n first q h h' held p is = ap (λ (x : Hinted). x.told n) p ∙ is
own_posted (Some m) n first q h h' held p is = ⊎_elim
    (λ (same : m ≡ n).
    subst (λ j. h'.told j ≡ Some (after_post held (first + q))) same (p.put held (subst (λ j. h.told j ≡ Some held) (sym same) is))
    ∙ ap (λ b. Some (cond b (after_post held (first + q)) held)) (sym (eq-eqb m n same)))
    (λ (other : m ≢ n). p.told n (λ same. other (sym same)) ∙ is ∙ ap (λ b. Some (cond b (after_post held (first + q)) held)) (sym (ne_eqb m n other)))
    (cases_eq m n)

module _ (w : World) (n r : ℕ) (h posted : Hinted) (first : ℕ) (a : Agree w n r h) (p : PostsWaiting first h posted) (few : r ≤ 2) (there : n < length w.waiting) (first_is : first_port w.machine n ≡ first) where
  a0 : Option ℕ
  a0 = get_or h.waiting 0 None

  b0 : Option ℕ
  b0 = get_or p.between.waiting 1 None

  abbrev one : World
  one = post_one n w (0, get_or h.waiting 0 None)

  abbrev both : World
  both = post_one n one (1, get_or p.between.waiting 1 None)

  first_step : Agree one n r p.between × SameBut w one n
  first_step = reposted w n r 0 h p.between first a (omega arith) there first_is p.left

  second_step : Agree both n r posted × SameBut one both n
  second_step =
      reposted one n r 1 p.between posted first first_step.0 (omega arith) (omega (arith, there, first_step.1.waiting)) (ap (λ s. first_port s n) first_step.1.machine ∙ first_is) p.right

  second_is : get_or p.between.waiting 1 None ≡ get_or h.waiting 1 None
  second_is = other_waits (get_or h.waiting 0 None) first 0 h p.between p.left 1 (λ same. absurd (omega (arith, same)))

  nothing_at : (q : ℕ) → q < 2 → r ≤ q → get_or h.waiting q None ≡ None
  nothing_at q low past =
      by (get_or h.waiting q None) refl
    where
      by : (o : Option ℕ) → get_or h.waiting q None ≡ o → get_or h.waiting q None ≡ None
      by None is = is
      by (Some m) is = absurd (let own = a.own q m (at_of h.waiting q m a.two low is) in omega (arith, own.0, past))

  both_is : post_waiting w n ≡ both
  both_is =
      ap (λ l. fold (post_one n) w (enumerate_from 0 l)) a.waits ∙ by r few nothing_at
    where
      pair : (x : Option ℕ) × (y : Option ℕ) × (h.waiting ≡ x ∷ y ∷ [])
      pair = two_places h.waiting a.two

      by : (i : ℕ) → i ≤ 2 → ((q : ℕ) → q < 2 → i ≤ q → get_or h.waiting q None ≡ None) → fold (post_one n) w (enumerate_from 0 (take i h.waiting)) ≡ both
      by zero low none_at =
          ap (λ l. fold (post_one n) w (enumerate_from 0 (take 0 l))) pair.2
          ∙ ap (λ o. post_one n w (0, o)) (sym (none_at 0 (omega arith) (omega arith)))
          ∙ ap (λ o. post_one n one (1, o)) (sym (second_is ∙ none_at 1 (omega arith) (omega arith)))
      by (suc zero) low none_at =
          ap (λ l. fold (post_one n) w (enumerate_from 0 (take 1 l))) pair.2
          ∙ ap (λ o. post_one n w (0, o)) (sym (ap (λ l. get_or l 0 None) pair.2))
          ∙ ap (λ o. post_one n one (1, o)) (sym (second_is ∙ none_at 1 (omega arith) (omega arith)))
      by (suc (suc zero)) low none_at =
          ap (λ l. fold (post_one n) w (enumerate_from 0 (take 2 l))) pair.2
          ∙ ap (λ o. post_one n (post_one n w (0, o)) (1, pair.1)) (sym (ap (λ l. get_or l 0 None) pair.2))
          ∙ ap (λ o. post_one n one (1, o)) (sym (second_is ∙ ap (λ l. get_or l 1 None) pair.2))
      by (suc (suc (suc i))) low none_at = absurd (omega (arith, low))

  pub waiting_posted : Agree (post_waiting w n) n r posted × SameBut w (post_waiting w n) n
  waiting_posted =
      subst (λ v. Agree v n r posted × SameBut w v n) (sym both_is) (second_step.0, same_then w one both n first_step.1 second_step.1)

  pub own_is : inbox (post_waiting w n) n ≡ own_box n first h.waiting (inbox w n)
  own_is =
      let one_told = own_posted (get_or h.waiting 0 None) n first 0 h p.between (inbox w n) p.left (a.told n) in
      let two_told = own_posted (get_or p.between.waiting 1 None) n first 1 p.between posted (own_post n (first + 0) (get_or h.waiting 0 None) (inbox w n)) p.right one_told in
      same_Some (inbox (post_waiting w n) n) (own_box n first h.waiting (inbox w n))
      (sym (waiting_posted.0.told n) ∙ two_told
      ∙ ap (λ o. Some (own_post n (first + 1) o (own_post n (first + 0) (get_or h.waiting 0 None) (inbox w n)))) second_is
      ∙ ap (λ f. Some (own_post n (first + 1) (get_or h.waiting 1 None) (own_post n f (get_or h.waiting 0 None) (inbox w n)))) (add-zero first))

-- ---- the node's inbox is asked

abbrev asked_world : World → ℕ → Bool → World
asked_world w n asked = cond asked (without_hint w n) w

pub looked_agrees : (w : World) (n r : ℕ) (h h' : Hinted) (asked : Bool) → Agree w n r h → Looked asked n h h' → n < length w.inboxes → Agree (asked_world w n asked) n r h' × SameBut w (asked_world w n asked) n
looked_agrees w n r h h' false a l there = (subst (λ x. Agree w n r x) (sym l) a, same_world w n)
looked_agrees w n r h h' true a l there = (
  record {
    told = λ k. ⊎_elim
        (λ (same : k ≡ n).
        subst (λ j. h'.told j ≡ Some (inbox (without_hint w n) j)) (sym same)
        (l.taken (inbox w n) (a.told n) ∙ ap Some (sym (get_or-set_same w.inboxes n (drop 1 (inbox w n)) [] there))))
        (λ (other : k ≢ n). l.told k other ∙ a.told k ∙ ap Some (sym (get_or-set_other w.inboxes n k (drop 1 (inbox w n)) [] other)))
        (cases_eq k n);
    two = ap length l.waiting ∙ a.two;
    waits = a.waits ∙ ap (take r) (sym l.waiting);
    own = λ q m is.
        let o = a.own q m (sym (ap (λ x. slice_get x q) l.waiting) ∙ is) in
        (o.0, subst (λ c. m < c) (sym (length-set w.inboxes n (drop 1 (inbox w n)))) o.1);
  },
  record { machine = refl; folds = refl; events = refl; inboxes = length-set w.inboxes n (drop 1 (inbox w n)); waiting = refl; others = λ k ne. refl },
)
