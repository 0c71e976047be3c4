-- After a round no hint waits for a node whose inbox is empty: its owner found the inbox full, and since then one hint at most was taken.
use Rattle.std.proofs.Common.{◌≡◌, ◌∙◌, ℕ, zero, suc, ◌+◌, ◌<◌, ◌≤◌, Bool, true, false, cond, List, [], ◌∷◌, ◌++◌, ◌⊎◌, inl, inr, length, length-append, set, Option, Some, None, refl, sym, ap, subst, ⊎_elim, arith, not, get_or-set_same, get_or-set_other, length-set}
use Rattle.std.specs.Prelude.{◌==◌, drop, filter, fold, nat_lt, replicate, slice_index_or}
use Rattle.std.specs.List.{enumerate_from, range_with_len}
use Rattle.std.specs.Option.{option_map_or}
use Rattle.std.proofs.lemmas.Bool.{and_parts, both_ways, cases_eq, cases_lt, eq-eqb, false_from_ne_true, lt-ltb, ltb-true, ne_eqb}
use Rattle.std.proofs.lemmas.List.{get_or_append_left, get_or_past, length-drop}
use Rattle.std.proofs.lemmas.Option.{get_or_from_slice_get, none-some, same_Some}
use Rattle.std.proofs.Math.Seq.{get_or-append_seam}
use Rattle.base.proofs.PlaceLaws.{fresh_behind, slice_get-there}
use Rattle.component_trait.specs.States.{NodeState}
use Rattle.config_graph.specs.Kinds.{row}
use Rattle.quiesce_word.proofs.PhaseLaws.{asked_busy}
use Rattle.quiesce_word.specs.Phases.{is_asked}
use Rattle.port_queue.specs.declared.TheConstants.{MAX_HINTS}
use Rattle.quiesce_core.proofs.RunLaws.{node_events_keep_the_configuration}
use Rattle.quiesce_core.proofs.StabilityLaws.{busy_is_live}
use Rattle.quiesce_core.proofs.TableLaws.{live_made}
use Rattle.quiesce_core.specs.Rules.{is_taken}
use Rattle.quiesce_core.specs.declared.state.Gate.{Gate}
use Rattle.quiesce_core.specs.State.{Configuration, exchange, fresh_gate, is_live, owner, slot}
use Rattle.quiesce_core.specs.declared.event.Event.{Event}
use Rattle.quiesce_core.specs.declared.event.Event.TheVariants.{Close, Reopen, Make, Link, Unlink, Remove}
use Rattle.quiesce_core.specs.Doers.{is_of_change}
use Rattle.quiesce_core.specs.declared.state.Slot.{Slot}
use Rattle.node_turn_laws.proofs.ReachedLaws.{turn_goes_on}
use Rattle.node_turn_laws.specs.Reached.{IsReached}
use Rattle.node_turn_laws.proofs.TurnLaws.{turns_do}
use Rattle.node_turn_laws.specs.Hints.{after_move, without_hints}
use Rattle.node_turn_laws.specs.Round.{Round, give_turn, round}
use Rattle.node_turn_laws.specs.Turn.{Request, do_event, is_full, looks, move_of, post, post_one, post_request, post_waiting, request_of, turn, turn_in, with_hint, with_waiting, without_hint}
use Rattle.node_turn_laws.specs.World.{World, first_port, inbox, state_of, waiting_of, with_event, with_event_of}
use Rattle.node_turn_laws.specs.Posted.{ArePosted, waiting_at}
use Rattle.node_turn_laws.specs.Requests.{hints_for, kept_back, leads_to, waits, waits_for}
use Rattle.node_turn_laws.proofs.HintLaws.{Hinted, hinted_where_reached, kept_there, place_of, some_hint, traffic_where_reached, well_where_reached}
use Rattle.node_turn_laws.proofs.PostLemmas.{is_at}
use Rattle.node_turn_laws.proofs.StillLaws.{Grows, post_grows, waiting_grow}

-- ---- a post

-- the hint that is posted waits where the inbox is full, and all others wait as they did
pub record AfterPost (w u : World) (n r m : ℕ) : Type 0 where
  pub elsewhere : (k i : ℕ) → (k ≡ n → i ≡ r → ⊥) → waiting_at u k i ≡ waiting_at w k i
  pub here : (j : ℕ) → waiting_at u n r ≡ Some j → (r < length (waiting_of w n)) → (n < length w.waiting) → (j ≡ m) × (MAX_HINTS ≤ length (inbox u m))
  pub lengths : (k : ℕ) → length (waiting_of u k) ≡ length (waiting_of w k)
  pub count : length u.waiting ≡ length w.waiting

module _ (w : World) (n r m : ℕ) where
  entry_there : (o : Option ℕ) (k i : ℕ) → (k ≡ n → i ≡ r → ⊥) → waiting_at (with_waiting w n r o) k i ≡ waiting_at w k i
  entry_there o k i other = ⊎_elim
      (λ (low : n < length w.waiting). ⊎_elim
      (λ (same : k ≡ n).
      ap (λ x. slice_index_or (slice_index_or (set w.waiting n (set (waiting_of w n) r o)) x []) i None) same
      ∙ ap (λ xs. slice_index_or xs i None) (get_or-set_same w.waiting n (set (waiting_of w n) r o) [] low)
      ∙ get_or-set_other (waiting_of w n) r i o None (other same) ∙ ap (λ x. waiting_at w x i) (sym same))
      (λ (ne : k ≡ n → ⊥). ap (λ xs. slice_index_or xs i None) (get_or-set_other w.waiting n k (set (waiting_of w n) r o) [] ne))
      (cases_eq k n))
      (λ (past : length w.waiting ≤ n). ⊎_elim
      (λ (same : k ≡ n).
      let long = length-set w.waiting n (set (waiting_of w n) r o) in
      ap (λ xs. slice_index_or xs i None)
      (get_or_past (set w.waiting n (set (waiting_of w n) r o)) k [] (omega (arith, long, past, same)) ∙ sym (get_or_past w.waiting k [] (omega (arith, past, same)))))
      (λ (ne : k ≡ n → ⊥). ap (λ xs. slice_index_or xs i None) (get_or-set_other w.waiting n k (set (waiting_of w n) r o) [] ne))
      (cases_eq k n))
      (cases_lt n (length w.waiting))

  entry_here : (o : Option ℕ) → r < length (waiting_of w n) → n < length w.waiting → waiting_at (with_waiting w n r o) n r ≡ o
  entry_here o in_row low =
      ap (λ xs. slice_index_or xs r None) (get_or-set_same w.waiting n (set (waiting_of w n) r o) [] low) ∙ get_or-set_same (waiting_of w n) r o None in_row

  row_length : (o : Option ℕ) (k : ℕ) → length (waiting_of (with_waiting w n r o) k) ≡ length (waiting_of w k)
  row_length o k = ⊎_elim
      (λ (low : n < length w.waiting). ⊎_elim
      (λ (same : k ≡ n).
      ap (λ x. length (slice_index_or (set w.waiting n (set (waiting_of w n) r o)) x [])) same
      ∙ ap (λ (xs : List (Option ℕ)). length xs) (get_or-set_same w.waiting n (set (waiting_of w n) r o) [] low) ∙ length-set (waiting_of w n) r o ∙ ap (λ x. length (waiting_of w x)) (sym same))
      (λ (ne : k ≡ n → ⊥). ap (λ (xs : List (Option ℕ)). length xs) (get_or-set_other w.waiting n k (set (waiting_of w n) r o) [] ne))
      (cases_eq k n))
      (λ (past : length w.waiting ≤ n). ⊎_elim
      (λ (same : k ≡ n).
      let long = length-set w.waiting n (set (waiting_of w n) r o) in
      ap (λ (xs : List (Option ℕ)). length xs)
      (get_or_past (set w.waiting n (set (waiting_of w n) r o)) k [] (omega (arith, long, past, same)) ∙ sym (get_or_past w.waiting k [] (omega (arith, past, same)))))
      (λ (ne : k ≡ n → ⊥). ap (λ (xs : List (Option ℕ)). length xs) (get_or-set_other w.waiting n k (set (waiting_of w n) r o) [] ne))
      (cases_eq k n))
      (cases_lt n (length w.waiting))

  full_if : (box : List ℕ) → is_full box ≡ true → MAX_HINTS ≤ length box
  full_if box h = ⊎_elim
      (λ (low : length box < MAX_HINTS). absurd (both_ways (is_full box) (ap not (lt-ltb (length box) MAX_HINTS low)) h))
      (λ (past : MAX_HINTS ≤ length box). past)
      (cases_lt (length box) MAX_HINTS)

  pub after_post : AfterPost w (post w n r m) n r m
  after_post = by (is_full (inbox w m)) refl
    where
      by : (b : Bool) → is_full (inbox w m) ≡ b → AfterPost w (cond b (with_waiting w n r (Some m)) (with_hint (with_waiting w n r None) m (first_port w.machine n + r))) n r m
      by true full = record {
        elsewhere = entry_there (Some m);
        here = λ j is in_row low. (sym (same_Some m j (sym (entry_here (Some m) in_row low) ∙ is)), full_if (inbox w m) full);
        lengths = row_length (Some m);
        count = length-set w.waiting n (set (waiting_of w n) r (Some m));
      }
      by false room = record {
        elsewhere = entry_there None;
        here = λ j is in_row low. absurd (none-some j (sym (entry_here None in_row low) ∙ is));
        lengths = row_length None;
        count = length-set w.waiting n (set (waiting_of w n) r None);
      }

-- ---- all hints of a node that wait

-- those of the first so many requirements wait for full inboxes
abbrev AreFullBelow : World → ℕ → ℕ → Type 0
AreFullBelow u n i = (r m : ℕ) → r < i → waiting_at u n r ≡ Some m → MAX_HINTS ≤ length (inbox u m)

record AllPosted (w u : World) (n : ℕ) : Type 0 where
  elsewhere : (k i : ℕ) → (k ≡ n → ⊥) → waiting_at u k i ≡ waiting_at w k i
  full : (r m : ℕ) → waiting_at u n r ≡ Some m → MAX_HINTS ≤ length (inbox u m)
  lengths : (k : ℕ) → length (waiting_of u k) ≡ length (waiting_of w k)
  count : length u.waiting ≡ length w.waiting

post_all : (w : World) (n i : ℕ) (xs : List (Option ℕ)) (u : World) → n < length u.waiting → i + length xs ≡ length (waiting_of u n)
    → ((j : ℕ) → waiting_at u n (i + j) ≡ slice_index_or xs j None) → AreFullBelow u n i → AllPosted u (fold (post_one n) u (enumerate_from i xs)) n
post_all w n i [] u low long rest_is full = record {
  elsewhere = λ k j other. refl;
  full = λ r m is. ⊎_elim
      (λ (below : r < i). full r m below is)
      (λ (past : i ≤ r). absurd (none-some m (sym (get_or_past (waiting_of u n) r None (omega (arith, long, past))) ∙ is)))
      (cases_lt r i);
  lengths = λ k. refl;
  count = refl;
}
post_all w n i (None ∷ xs) u low long rest_is full =
    post_all w n (i + 1) xs u low (omega (arith, long))
    (λ j. let shift : (i + 1) + j ≡ i + suc j = omega arith in ap (waiting_at u n) shift ∙ rest_is (suc j))
    (λ r m below is. ⊎_elim
    (λ (here : r ≡ i). absurd (none-some m (sym (let at : r ≡ i + 0 = omega (arith, here) in ap (waiting_at u n) at ∙ rest_is 0) ∙ is)))
    (λ (other : r ≡ i → ⊥). full r m (omega (arith, below, other)) is)
    (cases_eq r i))
post_all w n i (Some m ∷ xs) u low long rest_is full =
    let v = post u n i m in
    let a = after_post u n i m in
    let count = a.count in
    let lengths = a.lengths n in
    let in_row : i < length (waiting_of u n) = omega (arith, long) in
    let later = post_all w n (i + 1) xs v (omega (arith, low, count)) (omega (arith, long, lengths))
    (λ j. let shift : (i + 1) + j ≡ i + suc j = omega arith in
    a.elsewhere n ((i + 1) + j) (λ _ e. absurd (omega (arith, e))) ∙ ap (waiting_at u n) shift ∙ rest_is (suc j))
    (λ r k below is. ⊎_elim
    (λ (here : r ≡ i).
    let got = a.here k (ap (waiting_at v n) (sym here) ∙ is) in_row low in
    let same = ap (λ x. length (inbox v x)) got.0 in let high = got.1 in omega (arith, same, high))
    (λ (other : r ≡ i → ⊥).
    let old = full r k (omega (arith, below, other)) (sym (a.elsewhere n r (λ _ e. other e)) ∙ is) in
    let grown = post_grows u n i m k in omega (arith, old, grown))
    (cases_eq r i)) in
    record {
      elsewhere = λ k j other. later.elsewhere k j other ∙ a.elsewhere k j (λ e _. other e);
      full = later.full;
      lengths = λ k. later.lengths k ∙ a.lengths k;
      count = later.count ∙ a.count;
    }

all_posted : (w : World) (n : ℕ) → n < length w.waiting → AllPosted w (post_waiting w n) n
all_posted w n low =
    post_all w n 0 (waiting_of w n) w low (omega arith) (λ j. let zero_ : 0 + j ≡ j = omega arith in ap (waiting_at w n) zero_) (λ r m below is. absurd (omega (arith, below)))

-- ---- a turn

-- after the turns of the nodes below this one: their hints wait for inboxes that were full when they were posted, but for one hint
abbrev AlmostFull : World → ℕ → Type 0
AlmostFull u j = (n r m : ℕ) → n < j → waiting_at u n r ≡ Some m → MAX_HINTS ≤ length (inbox u m) + cond (nat_lt m j) 1 0

abbrev AtMostOneFewer : World → World → ℕ → Type 0
AtMostOneFewer w u n = (k : ℕ) → length (inbox w k) ≤ length (inbox u k) + cond (k == n) 1 0

-- what a node's own event leaves of the waiting hints, and of inboxes that it posts to
record AfterEvent (w u : World) (n : ℕ) : Type 0 where
  elsewhere : (k i : ℕ) → (k ≡ n → ⊥) → waiting_at u k i ≡ waiting_at w k i
  here : (r m : ℕ) → waiting_at u n r ≡ Some m → (waiting_at w n r ≡ Some m) ⊎ (MAX_HINTS ≤ length (inbox u m))
  grows : Grows w u

after_request : (w : World) (n : ℕ) → n < length w.waiting → (o : Option Request) → AfterEvent w (post_request w n o) n
after_request w n low None = record { elsewhere = λ k i other. refl; here = λ r m is. inl is; grows = λ k. omega arith }
after_request w n low (Some q) =
    let u = post w n q.require q.node in
    let a = after_post w n q.require q.node in
    record {
      elsewhere = λ k i other. a.elsewhere k i (λ e _. other e);
      here = λ r m is. ⊎_elim
          (λ (same : r ≡ q.require). ⊎_elim
          (λ (in_row : q.require < length (waiting_of w n)).
          let got = a.here m (ap (waiting_at u n) (sym same) ∙ is) in_row low in
          let there = ap (λ x. length (inbox u x)) got.0 in let high = got.1 in inr (omega (arith, there, high)))
          (λ (past : length (waiting_of w n) ≤ q.require).
          let long = a.lengths n in
          absurd (none-some m (sym (get_or_past (waiting_of u n) r None (omega (arith, long, past, same))) ∙ is)))
          (cases_lt q.require (length (waiting_of w n))))
          (λ (other : r ≡ q.require → ⊥). inl (sym (a.elsewhere n r (λ _ e. other e)) ∙ is))
          (cases_eq r q.require);
      grows = post_grows w n q.require q.node;
    }

looked_shrinks : (v : World) (n : ℕ) (b : Bool) → AtMostOneFewer v (cond b (without_hint v n) v) n
looked_shrinks v n false k = omega arith
looked_shrinks v n true k = ⊎_elim
    (λ (same : k ≡ n). ⊎_elim
    (λ (made : n < length v.inboxes).
    let there = ap (λ (xs : List ℕ). length xs) (ap (inbox (without_hint v n)) same ∙ get_or-set_same v.inboxes n (drop 1 (inbox v n)) [] made) in
    let less = length-drop 1 (inbox v n) in
    let here = ap (λ x. length (inbox v x)) same in
    let one : ◌≡◌ {A = ℕ} (cond (k == n) 1 0) 1 = ap {B = ℕ} (λ c. cond c 1 0) (eq-eqb k n same) in
    omega (arith, there, less, here, one))
    (λ (past : length v.inboxes ≤ n). let none_ = ap (λ (xs : List ℕ). length xs) (get_or_past v.inboxes k [] (omega (arith, past, same))) in omega (arith, none_))
    (cases_lt n (length v.inboxes)))
    (λ (other : k ≡ n → ⊥). let there = ap (λ (xs : List ℕ). length xs) (get_or-set_other v.inboxes n k (drop 1 (inbox v n)) [] other) in omega (arith, there))
    (cases_eq k n)

-- a turn
record AfterTurn (w u : World) (n : ℕ) : Type 0 where
  elsewhere : (k i : ℕ) → (k ≡ n → ⊥) → waiting_at u k i ≡ waiting_at w k i
  full : (r m : ℕ) → waiting_at u n r ≡ Some m → MAX_HINTS ≤ length (inbox u m) + cond (m == n) 1 0
  fewer : AtMostOneFewer w u n

same_waiting : (v : World) (n : ℕ) (b : Bool) (k i : ℕ) → waiting_at (cond b (without_hint v n) v) k i ≡ waiting_at v k i
same_waiting v n true k i = refl
same_waiting v n false k i = refl

same_rows : (v : World) (n : ℕ) (b : Bool) → length (cond b (without_hint v n) v).waiting ≡ length v.waiting
same_rows v n true = refl
same_rows v n false = refl

after_move_of : (w : World) (n : ℕ) → n < length w.waiting → (b : Bool) (o : Option Event)
    → AfterTurn w (option_map_or (do_event (cond b (without_hint (post_waiting w n) n) (post_waiting w n)) n) o (cond b (without_hint (post_waiting w n) n) (post_waiting w n))) n
after_move_of w n low b o =
    let p = all_posted w n low in
    let v = post_waiting w n in
    let x = cond b (without_hint v n) v in
    let rows = same_rows v n b in
    let count = p.count in
    by p x (same_waiting v n b) (looked_shrinks v n b) (omega (arith, rows, count, low)) o
  where
    by : (p : AllPosted w (post_waiting w n) n) (x : World) → ((k i : ℕ) → waiting_at x k i ≡ waiting_at (post_waiting w n) k i) → AtMostOneFewer (post_waiting w n) x n → n < length x.waiting
        → (o : Option Event) → AfterTurn w (option_map_or (do_event x n) o x) n
    by p x same fewer rows None = record {
      elsewhere = λ k i other. same k i ∙ p.elsewhere k i other;
      full = λ r m is. let high = p.full r m (sym (same n r) ∙ is) in let less = fewer m in omega (arith, high, less);
      fewer = λ k. let less = fewer k in let more_ = waiting_grow w n k in omega (arith, less, more_);
    }
    by p x same fewer rows (Some e) =
        let a = after_request (with_event_of x n e) n rows (request_of x.machine n e) in
        record {
          elsewhere = λ k i other. a.elsewhere k i other ∙ same k i ∙ p.elsewhere k i other;
          full = λ r m is. ⊎_elim
              (λ (old : waiting_at (with_event_of x n e) n r ≡ Some m).
              let high = p.full r m (sym (same n r) ∙ old) in let less = fewer m in let more_ = a.grows m in omega (arith, high, less, more_))
              (λ (high : MAX_HINTS ≤ length (inbox (post_request (with_event_of x n e) n (request_of x.machine n e)) m)). omega (arith, high))
              (a.here r m is);
          fewer = λ k. let less = fewer k in let more_ = waiting_grow w n k in let last = a.grows k in omega (arith, less, more_, last);
        }

after_turn : (w : World) (n : ℕ) (allowed : Bool) → n < length w.waiting → AfterTurn w (turn w n allowed).world n
after_turn w n allowed low = by (state_of (post_waiting w n) n)
  where
    by : (o : Option NodeState) → AfterTurn w (option_map_or (turn_in (post_waiting w n) n allowed) o (record { event = None; world = post_waiting w n })).world n
    by None = after_move_of w n low false None
    by (Some t) = after_move_of w n low (looks (post_waiting w n).machine n t) (move_of (post_waiting w n).machine n t (inbox (post_waiting w n) n) allowed)

-- ---- a round

-- whether a node is among those below the next, by whether it is below this one or this one
one_more_below : (m j : ℕ) → cond (nat_lt m j) 1 0 + cond (m == j) 1 0 ≤ cond (nat_lt m (j + 1)) 1 0
one_more_below m j = ⊎_elim
    (λ (low : m < j).
    let a : ◌≡◌ {A = ℕ} (cond (nat_lt m j) 1 0) 1 = ap {B = ℕ} (λ b. cond b 1 0) (lt-ltb m j low) in
    let b : ◌≡◌ {A = ℕ} (cond (m == j) 1 0) 0 = ap {B = ℕ} (λ b. cond b 1 0) (ne_eqb m j (λ e. absurd (omega (arith, e, low)))) in
    let c : ◌≡◌ {A = ℕ} (cond (nat_lt m (j + 1)) 1 0) 1 = ap {B = ℕ} (λ b. cond b 1 0) (lt-ltb m (j + 1) (omega (arith, low))) in
    omega (arith, a, b, c))
    (λ (high : j ≤ m).
    let a : ◌≡◌ {A = ℕ} (cond (nat_lt m j) 1 0) 0 = ap {B = ℕ} (λ b. cond b 1 0) (false_from_ne_true (nat_lt m j) (λ h. let low = ltb-true m j h in absurd (omega (arith, low, high)))) in
    ⊎_elim
    (λ (same : m ≡ j).
    let b : ◌≡◌ {A = ℕ} (cond (m == j) 1 0) 1 = ap {B = ℕ} (λ b. cond b 1 0) (eq-eqb m j same) in
    let c : ◌≡◌ {A = ℕ} (cond (nat_lt m (j + 1)) 1 0) 1 = ap {B = ℕ} (λ b. cond b 1 0) (lt-ltb m (j + 1) (omega (arith, same))) in
    omega (arith, a, b, c))
    (λ (other : m ≡ j → ⊥).
    let b : ◌≡◌ {A = ℕ} (cond (m == j) 1 0) 0 = ap {B = ℕ} (λ b. cond b 1 0) (ne_eqb m j other) in
    omega (arith, a, b))
    (cases_eq m j))
    (cases_lt m j)

at_most_one : (b : Bool) → cond b 1 0 ≤ 1
at_most_one true = omega arith
at_most_one false = omega arith

almost_next : (u v : World) (j : ℕ) → AlmostFull u j → AfterTurn u v j → AlmostFull v (j + 1)
almost_next u v j h a n r m low is = ⊎_elim
    (λ (same : n ≡ j).
    let high = a.full r m (ap (λ k. waiting_at v k r) (sym same) ∙ is) in
    let more_ = one_more_below m j in
    omega (arith, high, more_))
    (λ (other : n ≡ j → ⊥).
    let high = h n r m (omega (arith, low, other)) (sym (a.elsewhere n r other) ∙ is) in
    let more_ = one_more_below m j in
    let fewer = a.fewer m in
    omega (arith, high, more_, fewer))
    (cases_eq n j)

-- none of a node's hints waits that is live no more
none_of_dead : (u : World) → Hinted u → IsReached u → (j r m : ℕ) → is_live u.machine.config j ≡ false → waiting_at u j r ≡ Some m → ⊥
none_of_dead u h reached j r m dead is = by (slot u.machine.config j) refl
  where
    c : Configuration
    c = u.machine.config

    by : (o : Option Slot) → slot u.machine.config j ≡ o → ⊥
    by None e =
        ⊎_elim
        (λ (made : j < length u.machine.config.slots). none-some (slice_get-there u.machine.config.slots j made).0 (sym e ∙ (slice_get-there u.machine.config.slots j made).1))
        (λ (past : length u.machine.config.slots ≤ j).
        let rows = h.fits.rows in
        none-some m (sym (ap (λ xs. slice_index_or xs r None) (get_or_past u.waiting j [] (omega (arith, rows, past)))) ∙ is))
        (cases_lt j (length u.machine.config.slots))
    by (Some k) e = ⊎_elim
        (λ (in_row : r < length (row k.node.kind).requires_).
        let p = k.first_port + r in
        let sound = (well_where_reached u reached).sound in
        let at = place_of u h.fits sound j r k e in_row in
        let kept : kept_back u p ≡ Some m = kept_there u j r p at ∙ is in
        let one : ◌≡◌ {A = ℕ} (cond (is_at m (kept_back u p)) 1 0) 1 = ap {B = ℕ} (λ o. cond (is_at m o) 1 0) kept ∙ ap {B = ℕ} (λ b. cond b 1 0) (eq-eqb m m refl) in
        let asked = some_hint (waits_for u.machine m p) (hints_for u m p) (h.hints m p) (omega (arith, one)) in
        let both = and_parts (waits u.machine p) (leads_to u.machine.config m p) asked in
        let busy = asked_busy (exchange u.machine p).phase (and_parts (is_asked (exchange u.machine p).phase) (not (is_taken u.machine p)) both.0).0 in
        let live = busy_is_live u.machine p (traffic_where_reached u reached) busy in
        let mine : owner u.machine.config p ≡ j = ap (λ (g : Gate). g.owner) (get_or_from_slice_get u.machine.config.gates p at.gate_of fresh_gate at.there) ∙ at.owned in
        both_ways (is_live u.machine.config j) dead
        (ap (is_live u.machine.config) (sym mine) ∙ (and_parts (nat_lt p (length u.machine.config.gates)) (is_live u.machine.config (owner u.machine.config p)) live).1))
        (λ (past : length (row k.node.kind).requires_ ≤ r).
        let long = h.fits.row_of j k e in
        none-some m (sym (get_or_past (waiting_of u j) r None (omega (arith, long, past))) ∙ is))
        (cases_lt r (length (row k.node.kind).requires_))

almost_past_dead : (u : World) (j : ℕ) → ((r m : ℕ) → waiting_at u j r ≡ Some m → ⊥) → AlmostFull u j → AlmostFull u (j + 1)
almost_past_dead u j none_ h n r m low is = ⊎_elim
    (λ (same : n ≡ j). absurd (none_ r m (ap (λ k. waiting_at u k r) (sym same) ∙ is)))
    (λ (other : n ≡ j → ⊥).
    let high = h n r m (omega (arith, low, other)) is in
    let more_ = one_more_below m j in
    omega (arith, high, more_))
    (cases_eq n j)

same_config : (u : World) (n : ℕ) (allowed : Bool) → IsReached u → is_live u.machine.config n ≡ true → (turn u n allowed).world.machine.config ≡ u.machine.config
same_config u n allowed r live =
    ap (λ (x : World). x.machine.config) (turns_do u n allowed) ∙ by (turn u n allowed).event refl
  where
    by : (o : Option Event) → (turn u n allowed).event ≡ o → (without_hints (after_move u n o)).machine.config ≡ u.machine.config
    by None e = refl
    by (Some x) e = node_events_keep_the_configuration u.machine x (turn_goes_on u n allowed x r live e).of_node

-- the turns of some nodes in a row
record Turned (c : Configuration) (v : World) (j : ℕ) : Type 0 where
  reached : IsReached v
  config : v.machine.config ≡ c
  almost : AlmostFull v j

turns_in_row : (allowed : Bool) (c : Configuration) (a k : ℕ) (r : Round) → Turned c r.world a → Turned c (fold (give_turn allowed) r (filter (λ n. is_live c n) (range_with_len a k))).world (a + k)
turns_in_row allowed c a zero r h = let sum : a ≡ a + 0 = omega arith in subst (Turned c r.world) sum h
turns_in_row allowed c a (suc k) r h = by (is_live c a) refl (λ q x. turns_in_row allowed c (a + 1) k q x)
  where
    sum : (a + 1) + k ≡ a + suc k
    sum = omega arith

    rest : List ℕ
    rest = filter (λ n. is_live c n) (range_with_len (a + 1) k)

    by : (b : Bool) → is_live c a ≡ b → ((q : Round) → Turned c q.world (a + 1) → Turned c (fold (give_turn allowed) q rest).world ((a + 1) + k))
        → Turned c (fold (give_turn allowed) r (cond b (a ∷ rest) rest)).world (a + suc k)
    by true live later =
        let alive : is_live r.world.machine.config a ≡ true = ap (λ d. is_live d a) h.config ∙ live in
        let made = live_made r.world.machine.config a alive in
        let rows = (hinted_where_reached r.world h.reached).fits.rows in
        subst (Turned c (fold (give_turn allowed) (give_turn allowed r a) rest).world) sum
        (later (give_turn allowed r a) (record {
          reached = IsReached.by_turn r.world a allowed h.reached alive;
          config = same_config r.world a allowed h.reached alive ∙ h.config;
          almost = almost_next r.world (turn r.world a allowed).world a h.almost (after_turn r.world a allowed (omega (arith, made, rows)));
        }))
    by false dead later =
        subst (Turned c (fold (give_turn allowed) r rest).world) sum
        (later r (record {
          reached = h.reached;
          config = h.config;
          almost = almost_past_dead r.world a (λ i m is. none_of_dead r.world (hinted_where_reached r.world h.reached) h.reached a i m (ap (λ d. is_live d a) h.config ∙ dead) is) h.almost;
        }))

-- a round leads to a world that is reached, and keeps the configuration
pub round_reaches : (w : World) (allowed : Bool) → IsReached w → IsReached (round allowed w).world × ((round allowed w).world.machine.config ≡ w.machine.config)
round_reaches w allowed r =
    let t = turns_in_row allowed w.machine.config 0 (length w.machine.config.slots) (record { world = w; moved = false }) (record { reached = r; config = refl; almost = λ k j l low. absurd (omega (arith, low)) }) in
    (t.reached, t.config)

pub posted_behind_round : (w : World) (allowed : Bool) → IsReached w → ArePosted (round allowed w).world
posted_behind_round w allowed r n i m is =
    let c = w.machine.config in
    let v = (round allowed w).world in
    let t = turns_in_row allowed c 0 (length c.slots) (record { world = w; moved = false }) (record { reached = r; config = refl; almost = λ k j l low. absurd (omega (arith, low)) }) in
    ⊎_elim
    (λ (low : n < 0 + length c.slots).
    let high = t.almost n i m low is in
    let one = at_most_one (nat_lt m (0 + length c.slots)) in
    omega (arith, high, one))
    (λ (past : 0 + length c.slots ≤ n).
    let rows = (hinted_where_reached v t.reached).fits.rows in
    let count = ap (λ (d : Configuration). length d.slots) t.config in
    absurd (none-some m (sym (ap (λ xs. slice_index_or xs i None) (get_or_past v.waiting n [] (omega (arith, rows, count, past)))) ∙ is)))
    (cases_lt n (0 + length c.slots))

-- ---- an event of the change

posted_made : (w : World) (xs : List (Option ℕ)) → ((j : ℕ) → slice_index_or xs j None ≡ None) → ArePosted w → (n r m : ℕ) → slice_index_or (slice_index_or (w.waiting ++ xs ∷ []) n []) r None ≡ Some m
    → 0 < length (slice_index_or (w.inboxes ++ [] ∷ []) m [])
posted_made w xs none_ h n r m is =
    let boxes = ap (λ (ys : List ℕ). length ys) (fresh_behind w.inboxes [] 1 m) in
    ⊎_elim
    (λ (low : n < length w.waiting).
    let old = h n r m (sym (ap (λ ys. slice_index_or ys r None) (get_or_append_left w.waiting (xs ∷ []) [] n low)) ∙ is) in omega (arith, old, boxes))
    (λ (past : length w.waiting ≤ n). ⊎_elim
    (λ (last : n ≡ length w.waiting).
    absurd (none-some m (sym (ap (λ ys. slice_index_or ys r None) (ap (λ k. slice_index_or (w.waiting ++ xs ∷ []) k []) last ∙ get_or-append_seam w.waiting xs [] []) ∙ none_ r) ∙ is)))
    (λ (other : n ≡ length w.waiting → ⊥).
    let long = length-append w.waiting (xs ∷ []) in
    absurd (none-some m (sym (ap (λ ys. slice_index_or ys r None) (get_or_past (w.waiting ++ xs ∷ []) n [] (omega (arith, long, past, apart n (length w.waiting) other past)))) ∙ is)))
    (cases_eq n (length w.waiting)))
    (cases_lt n (length w.waiting))
  where
    apart : (i j : ℕ) → (i ≡ j → ⊥) → j ≤ i → j < i
    apart i j ne g = ⊎_elim (λ (low : j < i). low) (λ (high : i ≤ j). absurd (ne (omega (arith, g, high)))) (cases_lt j i)

pub posted_behind_change : (w : World) (e : Event) → is_of_change e ≡ true → ArePosted w → ArePosted (with_event w e)
posted_behind_change w (Make k node from) change h = posted_made w (replicate (length (row node.kind).requires_) None) (λ j. fresh_behind [] None (length (row node.kind).requires_) j) h
posted_behind_change w (Close p) change h = h
posted_behind_change w (Reopen p) change h = h
posted_behind_change w (Link p n x) change h = h
posted_behind_change w (Unlink p) change h = h
posted_behind_change w (Remove n) change h = h
posted_behind_change w _ change h = absurd (both_ways false refl change)
