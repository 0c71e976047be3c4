-- What branches and accounts do.
use Rattle.std.proofs.Common.{◌≡◌, ◌∙◌, ℕ, ◌+◌, ◌-◌, ◌*◌, ◌/◌, ◌%◌, ◌<◌, Bool, true, false, cond, List, [], ◌∷◌, Option, Some, None, refl, sym, ap, subst, arith}
use Rattle.std.specs.Prelude.{◌==◌, ◌||◌, nat_le, nat_lt, option_and_then, is_none, ◌^◌}
use Rattle.std.specs.Option.{option_map_or}
use Rattle.std.proofs.lemmas.Bool.{and_parts, both_ways, eqb-true, leb-true, lt-ltb}
use Rattle.std.proofs.lemmas.Option.{none-some, same_Some}
use Rattle.component_trait.specs.declared.TheConstants.{AMOUNT_LIMIT}
use Rattle.config_graph.specs.declared.kind.Kind.TheVariants.{Account}
use Rattle.component_trait.specs.Fold.{after_event, asked_by, calls_at, is_give, is_more, is_request, is_request_at, may_take}
use Rattle.component_trait.specs.Moves as moves
use Rattle.component_trait.specs.States.{Kept, NodeState, with_total}
use Rattle.component_trait.specs.States as node
use Rattle.component_trait.specs.Tables.{Outcome, transfer, take_and_put, serve}
use Rattle.component_trait.proofs.FoldLaws.{where_so_then}
use Rattle.component_trait.specs.declared.next.Next.TheVariants as next
use Rattle.quiesce_core.specs.declared.event.Event.{Event}
use Rattle.quiesce_core.specs.declared.event.Event.TheVariants.{Begin, Call, Take, Give, End, More, Ask, Hear, Miss}

-- how far a branch is: it asks the first account, or the second, or answers
pub data Course (v : ℕ) : List ℕ → Type 0 where
  from_first : nat_le AMOUNT_LIMIT v ≡ false → Course v []
  to_second : nat_le AMOUNT_LIMIT v ≡ false → Course v (1 ∷ [])
  answers_now : (xs : List ℕ) (r : ℕ) → transfer v xs ≡ next.Give r → Course v xs

pub course : (v : ℕ) (xs : List ℕ) → Course v xs
course v xs = by (nat_le AMOUNT_LIMIT v) refl xs
  where
    first_said : nat_le AMOUNT_LIMIT v ≡ false → (x : ℕ) (b : Bool) → (x == 1) ≡ b → Course v (x ∷ [])
    first_said small x true is = subst (λ i. Course v (i ∷ [])) (sym (eqb-true x 1 is)) (to_second small)
    first_said small x false is = answers_now (x ∷ []) 0 (ap (λ b. cond b (next.Give 0) (cond (x == 1) (next.Ask (record { require = 1; value = 2 * v })) (next.Give 0))) small
        ∙ ap (λ b. cond b (next.Ask (record { require = 1; value = 2 * v })) (next.Give 0)) is)

    by : (b : Bool) → nat_le AMOUNT_LIMIT v ≡ b → (xs : List ℕ) → Course v xs
    by true big xs = answers_now xs 0 (ap (λ b. cond b (next.Give 0) (take_and_put v xs)) big)
    by false small [] = from_first small
    by false small (x ∷ []) = first_said small x (x == 1) refl
    by false small (x ∷ y ∷ zs) = answers_now (x ∷ y ∷ zs) 1 (ap (λ b. cond b (next.Give 0) (next.Give 1)) small)

-- ---- a service that asks, and one that answers

pub data Asking (first q y : ℕ) (s t : NodeState) : Event → Type 0 where
  calls : (p j v : ℕ) → p ≡ first + q → v ≡ y → t ≡ s → Asking first q y s t (Call p j v)
  misses : (p : ℕ) → p ≡ first + q → t ≡ moves.after_answer s 0 → Asking first q y s t (Miss p)
  asks : (p j v : ℕ) → p ≡ first + q → t ≡ s → Asking first q y s t (Ask p j v)
  ends : (p j v : ℕ) → p ≡ first + q → t ≡ moves.after_answer s v → Asking first q y s t (End p j v)

or_none : (b c : Bool) → c ≡ false → (b || c) ≡ true → b ≡ true
or_none true c none_ h = refl
or_none false c none_ h = absurd (both_ways c none_ h)

pub asking : (first q y : ℕ) (s t : NodeState) (e : Event) → moves.next s ≡ Some (next.Ask (record { require = q; value = y })) → moves.wants s ≡ None → is_none s.service ≡ false → moves.waits s ≡ false
    → after_event first s e ≡ Some t → Asking first q y s t e
asking first q y s t (Begin p j v) nx wn sv wt h =
    absurd (both_ways false refl (sym (ap (λ o. is_request first p v o) wn) ∙ (where_so_then (is_request first p v (moves.wants s)) s t h).0))
asking first q y s t (Call p j v) nx wn sv wt h =
    let w = where_so_then (is_request first p v (asked_by (moves.next s))) s t h in
    let a = and_parts (first + q == p) (y == v) (sym (ap (λ o. is_request first p v (asked_by o)) nx) ∙ w.0) in
    calls p j v (sym (eqb-true (first + q) p a.0)) (sym (eqb-true y v a.1)) (sym w.1)
asking first q y s t (Miss p) nx wn sv wt h =
    let w = where_so_then (calls_at first s p) (moves.after_answer s 0) t h in
    misses p (sym (eqb-true (first + q) p (sym (ap (λ o. is_request_at first p (asked_by o)) nx) ∙ w.0))) (sym w.1)
asking first q y s t (Take p j v) nx wn sv wt h =
    absurd (both_ways (is_none s.service) sv (and_parts _ (is_none s.service) (where_so_then (may_take s) (moves.after_take s v) t h).0).1)
asking first q y s t (Give p j v) nx wn sv wt h = absurd (both_ways false refl (sym (ap (is_give v) nx) ∙ (where_so_then (is_give v (moves.next s)) (moves.after_give s) t h).0))
asking first q y s t (More p j v) nx wn sv wt h = absurd (both_ways false refl (sym (ap (is_more v) nx) ∙ (where_so_then (is_more v (moves.next s)) (moves.after_more s) t h).0))
asking first q y s t (Hear p j v) nx wn sv wt h = absurd (both_ways (moves.waits s) wt (where_so_then (moves.waits s) (moves.after_answer s v) t h).0)
asking first q y s t (Ask p j v) nx wn sv wt h =
    let w = where_so_then _ s t h in
    let a = (and_parts (calls_at first s p || is_request_at first p (moves.wants s)) (v == moves.replies s) w.0).0 in
    asks p j v (sym (eqb-true (first + q) p (sym (ap (λ o. is_request_at first p (asked_by o)) nx) ∙ or_none (calls_at first s p) _ (ap (is_request_at first p) wn) a))) (sym w.1)
asking first q y s t (End p j v) nx wn sv wt h = by (calls_at first s p) refl h
  where
    by : (b : Bool) → calls_at first s p ≡ b → cond b (Some (moves.after_answer s v)) (cond (is_request_at first p (moves.wants s)) (Some (moves.after_end s v)) None) ≡ Some t → Asking first q y s t (End p j v)
    by true is k = ends p j v (sym (eqb-true (first + q) p (sym (ap (λ o. is_request_at first p (asked_by o)) nx) ∙ is))) (sym (same_Some _ t k))
    by false is k = absurd (none-some t (sym (ap (λ o. cond (is_request_at first p o) (Some (moves.after_end s v)) None) wn) ∙ k))
asking first q y s t _ nx wn sv wt h = absurd (none-some t h)

pub data Answering (r : ℕ) (s t : NodeState) : Event → Type 0 where
  gives : (p j v : ℕ) → v ≡ r → t ≡ moves.after_give s → Answering r s t (Give p j v)

pub answering : (first r : ℕ) (s t : NodeState) (e : Event) → moves.next s ≡ Some (next.Give r) → moves.wants s ≡ None → is_none s.service ≡ false → moves.waits s ≡ false → after_event first s e ≡ Some t
    → Answering r s t e
answering first r s t (Begin p j v) nx wn sv wt h =
    absurd (both_ways false refl (sym (ap (λ o. is_request first p v o) wn) ∙ (where_so_then (is_request first p v (moves.wants s)) s t h).0))
answering first r s t (Call p j v) nx wn sv wt h =
    absurd (both_ways false refl (sym (ap (λ o. is_request first p v (asked_by o)) nx) ∙ (where_so_then (is_request first p v (asked_by (moves.next s))) s t h).0))
answering first r s t (Miss p) nx wn sv wt h =
    absurd (both_ways false refl (sym (ap (λ o. is_request_at first p (asked_by o)) nx) ∙ (where_so_then (calls_at first s p) (moves.after_answer s 0) t h).0))
answering first r s t (Take p j v) nx wn sv wt h =
    absurd (both_ways (is_none s.service) sv (and_parts _ (is_none s.service) (where_so_then (may_take s) (moves.after_take s v) t h).0).1)
answering first r s t (Give p j v) nx wn sv wt h =
    let w = where_so_then (is_give v (moves.next s)) (moves.after_give s) t h in gives p j v (sym (eqb-true r v (sym (ap (is_give v) nx) ∙ w.0))) (sym w.1)
answering first r s t (More p j v) nx wn sv wt h = absurd (both_ways false refl (sym (ap (is_more v) nx) ∙ (where_so_then (is_more v (moves.next s)) (moves.after_more s) t h).0))
answering first r s t (Hear p j v) nx wn sv wt h = absurd (both_ways (moves.waits s) wt (where_so_then (moves.waits s) (moves.after_answer s v) t h).0)
answering first r s t (Ask p j v) nx wn sv wt h =
    let a = (and_parts (calls_at first s p || is_request_at first p (moves.wants s)) (v == moves.replies s) (where_so_then _ s t h).0).0 in
    absurd (both_ways false refl (sym (ap (λ o. is_request_at first p (asked_by o)) nx) ∙ or_none (calls_at first s p) _ (ap (is_request_at first p) wn) a))
answering first r s t (End p j v) nx wn sv wt h = by (calls_at first s p) refl h
  where
    by : (b : Bool) → calls_at first s p ≡ b → cond b (Some (moves.after_answer s v)) (cond (is_request_at first p (moves.wants s)) (Some (moves.after_end s v)) None) ≡ Some t → Answering r s t (End p j v)
    by true is k = absurd (both_ways false refl (sym (ap (λ o. is_request_at first p (asked_by o)) nx) ∙ is))
    by false is k = absurd (none-some t (sym (ap (λ o. cond (is_request_at first p o) (Some (moves.after_end s v)) None) wn) ∙ k))
answering first r s t _ nx wn sv wt h = absurd (none-some t h)

-- a node that wants nothing and is in no service takes a value up, and does nothing else
pub data Resting (s t : NodeState) : Event → Type 0 where
  takes : (p j v : ℕ) → t ≡ moves.after_take s v → Resting s t (Take p j v)

pub resting : (first : ℕ) (s t : NodeState) (e : Event) → moves.wants s ≡ None → s.service ≡ None → after_event first s e ≡ Some t → Resting s t e
resting first s t e wn sv h = by e h
  where
    nx : moves.next s ≡ None
    nx = ap (λ o. option_and_then (moves.next_in s) o) sv

    wt : moves.waits s ≡ false
    wt = ap (λ (o : Option node.Service). option_map_or (λ (w : node.Service). w.waits) o false) sv

    by : (e : Event) → after_event first s e ≡ Some t → Resting s t e
    by (Begin p j v) h = absurd (both_ways false refl (sym (ap (λ o. is_request first p v o) wn) ∙ (where_so_then (is_request first p v (moves.wants s)) s t h).0))
    by (Call p j v) h = absurd (both_ways false refl (sym (ap (λ o. is_request first p v (asked_by o)) nx) ∙ (where_so_then (is_request first p v (asked_by (moves.next s))) s t h).0))
    by (Miss p) h = absurd (both_ways false refl (sym (ap (λ o. is_request_at first p (asked_by o)) nx) ∙ (where_so_then (calls_at first s p) (moves.after_answer s 0) t h).0))
    by (Take p j v) h = takes p j v (sym (where_so_then (may_take s) (moves.after_take s v) t h).1)
    by (Give p j v) h = absurd (both_ways false refl (sym (ap (is_give v) nx) ∙ (where_so_then (is_give v (moves.next s)) (moves.after_give s) t h).0))
    by (More p j v) h = absurd (both_ways false refl (sym (ap (is_more v) nx) ∙ (where_so_then (is_more v (moves.next s)) (moves.after_more s) t h).0))
    by (Hear p j v) h = absurd (both_ways (moves.waits s) wt (where_so_then (moves.waits s) (moves.after_answer s v) t h).0)
    by (Ask p j v) h =
        let a = (and_parts (calls_at first s p || is_request_at first p (moves.wants s)) (v == moves.replies s) (where_so_then _ s t h).0).0 in
        absurd (both_ways false refl (sym (ap (λ o. is_request_at first p (asked_by o)) nx) ∙ or_none (calls_at first s p) _ (ap (is_request_at first p) wn) a))
    by (End p j v) h = at_end (calls_at first s p) refl h
      where
        at_end : (b : Bool) → calls_at first s p ≡ b → cond b (Some (moves.after_answer s v)) (cond (is_request_at first p (moves.wants s)) (Some (moves.after_end s v)) None) ≡ Some t → Resting s t (End p j v)
        at_end true is k = absurd (both_ways false refl (sym (ap (λ o. is_request_at first p (asked_by o)) nx) ∙ is))
        at_end false is k = absurd (none-some t (sym (ap (λ o. cond (is_request_at first p o) (Some (moves.after_end s v)) None) wn) ∙ k))
    by _ h = absurd (none-some t h)

-- ---- what an account does with an amount

-- by the rest and the half of the value
abbrev posted : ℕ → ℕ → ℕ → Outcome
posted total m h =
    cond (m == 1) (cond (nat_le h total) (record { kept = with_total (total - h); reply = 1 }) (record { kept = with_total total; reply = 0 }))
    (cond (nat_lt (total + h) (2 ^ 64)) (record { kept = with_total (total + h); reply = 1 }) (record { kept = with_total total; reply = 0 }))

posts : (a : ℕ) (before : Kept) (x : ℕ) → serve Account a before x ≡ posted before.total (x % 2) (x / 2)
posts a before x = refl

-- what is taken out is less by what is carried then
pub paid : (a : ℕ) (before : Kept) (v : ℕ) → (serve Account a before (2 * v + 1)).kept.total + cond ((serve Account a before (2 * v + 1)).reply == 1) v 0 ≡ before.total
paid a before v =
    (λ i. (posted before.total (rest_is i) (half_is i)).kept.total + cond ((posted before.total (rest_is i) (half_is i)).reply == 1) v 0) ∙ by (nat_le v before.total) refl
  where
    rest_is : (2 * v + 1) % 2 ≡ 1
    rest_is = omega arith

    half_is : (2 * v + 1) / 2 ≡ v
    half_is = omega arith

    by : (b : Bool) → nat_le v before.total ≡ b → (posted before.total 1 v).kept.total + cond ((posted before.total 1 v).reply == 1) v 0 ≡ before.total
    by true h = rw h (let low = leb-true v before.total h in omega (arith, low))
    by false h = rw h (omega arith)

-- what is put in is there, where there is room
pub put_in : (a : ℕ) (before : Kept) (v : ℕ) → before.total + v < 2 ^ 64 → ((serve Account a before (2 * v)).reply ≡ 1) × ((serve Account a before (2 * v)).kept.total ≡ before.total + v)
put_in a before v room =
    let r : (2 * v) % 2 ≡ 0 = omega arith in
    let h : (2 * v) / 2 ≡ v = omega arith in
    let fits = lt-ltb (before.total + v) (2 ^ 64) room in (
      (λ i. (posted before.total (r i) (h i)).reply) ∙ ap (λ b. (cond {A = Outcome} b (record { kept = with_total (before.total + v); reply = 1 }) (record { kept = with_total before.total; reply = 0 })).reply) fits,
      (λ i. (posted before.total (r i) (h i)).kept.total) ∙ ap (λ b. (cond {A = Outcome} b (record { kept = with_total (before.total + v); reply = 1 }) (record { kept = with_total before.total; reply = 0 })).kept.total) fits,
    )
