-- What one event of its own changes at a node of these kinds: what it holds, has sent, and owes. A service owes what it
-- took up where it answers, or is to answer, anything but 0.
use Rattle.std.proofs.Common.{◌≡◌, ◌∙◌, ℕ, ◌+◌, Bool, true, false, cond, List, [], ◌∷◌, ◌++◌, length, Option, Some, None, refl, sym, ap, subst, arith}
use Rattle.std.specs.Prelude.{◌==◌, nat_lt, drop, sum_by}
use Rattle.std.specs.List.{range_with_len}
use Rattle.std.specs.Option.{option_map_or}
use Rattle.std.proofs.lemmas.Bool.{and_parts, both_ways, eqb-true}
use Rattle.std.proofs.lemmas.List.Sums.{sum_by-cons, sum_by_push}
use Rattle.std.proofs.lemmas.Option.{none-some}
use Rattle.config_graph.specs.declared.kind.Kind.{Kind}
use Rattle.config_graph.specs.declared.kind.Kind.TheVariants.{Source, Map, Buffer, Sink}
use Rattle.component_trait.specs.Fold.{after_event, asked_by, calls_at, is_give, is_more, is_request_at, may_take, wants_at}
use Rattle.component_trait.specs.Moves as moves
use Rattle.component_trait.specs.States.{Kept, NodeState, Service, with_count, with_items}
use Rattle.component_trait.specs.Tables.{Outcome, pass_on}
use Rattle.component_trait.specs.declared.next.Next.TheVariants as next
use Rattle.component_trait.proofs.FoldLaws.{fold_keeps_kind, where_so_then}
use Rattle.quiesce_core.specs.declared.event.Event.{Event}
use Rattle.quiesce_core.specs.declared.event.Event.TheVariants.{Begin, Call, Take, Give, End, More, Ask, Hear, Miss}
use Rattle.result_laws.specs.Flows.{is_of_flow}
pub use Rattle.result_laws.specs.UnderWay.{owed, owed_by, owed_in, spent, stock, unless_0}
use Rattle.result_laws.proofs.Adding.{sum_up}

-- ---- what a node holds, has sent, and owes

-- the value that its service took up
abbrev pub served : NodeState → ℕ
served n = option_map_or (λ (w : Service). w.value) n.service 0

-- the value that is settled where its transaction ends: what it took up, in a map
abbrev pub front_or_0 : List ℕ → ℕ
front_or_0 [] = 0
front_or_0 (x ∷ xs) = x

abbrev pub settled_in : Kind → Kept → Option Service → ℕ
settled_in Source s o = s.count + 1
settled_in Buffer s o = front_or_0 s.items
settled_in _ s o = option_map_or (λ (w : Service). w.value) o 0

abbrev pub settles : NodeState → ℕ
settles n = settled_in n.kind n.kept n.service

-- what comes back to it by the event, and what it hands on
abbrev pub comes_back : (ℕ → ℕ) → NodeState → Event → ℕ
comes_back weight n (End p j v) = cond (is_of_flow n.kind) (unless_0 v (weight (settles n))) 0
comes_back weight n _ = 0

abbrev pub hands_back : (ℕ → ℕ) → NodeState → Event → ℕ
hands_back weight n (Give p j v) = cond (is_of_flow n.kind) (unless_0 v (weight (served n))) 0
hands_back weight n _ = 0

abbrev pub Balances : (ℕ → ℕ) → NodeState → NodeState → Event → Type 0
Balances weight n t e =
    stock weight t.kind t.kept + spent weight n.kind n.kept + owed weight n + comes_back weight n e
    ≡ stock weight n.kind n.kept + spent weight t.kind t.kept + owed weight t + hands_back weight n e

-- ---- what comes next in a service of these kinds

abbrev pub node : Kind → ℕ → Kept → Option Service → NodeState
node k a s o = record { kind = k; arg = a; kept = s; service = o }

-- one that gives an answer asks nothing
gives_asks_none : (b : Bool) (r first p : ℕ) → is_request_at first p (asked_by (cond b None (Some (next.Give r)))) ≡ false
gives_asks_none true r first p = refl
gives_asks_none false r first p = refl

pub asks_none : (k : Kind) (a : ℕ) (s : Kept) (o : Option Service) (first p : ℕ) → is_of_flow k ≡ true → (k ≡ Map → ⊥) → calls_at first (node k a s o) p ≡ false
asks_none Source a s None first p fl other = refl
asks_none Source a s (Some w) first p fl other = gives_asks_none w.waits w.reply first p
asks_none Map a s o first p fl other = absurd (other refl)
asks_none Buffer a s None first p fl other = refl
asks_none Buffer a s (Some w) first p fl other = gives_asks_none w.waits w.reply first p
asks_none Sink a s None first p fl other = refl
asks_none Sink a s (Some w) first p fl other = gives_asks_none w.waits w.reply first p
asks_none _ a s o first p fl other = absurd (both_ways false refl fl)

pub asks_first : (b : Bool) (a v first p : ℕ) (xs : List ℕ) → is_request_at first p (asked_by (cond b None (Some (pass_on a v xs)))) ≡ true → xs ≡ []
asks_first true a v first p xs h = absurd (both_ways false refl h)
asks_first false a v first p [] h = refl
asks_first false a v first p (x ∷ xs) h = absurd (both_ways false refl h)

sends_none : (b : Bool) (r v : ℕ) → is_more v (cond b None (Some (next.Give r))) ≡ false
sends_none true r v = refl
sends_none false r v = refl

passes_none : (b : Bool) (a x v : ℕ) (xs : List ℕ) → is_more v (cond b None (Some (pass_on a x xs))) ≡ false
passes_none true a x v xs = refl
passes_none false a x v [] = refl
passes_none false a x v (y ∷ ys) = refl

pub no_more : (k : Kind) (a : ℕ) (s : Kept) (o : Option Service) (v : ℕ) → is_of_flow k ≡ true → is_more v (moves.next (node k a s o)) ≡ false
no_more Source a s None v fl = refl
no_more Source a s (Some w) v fl = sends_none w.waits w.reply v
no_more Map a s None v fl = refl
no_more Map a s (Some w) v fl = passes_none w.waits a w.value v w.answers
no_more Buffer a s None v fl = refl
no_more Buffer a s (Some w) v fl = sends_none w.waits w.reply v
no_more Sink a s None v fl = refl
no_more Sink a s (Some w) v fl = sends_none w.waits w.reply v
no_more _ a s o v fl = absurd (both_ways false refl fl)

gives_so : (b : Bool) (r v w : ℕ) → is_give v (cond b None (Some (next.Give r))) ≡ true → unless_0 r w ≡ unless_0 v w
gives_so true r v w h = absurd (both_ways false refl h)
gives_so false r v w h = ap (λ x. unless_0 x w) (eqb-true r v h)

passes_so : (b : Bool) (a x v w : ℕ) (xs : List ℕ) → is_give v (cond b None (Some (pass_on a x xs))) ≡ true → owed_by xs w ≡ unless_0 v w
passes_so true a x v w xs h = absurd (both_ways false refl h)
passes_so false a x v w [] h = absurd (both_ways false refl h)
passes_so false a x v w (y ∷ ys) h = ap (λ r. unless_0 r w) (eqb-true y v h)

-- ---- each event

module _ (weight : ℕ → ℕ) where
  at_take : (k : Kind) (a : ℕ) (s : Kept) (o : Option Service) (p j v : ℕ) → is_of_flow k ≡ true → may_take (node k a s o) ≡ true → Balances weight (node k a s o) (moves.after_take (node k a s o) v) (Take p j v)
  at_take k a s (Some w) p j v fl may = absurd (both_ways false refl (and_parts _ false may).1)
  at_take Source a s None p j v fl may = absurd (both_ways false refl may)
  at_take Map a s None p j v fl may = omega arith
  at_take Sink a s None p j v fl may = let w = sum_by_push weight s.items v in omega (arith, w)
  at_take Buffer a s None p j v fl may = by (nat_lt (length s.items) a)
    where
      by : (b : Bool) → sum_by weight (cond {A = Outcome} b (record { kept = with_items (s.items ++ v ∷ []); reply = 1 }) (record { kept = s; reply = 0 })).kept.items + 0 + 0 + 0
          ≡ sum_by weight s.items + 0 + unless_0 (cond {A = Outcome} b (record { kept = with_items (s.items ++ v ∷ []); reply = 1 }) (record { kept = s; reply = 0 })).reply (weight v) + 0
      by true = let w = sum_by_push weight s.items v in omega (arith, w)
      by false = omega arith
  at_take _ a s None p j v fl may = absurd (both_ways false refl fl)

  at_give : (k : Kind) (a : ℕ) (s : Kept) (o : Option Service) (p j v : ℕ) → is_of_flow k ≡ true → is_give v (moves.next (node k a s o)) ≡ true → Balances weight (node k a s o) (moves.after_give (node k a s o)) (Give p j v)
  at_give k a s None p j v fl h = absurd (both_ways false refl h)
  at_give Source a s (Some w) p j v fl h = let e = gives_so w.waits w.reply v (weight w.value) h in omega (arith, e)
  at_give Map a s (Some w) p j v fl h = let e = passes_so w.waits a w.value v (weight w.value) w.answers h in omega (arith, e)
  at_give Buffer a s (Some w) p j v fl h = let e = gives_so w.waits w.reply v (weight w.value) h in omega (arith, e)
  at_give Sink a s (Some w) p j v fl h = let e = gives_so w.waits w.reply v (weight w.value) h in omega (arith, e)
  at_give _ a s (Some w) p j v fl h = absurd (both_ways false refl fl)

  -- an answer that a map has
  answered : (a : ℕ) (s : Kept) (o : Option Service) (first p v : ℕ) → calls_at first (node Map a s o) p ≡ true
      → owed weight (node Map a s o) + unless_0 v (weight (settles (node Map a s o))) ≡ owed weight (moves.after_answer (node Map a s o) v)
  answered a s None first p v h = absurd (both_ways false refl h)
  answered a s (Some w) first p v h =
      let none_ = asks_first w.waits a w.value first p w.answers h in
      (λ i. owed_by (none_ i) (weight w.value) + unless_0 v (weight w.value)) ∙ zero_and (unless_0 v (weight w.value)) ∙ sym (λ i. owed_by (none_ i ++ v ∷ []) (weight w.value))
    where
      zero_and : (x : ℕ) → 0 + x ≡ x
      zero_and x = omega arith

  at_miss : (k : Kind) (a : ℕ) (s : Kept) (o : Option Service) (first p : ℕ) → is_of_flow k ≡ true → calls_at first (node k a s o) p ≡ true → Balances weight (node k a s o) (moves.after_answer (node k a s o) 0) (Miss p)
  at_miss Source a s o first p fl h = absurd (both_ways _ (asks_none Source a s o first p refl (λ e. cc e)) h)
  at_miss Map a s o first p fl h = let w = answered a s o first p 0 h in omega (arith, w)
  at_miss Buffer a s o first p fl h = absurd (both_ways _ (asks_none Buffer a s o first p refl (λ e. cc e)) h)
  at_miss Sink a s o first p fl h = absurd (both_ways _ (asks_none Sink a s o first p refl (λ e. cc e)) h)
  at_miss _ a s o first p fl h = absurd (both_ways false refl fl)

  -- a source counts on, and a buffer loses its front, but for an answer 0
  source_counts : (s : Kept) (b : Bool) (y : ℕ) → 0 + sum_by weight (range_with_len 1 s.count) + y + cond b 0 (weight (s.count + 1)) ≡ 0 + sum_by weight (range_with_len 1 (cond b s (with_count (s.count + 1))).count) + y + 0
  source_counts s true y = omega arith
  source_counts s false y = let w = sum_up weight s.count in omega (arith, w)

  front_goes : (x : ℕ) (xs : List ℕ) → sum_by weight (drop 1 (x ∷ xs)) + weight (front_or_0 (x ∷ xs)) ≡ sum_by weight (x ∷ xs)
  front_goes x xs = let w = sum_by-cons weight x xs in omega (arith, w)

  buffer_loses : (s : Kept) (x : ℕ) (xs : List ℕ) → s.items ≡ x ∷ xs → (b : Bool) (y : ℕ) → sum_by weight (cond b s (with_items (drop 1 s.items))).items + 0 + y + cond b 0 (weight (front_or_0 s.items)) ≡ sum_by weight s.items + 0 + y + 0
  buffer_loses s x xs is true y = omega arith
  buffer_loses s x xs is false y =
      let w : sum_by weight (drop 1 s.items) + weight (front_or_0 s.items) ≡ sum_by weight s.items = (λ i. sum_by weight (drop 1 (is i)) + weight (front_or_0 (is i))) ∙ front_goes x xs ∙ sym (ap (sum_by weight) is) in
      omega (arith, w)

  -- what an End leads to, where it is none of a call
  of_own : (first : ℕ) (n t : NodeState) (p v : ℕ) → calls_at first n p ≡ false → cond (calls_at first n p) (Some (moves.after_answer n v)) (cond (wants_at first n p) (Some (moves.after_end n v)) None) ≡ Some t
      → (wants_at first n p ≡ true) × (moves.after_end n v ≡ t)
  of_own first n t p v none_ h = where_so_then (wants_at first n p) (moves.after_end n v) t (sym (ap (λ b. cond b (Some (moves.after_answer n v)) (cond (wants_at first n p) (Some (moves.after_end n v)) None)) none_) ∙ h)

  at_end : (k : Kind) (a : ℕ) (s : Kept) (o : Option Service) (first p j v : ℕ) (t : NodeState) → is_of_flow k ≡ true → after_event first (node k a s o) (End p j v) ≡ Some t → Balances weight (node k a s o) t (End p j v)
  at_end Source a s o first p j v t fl h =
      let w = of_own first (node Source a s o) t p v (asks_none Source a s o first p refl (λ e. cc e)) h in
      subst (λ u. Balances weight (node Source a s o) u (End p j v)) w.1 (source_counts s (v == 0) (owed weight (node Source a s o)))
  at_end Sink a s o first p j v t fl h =
      let w = of_own first (node Sink a s o) t p v (asks_none Sink a s o first p refl (λ e. cc e)) h in absurd (both_ways false refl w.0)
  at_end Buffer a s o first p j v t fl h = by s.items refl
    where
      w : (wants_at first (node Buffer a s o) p ≡ true) × (moves.after_end (node Buffer a s o) v ≡ t)
      w = of_own first (node Buffer a s o) t p v (asks_none Buffer a s o first p refl (λ e. cc e)) h

      by : (xs : List ℕ) → s.items ≡ xs → Balances weight (node Buffer a s o) t (End p j v)
      by [] is = absurd (both_ways false refl (sym (ap (λ ys. wants_at first (node Buffer a (record s { items = ys }) o) p) is) ∙ w.0))
      by (x ∷ xs) is = subst (λ u. Balances weight (node Buffer a s o) u (End p j v)) w.1 (buffer_loses s x xs is (v == 0) (owed weight (node Buffer a s o)))
  at_end Map a s o first p j v t fl h = by (calls_at first (node Map a s o) p) refl h
    where
      by : (b : Bool) → calls_at first (node Map a s o) p ≡ b → cond b (Some (moves.after_answer (node Map a s o) v)) None ≡ Some t → Balances weight (node Map a s o) t (End p j v)
      by true is g = subst (λ u. Balances weight (node Map a s o) u (End p j v)) (where_so_then true (moves.after_answer (node Map a s o) v) t g).1
          (let w = answered a s o first p v is in omega (arith, w))
      by false is g = absurd (none-some t g)
  at_end _ a s o first p j v t fl h = absurd (both_ways false refl fl)

  step_of_flow : (first : ℕ) (n t : NodeState) (e : Event) → is_of_flow n.kind ≡ true → moves.waits n ≡ false → after_event first n e ≡ Some t → Balances weight n t e
  step_of_flow first n t (Begin p j v) fl wt h = subst (λ u. Balances weight n u (Begin p j v)) (where_so_then _ n t h).1 refl
  step_of_flow first n t (Call p j v) fl wt h = subst (λ u. Balances weight n u (Call p j v)) (where_so_then _ n t h).1 refl
  step_of_flow first n t (Ask p j v) fl wt h = subst (λ u. Balances weight n u (Ask p j v)) (where_so_then _ n t h).1 refl
  step_of_flow first n t (Miss p) fl wt h =
      let w = where_so_then (calls_at first n p) (moves.after_answer n 0) t h in
      subst (λ u. Balances weight n u (Miss p)) w.1 (at_miss n.kind n.arg n.kept n.service first p fl w.0)
  step_of_flow first n t (Take p j v) fl wt h =
      let w = where_so_then (may_take n) (moves.after_take n v) t h in
      subst (λ u. Balances weight n u (Take p j v)) w.1 (at_take n.kind n.arg n.kept n.service p j v fl w.0)
  step_of_flow first n t (Give p j v) fl wt h =
      let w = where_so_then (is_give v (moves.next n)) (moves.after_give n) t h in
      subst (λ u. Balances weight n u (Give p j v)) w.1 (at_give n.kind n.arg n.kept n.service p j v fl w.0)
  step_of_flow first n t (More p j v) fl wt h =
      absurd (both_ways _ (no_more n.kind n.arg n.kept n.service v fl) (where_so_then (is_more v (moves.next n)) (moves.after_more n) t h).0)
  step_of_flow first n t (Hear p j v) fl wt h = absurd (both_ways _ wt (where_so_then (moves.waits n) (moves.after_answer n v) t h).0)
  step_of_flow first n t (End p j v) fl wt h = at_end n.kind n.arg n.kept n.service first p j v t fl h
  step_of_flow first n t _ fl wt h = absurd (none-some t h)

  -- a node of another kind holds, sends and owes nothing
  no_stock : (k : Kind) (s : Kept) → is_of_flow k ≡ false → stock weight k s ≡ 0
  no_stock Buffer s h = absurd (both_ways true h refl)
  no_stock Sink s h = absurd (both_ways true h refl)
  no_stock _ s h = refl

  no_spent : (k : Kind) (s : Kept) → is_of_flow k ≡ false → spent weight k s ≡ 0
  no_spent Source s h = absurd (both_ways true h refl)
  no_spent _ s h = refl

  none_in : (k : Kind) (w : Service) → is_of_flow k ≡ false → owed_in weight k w ≡ 0
  none_in Source w h = absurd (both_ways true h refl)
  none_in Map w h = absurd (both_ways true h refl)
  none_in Buffer w h = absurd (both_ways true h refl)
  none_in Sink w h = absurd (both_ways true h refl)
  none_in _ w h = refl

  no_owed : (n : NodeState) → is_of_flow n.kind ≡ false → owed weight n ≡ 0
  no_owed n h = by n.service
    where
      by : (o : Option Service) → option_map_or (owed_in weight n.kind) o 0 ≡ 0
      by None = refl
      by (Some w) = none_in n.kind w h

  no_return : (n : NodeState) (e : Event) → is_of_flow n.kind ≡ false → (comes_back weight n e ≡ 0) × (hands_back weight n e ≡ 0)
  no_return n (End p j v) h = (ap (λ b. cond b (unless_0 v (weight (settles n))) 0) h, refl)
  no_return n (Give p j v) h = (refl, ap (λ b. cond b (unless_0 v (weight (served n))) 0) h)
  no_return n _ h = (refl, refl)

  -- any node, where one of these kinds doesn't wait for a further message
  pub step : (first : ℕ) (n t : NodeState) (e : Event) → (is_of_flow n.kind ≡ true → moves.waits n ≡ false) → after_event first n e ≡ Some t → Balances weight n t e
  step first n t e wt h = by (is_of_flow n.kind) refl
    where
      same_kind : t.kind ≡ n.kind
      same_kind = fold_keeps_kind first n t (e ∷ []) h

      by : (b : Bool) → is_of_flow n.kind ≡ b → Balances weight n t e
      by true fl = step_of_flow first n t e fl (wt fl) h
      by false other =
          let other_t = ap is_of_flow same_kind ∙ other in
          let a = no_stock t.kind t.kept other_t in
          let b = no_spent n.kind n.kept other in
          let c = no_owed n other in
          let d = no_return n e other in
          let d_0 = d.0 in
          let d_1 = d.1 in
          let f = no_stock n.kind n.kept other in
          let g = no_spent t.kind t.kept other_t in
          let i = no_owed t other_t in omega (arith, a, b, c, d_0, d_1, f, g, i)
