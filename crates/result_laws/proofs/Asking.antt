-- What a node of these kinds asks at its one port, while that is busy.
use Rattle.std.proofs.Common.{◌≡◌, ◌∙◌, ℕ, ◌+◌, ◌%◌, Bool, true, false, cond, List, [], ◌∷◌, ◌++◌, length, Option, Some, None, refl, sym, ap, arith}
use Rattle.std.specs.Prelude.{◌==◌, nat_lt, option_map}
use Rattle.std.specs.Option.{option_map_or}
use Rattle.std.proofs.lemmas.Bool.{and_parts, both_ways, eqb-true}
use Rattle.std.proofs.lemmas.Option.{none-some}
use Rattle.config_graph.specs.declared.TheConstants.{VALUE_LIMIT}
use Rattle.config_graph.specs.declared.kind.Kind.{Kind}
use Rattle.config_graph.specs.declared.kind.Kind.TheVariants.{Source, Map, Buffer, Sink}
use Rattle.component_trait.specs.Fold.{after_event, asked_by, calls_at, is_give, is_request, is_request_at, may_take, wants_at}
use Rattle.component_trait.specs.Moves as moves
use Rattle.component_trait.specs.States.{Kept, NodeState, Service, with_items}
use Rattle.component_trait.specs.Tables.{Outcome, pass_on}
use Rattle.component_trait.specs.Tables as tables
use Rattle.component_trait.specs.declared.next.Ask.{Ask as Request}
use Rattle.component_trait.proofs.FoldLaws.{where_so_then}
use Rattle.node_turn_laws.specs.Agreement.{expects}
use Rattle.quiesce_core.specs.declared.event.Event.{Event}
use Rattle.quiesce_core.specs.declared.event.Event.TheVariants.{Begin, Call, Take, Give, End, More, Ask, Hear, Miss}
use Rattle.result_laws.specs.Flows.{is_of_flow}
use Rattle.result_laws.proofs.Stepping.{asks_none, front_or_0, node, served}

-- the value that it asks, or asked, there
abbrev pub asked_in : Kind → ℕ → Kept → Option Service → ℕ
asked_in Source a s o = s.count + 1
asked_in Buffer a s o = front_or_0 s.items
asked_in _ a s o = (option_map_or (λ (w : Service). w.value) o 0 + a) % VALUE_LIMIT

abbrev pub asked : NodeState → ℕ
asked n = asked_in n.kind n.arg n.kept n.service

-- ---- where it expects an answer

-- the port is its first one
first_of : (first p x : ℕ) (b : Bool) → is_request_at first p (cond b (Some (record { require = 0; value = x })) None) ≡ true → p ≡ first
first_of first p x true h = let e = eqb-true (first + 0) p h in omega (arith, e)
first_of first p x false h = absurd (both_ways false refl h)

first_front : (first p : ℕ) (xs : List ℕ) → is_request_at first p (tables.wants Buffer 0 (with_items xs)) ≡ true → p ≡ first
first_front first p [] h = absurd (both_ways false refl h)
first_front first p (x ∷ xs) h = let e = eqb-true (first + 0) p h in omega (arith, e)

first_passed : (first p a x : ℕ) (b : Bool) (xs : List ℕ) → is_request_at first p (asked_by (cond b None (Some (pass_on a x xs)))) ≡ true → p ≡ first
first_passed first p a x true xs h = absurd (both_ways false refl h)
first_passed first p a x false [] h = let e = eqb-true (first + 0) p h in omega (arith, e)
first_passed first p a x false (y ∷ ys) h = absurd (both_ways false refl h)

pub call_first : (k : Kind) (a : ℕ) (s : Kept) (o : Option Service) (first p : ℕ) → is_of_flow k ≡ true → calls_at first (node k a s o) p ≡ true → p ≡ first
call_first Map a s None first p fl h = absurd (both_ways false refl h)
call_first Map a s (Some w) first p fl h = first_passed first p a w.value w.waits w.answers h
call_first Source a s o first p fl h = absurd (both_ways _ (asks_none Source a s o first p refl (λ e. cc e)) h)
call_first Buffer a s o first p fl h = absurd (both_ways _ (asks_none Buffer a s o first p refl (λ e. cc e)) h)
call_first Sink a s o first p fl h = absurd (both_ways _ (asks_none Sink a s o first p refl (λ e. cc e)) h)
call_first _ a s o first p fl h = absurd (both_ways false refl fl)

pub want_first : (k : Kind) (a : ℕ) (s : Kept) (o : Option Service) (first p : ℕ) → is_of_flow k ≡ true → wants_at first (node k a s o) p ≡ true → p ≡ first
want_first Source a s o first p fl h = first_of first p (s.count + 1) (nat_lt s.count a) h
want_first Buffer a s o first p fl h = first_front first p s.items h
want_first Map a s o first p fl h = absurd (both_ways false refl h)
want_first Sink a s o first p fl h = absurd (both_ways false refl h)
want_first _ a s o first p fl h = absurd (both_ways false refl fl)

pub expects_first : (b : Bool) (n : NodeState) (first p : ℕ) → is_of_flow n.kind ≡ true → expects b first n p ≡ true → p ≡ first
expects_first true n first p fl h = call_first n.kind n.arg n.kept n.service first p fl h
expects_first false n first p fl h = want_first n.kind n.arg n.kept n.service first p fl h

-- ---- what it begins or calls with is what it asks

begun_below : (first p v x : ℕ) (b : Bool) → is_request first p v (cond b (Some (record { require = 0; value = x })) None) ≡ true → x ≡ v
begun_below first p v x true h = eqb-true x v (and_parts (first + 0 == p) (x == v) h).1
begun_below first p v x false h = absurd (both_ways false refl h)

begun_front : (first p v : ℕ) (xs : List ℕ) → is_request first p v (tables.wants Buffer 0 (with_items xs)) ≡ true → front_or_0 xs ≡ v
begun_front first p v [] h = absurd (both_ways false refl h)
begun_front first p v (x ∷ xs) h = eqb-true x v (and_parts (first + 0 == p) (x == v) h).1

called_passed : (first p v a x : ℕ) (b : Bool) (xs : List ℕ) → is_request first p v (asked_by (cond b None (Some (pass_on a x xs)))) ≡ true → (x + a) % VALUE_LIMIT ≡ v
called_passed first p v a x true xs h = absurd (both_ways false refl h)
called_passed first p v a x false [] h = eqb-true ((x + a) % VALUE_LIMIT) v (and_parts (first + 0 == p) ((x + a) % VALUE_LIMIT == v) h).1
called_passed first p v a x false (y ∷ ys) h = absurd (both_ways false refl h)

pub begins_asked : (k : Kind) (a : ℕ) (s : Kept) (o : Option Service) (first p v : ℕ) → is_of_flow k ≡ true → is_request first p v (moves.wants (node k a s o)) ≡ true → asked (node k a s o) ≡ v
begins_asked Source a s o first p v fl h = begun_below first p v (s.count + 1) (nat_lt s.count a) h
begins_asked Buffer a s o first p v fl h = begun_front first p v s.items h
begins_asked Map a s o first p v fl h = absurd (both_ways false refl h)
begins_asked Sink a s o first p v fl h = absurd (both_ways false refl h)
begins_asked _ a s o first p v fl h = absurd (both_ways false refl fl)

-- a request with this value is a request at all
pub asks_at : (first p v : ℕ) (o : Option Request) → is_request first p v o ≡ true → is_request_at first p o ≡ true
asks_at first p v None h = absurd (both_ways false refl h)
asks_at first p v (Some x) h = (and_parts (first + x.require == p) (x.value == v) h).0

pub calls_asked : (k : Kind) (a : ℕ) (s : Kept) (o : Option Service) (first p v : ℕ) → is_of_flow k ≡ true → is_request first p v (asked_by (moves.next (node k a s o))) ≡ true → asked (node k a s o) ≡ v
calls_asked Map a s None first p v fl h = absurd (both_ways false refl h)
calls_asked Map a s (Some w) first p v fl h = called_passed first p v a w.value w.waits w.answers h
calls_asked Source a s o first p v fl h = absurd (both_ways _ (asks_none Source a s o first p refl (λ e. cc e)) (asks_at first p v (asked_by (moves.next (node Source a s o))) h))
calls_asked Buffer a s o first p v fl h = absurd (both_ways _ (asks_none Buffer a s o first p refl (λ e. cc e)) (asks_at first p v (asked_by (moves.next (node Buffer a s o))) h))
calls_asked Sink a s o first p v fl h = absurd (both_ways _ (asks_none Sink a s o first p refl (λ e. cc e)) (asks_at first p v (asked_by (moves.next (node Sink a s o))) h))
calls_asked _ a s o first p v fl h = absurd (both_ways false refl fl)

-- ---- while its port is busy, what it asks stays: but for its own End

front_stays : (first p v : ℕ) (xs : List ℕ) → is_request_at first p (tables.wants Buffer 0 (with_items xs)) ≡ true → front_or_0 (xs ++ v ∷ []) ≡ front_or_0 xs
front_stays first p v [] h = absurd (both_ways false refl h)
front_stays first p v (x ∷ xs) h = refl

taken_front : (s : Kept) (v : ℕ) (b : Bool) → front_or_0 (s.items ++ v ∷ []) ≡ front_or_0 s.items
    → front_or_0 (cond {A = Outcome} b (record { kept = with_items (s.items ++ v ∷ []); reply = 1 }) (record { kept = s; reply = 0 })).kept.items ≡ front_or_0 s.items
taken_front s v true h = h
taken_front s v false h = refl

pub take_asks : (b : Bool) (k : Kind) (a : ℕ) (s : Kept) (o : Option Service) (first p v : ℕ) → is_of_flow k ≡ true → expects b first (node k a s o) p ≡ true → may_take (node k a s o) ≡ true → asked (moves.after_take (node k a s o) v) ≡ asked (node k a s o)
take_asks b k a s (Some w) first p v fl ex may = absurd (both_ways false refl (and_parts _ false may).1)
take_asks b Source a s None first p v fl ex may = absurd (both_ways false refl may)
take_asks true Buffer a s None first p v fl ex may = absurd (both_ways false refl ex)
take_asks false Buffer a s None first p v fl ex may = taken_front s v (nat_lt (length s.items) a) (front_stays first p v s.items ex)
take_asks true Map a s None first p v fl ex may = absurd (both_ways false refl ex)
take_asks false Map a s None first p v fl ex may = absurd (both_ways false refl ex)
take_asks true Sink a s None first p v fl ex may = absurd (both_ways false refl ex)
take_asks false Sink a s None first p v fl ex may = absurd (both_ways false refl ex)
take_asks b _ a s None first p v fl ex may = absurd (both_ways false refl fl)

-- a map that calls gives no answer
calls_or_gives : (first p v a x : ℕ) (b : Bool) (xs : List ℕ) → is_request_at first p (asked_by (cond b None (Some (pass_on a x xs)))) ≡ true → is_give v (cond b None (Some (pass_on a x xs))) ≡ true → ⊥
calls_or_gives first p v a x true xs h g = both_ways false refl g
calls_or_gives first p v a x false [] h g = both_ways false refl g
calls_or_gives first p v a x false (y ∷ ys) h g = both_ways false refl h

pub give_asks : (b : Bool) (k : Kind) (a : ℕ) (s : Kept) (o : Option Service) (first p v : ℕ) → is_of_flow k ≡ true → expects b first (node k a s o) p ≡ true → is_give v (moves.next (node k a s o)) ≡ true → asked (moves.after_give (node k a s o)) ≡ asked (node k a s o)
give_asks b k a s None first p v fl ex h = absurd (both_ways false refl h)
give_asks b Source a s (Some w) first p v fl ex h = refl
give_asks b Buffer a s (Some w) first p v fl ex h = refl
give_asks true Map a s (Some w) first p v fl ex h = absurd (calls_or_gives first p v a w.value w.waits w.answers ex h)
give_asks false Map a s (Some w) first p v fl ex h = absurd (both_ways false refl ex)
give_asks true Sink a s (Some w) first p v fl ex h = absurd (both_ways _ (asks_none Sink a s (Some w) first p refl (λ e. cc e)) ex)
give_asks false Sink a s (Some w) first p v fl ex h = absurd (both_ways false refl ex)
give_asks b _ a s (Some w) first p v fl ex h = absurd (both_ways false refl fl)

-- ---- the value of its service stays, but by a Take and a Give

answer_served : (n : NodeState) (v : ℕ) → served (moves.after_answer n v) ≡ served n
answer_served n v = by n.service
  where
    by : (o : Option Service) → option_map_or (λ (w : Service). w.value) (option_map (moves.with_answer v) o) 0 ≡ option_map_or (λ (w : Service). w.value) o 0
    by None = refl
    by (Some w) = refl

more_served : (n : NodeState) → served (moves.after_more n) ≡ served n
more_served n = by n.service
  where
    by : (o : Option Service) → option_map_or (λ (w : Service). w.value) (option_map moves.with_wait o) 0 ≡ option_map_or (λ (w : Service). w.value) o 0
    by None = refl
    by (Some w) = refl

abbrev pub is_turn : Event → Bool
is_turn (Take p j v) = true
is_turn (Give p j v) = true
is_turn _ = false

pub served_stays : (first : ℕ) (n t : NodeState) (e : Event) → is_turn e ≡ false → after_event first n e ≡ Some t → served t ≡ served n
served_stays first n t (Begin p j v) plain h = sym (ap served (where_so_then _ n t h).1)
served_stays first n t (Call p j v) plain h = sym (ap served (where_so_then _ n t h).1)
served_stays first n t (Ask p j v) plain h = sym (ap served (where_so_then _ n t h).1)
served_stays first n t (Miss p) plain h = sym (ap served (where_so_then _ (moves.after_answer n 0) t h).1) ∙ answer_served n 0
served_stays first n t (Hear p j v) plain h = sym (ap served (where_so_then _ (moves.after_answer n v) t h).1) ∙ answer_served n v
served_stays first n t (More p j v) plain h = sym (ap served (where_so_then _ (moves.after_more n) t h).1) ∙ more_served n
served_stays first n t (Take p j v) plain h = absurd (both_ways true plain refl)
served_stays first n t (Give p j v) plain h = absurd (both_ways true plain refl)
served_stays first n t (End p j v) plain h = by (calls_at first n p) h
  where
    by : (b : Bool) → cond b (Some (moves.after_answer n v)) (cond (wants_at first n p) (Some (moves.after_end n v)) None) ≡ Some t → served t ≡ served n
    by true g = sym (ap served (where_so_then true (moves.after_answer n v) t g).1) ∙ answer_served n v
    by false g = sym (ap served (where_so_then (wants_at first n p) (moves.after_end n v) t g).1)
served_stays first n t _ plain h = absurd (none-some t h)
