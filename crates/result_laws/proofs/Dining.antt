-- What a place and a fork do, event by event.
use Rattle.std.proofs.Common.{◌≡◌, ◌∙◌, ℕ, ◌+◌, ◌<◌, Bool, true, false, cond, not, List, [], ◌∷◌, ◌++◌, Option, Some, None, refl, sym, ap, subst, arith, inl, inr, ⊎_elim}
use Rattle.std.specs.Prelude.{◌⊎◌, ◌==◌, ◌||◌, option_map}
use Rattle.std.specs.Option.{option_map_or}
use Rattle.std.proofs.lemmas.Bool.{and_parts, both_ways, cases_eq, eq-eqb, eqb-true, ne_eqb}
use Rattle.std.proofs.lemmas.Option.{none-some, same_Some}
use Rattle.config_graph.specs.declared.kind.Kind.TheVariants.{Fork, Place}
use Rattle.component_trait.specs.Fold.{after_event, asked_by, calls_at, is_give, is_more, is_request, is_request_at, may_take}
use Rattle.component_trait.specs.Moves as moves
use Rattle.component_trait.specs.States.{Kept, NodeState, Service}
use Rattle.component_trait.specs.Tables.{dine, wants}
use Rattle.component_trait.specs.declared.next.Ask.{Ask as Request}
use Rattle.component_trait.specs.declared.next.Next.{Next}
use Rattle.component_trait.specs.declared.next.Next.TheVariants as next
use Rattle.component_trait.proofs.FoldLaws.{where_so_then}
use Rattle.node_turn_laws.specs.Agreement.{expects}
use Rattle.quiesce_core.specs.declared.event.Event.{Event}
use Rattle.quiesce_core.specs.declared.event.Event.TheVariants.{Begin, Call, Take, Give, End, More, Ask, Hear, Miss}
use Rattle.result_laws.specs.Holding.{asks_first, has_by, has_fork}

-- ---- the course of a place

-- which fork it asks next, the first or the other, and with what
abbrev pub turn_of : List ℕ → Option (Bool × ℕ)
turn_of [] = Some (true, 1)
turn_of (a ∷ []) = cond (a == 1) (Some (false, 1)) None
turn_of (a ∷ b ∷ []) = cond (b == 1) (Some (false, 0)) (Some (true, 0))
turn_of (a ∷ b ∷ c ∷ []) = cond (b == 1) (Some (true, 0)) None
turn_of (a ∷ b ∷ c ∷ d ∷ _) = None

abbrev requirement : ℕ → Bool → ℕ
requirement arg b = cond (arg == 0) (cond b 0 1) (cond b 1 0)

abbrev request_by : ℕ → Bool × ℕ → Request
request_by arg t = record { require = requirement arg t.0; value = t.1 }

dine_0 : (xs : List ℕ) → asked_by (Some (dine 0 1 xs)) ≡ option_map (λ (t : Bool × ℕ). record { require = cond t.0 0 1; value = t.1 }) (turn_of xs)
dine_0 [] = refl
dine_0 (a ∷ []) = by (a == 1)
  where
    by : (b : Bool) → asked_by (Some (cond b (next.Ask (record { require = 1; value = 1 })) (next.Give 0))) ≡ option_map (λ (t : Bool × ℕ). record { require = cond t.0 0 1; value = t.1 }) (cond b (Some (false, 1)) None)
    by true = refl
    by false = refl
dine_0 (a ∷ b ∷ []) = by (b == 1)
  where
    by : (b : Bool) → asked_by (Some (cond b (next.Ask (record { require = 1; value = 0 })) (next.Ask (record { require = 0; value = 0 })))) ≡ option_map (λ (t : Bool × ℕ). record { require = cond t.0 0 1; value = t.1 }) (cond b (Some (false, 0)) (Some (true, 0)))
    by true = refl
    by false = refl
dine_0 (a ∷ b ∷ c ∷ []) = by (b == 1)
  where
    by : (b : Bool) → asked_by (Some (cond b (next.Ask (record { require = 0; value = 0 })) (next.Give 0))) ≡ option_map (λ (t : Bool × ℕ). record { require = cond t.0 0 1; value = t.1 }) (cond b (Some (true, 0)) None)
    by true = refl
    by false = refl
dine_0 (a ∷ b ∷ c ∷ d ∷ xs) = refl

dine_1 : (xs : List ℕ) → asked_by (Some (dine 1 0 xs)) ≡ option_map (λ (t : Bool × ℕ). record { require = cond t.0 1 0; value = t.1 }) (turn_of xs)
dine_1 [] = refl
dine_1 (a ∷ []) = by (a == 1)
  where
    by : (b : Bool) → asked_by (Some (cond b (next.Ask (record { require = 0; value = 1 })) (next.Give 0))) ≡ option_map (λ (t : Bool × ℕ). record { require = cond t.0 1 0; value = t.1 }) (cond b (Some (false, 1)) None)
    by true = refl
    by false = refl
dine_1 (a ∷ b ∷ []) = by (b == 1)
  where
    by : (b : Bool) → asked_by (Some (cond b (next.Ask (record { require = 0; value = 0 })) (next.Ask (record { require = 1; value = 0 })))) ≡ option_map (λ (t : Bool × ℕ). record { require = cond t.0 1 0; value = t.1 }) (cond b (Some (false, 0)) (Some (true, 0)))
    by true = refl
    by false = refl
dine_1 (a ∷ b ∷ c ∷ []) = by (b == 1)
  where
    by : (b : Bool) → asked_by (Some (cond b (next.Ask (record { require = 1; value = 0 })) (next.Give 0))) ≡ option_map (λ (t : Bool × ℕ). record { require = cond t.0 1 0; value = t.1 }) (cond b (Some (true, 0)) None)
    by true = refl
    by false = refl
dine_1 (a ∷ b ∷ c ∷ d ∷ xs) = refl

dines : (arg : ℕ) (xs : List ℕ) → asked_by (Some (cond (arg == 0) (dine 0 1 xs) (dine 1 0 xs))) ≡ option_map (request_by arg) (turn_of xs)
dines arg xs = by (arg == 0)
  where
    by : (b : Bool) → asked_by (Some (cond b (dine 0 1 xs) (dine 1 0 xs))) ≡ option_map (λ (t : Bool × ℕ). record { require = cond b (cond t.0 0 1) (cond t.0 1 0); value = t.1 }) (turn_of xs)
    by true = dine_0 xs
    by false = dine_1 xs

-- it gets a fork by the answer 1 to its asking with 1, gives back with 0 what it has, and keeps the other meanwhile
record OnTurn (xs : List ℕ) (b : Bool) (u y : ℕ) : Type 0 where
  gets : u ≡ 1 → y ≡ 1 → has_by b (xs ++ y ∷ []) ≡ true
  lacks : u ≡ 1 → has_by b xs ≡ false
  few : (u ≡ 0) ⊎ (u ≡ 1)
  got : has_by b (xs ++ y ∷ []) ≡ true → (u ≡ 1) × (y ≡ 1)
  had : u ≡ 0 → has_by b xs ≡ true
  others : has_by (not b) (xs ++ y ∷ []) ≡ has_by (not b) xs

abbrev IsTurn : Option (Bool × ℕ) → Bool → ℕ → Type 0
IsTurn o b u = ◌≡◌ {A = Option (Bool × ℕ)} o (Some (b, u))

abbrev SameTurn : Bool → ℕ → Bool → ℕ → Type 0
SameTurn b u c v = ◌≡◌ {A = Option (Bool × ℕ)} (Some (b, u)) (Some (c, v))

same_turn : (b : Bool) (u : ℕ) (c : Bool) (v : ℕ) → SameTurn b u c v → (b ≡ c) × (u ≡ v)
same_turn b u c v h = let w : ◌≡◌ {A = Bool × ℕ} (b, u) (c, v) = same_Some (b, u) (c, v) h in (ap (λ (t : Bool × ℕ). t.0) w, ap (λ (t : Bool × ℕ). t.1) w)

on_turn : (xs : List ℕ) (b : Bool) (u y : ℕ) → IsTurn (turn_of xs) b u → OnTurn xs b u y
on_turn [] b u y h = by b u h
  where
    by : (b : Bool) (u : ℕ) → SameTurn true 1 b u → OnTurn [] b u y
    by true u h = record { gets = λ i z. eq-eqb y 1 z; lacks = λ i. refl; few = inr (sym (same_turn true 1 true u h).1); got = λ g. (sym (same_turn true 1 true u h).1, eqb-true y 1 g); had = λ z. absurd (cc (z, (same_turn true 1 true u h).1)); others = refl }
    by false u h = absurd (both_ways false refl (sym (same_turn true 1 false u h).0))
on_turn (a ∷ []) b u y h = by (a == 1) refl h
  where
    of_other : (b : Bool) (u : ℕ) → (a == 1) ≡ true → SameTurn false 1 b u → OnTurn (a ∷ []) b u y
    of_other true u is h = absurd (both_ways false refl ((same_turn false 1 true u h).0))
    of_other false u is h = record {
      gets = λ i z. eq-eqb y 1 z;
      lacks = λ i. refl;
      few = inr (sym (same_turn false 1 false u h).1);
      got = λ g. (sym (same_turn false 1 false u h).1, eqb-true y 1 g);
      had = λ z. absurd (cc (z, (same_turn false 1 false u h).1));
      others = sym is;
    }

    by : (c : Bool) → (a == 1) ≡ c → IsTurn (cond c (Some (false, 1)) None) b u → OnTurn (a ∷ []) b u y
    by true is h = of_other b u is h
    by false is h = absurd (none-some _ h)
on_turn (a ∷ e ∷ []) b u y h = by (e == 1) refl h
  where
    of_other : (b : Bool) (u : ℕ) → (e == 1) ≡ true → SameTurn false 0 b u → OnTurn (a ∷ e ∷ []) b u y
    of_other true u is h = absurd (both_ways false refl ((same_turn false 0 true u h).0))
    of_other false u is h = record { gets = λ i z. absurd (cc (i, (same_turn false 0 false u h).1)); lacks = λ i. absurd (cc (i, (same_turn false 0 false u h).1)); few = inl (sym (same_turn false 0 false u h).1); got = λ g. absurd (both_ways false refl g); had = λ z. is; others = is }

    of_first : (b : Bool) (u : ℕ) → (e == 1) ≡ false → SameTurn true 0 b u → OnTurn (a ∷ e ∷ []) b u y
    of_first true u is h = record { gets = λ i z. absurd (cc (i, (same_turn true 0 true u h).1)); lacks = λ i. absurd (cc (i, (same_turn true 0 true u h).1)); few = inl (sym (same_turn true 0 true u h).1); got = λ g. absurd (both_ways (e == 1) is g); had = λ z. refl; others = sym is }
    of_first false u is h = absurd (both_ways false refl (sym (same_turn true 0 false u h).0))

    by : (c : Bool) → (e == 1) ≡ c → IsTurn (cond c (Some (false, 0)) (Some (true, 0))) b u → OnTurn (a ∷ e ∷ []) b u y
    by true is h = of_other b u is h
    by false is h = of_first b u is h
on_turn (a ∷ e ∷ c ∷ []) b u y h = by (e == 1) refl h
  where
    of_first : (b : Bool) (u : ℕ) → (e == 1) ≡ true → SameTurn true 0 b u → OnTurn (a ∷ e ∷ c ∷ []) b u y
    of_first true u is h = record { gets = λ i z. absurd (cc (i, (same_turn true 0 true u h).1)); lacks = λ i. absurd (cc (i, (same_turn true 0 true u h).1)); few = inl (sym (same_turn true 0 true u h).1); got = λ g. absurd (both_ways false refl g); had = λ z. is; others = refl }
    of_first false u is h = absurd (both_ways false refl (sym (same_turn true 0 false u h).0))

    by : (d : Bool) → (e == 1) ≡ d → IsTurn (cond d (Some (true, 0)) None) b u → OnTurn (a ∷ e ∷ c ∷ []) b u y
    by true is h = of_first b u is h
    by false is h = absurd (none-some _ h)
on_turn (a ∷ e ∷ c ∷ d ∷ xs) b u y h = absurd (none-some _ h)

-- ---- the requirement that is asked, and the other one

is_asked_one : (arg r : ℕ) (b : Bool) → r ≡ requirement arg b → (r == asks_first arg) ≡ b
is_asked_one arg r b h = ap (λ i. i == asks_first arg) h ∙ by (arg == 0) b
  where
    by : (c b : Bool) → (cond c (cond b 0 1) (cond b 1 0) == cond c 0 1) ≡ b
    by true true = refl
    by true false = refl
    by false true = refl
    by false false = refl

is_other_one : (arg r : ℕ) (b : Bool) → r < 2 → (r ≡ requirement arg b → ⊥) → (r == asks_first arg) ≡ not b
is_other_one arg r b low h = by (arg == 0) b h
  where
    two : (i j : ℕ) → r < 2 → (r ≡ i → ⊥) → i + j ≡ 1 → r ≡ j
    two i j low h s = ⊎_elim (λ (z : r ≡ j). z) (λ (n : r ≡ j → ⊥). absurd (omega (arith, low, h, n, s))) (cases_eq r j)

    by : (c b : Bool) → (r ≡ cond c (cond b 0 1) (cond b 1 0) → ⊥) → (r == cond c 0 1) ≡ not b
    by true true h = ap (λ i. i == 0) (two 0 1 low h refl)
    by true false h = ap (λ i. i == 0) (two 1 0 low h refl)
    by false true h = ap (λ i. i == 1) (two 1 0 low h refl)
    by false false h = ap (λ i. i == 1) (two 0 1 low h refl)

-- ---- a place that asks

-- the value that it asks with
abbrev pub ask_value : NodeState → ℕ
ask_value n = option_map_or (λ (a : Request). a.value) (asked_by (moves.next n)) 0

-- what it got at requirement r where it asks there with u and is answered y, and what stays of the other one
pub record Asking (n : NodeState) (first p y : ℕ) : Type 0 where
  pub gets : (r : ℕ) → r < 2 → p ≡ first + r → ask_value n ≡ 1 → y ≡ 1 → has_fork (moves.after_answer n y) r ≡ true
  pub lacks : (r : ℕ) → r < 2 → p ≡ first + r → ask_value n ≡ 1 → has_fork n r ≡ false
  pub few : (ask_value n ≡ 0) ⊎ (ask_value n ≡ 1)
  pub got : (r : ℕ) → r < 2 → p ≡ first + r → has_fork (moves.after_answer n y) r ≡ true → (ask_value n ≡ 1) × (y ≡ 1)
  pub had : (r : ℕ) → r < 2 → p ≡ first + r → ask_value n ≡ 0 → has_fork n r ≡ true
  pub others : (r : ℕ) → r < 2 → (p ≡ first + r → ⊥) → has_fork (moves.after_answer n y) r ≡ has_fork n r

abbrev pub place : ℕ → Kept → Option Service → NodeState
place a s o = record { kind = Place; arg = a; kept = s; service = o }

place_asks : (a : ℕ) (s : Kept) (o : Option Service) (first p y : ℕ) → calls_at first (place a s o) p ≡ true → Asking (place a s o) first p y
place_asks a s None first p y h = absurd (both_ways false refl h)
place_asks a s (Some w) first p y h = by w.waits refl h
  where
    of_turn : (t : Bool × ℕ) → turn_of w.answers ≡ Some t → w.waits ≡ false → is_request_at first p (Some (request_by a t)) ≡ true → Asking (place a s (Some w)) first p y
    of_turn t is goes g =
        let q : first + requirement a t.0 ≡ p = eqb-true (first + requirement a t.0) p g in
        let m = on_turn w.answers t.0 t.1 y is in
        let value : ask_value (place a s (Some w)) ≡ t.1 =
        ap (λ b. option_map_or (λ (x : Request). x.value) (asked_by (cond b None (Some (cond (a == 0) (dine 0 1 w.answers) (dine 1 0 w.answers))))) 0) goes
        ∙ ap (λ o. option_map_or (λ (x : Request). x.value) o 0) (dines a w.answers ∙ ap (option_map (request_by a)) is) in
        record {
          gets = λ r low at ask z. ap (λ b. has_by b (w.answers ++ y ∷ [])) (is_asked_one a r t.0 (omega (arith, at, q))) ∙ m.gets (sym value ∙ ask) z;
          lacks = λ r low at ask. ap (λ b. has_by b w.answers) (is_asked_one a r t.0 (omega (arith, at, q))) ∙ m.lacks (sym value ∙ ask);
          few = ⊎_elim (λ (z : t.1 ≡ 0). inl (value ∙ z)) (λ (z : t.1 ≡ 1). inr (value ∙ z)) m.few;
          got = λ r low at has. let g = m.got (sym (ap (λ b. has_by b (w.answers ++ y ∷ [])) (is_asked_one a r t.0 (omega (arith, at, q)))) ∙ has) in (value ∙ g.0, g.1);
          had = λ r low at zero_. ap (λ b. has_by b w.answers) (is_asked_one a r t.0 (omega (arith, at, q))) ∙ m.had (sym value ∙ zero_);
          others = λ r low off.
              let b = is_other_one a r t.0 low (λ e. off (omega (arith, q, e))) in
              ap (λ b. has_by b (w.answers ++ y ∷ [])) b ∙ m.others ∙ sym (ap (λ b. has_by b w.answers) b);
        }

    by_turn : (o : Option (Bool × ℕ)) → turn_of w.answers ≡ o → w.waits ≡ false → is_request_at first p (option_map (request_by a) o) ≡ true → Asking (place a s (Some w)) first p y
    by_turn None is goes g = absurd (both_ways false refl g)
    by_turn (Some t) is goes g = of_turn t is goes g

    by : (b : Bool) → w.waits ≡ b → is_request_at first p (asked_by (cond b None (Some (cond (a == 0) (dine 0 1 w.answers) (dine 1 0 w.answers))))) ≡ true → Asking (place a s (Some w)) first p y
    by true goes g = absurd (both_ways false refl g)
    by false goes g = by_turn (turn_of w.answers) refl goes (sym (ap (is_request_at first p) (dines a w.answers)) ∙ g)

pub asking : (n : NodeState) (first p y : ℕ) → n.kind ≡ Place → calls_at first n p ≡ true → Asking n first p y
asking n first p y kind h =
    let same : n ≡ place n.arg n.kept n.service = λ i. record { kind = kind i; arg = n.arg; kept = n.kept; service = n.service } in
    subst (λ x. Asking x first p y) (sym same) (place_asks n.arg n.kept n.service first p y (subst (λ x. calls_at first x p ≡ true) same h))

-- what it calls with is what it asks with
pub called_with : (n : NodeState) (first p v : ℕ) → is_request first p v (asked_by (moves.next n)) ≡ true → (ask_value n ≡ v) × (calls_at first n p ≡ true)
called_with n first p v h = by (asked_by (moves.next n)) h
  where
    by : (o : Option Request) → is_request first p v o ≡ true → (option_map_or (λ (a : Request). a.value) o 0 ≡ v) × (is_request_at first p o ≡ true)
    by None h = absurd (both_ways false refl h)
    by (Some x) h = let w = and_parts (first + x.require == p) (x.value == v) h in (eqb-true x.value v w.1, w.0)

-- one place at a time is called
pub one_call : (n : NodeState) (first p q : ℕ) → calls_at first n p ≡ true → calls_at first n q ≡ true → p ≡ q
one_call n first p q h g = by (asked_by (moves.next n)) h g
  where
    by : (o : Option Request) → is_request_at first p o ≡ true → is_request_at first q o ≡ true → p ≡ q
    by None h g = absurd (both_ways false refl h)
    by (Some x) h g = sym (eqb-true (first + x.require) p h) ∙ eqb-true (first + x.require) q g

-- who calls gives no answer
pub calls_no_give : (n : NodeState) (first p v : ℕ) → calls_at first n p ≡ true → is_give v (moves.next n) ≡ true → ⊥
calls_no_give n first p v h g = by (moves.next n) h g
  where
    by : (o : Option Next) → is_request_at first p (asked_by o) ≡ true → is_give v o ≡ true → ⊥
    by None h g = both_ways false refl g
    by (Some (next.Ask a)) h g = both_ways false refl g
    by (Some (next.More a)) h g = both_ways false refl h
    by (Some (next.Give a)) h g = both_ways false refl h

-- a place wants nothing, and so expects nothing but of calls
pub place_expects : (b : Bool) (n : NodeState) (first p : ℕ) → n.kind ≡ Place → expects b first n p ≡ true → calls_at first n p ≡ true
place_expects true n first p kind h = h
place_expects false n first p kind h = absurd (both_ways false refl (sym (ap (λ k. is_request_at first p (wants k n.arg n.kept)) kind) ∙ h))

pub resting_has_none : (n : NodeState) (r : ℕ) → n.service ≡ None → has_fork n r ≡ false
resting_has_none n r none_ = ap (λ (o : Option Service). option_map_or (λ (w : Service). has_by (r == asks_first n.arg) w.answers) o false) none_

-- it sends no intermediate reply
dine_more : (a b v : ℕ) (xs : List ℕ) → is_more v (Some (dine a b xs)) ≡ false
dine_more a b v [] = refl
dine_more a b v (x ∷ []) = by (x == 1)
  where
    by : (c : Bool) → is_more v (Some (cond c (next.Ask (record { require = b; value = 1 })) (next.Give 0))) ≡ false
    by true = refl
    by false = refl
dine_more a b v (x ∷ y ∷ []) = by (y == 1)
  where
    by : (c : Bool) → is_more v (Some (cond c (next.Ask (record { require = b; value = 0 })) (next.Ask (record { require = a; value = 0 })))) ≡ false
    by true = refl
    by false = refl
dine_more a b v (x ∷ y ∷ z ∷ []) = by (y == 1)
  where
    by : (c : Bool) → is_more v (Some (cond c (next.Ask (record { require = a; value = 0 })) (next.Give 0))) ≡ false
    by true = refl
    by false = refl
dine_more a b v (x ∷ y ∷ z ∷ u ∷ xs) = refl

pub sends_no_more : (n : NodeState) (v : ℕ) → n.kind ≡ Place → is_more v (moves.next n) ≡ false
sends_no_more n v kind = ap (λ k. is_more v (moves.next (record n { kind = k }))) kind ∙ by n.service
  where
    choose : (c : Bool) (xs : List ℕ) → is_more v (Some (cond c (dine 0 1 xs) (dine 1 0 xs))) ≡ false
    choose true xs = dine_more 0 1 v xs
    choose false xs = dine_more 1 0 v xs

    by_waits : (b : Bool) (xs : List ℕ) → is_more v (cond b None (Some (cond (n.arg == 0) (dine 0 1 xs) (dine 1 0 xs)))) ≡ false
    by_waits true xs = refl
    by_waits false xs = choose (n.arg == 0) xs

    by : (x : Option Service) → is_more v (moves.next (record n { kind = Place; service = x })) ≡ false
    by None = refl
    by (Some y) = by_waits y.waits y.answers

-- who has a fork gives no answer
had_turn : (b : Bool) (xs : List ℕ) → has_by b xs ≡ true → turn_of xs ≡ None → ⊥
had_turn b [] h g = both_ways false refl h
had_turn true (a ∷ []) h g = cc (sym (ap (λ c. cond {A = Option (Bool × ℕ)} c (Some (false, 1)) None) h) ∙ g)
had_turn false (a ∷ []) h g = both_ways false refl h
had_turn b (a ∷ e ∷ []) h g = by (e == 1) g
  where
    by : (c : Bool) → cond {A = Option (Bool × ℕ)} c (Some (false, 0)) (Some (true, 0)) ≡ None → ⊥
    by true g = cc g
    by false g = cc g
had_turn true (a ∷ e ∷ c ∷ []) h g = cc (sym (ap (λ d. cond {A = Option (Bool × ℕ)} d (Some (true, 0)) None) h) ∙ g)
had_turn false (a ∷ e ∷ c ∷ []) h g = both_ways false refl h
had_turn b (a ∷ e ∷ c ∷ d ∷ xs) h g = both_ways false refl h

has_no_give : (a : ℕ) (s : Kept) (o : Option Service) (r v : ℕ) → has_fork (place a s o) r ≡ true → is_give v (moves.next (place a s o)) ≡ true → ⊥
has_no_give a s None r v h g = both_ways false refl h
has_no_give a s (Some w) r v h g = by w.waits g
  where
    no_request : (n : Next) → is_give v (Some n) ≡ true → asked_by (Some n) ≡ None
    no_request (next.Ask x) g = absurd (both_ways false refl g)
    no_request (next.More x) g = refl
    no_request (next.Give x) g = refl

    none_turn : (o : Option (Bool × ℕ)) → option_map (request_by a) o ≡ None → o ≡ None
    none_turn None h = refl
    none_turn (Some t) h = absurd (cc h)

    by : (b : Bool) → is_give v (cond b None (Some (cond (a == 0) (dine 0 1 w.answers) (dine 1 0 w.answers)))) ≡ true → ⊥
    by true g = both_ways false refl g
    by false g = had_turn (r == asks_first a) w.answers h (none_turn (turn_of w.answers) (sym (dines a w.answers) ∙ no_request (cond (a == 0) (dine 0 1 w.answers) (dine 1 0 w.answers)) g))

pub having_no_give : (n : NodeState) (r v : ℕ) → n.kind ≡ Place → has_fork n r ≡ true → is_give v (moves.next n) ≡ true → ⊥
having_no_give n r v kind h g =
    let same : n ≡ place n.arg n.kept n.service = λ i. record { kind = kind i; arg = n.arg; kept = n.kept; service = n.service } in
    has_no_give n.arg n.kept n.service r v (subst (λ x. has_fork x r ≡ true) same h) (subst (λ x. is_give v (moves.next x) ≡ true) same g)

-- ---- a fork

abbrev pub reply_of : NodeState → ℕ
reply_of n = option_map_or (λ (w : Service). w.reply) n.service 0

abbrev pub fork : ℕ → Kept → Option Service → NodeState
fork a s o = record { kind = Fork; arg = a; kept = s; service = o }

-- what a Take does there
pub record Lends (n t : NodeState) (v : ℕ) : Type 0 where
  pub lent : v ≡ 1 → reply_of t ≡ 1 → (n.kept.count == 0) ≡ true
  pub held : (v ≡ 0 → ⊥) → (n.kept.count == 0) ≡ false → (t.kept.count == 0) ≡ false
  pub taken : v ≡ 1 → (t.kept.count == 0) ≡ false
  pub replies : v ≡ 1 → (n.kept.count == 0) ≡ true → reply_of t ≡ 1
  pub freed : v ≡ 0 → (t.kept.count == 0) ≡ true
  pub kept : (v ≡ 0 → ⊥) → (v ≡ 1 → ⊥) → t.kept ≡ n.kept
  pub refused : v ≡ 1 → (n.kept.count == 0) ≡ false → t.kept ≡ n.kept

pub lends : (n : NodeState) (v : ℕ) → n.kind ≡ Fork → Lends n (moves.after_take n v) v
lends n v kind =
    let same : n ≡ fork n.arg n.kept n.service = λ i. record { kind = kind i; arg = n.arg; kept = n.kept; service = n.service } in
    subst (λ x. Lends x (moves.after_take x v) v) (sym same) (by (v == 1) refl (v == 0) refl (n.kept.count == 0) refl)
  where
    by : (one : Bool) → (v == 1) ≡ one → (zero_ : Bool) → (v == 0) ≡ zero_ → (free : Bool) → (n.kept.count == 0) ≡ free → Lends (fork n.arg n.kept n.service) (moves.after_take (fork n.arg n.kept n.service) v) v
    by true is z isz true free = record { replies = λ a b. rw is (rw free refl); freed = λ a. absurd (cc (sym a ∙ eqb-true v 1 is)); kept = λ a b. absurd (b (eqb-true v 1 is)); refused = λ a b. absurd (both_ways (n.kept.count == 0) b free); lent = λ a b. free; held = λ a b. absurd (both_ways (n.kept.count == 0) b free); taken = λ a. rw is (rw free refl) }
    by true is z isz false held = record { replies = λ a b. absurd (both_ways (n.kept.count == 0) held b); freed = λ a. absurd (cc (sym a ∙ eqb-true v 1 is)); kept = λ a b. absurd (b (eqb-true v 1 is)); refused = λ a b. rw is (rw held refl); lent = λ a b. let z : reply_of (moves.after_take (fork n.arg n.kept n.service) v) ≡ 0 = rw is (rw held refl) in absurd (cc (sym z ∙ b)); held = λ a b. rw is (rw held held); taken = λ a. rw is (rw held held) }
    by false is z isz free isf = record {
      replies = λ a b. absurd (both_ways (v == 1) is (eq-eqb v 1 a));
      freed = λ a. rw is (rw (eq-eqb v 0 a) refl);
      kept = λ a b. rw is (rw (ne_eqb v 0 a) refl);
      refused = λ a b. absurd (both_ways (v == 1) is (eq-eqb v 1 a));
      lent = λ a b. absurd (both_ways (v == 1) is (eq-eqb v 1 a));
      held = λ a b. rw is (rw (ne_eqb v 0 a) b);
      taken = λ a. absurd (both_ways (v == 1) is (eq-eqb v 1 a));
    }

-- it does nothing but take and give
pub data Lending (n t : NodeState) : Event → Type 0 where
  takes : (p k v : ℕ) → t ≡ moves.after_take n v → Lending n t (Take p k v)
  gives : (p k v : ℕ) → reply_of n ≡ v → t ≡ moves.after_give n → Lending n t (Give p k v)

pub lending : (first : ℕ) (n t : NodeState) (e : Event) → n.kind ≡ Fork → moves.waits n ≡ false → after_event first n e ≡ Some t → Lending n t e
lending first n t e kind wt h =
    let same : n ≡ fork n.arg n.kept n.service = λ i. record { kind = kind i; arg = n.arg; kept = n.kept; service = n.service } in
    subst (λ x. Lending x t e) (sym same) (by n.arg n.kept n.service e (sym (ap moves.waits same) ∙ wt) (sym (ap (λ x. after_event first x e) same) ∙ h))
  where
    gives_none : (b : Bool) (r p : ℕ) → is_request_at first p (asked_by (cond b None (Some (next.Give r)))) ≡ false
    gives_none true r p = refl
    gives_none false r p = refl

    no_calls : (a : ℕ) (s : Kept) (o : Option Service) (p : ℕ) → calls_at first (fork a s o) p ≡ false
    no_calls a s None p = refl
    no_calls a s (Some w) p = gives_none w.waits w.reply p

    no_request : (p v : ℕ) (o : Option Request) → is_request first p v o ≡ true → is_request_at first p o ≡ true
    no_request p v None h = absurd (both_ways false refl h)
    no_request p v (Some x) h = (and_parts (first + x.require == p) (x.value == v) h).0

    no_more : (a : ℕ) (s : Kept) (o : Option Service) (v : ℕ) → is_more v (moves.next (fork a s o)) ≡ false
    no_more a s None v = refl
    no_more a s (Some w) v = one w.waits
      where
        one : (b : Bool) → is_more v (cond b None (Some (next.Give w.reply))) ≡ false
        one true = refl
        one false = refl

    reply_given : (a : ℕ) (s : Kept) (o : Option Service) (v : ℕ) → is_give v (moves.next (fork a s o)) ≡ true → reply_of (fork a s o) ≡ v
    reply_given a s None v h = absurd (both_ways false refl h)
    reply_given a s (Some w) v h = one w.waits h
      where
        one : (b : Bool) → is_give v (cond b None (Some (next.Give w.reply))) ≡ true → w.reply ≡ v
        one true h = absurd (both_ways false refl h)
        one false h = eqb-true w.reply v h

    by : (a : ℕ) (s : Kept) (o : Option Service) (e : Event) → moves.waits (fork a s o) ≡ false → after_event first (fork a s o) e ≡ Some t → Lending (fork a s o) t e
    by a s o (Begin p k v) wt h = absurd (both_ways false refl (where_so_then _ (fork a s o) t h).0)
    by a s o (Call p k v) wt h = absurd (both_ways _ (no_calls a s o p) (no_request p v (asked_by (moves.next (fork a s o))) (where_so_then (is_request first p v (asked_by (moves.next (fork a s o)))) (fork a s o) t h).0))
    by a s o (Miss p) wt h = absurd (both_ways _ (no_calls a s o p) (where_so_then (calls_at first (fork a s o) p) (moves.after_answer (fork a s o) 0) t h).0)
    by a s o (Ask p k v) wt h = absurd (both_ways _ (no_calls a s o p) (first_so (calls_at first (fork a s o) p) (and_parts _ _ (where_so_then _ (fork a s o) t h).0).0))
      where
        first_so : (b : Bool) → (b || false) ≡ true → b ≡ true
        first_so true h = refl
        first_so false h = absurd (both_ways false refl h)
    by a s o (Take p k v) wt h = takes p k v (sym (where_so_then (may_take (fork a s o)) (moves.after_take (fork a s o) v) t h).1)
    by a s o (Give p k v) wt h = let w = where_so_then (is_give v (moves.next (fork a s o))) (moves.after_give (fork a s o)) t h in gives p k v (reply_given a s o v w.0) (sym w.1)
    by a s o (More p k v) wt h = absurd (both_ways _ (no_more a s o v) (where_so_then (is_more v (moves.next (fork a s o))) (moves.after_more (fork a s o)) t h).0)
    by a s o (Hear p k v) wt h = absurd (both_ways _ wt (where_so_then (moves.waits (fork a s o)) (moves.after_answer (fork a s o) v) t h).0)
    by a s o (End p k v) wt h = at_end (calls_at first (fork a s o) p) (no_calls a s o p) h
      where
        at_end : (b : Bool) → b ≡ false → cond b (Some (moves.after_answer (fork a s o) v)) None ≡ Some t → Lending (fork a s o) t (End p k v)
        at_end true is h = absurd (both_ways true is refl)
        at_end false is h = absurd (none-some t h)
    by a s o _ wt h = absurd (none-some t h)
