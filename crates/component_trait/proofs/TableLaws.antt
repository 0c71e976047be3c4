-- The tables of the kinds, as turns use them: requests are at requirements that a kind has, values are below the limit, serving keeps
-- what is wanted, and a kind that wants something asks for nothing in its services.
use Rattle.std.proofs.Common.{◌≡◌, ◌+◌, ◌<◌, ◌*◌, ℕ, Bool, true, false, List, [], ◌∷◌, ◌++◌, length, Option, Some, None, refl, ap, subst, arith, rules, cond}
use Rattle.std.specs.Prelude.{nat_lt, nat_le, ◌==◌}
use Rattle.std.specs.List.{All}
use Rattle.std.proofs.lemmas.Bool.{both_ways, cond_both, ltb-true, leb-false}
use Rattle.std.proofs.lemmas.Option.{none-some, same_Some}
use Rattle.std.proofs.lemmas.List.Elements.{All-append, All-drop, All-head}
use Rattle.config_graph.specs.Kinds.{row}
use Rattle.config_graph.specs.declared.kind.Kind.{Kind}
use Rattle.config_graph.specs.declared.kind.Kind.TheVariants.{Philosopher, Place, Fork, Source, Map, Buffer, Sink, Teller, Branch, Account, Asker, Adder}
use Rattle.config_graph.proofs.KindLaws.{depended_within}
use Rattle.component_trait.proofs.BoundLaws.{asks_depend}
use Rattle.component_trait.specs.Bounds.{FitsRequest}
use Rattle.component_trait.specs.Fold.{asked_by, calls_at, is_request_at, wants_at}
use Rattle.component_trait.specs.States.{Kept, NodeState, Service}
use Rattle.component_trait.specs.Tables.{ask, dine, kept_after_end, next_of, opening, replies, serve, take_and_put, wants}
use Rattle.component_trait.specs.declared.next.Ask.{Ask}
use Rattle.component_trait.specs.declared.next.Next.{Next}
use Rattle.component_trait.specs.declared.next.Next.TheVariants as next
use Rattle.quiesce_core.specs.Rules.{value_limit}

abbrev pub Small : List ℕ → Type 0
Small vs = All (λ v. v < value_limit) vs

abbrev pub node : Kind → ℕ → Kept → Option Service → NodeState
node k a kept o = record { kind = k; arg = a; kept = kept; service = o }

-- what is replied as an answer is no request
gives_ask_nothing : (b : Bool) (r : ℕ) → asked_by (cond b None (Some (next.Give r))) ≡ None
gives_ask_nothing true r = refl
gives_ask_nothing false r = refl

-- where a node wants something at a port, its service asks nothing
pub wanting_asks_nothing : (first : ℕ) (k : Kind) (a : ℕ) (kept : Kept) (o : Option Service) (p q : ℕ) → wants_at first (node k a kept o) p ≡ true → calls_at first (node k a kept o) q ≡ false
wanting_asks_nothing first k a kept None p q h = refl
wanting_asks_nothing first Philosopher a kept (Some w) p q h = ap (λ x. is_request_at first q x) (gives_ask_nothing w.waits w.reply)
wanting_asks_nothing first Source a kept (Some w) p q h = ap (λ x. is_request_at first q x) (gives_ask_nothing w.waits w.reply)
wanting_asks_nothing first Buffer a kept (Some w) p q h = ap (λ x. is_request_at first q x) (gives_ask_nothing w.waits w.reply)
wanting_asks_nothing first Teller a kept (Some w) p q h = ap (λ x. is_request_at first q x) (gives_ask_nothing w.waits w.reply)
wanting_asks_nothing first Asker a kept (Some w) p q h = ap (λ x. is_request_at first q x) (gives_ask_nothing w.waits w.reply)
wanting_asks_nothing first _ a kept (Some w) p q h = absurd (both_ways false refl h)

-- what is kept stays small
pub pushed_small : (vs : List ℕ) (v : ℕ) → Small vs → v < value_limit → Small (vs ++ v ∷ [])
pushed_small vs v h small = All-append (λ x. x < value_limit) vs (v ∷ []) h (search rules)

pub served_small : (k : Kind) (a : ℕ) (kept : Kept) (v : ℕ) → Small kept.items → v < value_limit → Small (serve k a kept v).kept.items × ((serve k a kept v).reply < value_limit)
served_small Fork a kept v h small = search rules
served_small Buffer a kept v h small = search (rules, pushed_small)
served_small Sink a kept v h small = search (rules, pushed_small)
served_small Account a kept v h small = search rules
served_small _ a kept v h small = (h, omega arith)

pub ended_small : (k : Kind) (kept : Kept) (v : ℕ) → Small kept.items → Small (kept_after_end k kept v).items
ended_small Philosopher kept v h = search rules
ended_small Source kept v h = search rules
ended_small Buffer kept v h = search (rules, All-drop (λ x. x < value_limit) 1 kept.items h)
ended_small Teller kept v h = search rules
ended_small Asker kept v h = search rules
ended_small _ kept v h = h

-- below a number a count is small, and so is the next one
below_fits : (k : Kind) (count n value : ℕ) (x : Ask) → 0 < length (row k).requires_ → (count < n → value < value_limit) → cond (nat_lt count n) (Some (record { require = 0; value = value })) None ≡ Some x
    → FitsRequest k x
below_fits k count n value x some_ small e = by (nat_lt count n) refl e
  where
    by : (b : Bool) → nat_lt count n ≡ b → cond b (Some (record { require = 0; value = value })) None ≡ Some x → FitsRequest k x
    by true h e = subst (FitsRequest k) (same_Some (record { require = 0; value = value }) x e) (record { require = some_; value = small (ltb-true count n h) })
    by false h e = absurd (none-some x e)

-- what is wanted is at a requirement of the kind, and small
pub wants_fit : (k : Kind) (a : ℕ) (kept : Kept) (x : Ask) → a < value_limit → Small kept.items → wants k a kept ≡ Some x → FitsRequest k x
wants_fit Philosopher a kept x small items e = below_fits Philosopher kept.count a 0 x (omega arith) (λ h. omega arith) e
wants_fit Source a kept x small items e = below_fits Source kept.count a (kept.count + 1) x (omega arith) (λ h. omega (arith, h, small)) e
wants_fit Teller a kept x small items e = below_fits Teller kept.count a (kept.count + 1) x (omega arith) (λ h. omega (arith, h, small)) e
wants_fit Asker a kept x small items e = below_fits Asker kept.count a (kept.count + 1) x (omega arith) (λ h. omega (arith, h, small)) e
wants_fit Buffer a kept x small items e = by kept.items items e
  where
    by : (vs : List ℕ) → Small vs → wants Buffer a (record kept { items = vs }) ≡ Some x → FitsRequest Buffer x
    by [] all e = absurd (none-some x e)
    by (v ∷ vs) all e =
        subst (FitsRequest Buffer) (same_Some (record { require = 0; value = v }) x e) (record { require = omega arith; value = All-head (λ y. y < value_limit) v vs all })
wants_fit _ a kept x small items e = absurd (none-some x e)

-- what comes next in a service is small
ask_small : Next → Type 0
ask_small (next.Ask x) = x.value < value_limit
ask_small (next.More v) = v < value_limit
ask_small (next.Give v) = v < value_limit

dine_small : (first other : ℕ) (vs : List ℕ) → ask_small (dine first other vs)
unfolding ask_small
dine_small first other [] = search rules
dine_small first other (a ∷ []) = cond_both (a == 1) (ask other 1) (next.Give 0) ask_small (λ h. search rules) (λ h. search rules)
dine_small first other (a ∷ b ∷ []) = cond_both (b == 1) (ask other 0) (ask first 0) ask_small (λ h. search rules) (λ h. search rules)
dine_small first other (a ∷ b ∷ c ∷ []) = cond_both (b == 1) (ask first 0) (next.Give 0) ask_small (λ h. search rules) (λ h. search rules)
dine_small first other (a ∷ b ∷ c ∷ d ∷ vs) = search rules

put_small : (a : ℕ) (vs : List ℕ) → a < 8388608 → ask_small (take_and_put a vs)
unfolding ask_small
put_small a [] h = omega (arith, h)
put_small a (b ∷ []) h = cond_both (b == 1) (ask 1 (2 * a)) (next.Give 0) ask_small (λ _. omega (arith, h)) (λ _. search rules)
put_small a (b ∷ c ∷ vs) h = search rules

next_small : (k : Kind) (a v r : ℕ) (vs : List ℕ) → v < value_limit → r < value_limit → Small vs → ask_small (next_of k a v r vs)
unfolding ask_small
next_small Place a v r vs small reply all = cond_both (a == 0) (dine 0 1 vs) (dine 1 0 vs) ask_small (λ h. dine_small 0 1 vs) (λ h. dine_small 1 0 vs)
next_small Map a v r [] small reply all = omega arith
next_small Map a v r (b ∷ vs) small reply all = All-head (λ y. y < value_limit) b vs all
next_small Branch a v r vs small reply all =
    cond_both (nat_le 8388608 v) (next.Give 0) (take_and_put v vs) ask_small (λ h. search rules) (λ h. put_small v vs (omega (arith, leb-false 8388608 v h)))
next_small Adder a v r [] small reply all = small
next_small Adder a v r (b ∷ vs) small reply all = omega arith
next_small _ a v r vs small reply all = reply

pub asks_fit : (k : Kind) (a v r : ℕ) (vs : List ℕ) (x : Ask) → v < value_limit → r < value_limit → Small vs → next_of k a v r vs ≡ next.Ask x → FitsRequest k x
unfolding ask_small
asks_fit k a v r vs x small reply all e =
    record { require = depended_within k x.require (asks_depend k a v r vs x e); value = subst ask_small e (next_small k a v r vs small reply all) }

pub gives_fit : (k : Kind) (a v r : ℕ) (vs : List ℕ) (y : ℕ) → v < value_limit → r < value_limit → Small vs → next_of k a v r vs ≡ next.Give y → y < value_limit
unfolding ask_small
gives_fit k a v r vs y small reply all e = subst ask_small e (next_small k a v r vs small reply all)

pub mores_fit : (k : Kind) (a v r : ℕ) (vs : List ℕ) (y : ℕ) → v < value_limit → r < value_limit → Small vs → next_of k a v r vs ≡ next.More y → y < value_limit
unfolding ask_small
mores_fit k a v r vs y small reply all e = subst ask_small e (next_small k a v r vs small reply all)

pub replies_small : (k : Kind) (kept : Kept) → replies k kept < value_limit
replies_small Asker kept = omega arith
replies_small _ kept = omega arith

-- what a node opens with is small
pub opening_small : (k : Kind) (a : ℕ) → Small (opening k a).items
opening_small Account a = search rules
opening_small _ a = search rules
