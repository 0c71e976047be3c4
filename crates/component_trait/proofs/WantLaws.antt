-- What a node wants stays through a service; a node that wants something asks nothing in one.
use Rattle.std.specs.Prelude.{◌≡◌, refl, ℕ, nat_lt, length, Bool, true, false, List, [], ◌∷◌, ◌++◌, Option, Some, None, option_and_then, if◌then◌else◌, ◌==◌, nat_le}
use Rattle.std.proofs.Common.{rules, ◌+◌, cond, ap, arith}
use Rattle.std.proofs.lemmas.Option.{none-some}
use Rattle.std.proofs.lemmas.Bool.{eqb-true}
use Rattle.config_graph.specs.declared.kind.Kind.{Kind}
use Rattle.config_graph.specs.declared.kind.Kind.TheVariants.{Buffer, Philosopher, Source, Teller, Asker}
use Rattle.component_trait.specs.declared.next.Ask.{Ask}
use Rattle.component_trait.specs.declared.next.Next.{Next}
use Rattle.component_trait.specs.Fold.{asked_by}
use Rattle.component_trait.specs.Moves as moves
use Rattle.component_trait.specs.Moves.{next_in}
use Rattle.component_trait.specs.States.{Kept, NodeState, Service, with_items}
use Rattle.component_trait.specs.Tables.{Outcome, next_of, serve, wants}
use Rattle.component_trait.specs.Tables as tables
use Rattle.base.proofs.NumberLaws.{not_below}

-- a list's front stays where a value is appended
front_stays : (cap v : ℕ) (vs : List ℕ) (x : Ask) → wants Buffer cap (with_items vs) ≡ Some x → wants Buffer cap (with_items (vs ++ v ∷ [])) ≡ Some x
front_stays cap v [] x h = absurd (none-some x h)
front_stays cap v (w ∷ vs) x h = h

abbrev outcome : Kept → ℕ → Outcome
outcome kept r = record { kept = kept; reply = r }

kept_front : (b : Bool) (cap v : ℕ) (kept : Kept) (x : Ask) → wants Buffer cap kept ≡ Some x
    → wants Buffer cap (if b then outcome (with_items (kept.items ++ v ∷ [])) 1 else outcome kept 0).kept ≡ Some x
kept_front true cap v kept x h = front_stays cap v kept.items x h
kept_front false cap v kept x h = h

pub wanted_after_serving : (k : Kind) (a : ℕ) (kept : Kept) (v : ℕ) (x : Ask) → wants k a kept ≡ Some x → wants k a (serve k a kept v).kept ≡ Some x
wanted_after_serving Buffer cap kept v x h = kept_front (nat_lt (length kept.items) cap) cap v kept x h
wanted_after_serving _ a kept v x h = search rules

pub wanted_after_take : (s : NodeState) (v : ℕ) (x : Ask) → moves.wants s ≡ Some x → moves.wants (moves.after_take s v) ≡ Some x
wanted_after_take s v x h = wanted_after_serving s.kind s.arg s.kept v x h

-- the kinds that want something give at once
asks_nothing_of : (k : Kind) (a : ℕ) (kept : Kept) (v r : ℕ) (answers : List ℕ) (x : Ask) → wants k a kept ≡ Some x → asked_by (Some (next_of k a v r answers)) ≡ None
asks_nothing_of _ a kept v r answers x h = search rules

unasked : (b : Bool) (n : Next) → asked_by (Some n) ≡ None → asked_by (if b then None else Some n) ≡ None
unasked true n h = refl
unasked false n h = h

asks_nothing_in : (s : NodeState) (o : Option Service) (x : Ask) → moves.wants s ≡ Some x → asked_by (option_and_then (next_in s) o) ≡ None
asks_nothing_in s None x h = refl
asks_nothing_in s (Some w) x h =
    unasked w.waits (next_of s.kind s.arg w.value w.reply w.answers) (asks_nothing_of s.kind s.arg s.kept w.value w.reply w.answers x h)

pub asks_nothing : (s : NodeState) (x : Ask) → moves.wants s ≡ Some x → asked_by (moves.next s) ≡ None
asks_nothing s x h = asks_nothing_in s s.service x h

pub below_none : (a b v : ℕ) → nat_le b a ≡ true → cond (nat_lt a b) (Some (tables.request 0 v)) None ≡ None
below_none a b v h = ap (λ c. cond c (Some (tables.request 0 v)) None) (not_below a b h)

pub front_none : (a : ℕ) (kept : Kept) (xs : List ℕ) → kept.items ≡ xs → (length xs == 0) ≡ true → tables.wants Buffer a kept ≡ None
front_none a kept [] e h = ap (λ ys. tables.wants Buffer a (record kept { items = ys })) e
front_none a kept (x ∷ xs) e h = let none_ = eqb-true (length (x ∷ xs)) 0 h in absurd (omega (arith, none_))

pub wants_none : (k : Kind) (a : ℕ) (kept : Kept) → tables.is_done k a kept ≡ true → tables.wants k a kept ≡ None
wants_none Philosopher a kept h = below_none kept.count a 0 h
wants_none Source a kept h = below_none kept.count a (kept.count + 1) h
wants_none Buffer a kept h = front_none a kept kept.items refl h
wants_none Teller a kept h = below_none kept.count a (kept.count + 1) h
wants_none Asker a kept h = below_none kept.count a (kept.count + 1) h
wants_none _ a kept h = refl
