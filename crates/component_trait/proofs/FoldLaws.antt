-- Events lead a node to a state of the same kind and argument, whose service is within the bounds of its kind.
use Rattle.std.specs.Prelude.{◌≡◌, refl, ℕ, Bool, true, false, List, [], ◌∷◌, Option, Some, None, fold, if◌then◌else◌}
use Rattle.std.proofs.Common.{sym, subst, ◌∙◌}
use Rattle.std.proofs.lemmas.Option.{none-some, same_Some}
use Rattle.quiesce_core.specs.declared.event.Event.{Event}
use Rattle.quiesce_core.specs.declared.event.Event.TheVariants.{Begin, Call, Take, Give, End, More, Ask, Hear, Miss}
use Rattle.component_trait.specs.States.{Kept, NodeState, Service, at_rest}
use Rattle.component_trait.specs.Moves as moves
use Rattle.std.proofs.Common.{ap, arith}
use Rattle.std.specs.Prelude.{◌+◌, ◌<◌, length, option_and_then, option_map}
use Rattle.std.specs.Option.{option_map_or}
use Rattle.std.proofs.lemmas.Bool.{false≢true}
use Rattle.std.proofs.lemmas.List.{length-append}
use Rattle.config_graph.specs.Kinds.{calls_of, mores_of}
use Rattle.config_graph.specs.declared.kind.Kind.{Kind}
use Rattle.component_trait.specs.Bounds.{IsBounded, IsBoundedService}
use Rattle.component_trait.specs.Moves.{next_in, with_wait, with_answer}
use Rattle.component_trait.specs.Tables.{next_of, serve}
use Rattle.component_trait.specs.declared.next.Ask.{Ask as Request}
use Rattle.component_trait.specs.declared.next.Next.{Next}
use Rattle.component_trait.specs.declared.next.Next.TheVariants as next
use Rattle.component_trait.proofs.BoundLaws.{asks_are_few, mores_are_few}
use Rattle.component_trait.specs.Fold.{after_event, fold_of, is_request_at, asked_by, awaits_at, calls_at, fold_from, fold_next, is_give, is_more, is_request, may_take, wants_at, where_so}
use Rattle.std.specs.Prelude.{◌&&◌, ◌==◌}

abbrev SameNode : NodeState → NodeState → Type 0
SameNode s t = (t.kind ≡ s.kind) × (t.arg ≡ s.arg)

where_so_same : (b : Bool) (s x t : NodeState) → where_so b x ≡ Some t → SameNode s x → SameNode s t
where_so_same true s x t e same = subst (SameNode s) (same_Some x t e) same
where_so_same false s x t e same = absurd (none-some t e)

end_same : (c : Bool) (b : Bool) (s x y t : NodeState) → (if c then Some x else where_so b y) ≡ Some t → SameNode s x → SameNode s y → SameNode s t
end_same true b s x y t e left right = subst (SameNode s) (same_Some x t e) left
end_same false b s x y t e left right = where_so_same b s y t e right

after_event_same : (first : ℕ) (s t : NodeState) (e : Event) → after_event first s e ≡ Some t → SameNode s t
after_event_same first s t (Begin p j v) h = where_so_same (is_request first p v (moves.wants s)) s s t h (refl, refl)
after_event_same first s t (Call p j v) h = where_so_same (is_request first p v (asked_by (moves.next s))) s s t h (refl, refl)
after_event_same first s t (Miss p) h = where_so_same (calls_at first s p) s (moves.after_answer s 0) t h (refl, refl)
after_event_same first s t (Take p j v) h = where_so_same (may_take s) s (moves.after_take s v) t h (refl, refl)
after_event_same first s t (More p j v) h = where_so_same (is_more v (moves.next s)) s (moves.after_more s) t h (refl, refl)
after_event_same first s t (Ask p j v) h = where_so_same (awaits_at first s p && v == moves.replies s) s s t h (refl, refl)
after_event_same first s t (Hear p j v) h = where_so_same (moves.waits s) s (moves.after_answer s v) t h (refl, refl)
after_event_same first s t (Give p j v) h = where_so_same (is_give v (moves.next s)) s (moves.after_give s) t h (refl, refl)
after_event_same first s t (End p j v) h = end_same (calls_at first s p) (wants_at first s p) s (moves.after_answer s v) (moves.after_end s v) t h (refl, refl) (refl, refl)
after_event_same first s t _ h = absurd (none-some t h)

pub fold_none : (first : ℕ) (es : List Event) → fold (fold_next first) None es ≡ None
fold_none first [] = refl
fold_none first (e ∷ es) = fold_none first es

fold_same : (first : ℕ) (s t : NodeState) (o : Option NodeState) (es : List Event) → ((u : NodeState) → o ≡ Some u → SameNode s u)
    → fold (fold_next first) o es ≡ Some t → SameNode s t
fold_same first s t o [] same e = same t e
fold_same first s t None (x ∷ es) same e = absurd (none-some t (sym (fold_none first es) ∙ e))
fold_same first s t (Some u) (x ∷ es) same e =
    fold_same first s t (after_event first u x) es
    (λ w is. let one = after_event_same first u w x is in let before = same u refl in (one.0 ∙ before.0, one.1 ∙ before.1))
    e

-- a state is the same node as itself
start_same : (s u : NodeState) → Some s ≡ Some u → SameNode s u
start_same s u e = subst (SameNode s) (same_Some s u e) (refl, refl)

pub fold_keeps_kind : (first : ℕ) (s t : NodeState) (es : List Event) → fold_from first s es ≡ Some t → t.kind ≡ s.kind
fold_keeps_kind first s t es e = (fold_same first s t (Some s) es (start_same s) e).0

pub fold_keeps_argument : (first : ℕ) (s t : NodeState) (es : List Event) → fold_from first s es ≡ Some t → t.arg ≡ s.arg
fold_keeps_argument first s t es e = (fold_same first s t (Some s) es (start_same s) e).1

-- ---- bounded services

-- what follows of the service in a state, by the service that there is
bounded_by : (k : Kind) (o : Option Service) → ((w : Service) → o ≡ Some w → IsBoundedService k w) → (f : Service → Service) → ((w : Service) → o ≡ Some w → IsBoundedService k (f w))
    → (u : Service) → option_map f o ≡ Some u → IsBoundedService k u
bounded_by k None before f after u e = absurd (none-some u e)
bounded_by k (Some w) before f after u e = subst (IsBoundedService k) (same_Some (f w) u e) (after w refl)

asked_in : (s : NodeState) (w : Service) (first p : ℕ) → is_request_at first p (asked_by (next_in s w)) ≡ true → (x : Request) × (w.waits ≡ false) × (next_of s.kind s.arg w.value w.reply w.answers ≡ next.Ask x)
asked_in s w first p h = by w.waits refl (next_of s.kind s.arg w.value w.reply w.answers) refl
  where
    by : (b : Bool) → w.waits ≡ b → (n : Next) → next_of s.kind s.arg w.value w.reply w.answers ≡ n → (x : Request) × (w.waits ≡ false) × (next_of s.kind s.arg w.value w.reply w.answers ≡ next.Ask x)
    by true waits n is = absurd (false≢true (sym (ap (λ b. is_request_at first p (asked_by (if b then None else Some (next_of s.kind s.arg w.value w.reply w.answers)))) waits) ∙ h))
    by false goes (next.Ask x) is = (x, goes, is)
    by false goes (next.More v) is =
        absurd (false≢true (sym (ap (λ b. is_request_at first p (asked_by (if b then None else Some (next_of s.kind s.arg w.value w.reply w.answers)))) goes ∙ ap (λ n. is_request_at first p (asked_by (Some n))) is) ∙ h))
    by false goes (next.Give v) is =
        absurd (false≢true (sym (ap (λ b. is_request_at first p (asked_by (if b then None else Some (next_of s.kind s.arg w.value w.reply w.answers)))) goes ∙ ap (λ n. is_request_at first p (asked_by (Some n))) is) ∙ h))

sends_in : (s : NodeState) (w : Service) (v : ℕ) → is_more v (next_in s w) ≡ true → (m : ℕ) × (next_of s.kind s.arg w.value w.reply w.answers ≡ next.More m)
sends_in s w v h = by w.waits refl (next_of s.kind s.arg w.value w.reply w.answers) refl
  where
    by : (b : Bool) → w.waits ≡ b → (n : Next) → next_of s.kind s.arg w.value w.reply w.answers ≡ n → (m : ℕ) × (next_of s.kind s.arg w.value w.reply w.answers ≡ next.More m)
    by true waits n is = absurd (false≢true (sym (ap (λ b. is_more v (if b then None else Some (next_of s.kind s.arg w.value w.reply w.answers))) waits) ∙ h))
    by false goes (next.More m) is = (m, is)
    by false goes (next.Ask x) is =
        absurd (false≢true (sym (ap (λ b. is_more v (if b then None else Some (next_of s.kind s.arg w.value w.reply w.answers))) goes ∙ ap (λ n. is_more v (Some n)) is) ∙ h))
    by false goes (next.Give m) is =
        absurd (false≢true (sym (ap (λ b. is_more v (if b then None else Some (next_of s.kind s.arg w.value w.reply w.answers))) goes ∙ ap (λ n. is_more v (Some n)) is) ∙ h))

pub where_so_then : (b : Bool) (x t : NodeState) → where_so b x ≡ Some t → (b ≡ true) × (x ≡ t)
where_so_then true x t e = (refl, same_Some x t e)
where_so_then false x t e = absurd (none-some t e)

answer_bounded : (s : NodeState) (v : ℕ) → IsBounded s → ((w : Service) → s.service ≡ Some w → length w.answers < calls_of s.kind 0 + mores_of s.kind 0) → IsBounded (moves.after_answer s v)
answer_bounded s v bounded few =
    bounded_by s.kind s.service bounded (with_answer v)
    (λ w at. record { answers = omega (arith, length-append w.answers (v ∷ []), few w at); waits = λ e. absurd (false≢true e) })

called_bounded : (first : ℕ) (s : NodeState) (p v : ℕ) → IsBounded s → calls_at first s p ≡ true → IsBounded (moves.after_answer s v)
called_bounded first s p v bounded h =
    answer_bounded s v bounded
    (λ w at.
    let asked = asked_in s w first p (subst (λ o. is_request_at first p (asked_by (option_and_then (next_in s) o)) ≡ true) at h) in
    omega (arith, asks_are_few s.kind s.arg w.value w.reply w.answers asked.0 asked.2))

heard_bounded : (s : NodeState) (v : ℕ) → IsBounded s → moves.waits s ≡ true → IsBounded (moves.after_answer s v)
heard_bounded s v bounded h =
    answer_bounded s v bounded
    (λ w at. omega (arith, (bounded w at).waits (subst (λ o. option_map_or (λ (x : Service). x.waits) o false ≡ true) at h)))

more_bounded : (s : NodeState) (v : ℕ) → IsBounded s → is_more v (moves.next s) ≡ true → IsBounded (moves.after_more s)
more_bounded s v bounded h =
    bounded_by s.kind s.service bounded with_wait
    (λ w at.
    let sent = sends_in s w v (subst (λ o. is_more v (option_and_then (next_in s) o) ≡ true) at h) in
    record { answers = (bounded w at).answers; waits = λ e. mores_are_few s.kind s.arg w.value w.reply w.answers sent.0 sent.1 })

take_bounded : (s : NodeState) (v : ℕ) → IsBounded (moves.after_take s v)
take_bounded s v u is =
    subst (IsBoundedService s.kind) (same_Some (record { value = v; reply = (serve s.kind s.arg s.kept v).reply; answers = []; waits = false }) u is)
    (record { answers = omega arith; waits = λ e. absurd (false≢true e) })

end_bounded : (c b : Bool) (x y t : NodeState) → (if c then Some x else where_so b y) ≡ Some t → (c ≡ true → IsBounded x) → IsBounded y → IsBounded t
end_bounded true b x y t e left right = subst IsBounded (same_Some x t e) (left refl)
end_bounded false b x y t e left right = subst IsBounded (where_so_then b y t e).1 right

after_event_bounded : (first : ℕ) (s t : NodeState) (e : Event) → IsBounded s → after_event first s e ≡ Some t → IsBounded t
after_event_bounded first s t (Begin p j v) b h = subst IsBounded (where_so_then (is_request first p v (moves.wants s)) s t h).1 b
after_event_bounded first s t (Call p j v) b h = subst IsBounded (where_so_then (is_request first p v (asked_by (moves.next s))) s t h).1 b
after_event_bounded first s t (Miss p) b h =
    let w = where_so_then (calls_at first s p) (moves.after_answer s 0) t h in subst IsBounded w.1 (called_bounded first s p 0 b w.0)
after_event_bounded first s t (Take p j v) b h = subst IsBounded (where_so_then (may_take s) (moves.after_take s v) t h).1 (take_bounded s v)
after_event_bounded first s t (More p j v) b h =
    let w = where_so_then (is_more v (moves.next s)) (moves.after_more s) t h in subst IsBounded w.1 (more_bounded s v b w.0)
after_event_bounded first s t (Ask p j v) b h = subst IsBounded (where_so_then (awaits_at first s p && v == moves.replies s) s t h).1 b
after_event_bounded first s t (Hear p j v) b h =
    let w = where_so_then (moves.waits s) (moves.after_answer s v) t h in subst IsBounded w.1 (heard_bounded s v b w.0)
after_event_bounded first s t (Give p j v) b h = subst IsBounded (where_so_then (is_give v (moves.next s)) (moves.after_give s) t h).1 (λ w at. absurd (none-some w at))
after_event_bounded first s t (End p j v) b h =
    end_bounded (calls_at first s p) (wants_at first s p) (moves.after_answer s v) (moves.after_end s v) t h (λ c. called_bounded first s p v b c) b
after_event_bounded first s t _ b h = absurd (none-some t h)

fold_from_bounds : (first : ℕ) (t : NodeState) (o : Option NodeState) (es : List Event) → ((u : NodeState) → o ≡ Some u → IsBounded u) → fold (fold_next first) o es ≡ Some t → IsBounded t
fold_from_bounds first t o [] b e = b t e
fold_from_bounds first t None (x ∷ es) b e = absurd (none-some t (sym (fold_none first es) ∙ e))
fold_from_bounds first t (Some u) (x ∷ es) b e = fold_from_bounds first t (after_event first u x) es (λ w is. after_event_bounded first u w x (b u refl) is) e

pub fold_bounds : (k : Kind) (arg first : ℕ) (kept : Kept) (es : List Event) (t : NodeState) → fold_of k arg first kept es ≡ Some t → IsBounded t
fold_bounds k arg first kept es t e =
    fold_from_bounds first t (Some (at_rest k arg kept)) es
    (λ u is. subst IsBounded (same_Some (at_rest k arg kept) u is) (λ w at. absurd (none-some w at)))
    e
