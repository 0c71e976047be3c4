-- A value on its way through a row: where it stands, and how each event of a node leads it on.
use Rattle.std.proofs.Common.{◌≡◌, ◌∙◌, ℕ, ◌+◌, ◌%◌, ◌≤◌, Bool, true, false, List, [], ◌∷◌, ◌++◌, Option, Some, None, refl, sym, ap, arith}
use Rattle.std.specs.Prelude.{⊤, ◌==◌, ◌&&◌, ◌||◌, is_none}
use Rattle.std.proofs.lemmas.Bool.{and_parts, both_ways, eqb-true}
use Rattle.std.proofs.lemmas.Option.{none-some}
use Rattle.config_graph.specs.declared.TheConstants.{VALUE_LIMIT}
use Rattle.config_graph.specs.declared.kind.Kind.{Kind}
use Rattle.config_graph.specs.declared.kind.Kind.TheVariants.{Map, Sink}
use Rattle.component_trait.specs.Fold.{after_event, may_take}
use Rattle.component_trait.specs.States.{Kept, NodeState}
use Rattle.component_trait.specs.States as node
use Rattle.component_trait.specs.Moves as moves
use Rattle.component_trait.proofs.FoldLaws.{where_so_then}
use Rattle.quiesce_word.specs.Phases.{is_idle, is_asked, is_answered}
use Rattle.quiesce_core.specs.Rules.{is_taken}
use Rattle.quiesce_core.specs.State.{Configuration, State, exchange, owner, slot, target}
use Rattle.quiesce_core.specs.declared.event.Event.{Event}
use Rattle.quiesce_core.specs.declared.event.Event.TheVariants.{Begin, Call, Take, Give, End, More, Ask, Hear, Miss, Close, Reopen, Make, Link, Unlink, Remove}
use Rattle.quiesce_core.specs.declared.state.Slot.{Slot}
use Rattle.result_laws.proofs.EventLaws.{is_take, kept_but_by_take}
use Rattle.result_laws.proofs.FactLaws.{at_work, of_parts}

-- ---- the way of a value

-- a map on the way: its slot, its argument, its one port
pub record Stop : Type 0 where
  pub at : ℕ
  pub arg : ℕ
  pub port : ℕ

-- a port leads to this node of this kind, and no other port does
pub record OnlyTo (c : Configuration) (p n : ℕ) (k : Kind) : Type 0 where
  pub leads : target c p ≡ Some (record { node = n; provide = 0 })
  pub only : (r x : ℕ) → target c r ≡ Some (record { node = n; provide = x }) → r ≡ p
  pub made : Slot
  pub there : slot c n ≡ Some made
  pub kind : made.node.kind ≡ k

pub record ToMap (c : Configuration) (f : ℕ → NodeState) (p : ℕ) (m : Stop) : Type 0 where
  pub to : OnlyTo c p m.at Map
  pub first : to.made.first_port ≡ m.port
  pub owned : owner c m.port ≡ m.at
  pub kind : (f m.at).kind ≡ Map
  pub arg : (f m.at).arg ≡ m.arg

pub record ToSink (c : Configuration) (f : ℕ → NodeState) (p t : ℕ) : Type 0 where
  pub to : OnlyTo c p t Sink
  pub kind : (f t).kind ≡ Sink

-- from port p through these maps to the sink
abbrev pub Way : Configuration → (ℕ → NodeState) → ℕ → List Stop → ℕ → Type 0
Way c f p [] t = ToSink c f p t
Way c f p (m ∷ ms) t = ToMap c f p m × Way c f m.port ms t

-- what a value becomes on the way
abbrev pub passed : ℕ → List Stop → ℕ
passed x [] = x
passed x (m ∷ ms) = passed ((x + m.arg) % VALUE_LIMIT) ms

abbrev pub last_port : ℕ → List Stop → ℕ
last_port p [] = p
last_port p (m ∷ ms) = last_port m.port ms

-- ---- where a value stands

-- on each port on the way at most so many transactions began
abbrev pub Few : State → ℕ → List Stop → Type 0
Few s k [] = ⊤
Few s k (m ∷ ms) = ((exchange s m.port).serial ≤ k) × Few s k ms

-- In a map, before which n values have gone through the row: it hasn't called yet, or its call is open, or it has its
-- answer, which isn't 0. One more transaction began at its port and at those behind it where it has called.
pub data Inside (s : State) (q n : ℕ) (Before After : Type 0) (Deeper : Bool → Type 0) : List ℕ → Bool → Type 0 where
  not_yet : is_idle (exchange s q).phase ≡ true → (exchange s q).serial ≤ n → Before → Inside s q n Before After Deeper [] false
  below : (d : Bool) → (exchange s q).serial ≤ n + 1 → Deeper d → Inside s q n Before After Deeper [] d
  back : (a : ℕ) (d : Bool) → is_idle (exchange s q).phase ≡ true → (a == 0) ≡ false → d ≡ true → (exchange s q).serial ≤ n + 1 → After → Inside s q n Before After Deeper (a ∷ []) d

pub record MapHas (s : State) (k : NodeState) (m : Stop) (x n : ℕ) (Before After : Type 0) (Deeper : Bool → Type 0) (d : Bool) : Type 0 where
  pub kept : Kept
  pub reply : ℕ
  pub answers : List ℕ
  pub is : k ≡ at_work Map m.arg kept x reply answers
  pub inside : Inside s m.port n Before After Deeper answers d

pub record SinkHas (n : NodeState) (x : ℕ) (d : Bool) : Type 0 where
  pub arg : ℕ
  pub kept : Kept
  pub is : n ≡ at_work Sink arg kept x 1 []
  pub given : d ≡ true

-- At a port: it waits, or is taken, or was answered, not by 0; with whether the sink has got it.
pub data At (s : State) (p x : ℕ) (Before After : Type 0) (Has : Bool → Type 0) (d : Bool) : Type 0 where
  waiting : is_asked (exchange s p).phase ≡ true → (exchange s p).value ≡ x → is_taken s p ≡ false → d ≡ false → Before → At s p x Before After Has d
  taken : is_asked (exchange s p).phase ≡ true → (exchange s p).value ≡ x → is_taken s p ≡ true → Has d → At s p x Before After Has d
  answered : is_answered (exchange s p).phase ≡ true → ((exchange s p).value == 0) ≡ false → d ≡ true → After → At s p x Before After Has d

abbrev pub Going : State → (ℕ → NodeState) → ℕ → ℕ → ℕ → List Stop → ℕ → Bool → Type 0
Going s f n p x [] t = At s p x ⊤ ⊤ (SinkHas (f t) x)
Going s f n p x (m ∷ ms) t =
    At s p x (Few s n (m ∷ ms)) (Few s (n + 1) (m ∷ ms))
    (MapHas s (f m.at) m x n (Few s n ms) (Few s (n + 1) ms) (Going s f n m.port ((x + m.arg) % VALUE_LIMIT) ms t))

-- ---- what nodes at work do

pub data MapDoes (first : ℕ) (a : ℕ) (kept : Kept) (x r : ℕ) (answers : List ℕ) (t : NodeState) : Event → Type 0 where
  calls : (p j v : ℕ) → answers ≡ [] → p ≡ first → v ≡ (x + a) % VALUE_LIMIT → t ≡ at_work Map a kept x r answers → MapDoes first a kept x r answers t (Call p j v)
  misses : (p : ℕ) → answers ≡ [] → p ≡ first → t ≡ at_work Map a kept x r (0 ∷ []) → MapDoes first a kept x r answers t (Miss p)
  asks : (p j v : ℕ) → answers ≡ [] → p ≡ first → MapDoes first a kept x r answers t (Ask p j v)
  ends : (p j v : ℕ) → answers ≡ [] → p ≡ first → t ≡ at_work Map a kept x r (v ∷ []) → MapDoes first a kept x r answers t (End p j v)
  gives : (p j v : ℕ) (more_ : List ℕ) → answers ≡ v ∷ more_ → MapDoes first a kept x r answers t (Give p j v)

port_is : (first p : ℕ) (b : Bool) → ((first + 0 == p) && b) ≡ true → p ≡ first
port_is first p b h = let same = eqb-true (first + 0) p (and_parts (first + 0 == p) b h).0 in omega (arith, same)

or_no_more : (b : Bool) → (b || false) ≡ true → b ≡ true
or_no_more true h = refl
or_no_more false h = h

pub map_does : (first a : ℕ) (kept : Kept) (x r : ℕ) (answers : List ℕ) (e : Event) (t : NodeState) → after_event first (at_work Map a kept x r answers) e ≡ Some t
    → MapDoes first a kept x r answers t e
map_does first a kept x r answers (Begin p j v) t h = absurd (none-some t h)
map_does first a kept x r [] (Call p j v) t h =
    let w = where_so_then ((first + 0 == p) && ((x + a) % VALUE_LIMIT == v)) (at_work Map a kept x r []) t h in
    calls p j v refl (port_is first p ((x + a) % VALUE_LIMIT == v) w.0) (sym (eqb-true ((x + a) % VALUE_LIMIT) v (and_parts (first + 0 == p) ((x + a) % VALUE_LIMIT == v) w.0).1)) (sym w.1)
map_does first a kept x r (b ∷ bs) (Call p j v) t h = absurd (none-some t h)
map_does first a kept x r [] (Miss p) t h =
    let w = where_so_then (first + 0 == p) (at_work Map a kept x r (0 ∷ [])) t h in misses p refl (let same = eqb-true (first + 0) p w.0 in omega (arith, same)) (sym w.1)
map_does first a kept x r (b ∷ bs) (Miss p) t h = absurd (none-some t h)
map_does first a kept x r answers (Take p j v) t h = absurd (none-some t h)
map_does first a kept x r [] (Give p j v) t h = absurd (none-some t h)
map_does first a kept x r (b ∷ bs) (Give p j v) t h =
    let w = where_so_then (b == v) _ t h in gives p j v bs (ap (λ i. i ∷ bs) (eqb-true b v w.0))
map_does first a kept x r [] (More p j v) t h = absurd (none-some t h)
map_does first a kept x r (b ∷ bs) (More p j v) t h = absurd (none-some t h)
map_does first a kept x r answers (Hear p j v) t h = absurd (none-some t h)
map_does first a kept x r [] (Ask p j v) t h =
    let w = where_so_then (((first + 0 == p) || false) && (v == 0)) (at_work Map a kept x r []) t h in
    asks p j v refl (let same = eqb-true (first + 0) p (or_no_more (first + 0 == p) (and_parts ((first + 0 == p) || false) (v == 0) w.0).0) in omega (arith, same))
map_does first a kept x r (b ∷ bs) (Ask p j v) t h = absurd (none-some t h)
map_does first a kept x r [] (End p j v) t h =
    let w = where_so_then (first + 0 == p) (at_work Map a kept x r (v ∷ [])) t h in
    ends p j v refl (let same = eqb-true (first + 0) p w.0 in omega (arith, same)) (sym w.1)
map_does first a kept x r (b ∷ bs) (End p j v) t h = absurd (none-some t h)
map_does first a kept x r answers (Close p) t h = absurd (none-some t h)
map_does first a kept x r answers (Reopen p) t h = absurd (none-some t h)
map_does first a kept x r answers (Make n m from) t h = absurd (none-some t h)
map_does first a kept x r answers (Link p n y) t h = absurd (none-some t h)
map_does first a kept x r answers (Unlink p) t h = absurd (none-some t h)
map_does first a kept x r answers (Remove n) t h = absurd (none-some t h)

pub data SinkDoes (a : ℕ) (kept : Kept) (x : ℕ) (t : NodeState) : Event → Type 0 where
  gives_1 : (p j v : ℕ) → v ≡ 1 → t.kept ≡ kept → SinkDoes a kept x t (Give p j v)

pub sink_does : (first a : ℕ) (kept : Kept) (x : ℕ) (e : Event) (t : NodeState) → after_event first (at_work Sink a kept x 1 []) e ≡ Some t → SinkDoes a kept x t e
sink_does first a kept x (Give p j v) t h =
    let w = where_so_then (1 == v) (record { kind = Sink; arg = a; kept = kept; service = None }) t h in
    gives_1 p j v (sym (eqb-true 1 v w.0)) (sym (ap (λ (n : NodeState). n.kept) w.1))
sink_does first a kept x (Begin p j v) t h = absurd (none-some t h)
sink_does first a kept x (Call p j v) t h = absurd (none-some t h)
sink_does first a kept x (Take p j v) t h = absurd (none-some t h)
sink_does first a kept x (More p j v) t h = absurd (none-some t h)
sink_does first a kept x (Hear p j v) t h = absurd (none-some t h)
sink_does first a kept x (Ask p j v) t h = absurd (none-some t h)
sink_does first a kept x (End p j v) t h = absurd (none-some t h)
sink_does first a kept x (Miss p) t h = absurd (none-some t h)
sink_does first a kept x (Close p) t h = absurd (none-some t h)
sink_does first a kept x (Reopen p) t h = absurd (none-some t h)
sink_does first a kept x (Make n m from) t h = absurd (none-some t h)
sink_does first a kept x (Link p n y) t h = absurd (none-some t h)
sink_does first a kept x (Unlink p) t h = absurd (none-some t h)
sink_does first a kept x (Remove n) t h = absurd (none-some t h)

-- a node of a kind, by its parts
-- an idle map, and an idle sink, take a value up
pub record TakesUp (n t : NodeState) (v : ℕ) (k : Kind) (r : ℕ) : Type 0 where
  pub idle : n.service ≡ None
  pub kept : Kept
  pub is : t ≡ at_work k n.arg kept v r []

no_service : (o : Option node.Service) → is_none o ≡ true → o ≡ None
no_service None h = refl
no_service (Some w) h = absurd (both_ways false refl h)

pub map_takes : (first : ℕ) (n t : NodeState) (p j v : ℕ) → n.kind ≡ Map → after_event first n (Take p j v) ≡ Some t → TakesUp n t v Map 0
map_takes first n t p j v kind h =
    let w = where_so_then (may_take n) _ t h in
    let none_ = no_service n.service (and_parts _ (is_none n.service) w.0).1 in
    record { idle = none_; kept = n.kept; is = sym w.1 ∙ ap (λ k. moves.after_take (record n { kind = k }) v) kind }

pub sink_takes : (first : ℕ) (n t : NodeState) (p j v : ℕ) → n.kind ≡ Sink → after_event first n (Take p j v) ≡ Some t
    → TakesUp n t v Sink 1 × (t.kept.items ≡ n.kept.items ++ v ∷ [])
sink_takes first n t p j v kind h =
    let w = where_so_then (may_take n) _ t h in
    let none_ = no_service n.service (and_parts _ (is_none n.service) w.0).1 in
    let is = sym w.1 ∙ ap (λ k. moves.after_take (record n { kind = k }) v) kind in
    (record { idle = none_; kept = node.with_items (n.kept.items ++ v ∷ []); is = is }, ap (λ (x : NodeState). x.kept.items) is)

-- an event of a sink that isn't a Take leaves its items
pub sink_keeps : (first : ℕ) (n t : NodeState) (e : Event) → n.kind ≡ Sink → is_take e ≡ false → after_event first n e ≡ Some t → t.kept ≡ n.kept
sink_keeps first n t e kind other h = kept_but_by_take first n t e (ap (λ (x : NodeState). moves.wants x) (of_parts n Sink n.service kind refl)) other h
