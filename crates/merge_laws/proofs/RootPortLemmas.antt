-- What a node begins by itself it begins at a port at which no service calls: each kind that wants something has one requirement, and no
-- provision that depends on it.
use Rattle.std.proofs.Common.{◌≡◌, ◌∙◌, ℕ, ◌+◌, ◌<◌, Bool, true, false, cond, ◌&&◌, List, [], ◌∷◌, ◌++◌, length, Option, Some, None, refl, sym, ap, ap₂, subst, arith}
use Rattle.std.specs.Prelude.{◌==◌, fold, option_map, option_and_then}
use Rattle.std.specs.List.{list_any}
use Rattle.std.specs.Option.{option_map_or}
use Rattle.std.proofs.lemmas.Bool.{and_parts, both_ways, eq-eqb, eqb-true}
use Rattle.std.proofs.lemmas.Option.{same_Some}
use Rattle.base.proofs.OptionLaws.{map_or_true}
use Rattle.config_graph.specs.Kinds.{is_depended_on, row}
use Rattle.config_graph.specs.declared.kind.Kind.{Kind}
use Rattle.config_graph.specs.declared.kind.Kind.TheVariants.{Philosopher, Source, Buffer, Teller, Asker}
use Rattle.component_trait.specs.declared.next.Ask.{Ask}
use Rattle.component_trait.specs.Fold.{after_event, fold_from, fold_next}
use Rattle.component_trait.specs.Moves as moves
use Rattle.component_trait.specs.States.{Kept, NodeState, at_rest}
use Rattle.component_trait.specs.Tables.{opening, wants}
use Rattle.component_trait.proofs.FoldLaws.{fold_keeps_kind, fold_none, where_so_then}
use Rattle.quiesce_core.specs.declared.event.Event.{Event}
use Rattle.quiesce_core.specs.declared.event.Event.TheVariants.{Begin}
use Rattle.quiesce_core.specs.declared.state.Slot.{Slot}
use Rattle.quiesce_core.specs.State.{State, empty, gate, owner, slot}
use Rattle.quiesce_core.specs.Effect.{effect}
use Rattle.quiesce_core.specs.Runs.{IsRun, done_by, done_from, is_doer, state_after}
use Rattle.quiesce_core.proofs.InductionLaws.{place}
use Rattle.quiesce_core.proofs.RunLaws.{runs_are_well_formed}
use Rattle.quiesce_core.proofs.TableLaws.{gate_place}
use Rattle.quiesce_laws.specs.Events.{is_root_of}
use Rattle.quiesce_laws.proofs.ExtensionLaws.{extends_further}
use Rattle.quiesce_laws.proofs.OneRootLaws.{found}
use Rattle.change_spec.specs.Opening.{argument_of, fold_at, fold_of_node, fold_within}
use Rattle.merge_laws.specs.Guarded.{is_called_at}

-- ---- what kinds want

asked : (b : Bool) (v : ℕ) (r : Ask) → cond b (Some (record { require = 0; value = v })) None ≡ Some r → r.require ≡ 0
asked true v r h = ap (λ (x : Ask). x.require) (sym (same_Some (record { require = 0; value = v }) r h))
asked false v r h = absurd (cc (h))

buffered : (a c t : ℕ) (vs : List ℕ) (r : Ask) → wants Buffer a (record { count = c; total = t; items = vs }) ≡ Some r → r.require ≡ 0
buffered a c t [] r h = absurd (cc (h))
buffered a c t (v ∷ vs) r h = ap (λ (x : Ask). x.require) (sym (same_Some (record { require = 0; value = v }) r h))

record IsFree (k : Kind) (r : ℕ) : Type 0 where
  pub first : r ≡ 0
  pub undepended : is_depended_on k 0 ≡ false
  pub there : 0 < length (row k).requires_

wants_free : (k : Kind) (a : ℕ) (x : Kept) (r : Ask) → wants k a x ≡ Some r → IsFree k r.require
wants_free Philosopher a x r h = record { first = asked _ 0 r h; undepended = refl; there = omega arith }
wants_free Source a x r h = record { first = asked _ (x.count + 1) r h; undepended = refl; there = omega arith }
wants_free Buffer a x r h = record { first = buffered a x.count x.total x.items r h; undepended = refl; there = omega arith }
wants_free Teller a x r h = record { first = asked _ (x.count + 1) r h; undepended = refl; there = omega arith }
wants_free Asker a x r h = record { first = asked _ (x.count + 1) r h; undepended = refl; there = omega arith }
wants_free _ a x r h = absurd (cc (h))

-- ---- an event in a log that has a fold

record Passed (first : ℕ) (o : Option NodeState) (xs : List Event) (e : Event) : Type 0 where
  pub at : NodeState
  pub then_ : NodeState
  pub before : fold (fold_next first) o xs ≡ Some at
  pub passes : after_event first at e ≡ Some then_

passed : (first : ℕ) (o : Option NodeState) (xs : List Event) (e : Event) (ys : List Event) (z : NodeState) → fold (fold_next first) o (xs ++ e ∷ ys) ≡ Some z → Passed first o xs e
passed first None xs e ys z h = absurd (cc (fold_none first (xs ++ e ∷ ys), h))
passed first (Some s) [] e ys z h = by (after_event first s e) refl
  where
    by : (o : Option NodeState) → after_event first s e ≡ o → Passed first (Some s) [] e
    by None is = absurd (cc (fold_none first ys, sym (ap (λ o. fold (fold_next first) o ys) is) ∙ h))
    by (Some t) is = record { at = s; then_ = t; before = refl; passes = is }
passed first (Some s) (x ∷ xs) e ys z h =
    let w = passed first (after_event first s x) xs e ys z h in record { at = w.at; then_ = w.then_; before = w.before; passes = w.passes }

done_append : (n : ℕ) (xs ys : List Event) (s : State) → done_from s n (xs ++ ys) ≡ done_from s n xs ++ done_from (fold effect s xs) n ys
done_append n [] ys s = refl
done_append n (e ∷ xs) ys s = by (is_doer s n e) (done_append n xs ys (effect s e))
  where
    by : (b : Bool) → done_from (effect s e) n (xs ++ ys) ≡ done_from (effect s e) n xs ++ done_from (fold effect (effect s e) xs) n ys
        → cond b (e ∷ done_from (effect s e) n (xs ++ ys)) (done_from (effect s e) n (xs ++ ys))
        ≡ cond b (e ∷ done_from (effect s e) n xs) (done_from (effect s e) n xs) ++ done_from (fold effect (effect s e) xs) n ys
    by true h = ap (λ es. e ∷ es) h
    by false h = h

-- ---- so a begin is at such a port

-- a node that has a fold opened with what was kept
pub record Folded (es : List Event) (n : ℕ) (m : Slot) (z : NodeState) : Type 0 where
  pub kept : Kept
  pub folds : fold_from m.first_port (at_rest m.node.kind (argument_of m) kept) (done_by n es) ≡ Some z

folded_by : (es : List Event) (n : ℕ) (m : Slot) (o : Option Kept) (z : NodeState) → option_and_then (fold_at m (done_by n es)) o ≡ Some z → Folded es n m z
folded_by es n m None z h = absurd (cc (h))
folded_by es n m (Some k) z h = record { kept = k; folds = h }

pub folded : (es : List Event) (n : ℕ) (m : Slot) (z : NodeState) → slot (state_after es).config n ≡ Some m → fold_of_node es n ≡ Some z → Folded es n m z
folded es n m z is h = folded_by es n m _ z (sym (ap (λ o. option_and_then (λ (k : Slot).
    option_and_then (fold_at k (done_by n es))
    (option_map_or (λ j. option_map (λ (s : NodeState). s.kept) (fold_within es n j)) k.from
    (Some (opening k.node.kind (argument_of k))))) o) is) ∙ h)

begin_free : (es before after : List Event) (p k v : ℕ) → IsRun es → es ≡ before ++ Begin p k v ∷ after
    → ((n : ℕ) (m : Slot) → slot (state_after es).config n ≡ Some m → (z : NodeState) × (fold_of_node es n ≡ Some z)) → is_called_at (state_after es).config p ≡ false
begin_free es before after p k v run is folds =
    let whole = subst IsRun is run in
    let here = place before after (Begin p k v) whole in
    let s = state_after before in
    let n = owner s.config p in
    let made = gate_place s p here.legal.live in
    let grown = extends_further before (Begin p k v ∷ after) whole in
    let o = here.well.sound.ports p made in
    let m = grown.nodes n o.node o.made in
    let there : slot (state_after es).config n ≡ Some m.now = ap (λ xs. slot (state_after xs).config n) is ∙ m.there in
    let z = folds n m.now there in
    let f = folded es n m.now z.0 there z.1 in
    let done : done_by n es ≡ done_by n before ++ Begin p k v ∷ done_from (effect s (Begin p k v)) n after =
    ap (done_by n) is ∙ done_append n before (Begin p k v ∷ after) empty
    ∙ ap (λ b. done_by n before ++ cond b (Begin p k v ∷ done_from (effect s (Begin p k v)) n after) (done_from (effect s (Begin p k v)) n after)) (eq-eqb n n refl) in
    let w = passed m.now.first_port (Some (at_rest m.now.node.kind (argument_of m.now) f.kept)) (done_by n before) (Begin p k v) (done_from (effect s (Begin p k v)) n after) z.0
    (sym (ap (fold_from m.now.first_port (at_rest m.now.node.kind (argument_of m.now) f.kept)) done) ∙ f.folds) in
    let asks = map_or_true (λ (x : Ask). m.now.first_port + x.require == p && x.value == v) (moves.wants w.at) (where_so_then _ w.at w.then_ w.passes).0 in
    let kind : w.at.kind ≡ m.now.node.kind = fold_keeps_kind m.now.first_port (at_rest m.now.node.kind (argument_of m.now) f.kept) w.at (done_by n before) w.before in
    let free : IsFree m.now.node.kind asks.0.require = subst (λ c. IsFree c asks.0.require) kind (wants_free w.at.kind w.at.arg w.at.kept asks.0 asks.1) in
    let port : m.now.first_port + asks.0.require ≡ p = eqb-true (m.now.first_port + asks.0.require) p (and_parts (m.now.first_port + asks.0.require == p) _ asks.2).0 in
    let p_is : p ≡ m.now.first_port + 0 = sym port ∙ ap (λ r. m.now.first_port + r) free.first in
    let d = (state_after es).config in
    let row_ = (runs_are_well_formed es run).sound.rows n m.now there in
    let require : (gate d p).require ≡ 0 = ap (λ i. (gate d i).require) p_is ∙ row_.in_order 0 free.there in
    let owned : owner d p ≡ n = ap (λ i. owner d i) p_is ∙ row_.owned 0 free.there in
    ap₂ (λ i r. option_map_or (λ (x : Slot). is_depended_on x.node.kind r) (slot d i) false) owned require
    ∙ ap (λ q. option_map_or (λ (x : Slot). is_depended_on x.node.kind 0) q false) there ∙ free.undepended

pub root_is_begin : (p k : ℕ) (e : Event) → is_root_of p k e ≡ true → (v : ℕ) × (e ≡ Begin p k v)
root_is_begin p k (Begin q j v) h = let w = and_parts (q == p) (j == k) h in (v, ap₂ (λ a b. Begin a b v) (eqb-true q p w.0) (eqb-true j k w.1))
root_is_begin p k _ h = absurd (both_ways false refl h)

pub roots_are_free : (es : List Event) → IsRun es → ((n : ℕ) (m : Slot) → slot (state_after es).config n ≡ Some m → (z : NodeState) × (fold_of_node es n ≡ Some z))
    → (p k : ℕ) → list_any (is_root_of p k) es ≡ true → is_called_at (state_after es).config p ≡ false
roots_are_free es run folds p k h =
    let w = found (is_root_of p k) es h in
    let b = root_is_begin p k w.it w.passes in
    begin_free es w.before w.after p k b.0 run (w.parts ∙ ap (λ e. w.before ++ e ∷ w.after) b.1) folds
