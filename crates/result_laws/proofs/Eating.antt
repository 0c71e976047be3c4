-- A philosopher counts its transactions that were answered 1.
use Rattle.std.proofs.Common.{◌≡◌, ◌∙◌, ℕ, ◌+◌, Bool, true, false, cond, List, [], ◌∷◌, Option, Some, None, refl, sym, ap, subst, arith}
use Rattle.std.specs.Prelude.{◌==◌, Contains, fold, option_and_then, option_map}
use Rattle.std.specs.List.{count_by}
use Rattle.std.specs.Option.{option_map_or}
use Rattle.std.proofs.lemmas.List.Elements.{All-contains}
use Rattle.std.proofs.lemmas.List.Sums.{sum_by-cons}
use Rattle.std.proofs.lemmas.Option.{none-some, same_Some}
use Rattle.component_trait.proofs.FoldLaws.{fold_none}
use Rattle.component_trait.specs.Fold.{after_event, fold_from, fold_next, is_request, where_so}
use Rattle.component_trait.specs.Moves as moves
use Rattle.component_trait.specs.States.{Kept, NodeState, at_rest}
use Rattle.component_trait.specs.Tables as tables
use Rattle.config_graph.specs.declared.kind.Kind.TheVariants.{Philosopher}
use Rattle.quiesce_core.specs.Runs.{done_by, state_after}
use Rattle.quiesce_core.specs.State.{slot}
use Rattle.quiesce_core.specs.declared.event.Event.{Event}
use Rattle.quiesce_core.specs.declared.event.Event.TheVariants as event
use Rattle.quiesce_core.specs.declared.state.Slot.{Slot}
use Rattle.report_types.specs.declared.report.Last.TheVariants as last
use Rattle.report_types.specs.declared.report.NodeLog.{NodeLog}
use Rattle.report_types.specs.declared.report.Report.{Report}
use Rattle.change_spec.specs.Endings.{moved_to}
use Rattle.change_spec.specs.Lawful.{EndsAs, IsFolded, IsLogIn, Lawful}
use Rattle.change_spec.specs.Members.{events}
use Rattle.change_spec.specs.Opening.{argument_of, fold_at, fold_of_node, fold_within}
use Rattle.change_spec.specs.Statements.{Statement}
use Rattle.result_laws.specs.Eating.{is_meal}

-- ---- one event of a philosopher

record Eats (a count : ℕ) (t : NodeState) : Type 0 where
  kept : Kept
  is : t ≡ at_rest Philosopher a kept
  counts : kept.count ≡ count

stays_where_so : (b : Bool) (s t : NodeState) → where_so b s ≡ Some t → s ≡ t
stays_where_so true s t h = same_Some s t h
stays_where_so false s t h = absurd (none-some t h)

eats_nothing : (a : ℕ) (s : Kept) (b : Bool) (t : NodeState) → where_so b (at_rest Philosopher a s) ≡ Some t → Eats a (s.count + 0) t
eats_nothing a s b t h = record { kept = s; is = sym (stays_where_so b (at_rest Philosopher a s) t h); counts = omega arith }

eats_next : (first a : ℕ) (s : Kept) (e : Event) (t : NodeState) → after_event first (at_rest Philosopher a s) e ≡ Some t → Eats a (s.count + cond (is_meal e) 1 0) t
eats_next first a s (event.Begin p k v) t h = eats_nothing a s (is_request first p v (moves.wants (at_rest Philosopher a s))) t h
eats_next first a s (event.Ask p k v) t h = eats_nothing a s _ t h
eats_next first a s (event.End p k v) t h = record {
  kept = tables.kept_after_end Philosopher s v;
  is = sym (stays_where_so _ (at_rest Philosopher a (tables.kept_after_end Philosopher s v)) t h);
  counts = by (v == 1);
}
  where
    by : (b : Bool) → (cond b (Rattle.component_trait.specs.States.with_count (s.count + 1)) s).count ≡ s.count + cond b 1 0
    by true = refl
    by false = omega arith
eats_next first a s (event.Call p k v) t h = absurd (none-some t h)
eats_next first a s (event.Miss p) t h = absurd (none-some t h)
eats_next first a s (event.Take p k v) t h = absurd (none-some t h)
eats_next first a s (event.Give p k v) t h = absurd (none-some t h)
eats_next first a s (event.More p k v) t h = absurd (none-some t h)
eats_next first a s (event.Hear p k v) t h = absurd (none-some t h)
eats_next first a s _ t h = absurd (none-some t h)

-- ---- all of its events

all_eaten : (first a : ℕ) (s : Kept) (es : List Event) (t : NodeState) → fold_from first (at_rest Philosopher a s) es ≡ Some t → Eats a (s.count + count_by is_meal es) t
all_eaten first a s [] t h = record { kept = s; is = sym (same_Some (at_rest Philosopher a s) t h); counts = omega arith }
all_eaten first a s (e ∷ es) t h = by (λ k g. all_eaten first a k es t g) (after_event first (at_rest Philosopher a s) e) refl h
  where
    by : ((k : Kept) → fold_from first (at_rest Philosopher a k) es ≡ Some t → Eats a (k.count + count_by is_meal es) t)
        → (o : Option NodeState) → after_event first (at_rest Philosopher a s) e ≡ o → fold (fold_next first) o es ≡ Some t → Eats a (s.count + count_by is_meal (e ∷ es)) t
    by later_ None is g = absurd (none-some t (sym (fold_none first es) ∙ g))
    by later_ (Some u) is g =
        let one = eats_next first a s e u is in
        let rest = later_ one.kept (subst (λ x. fold_from first x es ≡ Some t) one.is g) in
        let sum : count_by is_meal (e ∷ es) ≡ cond (is_meal e) 1 0 + count_by is_meal es = sum_by-cons (λ y. cond (is_meal y) 1 0) e es in
        let first_ = one.counts in
        let later = rest.counts in
        record { kept = rest.kept; is = rest.is; counts = omega (arith, sum, first_, later) }

-- ---- in a report

module _ (statements : List Statement) (report : Report) (l : Lawful statements report) (x : NodeLog) (m : Slot) (xs : List ℕ) (there : Contains report.logs x) (made : slot (state_after (events l.members)).config x.slot ≡ Some m)
    (kind : m.node.kind ≡ Philosopher) (fresh : m.from ≡ None) (ends : x.last ≡ last.State xs) where
  abbrev es : List Event
  es = events l.members

  fold_is : fold_of_node (events l.members) x.slot ≡ fold_from m.first_port (at_rest Philosopher (argument_of m) (tables.opening Philosopher (argument_of m))) x.events
  fold_is =
      let own : done_by x.slot (events l.members) ≡ x.events = All-contains (IsLogIn l.members) report.logs x l.by_them.merge.logs there in
      ap (λ o. option_and_then (λ (k : Slot). option_and_then (fold_at k (done_by x.slot (events l.members)))
      (option_map_or (λ i. option_map (λ (s : NodeState). s.kept) (fold_within (events l.members) x.slot i)) k.from (Some (tables.opening k.node.kind (argument_of k))))) o) made
      ∙ ap (λ f. option_and_then (fold_at m (done_by x.slot (events l.members)))
      (option_map_or (λ i. option_map (λ (s : NodeState). s.kept) (fold_within (events l.members) x.slot i)) f (Some (tables.opening m.node.kind (argument_of m))))) fresh
      ∙ (λ i. fold_from m.first_port (at_rest (kind i) (argument_of m) (tables.opening (kind i) (argument_of m))) (own i))

  pub meals_counted : xs ≡ count_by is_meal x.events ∷ []
  meals_counted =
      by (fold_of_node (events l.members) x.slot) refl (moved_to report.history x.slot)
      (subst (EndsAs (fold_of_node (events l.members) x.slot) (moved_to report.history x.slot)) ends (All-contains (IsFolded l.members report.history) report.logs x l.by_them.folds there))
    where
      by : (o : Option NodeState) → fold_of_node (events l.members) x.slot ≡ o → (j : Option ℕ) → EndsAs (fold_of_node (events l.members) x.slot) j (last.State xs) → xs ≡ count_by is_meal x.events ∷ []
      by None is None h = absurd (subst (λ f. EndsAs f None (last.State xs)) is h)
      by None is (Some i) h = absurd (subst (λ f. EndsAs f (Some i) (last.State xs)) is h)
      by (Some s) is (Some j) h = absurd (subst (λ f. EndsAs f (Some j) (last.State xs)) is h)
      by (Some s) is None h =
          let all = all_eaten m.first_port (argument_of m) (tables.opening Philosopher (argument_of m)) x.events s (sym fold_is ∙ is) in
          let counts = all.counts in
          let same : all.kept.count ≡ count_by is_meal x.events = omega (arith, counts) in
          sym (subst (λ f. EndsAs f None (last.State xs)) is h) ∙ ap moves.numbers all.is ∙ ap (λ n. n ∷ []) same
