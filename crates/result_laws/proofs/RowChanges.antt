-- From a row to a row nothing of it is created unless something of it is unlinked or removed: so a change that makes a node of the
-- row freezes the source, and finds its port closed and idle before it makes one.
use Rattle.std.proofs.Common.{◌≡◌, ◌∙◌, ℕ, true, List, [], ◌∷◌, Option, Some, None, refl, sym, ap, subst, inl, inr}
use Rattle.std.specs.Prelude.{◌⊎◌, All, Contains, option_map, slice_get}
use Rattle.std.proofs.lemmas.Option.{none-some, same_Some}
use Rattle.std.proofs.lemmas.List.Elements.{All-head, All-tail}
use Rattle.base.proofs.ContainsLaws.{Contains-at, Contains-cons_cases, Contains-nil, at_some_place}
use Rattle.config_graph.specs.Cycles.{IsLinked}
use Rattle.config_graph.specs.Graph.{Graph}
use Rattle.config_graph.specs.Sound.{Sound}
use Rattle.config_graph.specs.declared.kind.Kind.{Kind}
use Rattle.config_graph.specs.declared.kind.Kind.TheVariants.{Map, Sink, Source}
use Rattle.config_graph.specs.declared.node.Link.{Link}
use Rattle.config_graph.specs.declared.node.Node.{Node}
use Rattle.config_graph.proofs.GraphByLaws.{linked_if_listed}
use Rattle.config_graph.proofs.PathLaws.{one_place}
use Rattle.change_plan.specs.Differences.{IsGone, IsKeptLink, IsTwin}
use Rattle.change_plan.proofs.StepLaws.{has_node}
use Rattle.result_laws.specs.Describing.{kind_at}
use Rattle.result_laws.specs.Rows.{IsRow, LeadsThrough, is_of_row}
use Rattle.result_laws.proofs.RowLinks.{one_end}

module _ (old new : Graph) (sound_old : Sound old) (sound_new : Sound new) (r : IsRow old) (q : IsRow new) (nodes_kept : (i : ℕ) (k : Kind) → kind_at old i ≡ Some k → is_of_row k ≡ true → IsGone old new i → ⊥)
    (links_kept : (l : Link) (k : Kind) → kind_at old l.from ≡ Some k → is_of_row k ≡ true → Contains old.links l → ¬ (¬ IsKeptLink old new l)) where
  twin_kind : (i j : ℕ) (k : Kind) → IsTwin old new i j → kind_at old i ≡ Some k → kind_at new j ≡ Some k
  twin_kind i j k t h = ap (option_map (λ (n : Node). n.kind)) t.there ∙ sym (ap (option_map (λ (n : Node). n.kind)) t.here) ∙ h

  -- a link of the old row goes on from the twin of the node at which it begins
  step : (i i' j : ℕ) (k : Kind) → kind_at old i ≡ Some k → is_of_row k ≡ true → IsTwin old new i i' → IsLinked old i 0 j 0 → ((j' : ℕ) → IsTwin old new j j' → IsLinked new i' 0 j' 0 → ⊥) → ⊥
  step i i' j k kind of_row t h then = links_kept (record { from = i; require = 0; to = j; provide = 0 }) k kind of_row ((linked_if_listed old sound_old.in_order i 0 j 0).0 h) (λ kept.
      let l = kept.0 in
      let same = kept.2 in
      let one : t.node ≡ same.from.node = same_Some t.node same.from.node (sym t.here ∙ same.from.here) in
      let from : l.from ≡ i' = one_place new.nodes sound_new.paths_rise l.from i' same.from.node same.from.there (t.there ∙ ap Some one) in
      let linked : IsLinked new l.from l.require l.to l.provide = (linked_if_listed new sound_new.in_order l.from l.require l.to l.provide).1 kept.1 in
      then l.to same.to (subst (λ x. IsLinked new i' 0 l.to x) (sym same.provide) (subst (λ x. IsLinked new i' x l.to l.provide) (sym same.require) (subst (λ x. IsLinked new x l.require l.to l.provide) from linked))))

  not_both : (j : ℕ) → kind_at new j ≡ Some Map → kind_at new j ≡ Some Sink → ⊥
  not_both j a b = cc (sym a ∙ b)

  -- each node on the new way is the twin of one on the old
  along : (xs ys : List ℕ) (i i' x : ℕ) (o : Kind) → kind_at old i ≡ Some o → is_of_row o ≡ true → IsTwin old new i i' → LeadsThrough old i xs r.sink → All (λ k. kind_at old k ≡ Some Map) xs → LeadsThrough new i' ys q.sink → All (λ k. kind_at new k ≡ Some Map) ys
      → Contains ys x ⊎ (x ≡ q.sink) → ((j : ℕ) → IsTwin old new j x → ⊥) → ⊥
  along [] [] i i' x o kind of_row t l k l' k' at none_ = step i i' r.sink o kind of_row t l (λ j tw h. by j tw (one_end new i' 0 j 0 q.sink 0 h l') at)
    where
      by : (j : ℕ) → IsTwin old new r.sink j → j ≡ q.sink → Contains [] x ⊎ (x ≡ q.sink) → ⊥
      by j tw one (inl c) = Contains-nil x c
      by j tw one (inr is) = none_ r.sink (subst (IsTwin old new r.sink) (one ∙ sym is) tw)
  along [] (m ∷ ys) i i' x o kind of_row t l k l' k' at none_ = step i i' r.sink o kind of_row t l (λ j tw h.
      let one = one_end new i' 0 j 0 m 0 h l'.0 in
      not_both j (ap (kind_at new) one ∙ All-head (λ k. kind_at new k ≡ Some Map) m ys k') (twin_kind r.sink j Sink tw r.is_sink))
  along (n ∷ xs) [] i i' x o kind of_row t l k l' k' at none_ = step i i' n o kind of_row t l.0 (λ j tw h.
      let one = one_end new i' 0 j 0 q.sink 0 h l' in
      not_both j (twin_kind n j Map tw (All-head (λ k. kind_at old k ≡ Some Map) n xs k)) (ap (kind_at new) one ∙ q.is_sink))
  along (n ∷ xs) (m ∷ ys) i i' x o kind of_row t l k l' k' at none_ = step i i' n o kind of_row t l.0 (λ j tw h.
      let one = one_end new i' 0 j 0 m 0 h l'.0 in
      let tw' : IsTwin old new n m = subst (IsTwin old new n) one tw in
      by tw' (λ at'. along xs ys n m x Map (All-head (λ k. kind_at old k ≡ Some Map) n xs k) refl tw' l.1 (All-tail (λ k. kind_at old k ≡ Some Map) n xs k) l'.1 (All-tail (λ k. kind_at new k ≡ Some Map) m ys k') at' none_) (cases at))
    where
      cases : Contains (m ∷ ys) x ⊎ (x ≡ q.sink) → (x ≡ m) ⊎ Contains ys x ⊎ (x ≡ q.sink)
      cases (inl c) = more_ (Contains-cons_cases m ys x c)
        where
          more_ : (x ≡ m) ⊎ Contains ys x → (x ≡ m) ⊎ Contains ys x ⊎ (x ≡ q.sink)
          more_ (inl is) = inl is
          more_ (inr c) = inr (inl c)
      cases (inr is) = inr (inr is)

      by : IsTwin old new n m → (Contains ys x ⊎ (x ≡ q.sink) → ⊥) → (x ≡ m) ⊎ Contains ys x ⊎ (x ≡ q.sink) → ⊥
      by tw later (inl is) = none_ n (subst (IsTwin old new n) (sym is) tw)
      by tw later (inr at) = later at

  -- the old source is the new one
  source_twin : IsTwin old new r.source q.source
  source_twin = by (slice_get old.nodes r.source) refl
    where
      at_source : (n : Node) → slice_get old.nodes r.source ≡ Some n → (i : ℕ) → slice_get new.nodes i ≡ Some n → (i ≡ q.source) ⊎ Contains q.maps i ⊎ (i ≡ q.sink) → IsTwin old new r.source q.source
      at_source n here i there (inl is) = record { node = n; here = here; there = ap (slice_get new.nodes) (sym is) ∙ there }
      at_source n here i there (inr (inl c)) =
          let k : kind_at new i ≡ Some Source = ap (option_map (λ (x : Node). x.kind)) (there ∙ sym here) ∙ r.is_source in
          absurd (cc (sym k ∙ ap (kind_at new) (sym c.2) ∙ q.are_maps c.0 i c.1))
      at_source n here i there (inr (inr is)) =
          let k : kind_at new i ≡ Some Source = ap (option_map (λ (x : Node). x.kind)) (there ∙ sym here) ∙ r.is_source in
          absurd (cc (sym k ∙ ap (kind_at new) is ∙ q.is_sink))

      held : (n : Node) → slice_get old.nodes r.source ≡ Some n → Contains new.nodes n ⊎ (¬ Contains new.nodes n) → IsTwin old new r.source q.source
      held n here (inl c) = let p = at_some_place new.nodes n c in at_source n here p.0 p.1 (q.no_others p.0 Source (ap (option_map (λ (x : Node). x.kind)) (p.1 ∙ sym here) ∙ r.is_source) refl)
      held n here (inr none_) = absurd (nodes_kept r.source Source r.is_source refl (record { node = n; here = here; gone = none_ }))

      by : (o : Option Node) → slice_get old.nodes r.source ≡ o → IsTwin old new r.source q.source
      by None none_ = absurd (none-some Source (sym (ap (option_map (λ (x : Node). x.kind)) none_) ∙ r.is_source))
      by (Some n) here = held n here (has_node new.nodes n)

  -- so nothing of it is created
  pub nothing_created : (x : ℕ) → (gone : IsGone new old x) → is_of_row gone.node.kind ≡ true → ⊥
  nothing_created x gone of_row = by (q.no_others x gone.node.kind (ap (option_map (λ (n : Node). n.kind)) gone.here) of_row)
    where
      no_twin : (j : ℕ) → IsTwin old new j x → ⊥
      no_twin j t = gone.gone (subst (Contains old.nodes) (same_Some t.node gone.node (sym t.there ∙ gone.here)) (Contains-at old.nodes j t.node t.here))

      by : (x ≡ q.source) ⊎ Contains q.maps x ⊎ (x ≡ q.sink) → ⊥
      by (inl is) = no_twin r.source (subst (IsTwin old new r.source) (sym is) source_twin)
      by (inr (inl c)) = along r.maps q.maps r.source q.source x Source r.is_source refl source_twin r.leads r.are_maps q.leads q.are_maps (inl c) no_twin
      by (inr (inr is)) = along r.maps q.maps r.source q.source x Source r.is_source refl source_twin r.leads r.are_maps q.leads q.are_maps (inr is) no_twin
