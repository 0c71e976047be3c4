-- Each make of a node of a row, in a commit from a row to a row, stands behind an unlink or a removal of one, and a source or a sink
-- takes over from the last one.
use Rattle.std.proofs.Common.{◌≡◌, ◌∙◌, ℕ, Bool, true, false, cond, List, [], ◌∷◌, ◌++◌, append_assoc, map, Option, Some, refl, sym, ap, subst, inl, inr, ⊎_elim}
use Rattle.std.specs.Prelude.{◌⊎◌, ⊤, ◌||◌, Contains}
use Rattle.std.specs.List.{list_any}
use Rattle.std.proofs.lemmas.Bool.{both_ways, cases_Bool, or_parts}
use Rattle.std.proofs.lemmas.List.{append-nil}
use Rattle.base.specs.Each.{EachAfter}
use Rattle.base.proofs.ContainsLaws.{Contains-cons_cases, Contains-here, Contains-nil, Contains-there}
use Rattle.config_graph.specs.Graph.{Graph}
use Rattle.config_graph.specs.declared.kind.Kind.{Kind}
use Rattle.config_graph.specs.declared.kind.Kind.TheVariants.{Sink, Source}
use Rattle.quiesce_laws.specs.Work.{NewNode, make_new}
use Rattle.quiesce_core.specs.Doers.{is_make}
use Rattle.quiesce_core.specs.Alters.{Reconfigures}
use Rattle.quiesce_core.specs.Runs.{IsRun, state_after}
use Rattle.quiesce_core.specs.State.{Configuration, State}
use Rattle.quiesce_core.proofs.AlterLaws.{reconfigured}
use Rattle.quiesce_core.proofs.InductionLaws.{IsNext, place}
use Rattle.quiesce_laws.specs.Steps.{is_shaping}
use Rattle.quiesce_core.specs.Rules.{is_kind}
use Rattle.quiesce_core.specs.declared.event.Event.{Event}
use Rattle.quiesce_core.specs.declared.event.Event.TheVariants as event
use Rattle.result_laws.specs.Describing.{kind_at}
use Rattle.result_laws.specs.Rows.{IsRow, is_of_row}
use Rattle.result_laws.proofs.Ends.{IsMadeWell, is_reopen, last_made, last_more, same_sink, same_source, touched, touched_on, touches}
use Rattle.result_laws.proofs.RowSlots.{shapes_row}
use Rattle.result_laws.proofs.Staying.{calm_last}

abbrev pub Well : List Event → Event → Type 0
Well before (event.Make n node from) = IsMadeWell before node from
Well before e = ⊤

-- where nothing is made
pub makeless_well : (before xs : List Event) → list_any is_make xs ≡ false → EachAfter Well before xs
makeless_well before [] h = tt
makeless_well before (e ∷ xs) h = let parts = or_parts (is_make e) (list_any is_make xs) h in (one e parts.0, makeless_well (before ++ e ∷ []) xs parts.1)
  where
    one : (e : Event) → is_make e ≡ false → Well before e
    one (event.Make n node from) none_ = absurd (both_ways true none_ refl)
    one _ none_ = tt

-- nor where nothing is shaped
pub calm_well : (before xs : List Event) → list_any is_shaping xs ≡ false → EachAfter Well before xs
calm_well before xs h = makeless_well before xs (makes_nothing xs h)
  where
    makes_nothing : (xs : List Event) → list_any is_shaping xs ≡ false → list_any is_make xs ≡ false
    makes_nothing [] h = refl
    makes_nothing (e ∷ xs) h = let parts = or_parts (is_shaping e) (list_any is_shaping xs) h in ap (λ b. b || list_any is_make xs) (one e parts.0) ∙ makes_nothing xs parts.1
      where
        one : (e : Event) → is_shaping e ≡ false → is_make e ≡ false
        one (event.Make n node from) calm = absurd (both_ways true calm refl)
        one _ calm = refl

pub none_map : {A : Type 0} (t : Event → Bool) (f : A → Event) → ((x : A) → t (f x) ≡ false) → (xs : List A) → list_any t (map f xs) ≡ false
none_map t f h [] = refl
none_map t f h (x ∷ xs) = ap (λ b. b || list_any t (map f xs)) (h x) ∙ none_map t f h xs

pub stays_touched : (es xs : List Event) → list_any is_reopen xs ≡ false → touched es ≡ true → touched (es ++ xs) ≡ true
stays_touched es [] h t = ap touched (append-nil es) ∙ t
stays_touched es (e ∷ xs) h t =
    let parts = or_parts (is_reopen e) (list_any is_reopen xs) h in
    subst (λ zs. touched zs ≡ true) (append_assoc es (e ∷ []) xs) (stays_touched (es ++ e ∷ []) xs parts.1 (touched_on es e parts.0 t))

-- behind events of which one shapes the row it is touched
module _ (f : ℕ → Event) (S : Configuration → ℕ → Type 0) (shapes : (c : Configuration) (x : ℕ) → S c x → shapes_row c (f x) ≡ true) (closed : (x : ℕ) → is_reopen (f x) ≡ false)
    (keeps : (c d : Configuration) (e : Event) → Reconfigures c e d → (x : ℕ) → S c x → S d x) where
  pub some_touches : (before : List Event) (xs : List ℕ) → IsRun (before ++ map f xs) → (x : ℕ) → Contains xs x → S (state_after before).config x → touched (before ++ map f xs) ≡ true
  some_touches before [] run x there s = absurd (Contains-nil x there)
  some_touches before (y ∷ ys) run x there s = by (Contains-cons_cases y ys x there) (some_touches (before ++ f y ∷ []) ys (subst IsRun (sym (append_assoc before (f y ∷ []) (map f ys))) run) x)
    where
      here : IsNext before (f y)
      here = place before (map f ys) (f y) run

      r : Reconfigures (state_after before).config (f y) (state_after (before ++ f y ∷ [])).config
      r = subst (λ (t : State). Reconfigures (state_after before).config (f y) t.config) (sym here.next) (reconfigured (state_after before) (f y) here.legal)

      by : (x ≡ y) ⊎ Contains ys x → (Contains ys x → S (state_after (before ++ f y ∷ [])).config x → touched ((before ++ f y ∷ []) ++ map f ys) ≡ true) → touched (before ++ f y ∷ map f ys) ≡ true
      by (inl is) later =
          subst (λ zs. touched zs ≡ true) (append_assoc before (f y ∷ []) (map f ys))
          (stays_touched (before ++ f y ∷ []) (map f ys) (none_map is_reopen f closed ys) (touches before (f y) (closed y) (shapes (state_after before).config y (subst (S (state_after before).config) is s))))
      by (inr there') later = subst (λ zs. touched zs ≡ true) (append_assoc before (f y ∷ []) (map f ys)) (later there' (keeps (state_after before).config (state_after (before ++ f y ∷ [])).config (f y) r x s))

pub last_calm : (k : Kind) (es xs : List Event) → list_any is_make xs ≡ false → last_made k (es ++ xs) ≡ last_made k es
last_calm k es [] h = ap (last_made k) (append-nil es)
last_calm k es (e ∷ xs) h =
    let parts = or_parts (is_make e) (list_any is_make xs) h in
    ap (last_made k) (sym (append_assoc es (e ∷ []) xs)) ∙ last_calm k (es ++ e ∷ []) xs parts.1 ∙ last_more k es e ∙ calm_last k (last_made k es) e parts.0

-- ---- one of a kind among those that are made, from this one

abbrev pub NoneOf : Kind → List NewNode → Type 0
NoneOf k ms = (m : NewNode) → Contains ms m → m.node.kind ≡ k → ⊥

abbrev pub OnceFrom : Kind → Option ℕ → List NewNode → Type 0
OnceFrom k o [] = ⊤
OnceFrom k o (m ∷ ms) = (m.node.kind ≡ k → (m.from ≡ o) × NoneOf k ms) × OnceFrom k o ms

none_once : (k : Kind) (o : Option ℕ) (ms : List NewNode) → NoneOf k ms → OnceFrom k o ms
none_once k o [] none_ = tt
none_once k o (m ∷ ms) none_ = (λ kind. absurd (none_ m (Contains-here m ms) kind), none_once k o ms (λ x there. none_ x (Contains-there m x ms there)))

once_next : (k : Kind) → ((j : Kind) → is_kind j k ≡ true → j ≡ k) → (before : List Event) (m : NewNode) (ms : List NewNode) → OnceFrom k (last_made k before) (m ∷ ms) → OnceFrom k (last_made k (before ++ make_new m ∷ [])) ms
once_next k same before m ms once = ⊎_elim
    (λ (yes_ : is_kind m.node.kind k ≡ true). none_once k (last_made k (before ++ make_new m ∷ [])) ms (once.0 (same m.node.kind yes_)).1)
    (λ (no_ : is_kind m.node.kind k ≡ false). subst (λ o. OnceFrom k o ms) (sym (last_more k before (make_new m) ∙ ap (λ b. cond b (Some m.slot) (last_made k before)) no_)) once.1)
    (cases_Bool (is_kind m.node.kind k))

pub makes_well : (before : List Event) (ms : List NewNode) → ((m : NewNode) → Contains ms m → is_of_row m.node.kind ≡ true → touched before ≡ true) → OnceFrom Source (last_made Source before) ms → OnceFrom Sink (last_made Sink before) ms
    → EachAfter Well before (map make_new ms)
makes_well before [] t source sink = tt
makes_well before (m ∷ ms) t source sink = (
  record { behind = t m (Contains-here m ms); source = λ kind. (source.0 kind).0; sink = λ kind. (sink.0 kind).0 },
  makes_well (before ++ make_new m ∷ []) ms (λ k there of_row. touched_on before (make_new m) refl (t k (Contains-there m k ms there) of_row))
      (once_next Source same_source before m ms source) (once_next Sink same_sink before m ms sink),
)

-- ---- a row has one source and one sink

pub one_source_at : (g : Graph) (q : IsRow g) (i : ℕ) → kind_at g i ≡ Some Source → i ≡ q.source
one_source_at g q i h = by (q.no_others i Source h refl)
  where
    by : (i ≡ q.source) ⊎ Contains q.maps i ⊎ (i ≡ q.sink) → i ≡ q.source
    by (inl is) = is
    by (inr (inl c)) = absurd (cc (sym h ∙ ap (kind_at g) (sym c.2) ∙ q.are_maps c.0 i c.1))
    by (inr (inr is)) = absurd (cc (sym h ∙ ap (kind_at g) is ∙ q.is_sink))

pub one_sink_at : (g : Graph) (q : IsRow g) (i : ℕ) → kind_at g i ≡ Some Sink → i ≡ q.sink
one_sink_at g q i h = by (q.no_others i Sink h refl)
  where
    by : (i ≡ q.source) ⊎ Contains q.maps i ⊎ (i ≡ q.sink) → i ≡ q.sink
    by (inl is) = absurd (cc (sym h ∙ ap (kind_at g) is ∙ q.is_source))
    by (inr (inl c)) = absurd (cc (sym h ∙ ap (kind_at g) (sym c.2) ∙ q.are_maps c.0 i c.1))
    by (inr (inr is)) = is
