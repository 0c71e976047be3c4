-- Each step keeps the rule: looks, commits, and new readers.
use Rattle.std.proofs.Common.{◌≡◌, ◌≢◌, ℕ, ◌+◌, List, [], ◌∷◌, ◌++◌, length, fold, set, refl, sym, subst, ap, ◌∙◌, ⊎_elim, arith}
use Rattle.std.specs.Prelude.{Result, Ok, Err, MatchResult}
use Rattle.std.proofs.lemmas.List.{append-nil, append_assoc, length-append, nil_from_length}
use Rattle.std.proofs.lemmas.List.Sums.{fold-append}
use mathlib.Core.Option.{some}
use lib.ListN.{get_elem?}
use Rattle.atomic_table.proofs.Lists.{at_set, at_snoc}
use Rattle.crossbeam_utils.specs.Register.{Admits, Turns, TurnsAt}
use Rattle.config_graph.specs.Graph.{Graph}
use Rattle.watch_view.specs.declared.seen.Seen.{Seen}
use Rattle.watch_lines.specs.Lists.{BeginsWith, no_graph}
use Rattle.watch_view.specs.Rule.{IsLast, Keeps, Looks, Publishes}

-- ---- lists that begin with one another

begins_self : (list : List Graph) → BeginsWith list list
begins_self list = ([], sym (append-nil list))

begins_nil : (list : List Graph) → BeginsWith list []
begins_nil list = (list, refl)

begins_on : (start middle list : List Graph) → BeginsWith middle start → BeginsWith list middle → BeginsWith list start
begins_on start middle list a b = (a.0 ++ b.0, b.1 ∙ (ap (λ l. l ++ b.0) a.1 ∙ append_assoc start a.0 b.0))

-- a list that is no longer than its beginning is that beginning
same_list : (list start : List Graph) → BeginsWith list start → length list ≡ length start → list ≡ start
same_list list start h same = h.1 ∙ (ap (λ r. start ++ r) (nil_from_length h.0 (let is = ap length h.1 in let l = length-append start h.0 in omega (arith, is, l, same))) ∙ append-nil start)

-- one more graph is the last
is_last_added : (list : List Graph) (x y : Seen) → IsLast list x → y.commits ≡ x.commits + 1 → IsLast (list ++ y.graph ∷ []) y
is_last_added list x y last more = (
  (let l = length-append list (y.graph ∷ []) in let is = last.0 in omega (arith, l, is, more)),
  sym (fold-append (λ _ g. g) no_graph list (y.graph ∷ [])),
)

-- ---- what all know

abbrev AllKnow : List Graph → List (List Graph) → Type 0
AllKnow list views = (seat : ℕ) (view : List Graph) → get_elem? views seat ≡ some view → BeginsWith list view

-- the list goes on, and one view changes
know_set : (old new : List Graph) (views : List (List Graph)) (seat : ℕ) (w : List Graph) → BeginsWith new old → BeginsWith new w → AllKnow old views → AllKnow new (set views seat w)
know_set old new views seat w on mine all j u e =
    ⊎_elim (λ (t : (j ≡ seat) × (w ≡ u)). subst (BeginsWith new) t.1 mine) (λ (t : (j ≢ seat) × (get_elem? views j ≡ some u)). begins_on u old new (all j u t.1) on)
    (at_set views seat j w u e)

-- there is one view more, of one who knows nothing
know_snoc : (list : List Graph) (views : List (List Graph)) → AllKnow list views → AllKnow list (views ++ [] ∷ [])
know_snoc list views all j u e = ⊎_elim (all j u) (λ (same : [] ≡ u). subst (BeginsWith list) same (begins_nil list)) (at_snoc views [] u j e)

-- ---- the rule

pub begins : (x : Seen) → x.commits ≡ 0 → x.graph ≡ no_graph → Keeps x ([] ∷ [])
begins x none empty = ([], (none, empty), know_snoc [] [] (λ j u e. absurd cc))

pub admits : Admits Keeps []
admits x views h = (h.0, h.1, know_snoc h.0 views h.2)

pub looks : (seat : ℕ) (v : List Graph) → Turns Keeps seat v (λ x. x) (λ v x _ w. Looks v x w)
looks seat v x views h at = (h.0, (h.0, h.1, know_set h.0 h.0 views seat h.0 (begins_self h.0) (begins_self h.0) h.2), (h.1, h.2 seat v at))

pub publishes : (seat : ℕ) (v : List Graph) (x y : Seen) → IsLast v x → y.commits ≡ x.commits + 1 → TurnsAt Keeps seat v x y (λ v _ y w. Publishes v y w)
publishes seat v x y last more views h at =
    let same : h.0 ≡ v = same_list h.0 v (h.2 seat v at) (sym h.1.0 ∙ last.0) in
    let new = v ++ y.graph ∷ [] in
    let on : BeginsWith new h.0 = (y.graph ∷ [], ap (λ l. l ++ y.graph ∷ []) (sym same)) in
    (new, (new, is_last_added v x y last more, know_set h.0 new views seat new on (begins_self new) h.2), refl)

-- ---- what a step leaves

-- publishing the one operation that is pending counts it
pub next_commits : (x y next : Seen) (pending : List Seen) → pending ≡ next ∷ [] → y ≡ fold (λ _ s. s) x pending → next.commits ≡ x.commits + 1 → y.commits ≡ x.commits + 1
next_commits x y next pending one is more = ap (λ s. s.commits) (is ∙ ap (fold (λ _ s. s) x) one) ∙ more

pub still_last : {A E : Type 0} (P Q : Type 0) (r : Result A E) (v w : List Graph) (x y n : Seen) → IsLast v x → n.commits ≡ x.commits + 1 → MatchResult r (λ _. (y ≡ n) × P) (λ _. (y ≡ x) × Q) → MatchResult r (λ _. Publishes v y w) (λ _. w ≡ v) → IsLast w y
still_last P Q (Ok a) v w x y n last more is adds =
    subst (λ (z : List Graph). IsLast z y) (sym adds) (is_last_added v x y last (ap (λ s. s.commits) is.0 ∙ more))
still_last P Q (Err e) v w x y n last more is adds = subst (λ (z : List Graph). IsLast z y) (sym adds) (subst (IsLast v) (sym is.0) last)
