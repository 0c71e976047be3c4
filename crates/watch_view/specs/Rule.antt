-- The rule of the published graphs: there is one list of them. The copy that is shown has its length and its last graph,
-- and it begins with the list that the writer or a reader knows. A view is such a list.
use Rattle.std.specs.Prelude.{◌≡◌, ℕ, List, [], ◌∷◌, ◌++◌, length}
use mathlib.Core.Option.{some}
use lib.ListN.{get_elem?}
use Rattle.config_graph.specs.Graph.{Graph}
use Rattle.watch_view.specs.declared.seen.Seen.{Seen}
use Rattle.watch_lines.specs.Lists.{BeginsWith, last_of}

abbrev pub IsLast : List Graph → Seen → Type 0
IsLast list s = (s.commits ≡ length list) × (s.graph ≡ last_of list)

abbrev pub Keeps : Seen → List (List Graph) → Type 0
Keeps shown views =
    (list : List Graph) × IsLast list shown × ((seat : ℕ) (view : List Graph) → get_elem? views seat ≡ some view → BeginsWith list view)

-- a look at what is shown: the list as it is then, which begins with what was known before
abbrev pub Looks : List Graph → Seen → List Graph → Type 0
Looks before shown after = IsLast after shown × BeginsWith after before

-- publishing: the list that was known, and behind it the graph
abbrev pub Publishes : List Graph → Seen → List Graph → Type 0
Publishes before next after = after ≡ before ++ next.graph ∷ []
