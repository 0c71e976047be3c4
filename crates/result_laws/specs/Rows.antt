-- To be believed (definitions.md).
-- Row systems: one source leads through all maps, one after the other, to the sink; and what becomes of a value on the
-- way. Nodes of other kinds may stand beside.
use Rattle.std.specs.Prelude.{◌≡◌, ◌⊎◌, ℕ, ◌+◌, ◌%◌, Bool, true, false, not, ◌||◌, List, [], ◌∷◌, Some, slice_get, fold, All, Contains}
use Rattle.std.specs.Option.{option_map_or}
use Rattle.component_trait.specs.Making.{argument_or_0}
use Rattle.config_graph.specs.Cycles.{IsLinked}
use Rattle.config_graph.specs.Graph.{Graph}
use Rattle.config_graph.specs.declared.TheConstants.{VALUE_LIMIT}
use Rattle.config_graph.specs.declared.kind.Kind.{Kind}
use Rattle.config_graph.specs.declared.kind.Kind.TheVariants.{Source, Map, Sink}
use Rattle.config_graph.specs.declared.node.Node.{Node}
use Rattle.result_laws.specs.Describing.{LinksAre, kind_at}

-- the argument of node i, and 0 where there is none
abbrev pub argument_at : Graph → ℕ → ℕ
argument_at g i = option_map_or (λ (n : Node). argument_or_0 n.arg) (slice_get g.nodes i) 0

-- node i leads through these maps, one after the other, to the sink: each of them by its one requirement
abbrev pub LeadsThrough : Graph → ℕ → List ℕ → ℕ → Type 0
LeadsThrough g i [] sink = IsLinked g i 0 sink 0
LeadsThrough g i (m ∷ maps) sink = IsLinked g i 0 m 0 × LeadsThrough g m maps sink

abbrev pub is_of_row : Kind → Bool
is_of_row Source = true
is_of_row Map = true
is_of_row Sink = true
is_of_row _ = false

-- who leads to one of a row is one of a row
abbrev pub rows_serve_rows : Kind → Kind → Bool
rows_serve_rows from to = not (is_of_row to) || is_of_row from

-- nothing stands beside
abbrev pub IsAlone : Graph → Type 0
IsAlone g = (i : ℕ) (k : Kind) → kind_at g i ≡ Some k → is_of_row k ≡ true

-- a graph with one source, these maps in this order, and one sink, to which no others lead
pub record IsRow (g : Graph) : Type 0 where
  pub source : ℕ
  pub maps : List ℕ
  pub sink : ℕ
  pub is_source : kind_at g source ≡ Some Source
  pub are_maps : All (λ i. kind_at g i ≡ Some Map) maps
  pub is_sink : kind_at g sink ≡ Some Sink
  pub no_others : (i : ℕ) (k : Kind) → kind_at g i ≡ Some k → is_of_row k ≡ true → (i ≡ source) ⊎ Contains maps i ⊎ (i ≡ sink)
  pub links : LinksAre rows_serve_rows g
  pub leads : LeadsThrough g source maps sink

-- a value with the arguments of these maps added, in order
abbrev pub through : Graph → List ℕ → ℕ → ℕ
through g maps v = fold (λ x i. (x + argument_at g i) % VALUE_LIMIT) v maps
