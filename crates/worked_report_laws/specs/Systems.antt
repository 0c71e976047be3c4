-- The systems of worked reports, beside those of worked changes.
use Rattle.std.specs.Prelude.{ℕ, zero, suc, List, [], ◌∷◌, codes, Some, None}
use Rattle.config_graph.specs.Graph.{Graph}
use Rattle.config_graph.specs.declared.kind.Kind.TheVariants as kind
use Rattle.config_graph.specs.declared.node.Node.{Node}
use Rattle.change_plan_laws.specs.Systems.{leads, sink_t, sink_u, source_at}

abbrev pub buffer_at : List ℕ → ℕ → Node
buffer_at path c = record { path = path; kind = kind.Buffer; arg = Some c }

-- a source of one item leads to a buffer that leads to itself
abbrev pub looped : ℕ → Graph
looped c =
    record {
      nodes = buffer_at (codes "b") c ∷ source_at (codes "s") 1 ∷ [];
      links = leads 0 0 0 ∷ leads 1 0 0 ∷ [];
    }

-- a sink or nothing
abbrev pub one_or_none : ℕ → Graph
one_or_none zero = record { nodes = []; links = [] }
one_or_none (suc n) = record { nodes = sink_t ∷ []; links = [] }

-- a sink
abbrev pub one : Graph
one = one_or_none 1

-- two sources of n items lead to one sink
abbrev pub pair : ℕ → Graph
pair n =
    record {
      nodes = source_at (codes "a") n ∷ source_at (codes "b") n ∷ sink_t ∷ [];
      links = leads 0 0 2 ∷ leads 1 0 2 ∷ [];
    }

-- so do three
abbrev pub three : ℕ → Graph
three n =
    record {
      nodes = source_at (codes "a") n ∷ source_at (codes "b") n ∷ source_at (codes "c") n ∷ sink_t ∷ [];
      links = leads 0 0 3 ∷ leads 1 0 3 ∷ leads 2 0 3 ∷ [];
    }

-- a source of two items leads through a buffer of c to a sink
abbrev pub buffered : ℕ → Graph
buffered c =
    record {
      nodes = buffer_at (codes "a") c ∷ source_at (codes "s") 2 ∷ sink_t ∷ [];
      links = leads 0 0 2 ∷ leads 1 0 0 ∷ [];
    }

-- two sources of n items, each with a sink of its own
abbrev pub two_of : ℕ → Graph
two_of n =
    record {
      nodes = source_at (codes "a") n ∷ source_at (codes "b") n ∷ sink_t ∷ sink_u ∷ [];
      links = leads 0 0 2 ∷ leads 1 0 3 ∷ [];
    }

abbrev pub two : Graph
two = two_of 1

-- a source of n items that leads nowhere
abbrev pub lone_of : ℕ → Graph
lone_of n = record { nodes = source_at (codes "s") n ∷ []; links = [] }

abbrev pub lone : Graph
lone = lone_of 2

-- a source hands one item to a buffer of one, which leads to a sink
abbrev pub small : Graph
small =
    record {
      nodes = buffer_at (codes "b") 1 ∷ source_at (codes "s") 1 ∷ sink_t ∷ [];
      links = leads 0 0 2 ∷ leads 1 0 0 ∷ [];
    }

-- an asker asks an adder for one sum
abbrev pub adder_a : Node
adder_a = record { path = codes "a"; kind = kind.Adder; arg = None }

abbrev pub asker_q : ℕ → Node
asker_q n = record { path = codes "q"; kind = kind.Asker; arg = Some n }

abbrev pub sums : Graph
sums = record { nodes = adder_a ∷ asker_q 1 ∷ []; links = leads 1 0 0 ∷ [] }
