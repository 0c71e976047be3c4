-- A small change that is made in two parts, and at once.
use Rattle.std.specs.Prelude.{ℕ, pos, List, [], ◌∷◌, Some, None, codes}
use Rattle.config_graph.specs.Graph.{Graph}
use Rattle.config_graph.specs.declared.kind.Kind.TheVariants.{Buffer, Map, Sink, Source}
use Rattle.quiesce_laws.specs.Worked.{node}
use Rattle.change_plan_laws.specs.Systems.{leads}
use Rattle.change_spec.specs.Statements.{Statement, change, run, start}
use Rattle.result_laws.specs.Rolling.{at_once}

-- a source leads straight to a sink, and another over a map that adds k; a buffer stands aside, with so much room
abbrev pub forked : ℕ → ℕ → Graph
forked k room = record {
  nodes = node (codes "b") Map (Some k) ∷ node (codes "o") Buffer (Some room) ∷ node (codes "s") Source (Some 2) ∷ node (codes "t") Sink None ∷ node (codes "u") Source (Some 2) ∷ [];
  links = leads 0 0 3 ∷ leads 2 0 3 ∷ leads 4 0 0 ∷ [];
}

-- until a transaction ended, and then the map is replaced, and the buffer after it
abbrev pub in_parts : ℕ → List Statement
in_parts within =
    start (codes "Forked") (pos 1 ∷ pos 1 ∷ []) (forked 1 1) ∷ run 1 ∷ change (codes "Forked") (pos 2 ∷ pos 2 ∷ []) (forked 2 1) within []
    ∷ change (codes "Forked") (pos 2 ∷ pos 2 ∷ []) (forked 2 2) within [] ∷ []

-- or both at once
abbrev pub as_a_whole : ℕ → List Statement
as_a_whole within = at_once (codes "Forked") (pos 1 ∷ pos 1 ∷ []) (forked 1 1) 1 (codes "Forked") (pos 2 ∷ pos 2 ∷ []) within (forked 2 2) []
