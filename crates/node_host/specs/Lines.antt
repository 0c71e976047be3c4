-- The line of a node: the earlier nodes from which its state was handed on, the earliest first, and the node itself.
use Rattle.std.specs.Prelude.{ℕ, List, [], ◌∷◌, Option, Some, None, option_and_then}
use Rattle.config_graph.specs.declared.kind.Kind.{Kind}
use Rattle.quiesce_core.specs.declared.event.Event.{Event}
use Rattle.component_trait.specs.Fold.{fold_of}
use Rattle.component_trait.specs.States.{Kept, NodeState}
use Rattle.component_trait.specs.Tables.{opening}

-- a node of a line: its first port, its argument, which is 0 where its kind has none, and its events
pub record LineNode : Type 0 where
  pub first : ℕ
  pub arg : ℕ
  pub log : List Event

-- the first of a line opens as its kind and argument say, and each other with what the one before it came to keep
abbrev pub opens_with : Kind → Option Kept → ℕ → Kept
opens_with k None a = opening k a
opens_with k (Some kept) a = kept

-- what a node of a line came to by its events; none where they aren't what its kind does
abbrev pub line_node_state : Kind → Option Kept → LineNode → Option NodeState
line_node_state k before m = fold_of k m.arg m.first (opens_with k before m.arg) m.log

-- what the last of a line came to; none where some node's events aren't what its kind does
abbrev pub line_state : Kind → Option Kept → List LineNode → LineNode → Option NodeState
line_state k before [] last = line_node_state k before last
line_state k before (m ∷ ms) last = option_and_then (λ (s : NodeState). line_state k (Some s.kept) ms last) (line_node_state k before m)
