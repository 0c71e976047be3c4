-- What the slots' words say of the nodes of a line: as the seats have it, and as it must be by the line.
use Rattle.std.specs.Prelude.{ℕ, List, [], ◌∷◌, Option, Some}
use Rattle.component_trait.specs.Making.{argument_or_0}
use Rattle.config_graph.specs.declared.kind.Kind.{Kind}
use Rattle.txn_spec.specs.declared.view.NodeView.{NodeView}

pub record LineWord : Type 0 where
  pub slot : ℕ
  pub kind : Kind
  pub first : ℕ
  pub arg : ℕ
  pub from : Option ℕ

-- by a node's seat
abbrev pub seen_word : NodeView → LineWord
seen_word n = record { slot = n.slot; kind = n.made.kind; first = n.made.first_port; arg = argument_or_0 n.made.arg; from = n.made.from }

pub record LinePlace : Type 0 where
  pub slot : ℕ
  pub first : ℕ
  pub arg : ℕ

-- by the line, the earliest first: all are of one kind, and each took over from the one before it
abbrev pub line_words : Kind → Option ℕ → List LinePlace → List LineWord
line_words k from [] = []
line_words k from (x ∷ xs) = record { slot = x.slot; kind = k; first = x.first; arg = x.arg; from = from } ∷ line_words k (Some x.slot) xs
