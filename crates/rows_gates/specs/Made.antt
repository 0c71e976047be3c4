-- The records of changes that made two nodes, or three, and what leads to what there.
use Rattle.std.specs.Prelude.{◌≡◌, ◌⊎◌, ℕ, List, [], ◌∷◌, ◌++◌, Some, None}
use Rattle.config_graph.specs.declared.kind.Kind.{Kind}
use Rattle.config_graph.specs.declared.kind.Kind.TheVariants.{Source, Sink, Asker, Adder}
use Rattle.config_graph.specs.declared.node.Node.{Node}
use Rattle.txn_records.specs.declared.entry.Entry.{Entry}
use Rattle.txn_records.specs.declared.entry.Entry.TheVariants.{Did, Looked}
use Rattle.txn_spec.specs.declared.view.NodeView.{NodeView}
use Rattle.quiesce_core.specs.Knowledge.{nothing_known}
use Rattle.quiesce_core.specs.declared.event.Event.TheVariants.{Close, Link, Make, Remove, Reopen, Unlink}

abbrev pub made_two : ℕ → ℕ → Node → Node → List Entry
made_two n m a b = Did (Make n a None) ∷ Did (Make m b None) ∷ []

abbrev pub made_three : ℕ → ℕ → ℕ → Node → Node → Node → List Entry
made_three n m k a b c = made_two n m a b ++ Did (Make k c None) ∷ []

-- two nodes, of which the first leads to the second
abbrev pub opened_two : ℕ → ℕ → Node → Node → List Entry
opened_two n m a b = made_two n m a b ++ Did (Link 0 1 0) ∷ Did (Reopen 0) ∷ []

-- then the port between them was closed, and a look at it loaded this word
abbrev pub closed_two : ℕ → ℕ → ℕ → Node → Node → List Entry
closed_two n m w a b = opened_two n m a b ++ Did (Close 0) ∷ Looked 0 w ∷ []

-- then it was unlinked, and the second node was removed
abbrev pub unlinked_two : ℕ → ℕ → ℕ → Node → Node → List Entry
unlinked_two n m w a b = closed_two n m w a b ++ Did (Unlink 0) ∷ []

abbrev pub removed_second : ℕ → ℕ → ℕ → Node → Node → List Entry
removed_second n m w a b = unlinked_two n m w a b ++ Did (Remove 1) ∷ []

-- then a third node was made, which took over what the removed one kept
abbrev pub made_again : ℕ → ℕ → ℕ → ℕ → Node → Node → Node → List Entry
made_again n m w k a b c = removed_second n m w a b ++ Did (Make k c (Some 1)) ∷ []

-- whether the port of a node of the first kind leads to one of the second in the rows
abbrev pub LeadsTo : Kind → Kind → Type 0
LeadsTo j k = ((j ≡ Source) × (k ≡ Sink)) ⊎ ((j ≡ Asker) × (k ≡ Adder))

-- the node did nothing
abbrev pub DidNothing : NodeView → Type 0
DidNothing n = (n.known ≡ nothing_known) × (n.log ≡ [])
