-- What a search for the ports that reach a node goes by.
use Rattle.std.specs.Prelude.{◌≡◌, ℕ, Bool, ◌&&◌, ◌||◌, ◌==◌, List, Option, Some, None, slice_index_or}
use Rattle.std.specs.List.{list_any}
use Rattle.config_graph.specs.declared.node.Target.{Target}
use Rattle.quiesce_core.specs.State.{Configuration, ports_of, depends, is_depended}
use Rattle.quiesce_core.specs.Reach.{reaches}

-- what was found out so far: of each port at most whether it reaches node n
abbrev pub AreKnown : Configuration → ℕ → List (Option Bool) → Type 0
AreKnown c n known = (q : ℕ) (b : Bool) → slice_index_or known q None ≡ Some b → reaches c n q ≡ b

-- whether one of the node's ports on which the provision depends reaches node n
abbrev pub reaches_through : Configuration → ℕ → Target → Bool
reaches_through c n t = list_any (λ q. depends c t.node t.provide q && reaches c n q) (ports_of c t.node)

-- whether what is linked to the provision reaches node n
abbrev pub reaches_from : Configuration → ℕ → Target → Bool
reaches_from c n t = t.node == n || reaches_through c n t

-- whether node m leads to node n, in any number of steps: it is n, or one of its ports on which a provision depends
-- reaches n
abbrev pub leads_up : Configuration → ℕ → ℕ → Bool
leads_up c n m = m == n || list_any (λ q. is_depended c m q && reaches c n q) (ports_of c m)
