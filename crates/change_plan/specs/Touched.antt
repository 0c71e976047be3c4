-- To be believed (definitions.md).
-- The nodes of the old graph that a change touches, which have to be quiescent for it, and those that it freezes, so
-- that these become quiescent (Kramer and Magee 1990).
use Rattle.std.specs.Prelude.{◌≡◌, ◌<◌, ◌⊎◌, ℕ, Option, Some, None}
use Rattle.config_graph.specs.Graph.{Graph, requires_at, target_of}
use Rattle.config_graph.specs.Enlarged.{Enlarged}
use Rattle.config_graph.specs.declared.node.Target.{Target}
use Rattle.change_plan.specs.Differences.{IsGone, IsTwin}

-- what a port is linked to in g, and what one is linked to in h, are the same
abbrev pub SameTarget : Graph → Graph → Option Target → Option Target → Type 0
SameTarget g h None None = Unit {0}
SameTarget g h None (Some u) = ⊥
SameTarget g h (Some t) None = ⊥
SameTarget g h (Some t) (Some u) = IsTwin g h t.node u.node × (t.provide ≡ u.provide)

-- node i of g is in h and has a port whose target differs there
pub record HasNewTarget (g h : Graph) (i : ℕ) : Type 0 where
  pub twin : ℕ
  pub require : ℕ
  pub stays : IsTwin g h i twin
  pub within : require < requires_at g.nodes i
  pub differs : ¬ SameTarget g h (target_of g.links i require) (target_of h.links twin require)

-- node i is removed, or stays and has a port whose target differs
abbrev pub IsTouched : Graph → Graph → ℕ → Type 0
IsTouched old new i = IsGone old new i ⊎ HasNewTarget old new i

-- node i is frozen: it is touched, or has a port that reaches a touched node in the old graph
abbrev pub Frozen : Graph → Graph → ℕ → Type 0
Frozen old new i = Enlarged old (IsTouched old new) i
