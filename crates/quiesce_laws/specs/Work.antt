-- To be believed (definitions.md).
-- What a commit has to do, by slots and ports: which ports are unlinked, which nodes removed, made and linked.
use Rattle.std.specs.Prelude.{◌≡◌, ⊤, ℕ, ◌+◌, List, [], ◌∷◌, ◌++◌, map, length, Option}
use Rattle.config_graph.specs.Kinds.{row}
use Rattle.config_graph.specs.declared.node.Node.{Node}
use Rattle.config_graph.specs.declared.node.Target.{Target}
use Rattle.quiesce_core.specs.declared.event.Event.{Event}
use Rattle.quiesce_core.specs.declared.event.Event.TheVariants.{Make, Link, Unlink, Remove, Reopen}

-- a node to be made, with its slot
pub record NewNode : Type 0 where
  pub slot : ℕ
  pub node : Node
  pub from : Option ℕ

abbrev pub make_new : NewNode → Event
make_new m = Make m.slot m.node m.from

-- a link to be made
pub record NewLink : Type 0 where
  pub port : ℕ
  pub node : ℕ
  pub provide : ℕ

abbrev pub link_new : NewLink → Event
link_new l = Link l.port l.node l.provide

abbrev pub end_of : NewLink → Target
end_of l = record { node = l.node; provide = l.provide }

-- the slots follow each other
abbrev pub AreNumbered : ℕ → List NewNode → Type 0
AreNumbered k [] = ⊤
AreNumbered k (m ∷ ms) = (m.slot ≡ k) × AreNumbered (k + 1) ms

-- how many ports these nodes have
abbrev pub ports_wanted : List NewNode → ℕ
ports_wanted [] = 0
ports_wanted (m ∷ ms) = length (row m.node.kind).requires_ + ports_wanted ms

-- what is done up to the links, in order
pub record Work : Type 0 where
  pub unlinks : List ℕ
  pub removes : List ℕ
  pub makes : List NewNode

abbrev pub work_of : Work → List Event
work_of w = map Unlink w.unlinks ++ (map Remove w.removes ++ map make_new w.makes)

-- up to the last link, and with the ports that are reopened then
abbrev pub steps_of : Work → List NewLink → List Event
steps_of w links = work_of w ++ map link_new links

abbrev pub events_of : Work → List NewLink → List ℕ → List Event
events_of w links ports = steps_of w links ++ map Reopen ports
