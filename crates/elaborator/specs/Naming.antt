-- What a directory finds under a name.
use Rattle.std.specs.Prelude.{◌≡◌, List, map, Some}
use Rattle.darwin_parser.specs.Tree.{Name, Tree, Component, component_of}
use Rattle.darwin_types.specs.Scope.{component_named, is_primitive}
use Rattle.elaborator.specs.declared.directory.Entry.{Entry}

-- the names of the ports of a component
abbrev pub port_names : Component → List Name
port_names c = map (λ p. p.name) c.ports

-- the component that a tree has under a name, and whether it is primitive
pub record IsEntry (tree : Tree) (name : Name) (e : Entry) : Type 0 where
  pub named : component_named tree name ≡ Some (component_of e.component.now)
  pub primitive : e.is_primitive ≡ is_primitive (component_of e.component.now)
