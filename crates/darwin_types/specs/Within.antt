-- The description and the component that an index of declarations stands for.
use Rattle.darwin_parser.specs.Tree.{Tree, Component, component_of}
use Rattle.darwin_types.specs.declared.declared.Declared.{Declared}
use Rattle.darwin_types.specs.Check.{components_of}

abbrev pub tree_in : Declared → Tree
tree_in d = components_of d.directory.now.components.now

abbrev pub component_in : Declared → Component
component_in d = component_of d.component.now
