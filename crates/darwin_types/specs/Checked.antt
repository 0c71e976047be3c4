-- A description that was checked, and when a check takes one.
use Rattle.std.specs.Prelude.{◌≡◌, Result}
use Rattle.base.specs.Answers.{Answers}
use Rattle.darwin_parser.specs.Tree.{Tree, tree_of}
use Rattle.darwin_types.specs.declared.checked.Checked.{Checked}
use Rattle.darwin_types.specs.declared.error.TypeError.{TypeError}
use Rattle.darwin_types.specs.declared.error.TypeError.TheVariants.{NoMemory}

-- the description that was checked
abbrev pub description : Checked → Tree
description c = tree_of c.unit

-- the answer takes this description, unless memory ran out
abbrev pub Takes : Result Checked TypeError → Tree → Type 0
Takes answer t = Answers NoMemory (λ c. description c ≡ t) (λ _. ⊥) answer
