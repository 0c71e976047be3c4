-- To be believed (definitions.md).
-- Which ports a binding may lead from and to.
use Rattle.std.specs.Prelude.{Bool, true, false}
use Rattle.darwin_parser.specs.declared.tree.Side.{Side}
use Rattle.darwin_parser.specs.declared.tree.Side.TheVariants.{Provide, Require}

-- the first may be the source of a binding to the second
abbrev pub is_form : Bool → Side → Bool → Side → Bool
is_form true Require true Provide = true
is_form true Require false Require = true
is_form false Provide true Provide = true
is_form _ _ _ _ = false
