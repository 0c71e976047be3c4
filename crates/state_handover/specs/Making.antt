-- For which kinds and arguments a node can be made.
use Rattle.std.specs.Prelude.{◌≡◌, ℕ, ◌<◌, Option, is_some, IfSome}
use Rattle.config_graph.specs.Kinds.{row}
use Rattle.config_graph.specs.declared.kind.Kind.{Kind}
use Rattle.config_graph.specs.declared.TheConstants.{VALUE_LIMIT}

-- the argument is there exactly where the kind has one, and is a value
pub record FitsKind (k : Kind) (arg : Option ℕ) : Type 0 where
  pub there : is_some arg ≡ is_some (row k).arg
  pub small : IfSome arg (λ a. a < VALUE_LIMIT)
