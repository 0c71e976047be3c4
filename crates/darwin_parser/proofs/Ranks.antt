-- How the recursion over expressions goes down: within one nesting, from the loosest level to the tightest.
use Rattle.std.specs.Prelude.{ℕ}
use Rattle.darwin_parser.specs.declared.cursor.Level.{Level}
use Rattle.darwin_parser.specs.declared.cursor.Level.TheVariants.{Or, And, Comparison, Sum, Term}

abbrev pub rank : Level → ℕ
rank Term = 2
rank Sum = 5
rank Comparison = 8
rank And = 11
rank Or = 14
