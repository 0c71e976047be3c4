-- To be believed (definitions.md).
-- Banks, beside whatever else there is: accounts are reached from branches alone, branches from tellers alone, and a
-- branch leads from an account to an account.
use Rattle.std.specs.Prelude.{◌≡◌, ℕ, Bool, true, false, List, Some, All}
use Rattle.config_graph.specs.Cycles.{IsLinked}
use Rattle.config_graph.specs.Graph.{Graph}
use Rattle.config_graph.specs.declared.kind.Kind.{Kind}
use Rattle.config_graph.specs.declared.kind.Kind.TheVariants.{Teller, Branch, Account}
use Rattle.change_spec.specs.Statements.{Statement}
use Rattle.result_laws.specs.Describing.{Describes, LinksAre, kind_at}

-- requirement r of node i is linked to an account
pub record LeadsToAccount (g : Graph) (i r : ℕ) : Type 0 where
  pub account : ℕ
  pub linked : IsLinked g i r account 0
  pub is_account : kind_at g account ≡ Some Account

abbrev pub is_teller : Kind → Bool
is_teller Teller = true
is_teller _ = false

abbrev pub is_branch : Kind → Bool
is_branch Branch = true
is_branch _ = false

-- who leads to an account is a branch, and who leads to a branch a teller
abbrev pub banks_serve_tellers : Kind → Kind → Bool
banks_serve_tellers from Account = is_branch from
banks_serve_tellers from Branch = is_teller from
banks_serve_tellers from _ = true

pub record IsBank (g : Graph) : Type 0 where
  pub links : LinksAre banks_serve_tellers g
  pub from : (i : ℕ) → kind_at g i ≡ Some Branch → LeadsToAccount g i 0
  pub to : (i : ℕ) → kind_at g i ≡ Some Branch → LeadsToAccount g i 1

-- each description of the statements is one
abbrev pub AreBanks : List Statement → Type 0
AreBanks statements = All (Describes IsBank) statements
