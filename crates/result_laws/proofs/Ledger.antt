-- What nodes have in a bank: a branch what it carries between its two calls, an account what it keeps, where its state
-- went to no other.
use Rattle.std.proofs.Common.{◌≡◌, ◌∙◌, ℕ, ◌+◌, ◌*◌, ◌≤◌, Bool, true, false, cond, List, length, Option, Some, None, refl, sym, ap, subst}
use Rattle.std.specs.Prelude.{sum_by}
use Rattle.std.specs.List.{list_any, range_with_len}
use Rattle.std.specs.Option.{option_map_or}
use Rattle.std.proofs.lemmas.Option.{none-some}
use Rattle.config_graph.specs.declared.TheConstants.{VALUE_LIMIT}
use Rattle.config_graph.specs.declared.kind.Kind.{Kind}
use Rattle.config_graph.specs.declared.kind.Kind.TheVariants.{Branch, Account}
use Rattle.component_trait.specs.States.{NodeState}
use Rattle.quiesce_core.specs.Runs.{state_after}
use Rattle.quiesce_core.specs.State.{Configuration, State, slot}
use Rattle.quiesce_core.specs.declared.event.Event.{Event}
use Rattle.quiesce_core.specs.declared.state.Slot.{Slot}
use Rattle.result_laws.specs.Coming.{come}
pub use Rattle.result_laws.specs.Carrying.{opened_in}
use Rattle.result_laws.specs.Sums.{is_account}
use Rattle.result_laws.proofs.Balance.{BranchHas, answers, at_rest, first_idle, first_open, second_idle, second_open}
use Rattle.result_laws.proofs.Giving.{hands_on}
use Rattle.result_laws.proofs.Offices.{IsAccount, IsNoBranch, IsOffice, IsOfKind, Office, of_branch, one_kind}

-- what the node in slot n carries
pub data Has (s : State) (f : ℕ → NodeState) (n c : ℕ) : Type 0 where
  quiet : (f n).service ≡ None → c ≡ 0 → Has s f n c
  plain : IsNoBranch s.config n → c ≡ 0 → Has s f n c
  bound : (b : Office) → b.at ≡ n → IsOffice s.config b → BranchHas s f b c → Has s f n c

-- a branch at rest carries nothing
rest_branch : (s : State) (f : ℕ → NodeState) (b : Office) (c : ℕ) → (f b.at).service ≡ None → BranchHas s f b c → c ≡ 0
rest_branch s f b _ none_ (at_rest h) = refl
rest_branch s f b _ none_ (first_idle a k v r small is idle) = refl
rest_branch s f b _ none_ (first_open a k v r d small is calls) = absurd (none-some _ (sym none_ ∙ ap (λ (n : NodeState). n.service) is))
rest_branch s f b _ none_ (second_idle a k v r small is idle) = absurd (none-some _ (sym none_ ∙ ap (λ (n : NodeState). n.service) is))
rest_branch s f b _ none_ (second_open a k v r d small is calls) = absurd (none-some _ (sym none_ ∙ ap (λ (n : NodeState). n.service) is))
rest_branch s f b _ none_ (answers a k v r xs z hands_on is) = refl

pub rest_has : (s : State) (f : ℕ → NodeState) (n c : ℕ) → (f n).service ≡ None → Has s f n c → c ≡ 0
rest_has s f n c none_ (quiet h z) = z
rest_has s f n c none_ (plain a z) = z
rest_has s f n c none_ (bound b at o has) = rest_branch s f b c (ap (λ i. (f i).service) at ∙ none_) has

branch_is_none : (s : State) (n : ℕ) (b : Office) → b.at ≡ n → IsOffice s.config b → IsAccount s.config n → ⊥
branch_is_none s n b at o a = cc (one_kind s.config n Branch Account (subst (λ i. IsOfKind s.config i Branch) at (of_branch s.config b o.branch)) a)

-- nor does an account
pub account_has : (s : State) (f : ℕ → NodeState) (n c : ℕ) → IsAccount s.config n → Has s f n c → c ≡ 0
account_has s f n c a (quiet h z) = z
account_has s f n c a (plain b z) = z
account_has s f n c a (bound b at o has) = absurd (branch_is_none s n b at o a)

-- ---- what accounts have

abbrev pub is_account_at : Configuration → ℕ → Bool
is_account_at c n = option_map_or (λ (m : Slot). is_account m.node.kind) (slot c n) false

-- by its test, what is kept, and whether that went on
abbrev pub held_by : Bool → Bool → ℕ → ℕ
held_by account given total = cond account (cond given 0 total) 0

abbrev pub holds : List Event → ℕ → ℕ
holds es n = held_by (is_account_at (state_after es).config n) (list_any (hands_on n) es) (come es n).kept.total

-- the sum of all is that of what was opened
pub record Ledger (es : List Event) : Type 0 where
  pub carries : ℕ → ℕ
  pub has : (n : ℕ) → Has (state_after es) (come es) n (carries n)
  pub sum : sum_by (λ n. carries n + holds es n) (range_with_len 0 (length (state_after es).config.slots)) ≡ sum_by opened_in es
  pub few : sum_by opened_in es ≤ length (state_after es).config.slots * VALUE_LIMIT

-- ---- the test on slots

pub kind_is_account : (k : Kind) → is_account k ≡ true → k ≡ Account
kind_is_account Account h = refl
kind_is_account k h = cc h

pub account_is : (c : Configuration) (n : ℕ) → is_account_at c n ≡ true → IsAccount c n
account_is c n h = by (slot c n) refl h
  where
    by : (o : Option Slot) → slot c n ≡ o → option_map_or (λ (m : Slot). is_account m.node.kind) o false ≡ true → IsAccount c n
    by None there h = cc h
    by (Some m) there h = record { made = m; there = there; kind = kind_is_account m.node.kind h }

pub account_if : (c : Configuration) (n : ℕ) → IsAccount c n → is_account_at c n ≡ true
account_if c n a = ap (λ o. option_map_or (λ (m : Slot). is_account m.node.kind) o false) a.there ∙ ap is_account a.kind

pub no_account : (c : Configuration) (n : ℕ) → IsOfKind c n Branch → is_account_at c n ≡ false
no_account c n b = ap (λ o. option_map_or (λ (m : Slot). is_account m.node.kind) o false) b.there ∙ ap is_account b.kind
