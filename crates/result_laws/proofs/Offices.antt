-- Branches with the ports by which they call, and the accounts to which these lead.
use Rattle.std.proofs.Common.{◌≡◌, ◌∙◌, ℕ, ◌+◌, ◌<◌, length, Some, sym, ap, arith, inl, inr, ⊎_elim}
use Rattle.std.specs.Prelude.{◌⊎◌}
use Rattle.std.proofs.lemmas.Bool.{cases_eq}
use Rattle.std.proofs.lemmas.Option.{same_Some}
use Rattle.config_graph.specs.Kinds.{row}
use Rattle.config_graph.specs.declared.kind.Kind.{Kind}
use Rattle.config_graph.specs.declared.kind.Kind.TheVariants.{Branch, Account}
use Rattle.config_graph.specs.declared.node.Node.{Node}
use Rattle.config_graph.specs.declared.node.Target.{Target}
use Rattle.quiesce_core.specs.Alters.{Reconfigures}
use Rattle.quiesce_core.specs.State.{Configuration, gate, owner, slot, target}
use Rattle.quiesce_core.specs.WellFormed.{IsSound}
use Rattle.quiesce_core.specs.declared.event.Event.{Event}
use Rattle.quiesce_core.specs.declared.state.Slot.{Slot}
use Rattle.quiesce_core.proofs.ConfigurationLaws.{port_is}
use Rattle.result_laws.proofs.ComingLaws.{stays}

-- a branch with its two ports, and the accounts to which they lead
pub record Office : Type 0 where
  pub at : ℕ
  pub from : ℕ
  pub to : ℕ
  pub payer : ℕ
  pub payee : ℕ

-- a branch was made there, with these ports
pub record IsBranch (c : Configuration) (b : Office) : Type 0 where
  pub made : Slot
  pub there : slot c b.at ≡ Some made
  pub kind : made.node.kind ≡ Branch
  pub first : made.first_port ≡ b.from
  pub second : b.to ≡ b.from + 1

-- a node of this kind was made there
pub record IsOfKind (c : Configuration) (n : ℕ) (k : Kind) : Type 0 where
  pub made : Slot
  pub there : slot c n ≡ Some made
  pub kind : made.node.kind ≡ k

abbrev pub IsAccount : Configuration → ℕ → Type 0
IsAccount c n = IsOfKind c n Account

-- one of another kind than those of banks that serve
pub record IsOutside (c : Configuration) (n : ℕ) : Type 0 where
  pub made : Slot
  pub there : slot c n ≡ Some made
  pub no_branch : made.node.kind ≡ Branch → ⊥
  pub no_account : made.node.kind ≡ Account → ⊥

-- one that is no branch
pub record IsNoBranch (c : Configuration) (n : ℕ) : Type 0 where
  pub made : Slot
  pub there : slot c n ≡ Some made
  pub other : made.node.kind ≡ Branch → ⊥

-- its ports lead to these accounts
pub record IsOffice (c : Configuration) (b : Office) : Type 0 where
  pub branch : IsBranch c b
  pub from_leads : target c b.from ≡ Some (record { node = b.payer; provide = 0 })
  pub to_leads : target c b.to ≡ Some (record { node = b.payee; provide = 0 })
  pub payer : IsAccount c b.payer
  pub payee : IsAccount c b.payee

pub office_owned : (c : Configuration) → IsSound c → (b : Office) → IsBranch c b → (owner c b.from ≡ b.at) × (owner c b.to ≡ b.at)
office_owned c sound b o =
    let row_of = sound.rows b.at o.made o.there in
    let two : length (row o.made.node.kind).requires_ ≡ 2 = ap (λ (k : Kind). length (row k).requires_) o.kind in
    let first = o.first in
    let second = o.second in
    (ap (owner c) (omega (arith, first)) ∙ row_of.owned 0 (omega (arith, two)), ap (owner c) (omega (arith, first, second)) ∙ row_of.owned 1 (omega (arith, two)))

-- a port of a branch is one of its two
pub port_of_branch : (c : Configuration) → IsSound c → (b : Office) → IsBranch c b → (q : ℕ) → q < length c.gates → owner c q ≡ b.at → (q ≡ b.from) ⊎ (q ≡ b.to)
port_of_branch c sound b o q made owned =
    let p = port_is c sound q o.made made (ap (slot c) owned ∙ o.there) in
    let two : length (row o.made.node.kind).requires_ ≡ 2 = ap (λ (k : Kind). length (row k).requires_) o.kind in
    let first = o.first in
    let second = o.second in
    let at = p.0 in
    let low = p.1 in ⊎_elim (λ (e : (gate c q).require ≡ 0). inl (omega (arith, e, at, first))) (λ (ne : (gate c q).require ≡ 0 → ⊥). inr (omega (arith, ne, at, low, two, first, second))) (cases_eq (gate c q).require 0)

-- what was made in a slot is of one kind
pub one_kind : (c : Configuration) (n : ℕ) (j k : Kind) → IsOfKind c n j → IsOfKind c n k → j ≡ k
one_kind c n j k a b = sym a.kind ∙ ap (λ (m : Slot). m.node.kind) (same_Some a.made b.made (sym a.there ∙ b.there)) ∙ b.kind

pub of_branch : (c : Configuration) (b : Office) → IsBranch c b → IsOfKind c b.at Branch
of_branch c b o = record { made = o.made; there = o.there; kind = o.kind }

-- a branch leads to one account by each port
pub one_office : (c : Configuration) (b d : Office) → IsOffice c b → IsOffice c d → b.at ≡ d.at → b ≡ d
one_office c b d o w at =
    let made : o.branch.made ≡ w.branch.made = same_Some o.branch.made w.branch.made (sym o.branch.there ∙ ap (slot c) at ∙ w.branch.there) in
    let from : b.from ≡ d.from = sym o.branch.first ∙ ap (λ (m : Slot). m.first_port) made ∙ w.branch.first in
    let to : b.to ≡ d.to = o.branch.second ∙ ap (λ i. i + 1) from ∙ sym w.branch.second in
    let payer : b.payer ≡ d.payer = ap (λ (t : Target). t.node) (same_Some _ _ (sym o.from_leads ∙ ap (target c) from ∙ w.from_leads)) in
    let payee : b.payee ≡ d.payee = ap (λ (t : Target). t.node) (same_Some _ _ (sym o.to_leads ∙ ap (target c) to ∙ w.to_leads)) in
    λ i. record { at = at i; from = from i; to = to i; payer = payer i; payee = payee i }

-- what was made stays of its kind
pub kind_stays : (c d : Configuration) (e : Event) → Reconfigures c e d → (n : ℕ) (k : Kind) → IsOfKind c n k → IsOfKind d n k
kind_stays c d e r n k a = let w = stays c d e r n a.made a.there in record { made = w.then_; there = w.there; kind = ap (λ (x : Node). x.kind) w.node ∙ a.kind }

pub outside_stays : (c d : Configuration) (e : Event) → Reconfigures c e d → (n : ℕ) → IsOutside c n → IsOutside d n
outside_stays c d e r n a =
    let w = stays c d e r n a.made a.there in
    let same = ap (λ (x : Node). x.kind) w.node in record { made = w.then_; there = w.there; no_branch = λ h. a.no_branch (sym same ∙ h); no_account = λ h. a.no_account (sym same ∙ h) }

pub no_branch_stays : (c d : Configuration) (e : Event) → Reconfigures c e d → (n : ℕ) → IsNoBranch c n → IsNoBranch d n
no_branch_stays c d e r n a = let w = stays c d e r n a.made a.there in record { made = w.then_; there = w.there; other = λ h. a.other (sym (ap (λ (x : Node). x.kind) w.node) ∙ h) }

pub account_no_branch : (c : Configuration) (n : ℕ) → IsAccount c n → IsNoBranch c n
account_no_branch c n a = record { made = a.made; there = a.there; other = λ h. cc (sym a.kind ∙ h) }

pub outside_no_branch : (c : Configuration) (n : ℕ) → IsOutside c n → IsNoBranch c n
outside_no_branch c n a = record { made = a.made; there = a.there; other = a.no_branch }

pub branch_or_not : (c : Configuration) (n : ℕ) → IsOfKind c n Branch → IsNoBranch c n → ⊥
branch_or_not c n b a = a.other (ap (λ (m : Slot). m.node.kind) (same_Some a.made b.made (sym a.there ∙ b.there)) ∙ b.kind)

pub branch_stays : (c d : Configuration) (e : Event) → Reconfigures c e d → (b : Office) → IsBranch c b → IsBranch d b
branch_stays c d e r b o =
    let w = stays c d e r b.at o.made o.there in record { made = w.then_; there = w.there; kind = ap (λ (x : Node). x.kind) w.node ∙ o.kind; first = w.first ∙ o.first; second = o.second }

pub office_stays : (c d : Configuration) (e : Event) → Reconfigures c e d → (b : Office) → IsOffice c b → target d b.from ≡ target c b.from → target d b.to ≡ target c b.to → IsOffice d b
office_stays c d e r b o from to = record {
  branch = branch_stays c d e r b o.branch;
  from_leads = from ∙ o.from_leads;
  to_leads = to ∙ o.to_leads;
  payer = kind_stays c d e r b.payer Account o.payer;
  payee = kind_stays c d e r b.payee Account o.payee;
}
