-- The definitions of banks and of their sums, on small systems.
use Rattle.std.proofs.Common.{◌≡◌, ℕ, zero, suc, ◌+◌, false, Some, refl, ap, arith}
use Rattle.std.specs.Prelude.{is_some}
use Rattle.std.proofs.lemmas.Bool.{both_ways}
use Rattle.config_graph.specs.declared.kind.Kind.TheVariants.{Teller, Branch, Account}
use Rattle.result_laws.specs.Describing.{kind_at}
use Rattle.result_laws.specs.Banks.{IsBank, LeadsToAccount, banks_serve_tellers}
use Rattle.result_laws.proofs.Testing.{links_pass}
use Rattle.result_laws.specs.Sums.{live_sum, opened_sum, removed_sum}
use Rattle.result_laws.specs.WorkedBanks.{bank, bank_beside_row, report, with_half_a_branch, with_teller_at_account}

pub bank_is_one : IsBank bank
bank_is_one = record { links = links_pass banks_serve_tellers bank refl; from = from; to = to }
  where
    from : (i : ℕ) → kind_at bank i ≡ Some Branch → LeadsToAccount bank i 0
    from (suc (suc zero)) h = record { account = 0; linked = refl; is_account = refl }
    from zero h = absurd (cc h)
    from (suc zero) h = absurd (cc h)
    from (suc (suc (suc zero))) h = absurd (cc h)
    from (suc (suc (suc (suc zero)))) h = absurd (cc h)
    from (suc (suc (suc (suc (suc i))))) h = absurd (cc h)

    to : (i : ℕ) → kind_at bank i ≡ Some Branch → LeadsToAccount bank i 1
    to (suc (suc zero)) h = record { account = 1; linked = refl; is_account = refl }
    to zero h = absurd (cc h)
    to (suc zero) h = absurd (cc h)
    to (suc (suc (suc zero))) h = absurd (cc h)
    to (suc (suc (suc (suc zero)))) h = absurd (cc h)
    to (suc (suc (suc (suc (suc i))))) h = absurd (cc h)

-- a row beside one leaves it one
pub beside_is_one : IsBank bank_beside_row
beside_is_one = record { links = links_pass banks_serve_tellers bank_beside_row refl; from = from; to = to }
  where
    from : (i : ℕ) → kind_at bank_beside_row i ≡ Some Branch → LeadsToAccount bank_beside_row i 0
    from (suc (suc (suc zero))) h = record { account = 0; linked = refl; is_account = refl }
    from zero h = absurd (cc h)
    from (suc zero) h = absurd (cc h)
    from (suc (suc zero)) h = absurd (cc h)
    from (suc (suc (suc (suc zero)))) h = absurd (cc h)
    from (suc (suc (suc (suc (suc zero))))) h = absurd (cc h)
    from (suc (suc (suc (suc (suc (suc zero)))))) h = absurd (cc h)
    from (suc (suc (suc (suc (suc (suc (suc i))))))) h = absurd (cc h)

    to : (i : ℕ) → kind_at bank_beside_row i ≡ Some Branch → LeadsToAccount bank_beside_row i 1
    to (suc (suc (suc zero))) h = record { account = 1; linked = refl; is_account = refl }
    to zero h = absurd (cc h)
    to (suc zero) h = absurd (cc h)
    to (suc (suc zero)) h = absurd (cc h)
    to (suc (suc (suc (suc zero)))) h = absurd (cc h)
    to (suc (suc (suc (suc (suc zero))))) h = absurd (cc h)
    to (suc (suc (suc (suc (suc (suc zero)))))) h = absurd (cc h)
    to (suc (suc (suc (suc (suc (suc (suc i))))))) h = absurd (cc h)

-- its teller leads to an account, to which branches alone lead
pub teller_is_none : IsBank with_teller_at_account → ⊥
teller_is_none b = both_ways false refl (b.links 1 0 0 0 Teller Account refl refl refl)

-- a branch whose second port leads nowhere
pub half_is_none : IsBank with_half_a_branch → ⊥
half_is_none b = let l = b.to 1 refl in both_ways false refl (ap is_some l.linked)

pub sums_there : (live_sum (report 97) ≡ 100) × (removed_sum (report 97) ≡ 5) × (opened_sum (report 97) ≡ 105)
sums_there = (refl, refl, refl)

-- so the account that took over can end with no other number
pub short_is_wrong : (b : ℕ) → live_sum (report b) + removed_sum (report b) ≡ opened_sum (report b) → b ≡ 97
short_is_wrong b h = omega (arith, h)
