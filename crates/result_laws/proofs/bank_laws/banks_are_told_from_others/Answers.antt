use Rattle.result_laws.proofs.WorkedBanks.{bank_is_one, beside_is_one, half_is_none, short_is_wrong, sums_there, teller_is_none}
use Rattle.result_laws.proofs.bank_laws.banks_are_told_from_others.Goals as goal

pub returns : goal.returns
returns c = record { bank = bank_is_one; beside = beside_is_one; teller = teller_is_none; half = half_is_none; sums = sums_there; short = short_is_wrong }
