use Rattle.std.proofs.Common.{rules, ◌≡◌, [], ◌∷◌, sym, subst}
use Rattle.watch_lines.specs.Counts.{AreCountsOf, before_all}
use Rattle.watch_lines.proofs.Counting.{counts_of_none}
use Rattle.watch_lines.proofs.counts.Counts.new.Goals as goal

pub returns : goal.returns
returns c =
    let is : c.push.new.self.items ≡ before_all ∷ [] = search rules in
    subst (AreCountsOf []) (sym is) counts_of_none
