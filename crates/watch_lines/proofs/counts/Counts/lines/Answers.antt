use Rattle.std.proofs.Common.{rules, ◌≡◌, sym, subst}
use Rattle.watch_lines.specs.Counts.{lines_of}
use Rattle.watch_lines.specs.Sightings.{AreSightingsOf}
use Rattle.watch_lines.proofs.Counting.{lines_of_graphs}
use Rattle.watch_lines.proofs.counts.Counts.lines.Goals as goal

pub returns-clause-told : goal.returns-clause-told
returns-clause-told c graphs are =
    let is : c.of.result ≡ lines_of c.args.self.now c.args.seen.now = search rules in
    subst (AreSightingsOf graphs) (sym is) (lines_of_graphs graphs c.args.self.now c.args.seen.now are)
