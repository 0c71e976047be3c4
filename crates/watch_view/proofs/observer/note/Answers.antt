use Rattle.std.proofs.Common.{rules, ◌≡◌, ◌∷◌, ◌++◌, [], true, false, sym, subst, ◌∙◌}
use Rattle.watch_view.specs.Noted.{AreNoted, is_new}
use Rattle.watch_view.proofs.Noting.{noted_already, noted_more}
use Rattle.watch_view.proofs.observer.note.Goals as goal

pub returns-then-not-is_new-clause-ends : goal.returns-then-not-is_new-clause-ends
returns-then-not-is_new-clause-ends c = λ list are last.
    let old : is_new c.args.noted.now.items c.args.seen.now.commits ≡ false = search rules in
    noted_already list c.args.noted.now.items c.args.seen.now.commits are old last.0

pub returns-clause-kept : goal.returns-clause-kept
returns-clause-kept c = λ list are last.
    let new : is_new c.args.noted.now.items c.of.result.commits ≡ true = search rules in
    let written : c.push.new.self.items ≡ c.args.noted.now.items ++ c.of.result ∷ [] = search rules in
    subst (AreNoted list) (sym written)
    (noted_more list c.args.noted.now.items c.of.result c.args.seen.now.graph are new (c.of.ensures.commits ∙ last.0) last.1 c.of.ensures.counts)
