use Rattle.std.proofs.Common.{rules, drop, refl}
use Rattle.watch_view.proofs.Keeping.{next_commits, publishes, still_last}
use Rattle.watch_view.proofs.writer.publish.Goals as goal

pub publish_as-requires : goal.publish_as-requires
publish_as-requires g c next is =
    publishes _ _ _ next (search rules) (next_commits _ _ c.args.next (drop c.append.new.self.behind c.append.new.self.log.items) (search rules) is (search rules))

pub returns-clause-last : goal.returns-clause-last
returns-clause-last g c =
    still_last _ _ _ _ _ _ _ _ (search rules) (next_commits _ _ c.args.next (drop c.append.new.self.behind c.append.new.self.log.items) (search rules) refl (search rules))
    c.publish_as.ensures.values
    c.publish_as.ensures.rule
