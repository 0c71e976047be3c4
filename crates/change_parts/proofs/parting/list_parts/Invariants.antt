use Rattle.change_parts.specs.Groupings.{IsGrouping}
use Rattle.change_parts.proofs.PartingLemmas.{Progress}
use Rattle.change_parts.proofs.parting.list_parts.Given as goal

abbrev pub invariant-loop-last : goal.invariant-loop-last
invariant-loop-last l =
    (w : IsGrouping l.old l.new l.moves l.grouping) → Progress l.old l.new l.moves w.groups l.grouping.members.nodes.items l.last-index l.parts.items l.before.items
