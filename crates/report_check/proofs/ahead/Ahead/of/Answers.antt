use Rattle.std.proofs.Common.{refl, ap, List, ℕ, length, ◌∙◌}
use Rattle.std.proofs.lemmas.List.{length-replicate}
use Rattle.config_graph.specs.declared.TheConstants.{MAX_PORTS}
use Rattle.report_check.proofs.AheadLemmas.{at_the_end}
use Rattle.report_check.proofs.ahead.Ahead.of.Goals as goal

pub note_all-requires : goal.note_all-requires
note_all-requires c =
    let n = length c.args.history.now in
    at_the_end _ c.args.history.now MAX_PORTS refl (c.in_ok-next.ensures.items_if_clones_equal (λ y e. e))
    (ap (λ (xs : List ℕ). length xs) (c.in_ok-later.ensures.items_if_clones_equal (λ y e. e)) ∙ length-replicate n n)
