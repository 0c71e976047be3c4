-- How many ports a layout tells behind a commit; and gates that are turned, which a layout doesn't tell.
use Rattle.std.proofs.Common.{◌≡◌, ℕ, ◌<◌, true, false, List, [], ◌∷◌, map, sym, subst}
use Rattle.std.specs.Prelude.{All}
use Rattle.std.proofs.lemmas.List.Elements.{All-head, All-tail}
use Rattle.quiesce_core.specs.Effect.{with_closed}
use Rattle.quiesce_core.specs.Rules.{is_live_port}
use Rattle.quiesce_core.specs.State.{Configuration}
use Rattle.quiesce_core.specs.declared.event.Event.TheVariants as event
use Rattle.quiesce_laws.specs.Steps.{change_all}
use Rattle.quiesce_laws.proofs.TurningLaws.{SameLinks, live_port, same_turned}

pub opened_links : (c d : Configuration) (ps : List ℕ) → All (λ p. is_live_port c p ≡ true) ps → SameLinks c d → SameLinks c (change_all d (map event.Reopen ps))
opened_links c d [] h same = same
opened_links c d (p ∷ ps) h same =
    opened_links c (with_closed d p false) ps (All-tail (λ q. is_live_port c q ≡ true) p ps h)
    (same_turned c d p false (subst (λ n. p < n) (sym same.long) (live_port c p (All-head (λ q. is_live_port c q ≡ true) p ps h)).made) same)
