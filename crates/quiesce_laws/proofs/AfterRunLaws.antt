-- What holds of links, paths and sources after each run.
use Rattle.std.proofs.Common.{◌≡◌, ℕ, true, false, List, Some, sym, ap, ◌∙◌, ⊎_elim}
use Rattle.std.proofs.lemmas.Bool.{cases_Bool}
use Rattle.config_graph.specs.declared.node.Node.{Node}
use Rattle.config_graph.specs.declared.node.Target.{Target}
use Rattle.quiesce_core.specs.declared.event.Event.{Event}
use Rattle.quiesce_core.specs.declared.state.Slot.{Slot}
use Rattle.quiesce_core.specs.Runs.{IsRun, state_after}
use Rattle.quiesce_core.specs.State.{Configuration, is_live, owner, slot, target}
use Rattle.quiesce_core.specs.WellFormed.{IsSound}
use Rattle.base.proofs.OptionLaws.{map_or_at}
use Rattle.quiesce_core.proofs.RunLaws.{nodes_are_named, runs_are_consistent, runs_are_well_formed}
use Rattle.quiesce_core.proofs.SourceLaws.{sources_are_gone}
use Rattle.quiesce_laws.specs.Fitting.{PathsApart}
use Rattle.quiesce_laws.proofs.CommitLaws.{SourcesAreGone}

pub paths_apart : (es : List Event) → IsRun es → PathsApart (state_after es).config
paths_apart es run n k a b la lb same =
    (nodes_are_named es run).paths n k la.made lb.made la.there lb.there la.live lb.live (ap (λ (x : Node). x.path) la.is_node ∙ same ∙ sym (ap (λ (x : Node). x.path) lb.is_node))

pub owners_live : (es : List Event) → IsRun es → (p : ℕ) (t : Target) → target (state_after es).config p ≡ Some t → is_live (state_after es).config (owner (state_after es).config p) ≡ true
owners_live es run p t e =
    let c = (state_after es).config in
    ⊎_elim (λ (h : is_live c (owner c p) ≡ true). h)
    (λ (h : is_live c (owner c p) ≡ false). let none_ = ((runs_are_consistent es run).removed p h).1 in absurd (cc (none_, e)))
    (cases_Bool (is_live c (owner c p)))

-- what holds of the configuration after each run
pub record IsAfterRun (c : Configuration) : Type 0 where
  pub sound : IsSound c
  pub owners_live : (p : ℕ) (t : Target) → target c p ≡ Some t → is_live c (owner c p) ≡ true
  pub gone : SourcesAreGone c
  pub named : PathsApart c

pub after_run : (es : List Event) → IsRun es → IsAfterRun (state_after es).config
after_run es run = record {
  sound = (runs_are_well_formed es run).sound;
  owners_live = owners_live es run;
  gone = λ n k m e f.
      let g = (sources_are_gone es run).gone n k m e f in
      map_or_at (λ (x : Slot). x.live) (slot (state_after es).config k) false g.old g.there ∙ g.removed;
  named = paths_apart es run;
}
