-- Where the nodes stand that a graph lacks or that are touched, and that one can tell of them.
use Rattle.std.proofs.Common.{◌≡◌, ◌∙◌, ℕ, Option, Some, None, refl, sym, subst, inl, inr, Contains, slice_get, ◌<◌, length}
use Rattle.std.proofs.lemmas.Option.{none-some, slice_get_within}
use Rattle.base.proofs.PlaceLaws.{one_at}
use Rattle.base.specs.Telling.{CanTell}
use Rattle.config_graph.proofs.TellLaws.{tell_contained}
use Rattle.config_graph.specs.Graph.{Graph}
use Rattle.config_graph.specs.declared.node.Node.{Node}
use Rattle.change_plan.specs.Differences.{IsGone}
use Rattle.change_plan.specs.Touched.{IsTouched}

pub tell_gone : (g h : Graph) (i : ℕ) → CanTell (IsGone g h i)
tell_gone g h i = by (slice_get g.nodes i) refl
  where
    by : (o : Option Node) → slice_get g.nodes i ≡ o → CanTell (IsGone g h i)
    by None at = inr (λ gone. none-some gone.node (sym at ∙ gone.here))
    by (Some n) at =
        elim (tell_contained h.nodes n) [
          | inl there ↦ inr (λ gone. gone.gone (subst (Contains h.nodes) (one_at g.nodes i n gone.node at gone.here) there))
          | inr lost ↦ inl (record { node = n; here = at; gone = lost })
        ]

pub gone_low : (g h : Graph) (i : ℕ) → IsGone g h i → i < length g.nodes
gone_low g h i x = slice_get_within g.nodes i x.node x.here

pub touched_low : (old new : Graph) (i : ℕ) → IsTouched old new i → i < length old.nodes
touched_low old new i (inl gone) = gone_low old new i gone
touched_low old new i (inr other) = slice_get_within old.nodes i other.stays.node other.stays.here
