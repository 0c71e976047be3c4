use Rattle.std.proofs.Common.{◌∙◌, ◌++◌, [], ◌∷◌, refl, ap}
use Rattle.elaborator.proofs.ExpandLemmas.{growth-top}
use Rattle.elaborator.proofs.growing.top_alone.Goals as goal

pub returns : goal.returns
returns c = (
  refl,
  growth-top _ c.args.top _ c.requires (c.in_ok-push.ensures.items ∙ ap (λ is. is ++ c.args.top ∷ []) c.new-instances.ensures.items) refl refl c.in_ok-new.ensures.before c.in_ok-new.ensures.empty,
)
