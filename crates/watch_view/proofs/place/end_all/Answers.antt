use Rattle.std.proofs.Common.{rules, ◌≡◌, ◌∷◌, ◌++◌, [], All, sym, subst}
use Rattle.std.proofs.lemmas.List.Elements.{All-push}
use Rattle.watch_lines.specs.Sightings.{AreSightingsOf}
use Rattle.watch_view.proofs.place.end_all.Goals as goal

pub loop-preserved : goal.loop-preserved
loop-preserved g c =
    let line = c.in_ok-lines.field-0 in
    let written : c.push.new.self.items ≡ c.loop.lines.items ++ line ∷ [] = search rules in (
      search rules,
      λ graphs are. subst (All (AreSightingsOf graphs)) (sym written)
          (All-push (AreSightingsOf graphs) c.loop.lines.items line (c.loop.invariant.1 graphs are) (c.in_ok-lines.ensures graphs are)),
    )
