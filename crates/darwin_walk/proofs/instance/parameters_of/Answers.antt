use Rattle.std.proofs.Common.{◌≡◌, ◌∙◌, ◌⊎◌, inl, inr, ℤ, List, [], ◌∷◌, ◌++◌, map, refl, sym, ap, append-nil}
use Rattle.std.specs.List.{zip}
use Rattle.std.proofs.lemmas.Slice.Zip.{either_empty_from_Zip}
use Rattle.darwin_parser.specs.Tree.{Name}
use Rattle.darwin_walk.specs.Value.{Variable}
use Rattle.darwin_walk.proofs.instance.parameters_of.Goals as goal

zip-nil : (xs : List Name) → zip xs (let none : List ℤ = [] in none) ≡ []
zip-nil [] = refl
zip-nil (x ∷ xs) = refl

-- one of the two lists is at its end
ended : (xs : List Name) (ys : List ℤ) → (xs ≡ []) ⊎ (ys ≡ []) → zip xs ys ≡ []
ended xs ys (inl none) = rw none
ended xs ys (inr none) = rw none (zip-nil xs)

-- nothing is left
none_left :
    (done whole : List Variable) (xs : List Name) (ys : List ℤ) (f : (Name × ℤ) → Variable)
    → whole ≡ done ++ map f (zip xs ys) → (xs ≡ []) ⊎ (ys ≡ []) → done ≡ whole
none_left done whole xs ys f all end = sym (all ∙ ap (λ zs. done ++ map f zs) (ended xs ys end) ∙ append-nil done)

pub returns : goal.returns
returns c =
    none_left _ _ c.loop-name.name-iterator.a.rest.now c.loop-name.name-iterator.b.rest.now _ c.loop-name.invariant
    (either_empty_from_Zip c.loop-name.name-iterator c.next.new.self c.next.result c.in-None.is c.next.ensures.steps)
