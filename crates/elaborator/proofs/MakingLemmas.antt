-- One more instance that a child is.
use Rattle.std.proofs.Common.{◌≡◌, ◌∙◌, ℕ, suc, ◌+◌, ◌<◌, List, [], ◌∷◌, ◌++◌, map, length, drop, get_or, Option, Some, None, All, refl, sym, ap, subst, append_assoc, arith}
use Rattle.std.specs.List.{filter_map, flat_map}
use Rattle.std.specs.Option.{IfSome}
use Rattle.std.proofs.Math.Seq.{drop-cons}
use Rattle.std.proofs.lemmas.List.{map-append}
use Rattle.std.proofs.lemmas.List.Elements.{All-append, All-cons, All-nil}
use Rattle.darwin_walk.specs.Walked.{child_of}
use Rattle.darwin_walk.specs.Instance.{Child}
use Rattle.darwin_walk.specs.declared.fault.Fault.{Fault}
use Rattle.darwin_walk.specs.declared.walked.Child as code_child
use Rattle.darwin_types.specs.Scope.{component_named}
use Rattle.darwin_parser.specs.Tree.{Tree, Component}
use Rattle.elaborator.specs.Instances.{Instance, child_path, instance_of, path_of}
use Rattle.elaborator.specs.Expansion.{instance_in}
use Rattle.elaborator.specs.Opening.{IsNoted}
use Rattle.elaborator.specs.declared.instance.Instance as code
use Rattle.base.proofs.MapLaws.{filter_map-Some, filter_map-None}

-- the children that are left begin with the one at hand
pub next : {A B : Type 0} (f : A → B) (xs : List A) (k : ℕ) (x : A) → k < length xs → x ≡ get_or xs k x → map f (drop k xs) ≡ f x ∷ map f (drop (k + 1) xs)
next f xs k x within is =
    ap (map f) (drop-cons xs k x within) ∙ ap (λ y. f y ∷ map f (drop (suc k) xs)) (sym is) ∙ ap (λ n. f x ∷ map f (drop n xs)) (one_more k)
  where
    one_more : (n : ℕ) → suc n ≡ n + 1
    one_more n = omega arith

pub faults-next :
    (faults : Child → List Fault) (xs : List code_child.Child) (k : ℕ) (x : code_child.Child) → k < length xs → x ≡ get_or xs k x → faults (child_of x) ≡ []
    → flat_map faults (map child_of (drop k xs)) ≡ flat_map faults (map child_of (drop (k + 1) xs))
faults-next faults xs k x within is none =
    ap (flat_map faults) (next child_of xs k x within is) ∙ ap (λ fs. fs ++ flat_map faults (map child_of (drop (k + 1) xs))) none

pub instances-push :
    (f : Child → Option Instance) (all rest : List Child) (x : Child) (made pushed : List code.Instance) (j : code.Instance)
    → filter_map f all ≡ map instance_in made ++ filter_map f (x ∷ rest) → Some (instance_in j) ≡ f x → pushed ≡ made ++ j ∷ []
    → filter_map f all ≡ map instance_in pushed ++ filter_map f rest
instances-push f all rest x made pushed j so_far is grown =
    so_far ∙ ap (λ ys. map instance_in made ++ ys) (filter_map-Some f x rest (instance_in j) is)
    ∙ sym (append_assoc (map instance_in made) (instance_in j ∷ []) (filter_map f rest))
    ∙ ap (λ ys. ys ++ filter_map f rest) (sym (ap (map instance_in) grown ∙ map-append instance_in made (j ∷ [])))

-- a child that is none is passed over
pub instances-skip :
    (f : Child → Option Instance) (all rest : List Child) (x : Child) (made same : List code.Instance)
    → filter_map f all ≡ map instance_in made ++ filter_map f (x ∷ rest) → None ≡ f x → same ≡ made
    → filter_map f all ≡ map instance_in same ++ filter_map f rest
instances-skip f all rest x made same so_far is unchanged =
    so_far ∙ ap (λ ys. map instance_in made ++ ys) (filter_map-None f x rest is) ∙ ap (λ is. map instance_in is ++ filter_map f rest) (sym unchanged)

pub noted-push :
    (maker : Option ℕ) (made pushed : List code.Instance) (j : code.Instance) (o : Option code.Instance)
    → All (IsNoted maker) made → IfSome o (IsNoted maker) → o ≡ Some j → pushed ≡ made ++ j ∷ [] → All (IsNoted maker) pushed
noted-push maker made pushed j o so_far noted is grown =
    subst (All (IsNoted maker)) (sym grown) (All-append (IsNoted maker) made (j ∷ []) so_far (All-cons (IsNoted maker) j [] (subst (λ p. IfSome p (IsNoted maker)) is noted) (All-nil (IsNoted maker))))

-- the paths that children make are those of the instances that they are
pub made_paths :
    (tree : Tree) (i : Instance) (cs : List code_child.Child)
    → filter_map (path_of tree i) (map child_of cs) ≡ map (λ (j : Instance). j.path) (filter_map (instance_of tree i) (map child_of cs))
made_paths tree i [] = refl
made_paths tree i (x ∷ cs) = one (component_named tree x.component.now) refl (made_paths tree i cs)
  where
    one : (o : Option Component) → component_named tree x.component.now ≡ o
        → filter_map (path_of tree i) (map child_of cs) ≡ map (λ (j : Instance). j.path) (filter_map (instance_of tree i) (map child_of cs))
        → filter_map (path_of tree i) (map child_of (x ∷ cs)) ≡ map (λ (j : Instance). j.path) (filter_map (instance_of tree i) (map child_of (x ∷ cs)))
    one None is rest = rw is rest
    one (Some found) is rest = rw is (ap (λ ps. child_path i (child_of x) ∷ ps) rest)
