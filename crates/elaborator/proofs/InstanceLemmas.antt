-- The bindings of one instance, one after another.
use Rattle.std.proofs.Common.{◌≡◌, ◌∙◌, ℕ, ◌<◌, List, [], ◌∷◌, ◌++◌, length, get_or, take, drop, map, ap, sym, subst, inl, inr, arith, append_assoc}
use Rattle.std.specs.List.{Contains, flat_map}
use Rattle.std.proofs.lemmas.List.{map-append, take-append-drop}
use Rattle.std.proofs.lemmas.List.Elements.{Contains-get_or, Contains-append_left, Contains-append_cases, Contains-push_cases}
use Rattle.std.proofs.lemmas.Grind.{flat_map-append}
use Rattle.darwin_parser.specs.Tree.{Tree}
use Rattle.darwin_walk.specs.Instance.{Binding}
use Rattle.elaborator.specs.Instances.{Instance}
use Rattle.elaborator.specs.Bindings.{Pair, pair_of, bindings_in, pairs_in}
use Rattle.elaborator.specs.Paths.{end_bytes}
use Rattle.elaborator.specs.Numbering.{Expanded, Numbered, IsExpanded}
use Rattle.elaborator.specs.PortIndex.{IsLawful, AreLawful, AreBefore, Clashes, BindingFault}
use Rattle.elaborator.specs.PortIndex.BindingFault.{bound_twice}
use Rattle.elaborator.specs.declared.error.ElabError.{ElabError}
use Rattle.elaborator.specs.declared.error.ElabError.TheVariants as error
use Rattle.elaborator.proofs.BoundLemmas.{one_instance}
use Rattle.base.proofs.ContainsLaws.{Contains-map}

-- the first elements are elements
pub front : {A B : Type 0} (f : A → B) (xs : List A) (k : ℕ) → map f xs ≡ map f (take k xs) ++ map f (drop k xs)
front f xs k = ap (map f) (sym (take-append-drop k xs)) ∙ map-append f (take k xs) (drop k xs)

-- the element that is next is one
pub next_there : {A B : Type 0} (f : A → B) (xs : List A) (k : ℕ) (x : A) → k < length xs → x ≡ get_or xs k x → Contains (map f xs) (f x)
next_there f xs k x within is = Contains-map f xs x (subst (Contains xs) (sym is) (Contains-get_or xs k x within))

-- the pairs of the bindings so far, and of one more
pub pairs-more :
    (tree : Tree) (i : Instance) (before : List Pair) (bs : List Binding) (b : Binding) (p : Pair) → pair_of tree i b ≡ p ∷ []
    → (before ++ flat_map (pair_of tree i) bs) ++ p ∷ [] ≡ before ++ flat_map (pair_of tree i) (bs ++ b ∷ [])
pairs-more tree i before bs b p is =
    append_assoc before (flat_map (pair_of tree i) bs) (p ∷ []) ∙ ap (λ ps. before ++ ps) (sym (flat_map-append (pair_of tree i) bs (b ∷ []) ∙ ap (λ ps. flat_map (pair_of tree i) bs ++ (ps ++ [])) is))

pub lawful-more : (tree : Tree) (i : Instance) (bs : List Binding) (b : Binding) (p : Pair) → AreLawful tree i bs → IsLawful tree i b p → AreLawful tree i (bs ++ b ∷ [])
lawful-more tree i bs b p lawful one = λ c there.
    elim (Contains-push_cases bs b c there) [ inl earlier ↦ lawful c earlier | inr same ↦ (p, subst (λ d. IsLawful tree i d p) same one) ]

-- a source that is bound to another target is bound twice in the instance
pub twice :
    (e : Expanded) → IsExpanded e → (n : ℕ) (i : Instance) (before : List Pair) (bs cs : List Binding) (p : Pair) (f : ElabError) → Numbered e n i → AreBefore e n before
    → bindings_in i ≡ bs ++ cs → Contains (pairs_in e.tree i) p
    → Clashes (before ++ flat_map (pair_of e.tree i) bs) p × (f ≡ error.BoundTwice i.path (end_bytes p.end)) → BindingFault e f
twice e expanded n i before bs cs p f at earlier split there clash =
    subst (BindingFault e) (sym clash.1) (bound_twice n i p at there (record {
      other = clash.0.other;
      is_there = elim (Contains-append_cases before (flat_map (pair_of e.tree i) bs) clash.0.other clash.0.is_there) [
        | inl in_earlier ↦
            let w = earlier clash.0.other in_earlier in
            let same = one_instance e expanded w.0 n w.1 i clash.0.other p w.3 at w.4 there (sym clash.0.same_source) in
            absurd (omega (arith, w.2, same))
        | inr here ↦ subst (λ ds. Contains (flat_map (pair_of e.tree i) ds) clash.0.other) (sym split) (subst (λ ps. Contains ps clash.0.other) (sym (flat_map-append (pair_of e.tree i) bs cs)) (Contains-append_left _ (flat_map (pair_of e.tree i) cs) _ here))
      ];
      same_source = clash.0.same_source;
      other_target = clash.0.other_target;
    }))
