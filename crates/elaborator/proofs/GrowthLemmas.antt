-- The instances as they are made: what holds of them goes on to hold when one more is opened.
use Rattle.std.proofs.Common.{◌≡◌, ◌∙◌, inl, inr, ℕ, zero, suc, ◌+◌, ◌<◌, List, [], ◌∷◌, ◌++◌, length, map, Some, None, refl, sym, ap, subst, arith}
use Rattle.std.specs.List.{Contains, slice_get}
use Rattle.std.proofs.lemmas.Option.{none-some, same_Some, slice_get_within}
use Rattle.darwin_parser.specs.Tree.{Tree}
use Rattle.elaborator.specs.Paths.{Path}
use Rattle.elaborator.specs.Instances.{Instance, made_in, paths_in, Inst}
use Rattle.elaborator.specs.Instances.Inst.{at_top, below}
use Rattle.elaborator.specs.Faults.{Twice}
use Rattle.elaborator.specs.Numbering.{NumberedInstance}
use Rattle.elaborator.specs.Growth.{made_by, IsWalkedClean, IsGrown}
use Rattle.elaborator.proofs.ChildLaws.{depth-made}
use Rattle.elaborator.proofs.TwiceLaws.{twice_places}
use Rattle.base.proofs.ContainsLaws.{Contains-at, at_some_place}
use Rattle.base.proofs.PlaceLaws.{one_at, slice_get-append_cases, slice_get-before, slice_get-behind, slice_get-front, slice_get-map_at, slice_get-map_some}
use Rattle.base.proofs.NumberLaws.{earlier_or_same}

-- ---- one more instance is opened

pub grown-open :
    (tree : Tree) (top : Instance) (made : List NumberedInstance) (k : ℕ) (y : NumberedInstance)
    → IsGrown tree top made k → slice_get made k ≡ Some y → IsWalkedClean tree y.instance → IsGrown tree top (made ++ map (made_by k) (made_in tree y.instance)) (k + 1)
grown-open tree top made k y grown at opened =
    record {
      first = slice_get-front made more 0 _ grown.first;
      maker = λ n x there.
          elim (slice_get-append_cases made more (suc n) x there) [
            | inl before ↦
                let w = grown.maker n x before in
                (w.0, w.1, w.2, w.3, omega (arith, w.4), slice_get-front made more w.0 w.1 w.5, w.6)
            | inr behind ↦
                let w = slice_get-map_some (made_by k) (made_in tree y.instance) behind.0 x behind.2 in (
                  k,
                  y,
                  ap (λ (z : NumberedInstance). z.maker) (sym w.2),
                  omega (arith, behind.1, slice_get_within made k y at),
                  omega arith,
                  slice_get-front made more k y at,
                  subst (λ j. Contains (made_in tree y.instance) j) (ap (λ (z : NumberedInstance). z.instance) w.2) (Contains-at _ behind.0 w.0 w.1),
                )
          ];
      below = λ m z j lt there has.
          elim (earlier_or_same m k lt) [
            | inl before ↦ let w = grown.below m z j before (in_front m z before there) has in (w.0, slice_get-front made more w.0 _ w.1)
            | inr same ↦
                let one : z ≡ y = same_Some z y (sym there ∙ ap (slice_get (made ++ more)) same ∙ slice_get-front made more k y at) in
                let place = at_some_place (made_in tree y.instance) j (subst (λ (w : NumberedInstance). Contains (made_in tree w.instance) j) one has) in
                (length made + place.0, subst (λ a. slice_get (made ++ more) (length made + place.0) ≡ Some (made_by a j)) (sym same) (slice_get-behind made more place.0 _ (slice_get-map_at (made_by k) _ place.0 j place.1)))
          ];
      clear = λ m z lt there.
          elim (earlier_or_same m k lt) [
            | inl before ↦ grown.clear m z before (in_front m z before there)
            | inr same ↦
                let one : z ≡ y = same_Some z y (sym there ∙ ap (slice_get (made ++ more)) same ∙ slice_get-front made more k y at) in
                subst (λ (w : NumberedInstance). IsWalkedClean tree w.instance) (sym one) opened
          ];
    }
  where
    more : List NumberedInstance
    more = map (made_by k) (made_in tree y.instance)

    in_front : (m : ℕ) (z : NumberedInstance) → m < k → slice_get (made ++ map (made_by k) (made_in tree y.instance)) m ≡ Some z → slice_get made m ≡ Some z
    in_front m z before there = slice_get-before made _ m z (omega (arith, before, slice_get_within made k y at)) there

pub grown-top : (tree : Tree) (top : Instance) → IsGrown tree top (record { instance = top; maker = None } ∷ []) 0
grown-top tree top =
    record {
      first = refl;
      maker = λ n x at. absurd (none-some x at);
      below = λ m y j lt at has. absurd (omega (arith, lt));
      clear = λ m y lt at. absurd (omega (arith, lt));
    }

-- ---- what is made are the instances of the elaboration

sound_below : (tree : Tree) (top : Instance) (made : List NumberedInstance) (k : ℕ) → IsGrown tree top made k → (bound n : ℕ) (x : NumberedInstance) → n < bound → slice_get made n ≡ Some x → Inst tree top x.instance
sound_below tree top made k grown zero n x lt at = absurd (omega (arith, lt))
sound_below tree top made k grown (suc bound) zero x lt at =
    subst (λ (y : NumberedInstance). Inst tree top y.instance) (one_at made 0 _ x grown.first at) at_top
sound_below tree top made k grown (suc bound) (suc n) x lt at =
    let w = grown.maker n x at in
    below w.1.instance x.instance (sound_below tree top made k grown bound w.0 w.1 (omega (arith, w.3, lt)) w.5) w.6

pub grown-sound : (tree : Tree) (top : Instance) (made : List NumberedInstance) (k : ℕ) → IsGrown tree top made k → (n : ℕ) (x : NumberedInstance) → slice_get made n ≡ Some x → Inst tree top x.instance
grown-sound tree top made k grown n x at = sound_below tree top made k grown (n + 1) n x (omega arith) at

pub grown-complete :
    (tree : Tree) (top : Instance) (made : List NumberedInstance) → IsGrown tree top made (length made)
    → (i : Instance) → Inst tree top i → (n : ℕ) × (x : NumberedInstance) × (slice_get made n ≡ Some x) × (x.instance ≡ i)
grown-complete tree top made grown _ at_top = (0, _, grown.first, refl)
grown-complete tree top made grown _ (below i j inst has) =
    let w = grown-complete tree top made grown i inst in
    let b = grown.below w.0 w.1 j (slice_get_within made w.0 w.1 w.2) w.2 (subst (λ z. Contains (made_in tree z) j) (sym w.3) has) in
    (b.0, made_by w.0 j, b.1, refl)

-- ---- numbers are told by paths and depths

-- those that are made have different paths
abbrev pub AreApart : List NumberedInstance → Type 0
AreApart made = (m n : ℕ) (x y : NumberedInstance) → 0 < m → 0 < n → slice_get made m ≡ Some x → slice_get made n ≡ Some y → x.instance.path ≡ y.instance.path → m ≡ n

deep : (tree : Tree) (top : Instance) (made : List NumberedInstance) (k : ℕ) → IsGrown tree top made k → (n : ℕ) (x : NumberedInstance) → slice_get made (suc n) ≡ Some x → 0 < x.instance.depth
deep tree top made k grown n x at =
    let w = grown.maker n x at in
    omega (arith, depth-made tree w.1.instance x.instance w.6)

pub grown-distinct :
    (tree : Tree) (top : Instance) (made : List NumberedInstance) (k : ℕ) → IsGrown tree top made k → top.depth ≡ 0
    → AreApart made
    → (m n : ℕ) (x y : NumberedInstance) → slice_get made m ≡ Some x → slice_get made n ≡ Some y → x.instance.path ≡ y.instance.path → x.instance.depth ≡ y.instance.depth → m ≡ n
grown-distinct tree top made k grown shallow apart zero zero x y at at' same level = refl
grown-distinct tree top made k grown shallow apart zero (suc n) x y at at' same level =
    absurd (omega (arith, deep tree top made k grown n y at', level, shallow, ap (λ (z : NumberedInstance). z.instance.depth) (one_at made 0 _ x grown.first at)))
grown-distinct tree top made k grown shallow apart (suc m) zero x y at at' same level =
    absurd (omega (arith, deep tree top made k grown m x at, level, shallow, ap (λ (z : NumberedInstance). z.instance.depth) (one_at made 0 _ y grown.first at')))
grown-distinct tree top made k grown shallow apart (suc m) (suc n) x y at at' same level = apart (suc m) (suc n) x y (omega arith) (omega arith) at at' same

-- no path is made twice in an instance all of whose instances have different paths
pub once-made :
    (tree : Tree) (i : Instance) (made : List NumberedInstance) (k base : ℕ) → 0 < base → paths_in tree i ≡ map (λ (j : Instance). j.path) (made_in tree i)
    → ((a : ℕ) (j : Instance) → slice_get (made_in tree i) a ≡ Some j → slice_get made (base + a) ≡ Some (made_by k j))
    → AreApart made
    → (path : Path) → ¬ Twice (paths_in tree i) path
once-made tree i made k base positive paths places apart path two =
    let w = twice_places (map (λ (j : Instance). j.path) (made_in tree i)) path (subst (λ ps. Twice ps path) paths two) in
    let one = slice_get-map_some (λ (j : Instance). j.path) (made_in tree i) w.0 path w.3 in
    let other = slice_get-map_some (λ (j : Instance). j.path) (made_in tree i) w.1 path w.4 in
    omega (arith, w.2, apart (base + w.0) (base + w.1) (made_by k one.0) (made_by k other.0) (omega (arith, positive)) (omega (arith, positive)) (places w.0 one.0 one.1) (places w.1 other.0 other.1) (one.2 ∙ sym other.2))
