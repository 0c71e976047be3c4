-- What an expansion tells: the faults that it finds, and the whole where there are none.
use Rattle.std.proofs.Common.{◌≡◌, ◌∙◌, inl, inr, ℕ, zero, suc, ◌+◌, ◌<◌, ◌≤◌, true, false, List, [], ◌∷◌, ◌++◌, length, length-append, length-set, set, map, sum_by, All, Option, Some, None, Result, refl, sym, ap, subst, arith}
use Rattle.std.specs.List.{Contains, slice_get}
use Rattle.std.proofs.Math.Seq.{map-set_same}
use Rattle.std.proofs.lemmas.Bool.{false≢true}
use Rattle.std.proofs.lemmas.Option.{none-some, same_Some, get_or_from_slice_get, slice_get_within}
use Rattle.std.proofs.lemmas.List.{length-map, map-append}
use Rattle.std.proofs.lemmas.List.Elements.{All-head, All-tail, Contains-append_left}
use Rattle.base.specs.Answers.{Answers}
use Rattle.base.proofs.AnswerLaws.{Answers-weaker}
use Rattle.darwin_parser.specs.Tree.{Tree, tree_of, component_of}
use Rattle.darwin_parser.specs.declared.tree.Unit.{Unit as Description}
use Rattle.darwin_types.specs.Scope.{component_named, is_primitive}
use Rattle.darwin_walk.specs.Walked.{cause_of}
use Rattle.darwin_walk.specs.declared.fault.Fault.TheVariants as shown
use Rattle.darwin_walk.specs.declared.fault.WalkError.{WalkError}
use Rattle.darwin_walk.specs.declared.fault.WalkError.TheVariants as walk
use Rattle.elaborator.specs.Paths.{Path}
use Rattle.elaborator.specs.Instances.{Instance, made_in, paths_in, Inst, count_in}
use Rattle.elaborator.specs.Faults.{own_faults, Twice, CountsMore}
use Rattle.elaborator.specs.Numbering.{NumberedInstance, Numbered, NumberedIn, IsExpanded, IsOf}
use Rattle.elaborator.specs.Expansion.{made_of, instance_in, expanded_of, paths_of, AreSizes, IsNumbering, IsMapped, IsShown}
use Rattle.elaborator.specs.Opening.{cause_at, error_at, JudgesAt, IsNoted, IsFound}
use Rattle.elaborator.specs.declared.opening.Found.{Found}
use Rattle.elaborator.specs.ExpansionFaults.{IsTop, GrowthFault, IsClear, IsWhole}
use Rattle.elaborator.specs.ExpansionFaults.GrowthFault.{out_of_range, zero_divisor, bad_index, two_instances, two_apart, too_deep, too_many}
use Rattle.elaborator.specs.Growth.{made_by, IsWalkedClean, IsGrown, IsGrowth, IsSpread, IsClash, IsTold}
use Rattle.elaborator.specs.declared.instance.Instance as code
use Rattle.elaborator.specs.declared.growing.Growth.{Growth}
use Rattle.elaborator.specs.declared.instance.Expansion.{Expansion}
use Rattle.elaborator.specs.declared.error.ElabError.{ElabError}
use Rattle.elaborator.specs.declared.error.ElabError.TheVariants as error
use Rattle.elaborator.proofs.HashLemmas.{hashed-top}
use Rattle.elaborator.proofs.PlainLemmas.{plain-sizes}
use Rattle.elaborator.proofs.NamingLemmas.{made_named}
use Rattle.elaborator.proofs.TwiceLaws.{twice_at, twice_before, twice_places}
use Rattle.elaborator.proofs.GrowthLemmas.{AreApart, grown-top, grown-open, grown-sound, grown-complete, grown-distinct, once-made}
use Rattle.elaborator.proofs.SpreadLemmas.{total-within, spread-top, spread-open, front-above, depth-next}
use Rattle.base.proofs.ContainsLaws.{Contains-at, Contains-from_map, Contains-map, at_some_place}
use Rattle.base.proofs.PlaceLaws.{one_at, slice_get-append_cases, slice_get-before, slice_get-behind, slice_get-map_at, slice_get-map_some, slice_get-set_cases, slice_get-set_other, slice_get-set_same}
use Rattle.base.proofs.NumberLaws.{earlier_or_same}

-- ---- faults

-- what is named in an instance of the elaboration is a fault
pub named-fault :
    (tree : Tree) (top i : Instance) (many : Type 0) (e : ElabError) → Inst tree top i → (many → CountsMore tree top 65536)
    → cause_at i.path (own_faults tree i) many e → GrowthFault tree top e
named-fault tree top i many e inst more cause = subst (GrowthFault tree top) (sym cause.1) (by cause.0 cause.2)
  where
    by : (e : WalkError) → cause_of (own_faults tree i) many e → GrowthFault tree top (error_at i.path e)
    by (walk.Fault (shown.OutOfRange at)) has = out_of_range i at inst has
    by (walk.Fault (shown.ZeroDivisor at)) has = zero_divisor i at inst has
    by (walk.Fault (shown.BadIndex at)) has = bad_index i at inst has
    by walk.TooMany many = too_many (more many)
    by walk.NoMemory none = absurd none

-- a path that an instance makes
makes_path :
    (tree : Tree) (i j : Instance) (path : Path) → paths_in tree i ≡ map (λ (x : Instance). x.path) (made_in tree i) → Contains (made_in tree i) j → j.path ≡ path
    → Contains (paths_in tree i) path
makes_path tree i j path paths has is =
    subst (λ ps. Contains ps path) (sym paths) (subst (Contains (map (λ (x : Instance). x.path) (made_in tree i))) is (Contains-map (λ (x : Instance). x.path) (made_in tree i) j has))

-- two instances of one path, the second made in the instance at hand
pub clash-fault :
    (tree : Tree) (top : Instance) (made : List NumberedInstance) (k : ℕ) (y : NumberedInstance) (all : List code.Instance) (path : Path)
    → IsGrown tree top made k → top.depth ≡ 0 → AreApart made → slice_get made k ≡ Some y → paths_in tree y.instance ≡ map (λ (x : Instance). x.path) (made_in tree y.instance)
    → map made_of all ≡ made ++ map (made_by k) (made_in tree y.instance) → IsClash all (length made) path → GrowthFault tree top (error.TwoInstances path)
clash-fault tree top made k y all path grown shallow apart at paths is clash =
    elim (slice_get-append_cases made more clash.second (made_of clash.other) (in_all clash.second clash.other clash.other_at)) [
      | inl early ↦ absurd (omega (arith, clash.later, slice_get_within made clash.second _ early))
      | inr second ↦
          let other = slice_get-map_some (made_by k) (made_in tree y.instance) second.0 (made_of clash.other) second.2 in
          let other_path : other.0.path ≡ path = ap (λ (z : NumberedInstance). z.instance.path) other.2 ∙ clash.other_path in
          elim (slice_get-append_cases made more clash.first (made_of clash.one) (in_all clash.first clash.one clash.one_at)) [
            | inl early ↦
                let w = maker clash.first clash.made early in
                let z = w.1.instance in
                two_apart z y.instance path (grown-sound tree top made k grown w.0 w.1 w.3) (grown-sound tree top made k grown k y at)
                (λ same. absurd (omega (arith, w.2, grown-distinct tree top made k grown shallow apart w.0 k w.1 y w.3 at (ap (λ (i : Instance). i.path) same) (ap (λ (i : Instance). i.depth) same))))
                (makes_path tree z (instance_in clash.one) path (grown.clear w.0 w.1 w.2 w.3).paths w.4 clash.one_path)
                (makes_path tree y.instance other.0 path paths (Contains-at _ second.0 other.0 other.1) other_path)
            | inr first ↦
                let one = slice_get-map_some (made_by k) (made_in tree y.instance) first.0 (made_of clash.one) first.2 in
                let one_path : one.0.path ≡ path = ap (λ (z : NumberedInstance). z.instance.path) one.2 ∙ clash.one_path in
                two_instances y.instance path (grown-sound tree top made k grown k y at)
                (subst (λ ps. Twice ps path) (sym paths)
                (twice_at (map (λ (x : Instance). x.path) (made_in tree y.instance)) first.0 second.0 path (omega (arith, first.1, second.1, clash.in_order))
                (slice_get-map_at (λ (x : Instance). x.path) (made_in tree y.instance) first.0 one.0 one.1 ∙ ap Some one_path)
                (slice_get-map_at (λ (x : Instance). x.path) (made_in tree y.instance) second.0 other.0 other.1 ∙ ap Some other_path)))
          ]
    ]
  where
    more : List NumberedInstance
    more = map (made_by k) (made_in tree y.instance)

    in_all : (a : ℕ) (x : code.Instance) → slice_get all a ≡ Some x → slice_get (made ++ map (made_by k) (made_in tree y.instance)) a ≡ Some (made_of x)
    in_all a x there = ap (λ xs. slice_get xs a) (sym is) ∙ slice_get-map_at made_of all a x there

    maker :
        (n : ℕ) → 0 < n → slice_get made n ≡ Some (made_of clash.one)
        → (m : ℕ) × (z : NumberedInstance) × (m < k) × (slice_get made m ≡ Some z) × Contains (made_in tree z.instance) (instance_in clash.one)
    maker zero lt there = absurd (omega (arith, lt))
    maker (suc n) lt there = let w = grown.maker n (made_of clash.one) there in (w.0, w.1, w.4, w.5, w.6)

-- ---- the whole

pub apart-mapped : (e : Expansion) → IsMapped e → AreApart (map made_of e.instances.items)
apart-mapped e mapped m n x y positive positive' at at' same =
    let v = slice_get-map_some made_of e.instances.items m x at in
    let w = slice_get-map_some made_of e.instances.items n y at' in
    let paths : v.0.path ≡ w.0.path = ap (λ (z : NumberedInstance). z.instance.path) v.2 ∙ same ∙ ap (λ (z : NumberedInstance). z.instance.path) (sym w.2) in
    mapped.distinct m n w.0.path positive positive' (slice_get-map_at (λ (i : code.Instance). i.path) e.instances.items m v.0 v.1 ∙ ap Some paths)
    (slice_get-map_at (λ (i : code.Instance). i.path) e.instances.items n w.0 w.1)

pub whole-expanded :
    (top : Instance) (g : Growth) → IsGrowth top g → top.depth ≡ 0 → component_named (tree_of g.expansion.directory.unit.now) top.component.name ≡ Some top.component
    → is_primitive top.component ≡ false → g.opened ≡ length g.expansion.instances.items → IsExpanded (expanded_of g.expansion)
whole-expanded top g growth shallow top_named composite all =
    record {
      made_below = λ m n i j at at'. below_maker n m i j at at';
      below_made = λ m i j at has.
          growth.grown.below m _ j (within m _ at.is_at) at.is_at has;
      distinct = λ m n i j at at' same level. distinct m n _ _ at.is_at at'.is_at same level;
      one_path = λ a b m n i j at at' same. one_path m n a b i j at at' same;
      shallow = λ n i at. (growth.grown.clear n _ (within n _ at.is_at) at.is_at).shallow;
      named = λ n i at. named n _ at.is_at;
      composite_top = λ n i at. top_only n i at;
    }
  where
    within : (n : ℕ) (x : NumberedInstance) → slice_get (map made_of g.expansion.instances.items) n ≡ Some x → n < g.opened
    within n x at = omega (arith, all, slice_get_within _ n x at, length-map g.expansion.instances.items made_of)

    distinct : (m n : ℕ) (x y : NumberedInstance) → slice_get (map made_of g.expansion.instances.items) m ≡ Some x → slice_get (map made_of g.expansion.instances.items) n ≡ Some y → x.instance.path ≡ y.instance.path → x.instance.depth ≡ y.instance.depth → m ≡ n
    distinct = grown-distinct (tree_of g.expansion.directory.unit.now) top (map made_of g.expansion.instances.items) g.opened growth.grown shallow (apart-mapped g.expansion growth.mapped)

    not_top : (m : ℕ) (i : Instance) → NumberedIn (expanded_of g.expansion) m 0 i → ⊥
    not_top m i at = none-some m (ap (λ (z : NumberedInstance). z.maker) (one_at _ 0 _ _ growth.grown.first at))

    below_maker : (n m : ℕ) (i j : Instance) → Numbered (expanded_of g.expansion) m i → NumberedIn (expanded_of g.expansion) m n j → Contains (made_in (tree_of g.expansion.directory.unit.now) i) j
    below_maker zero m i j at at' = absurd (not_top m j at')
    below_maker (suc n) m i j at at' =
        let w = growth.grown.maker n _ at' in
        let number : m ≡ w.0 = same_Some m w.0 w.2 in
        let one = one_at _ w.0 w.1 _ w.5 (subst (λ a. slice_get (map made_of g.expansion.instances.items) a ≡ Some (record { instance = i; maker = at.maker })) number at.is_at) in
        subst (λ (z : NumberedInstance). Contains (made_in (tree_of g.expansion.directory.unit.now) z.instance) j) one w.6

    one_path : (m n a b : ℕ) (i j : Instance) → NumberedIn (expanded_of g.expansion) a m i → NumberedIn (expanded_of g.expansion) b n j → i.path ≡ j.path → m ≡ n
    one_path zero n a b i j at at' same = absurd (not_top a i at)
    one_path (suc m) zero a b i j at at' same = absurd (not_top b j at')
    one_path (suc m) (suc n) a b i j at at' same = apart-mapped g.expansion growth.mapped (suc m) (suc n) _ _ (omega arith) (omega arith) at at' same

    named : (n : ℕ) (x : NumberedInstance) → slice_get (map made_of g.expansion.instances.items) n ≡ Some x → component_named (tree_of g.expansion.directory.unit.now) x.instance.component.name ≡ Some x.instance.component
    named zero x at =
        subst (λ (z : NumberedInstance). component_named (tree_of g.expansion.directory.unit.now) z.instance.component.name ≡ Some z.instance.component) (one_at _ 0 _ _ growth.grown.first at) top_named
    named (suc n) x at = let w = growth.grown.maker n x at in made_named (tree_of g.expansion.directory.unit.now) w.1.instance x.instance w.6

    top_only : (n : ℕ) (i : Instance) → slice_get (map made_of g.expansion.instances.items) n ≡ Some (record { instance = i; maker = None }) → is_primitive i.component ≡ false
    top_only zero i at = ap (λ (z : NumberedInstance). is_primitive z.instance.component) (sym (one_at _ 0 _ _ growth.grown.first at)) ∙ composite
    top_only (suc n) i at = let w = growth.grown.maker n _ at in absurd (none-some w.0 w.2)

-- each instance of the elaboration is there, and opened
standing :
    (top : Instance) (g : Growth) → IsGrowth top g → g.opened ≡ length g.expansion.instances.items → (i : Instance) → Inst (tree_of g.expansion.directory.unit.now) top i
    → (n : ℕ) × (x : NumberedInstance) × (n < g.opened) × (slice_get (map made_of g.expansion.instances.items) n ≡ Some x) × (x.instance ≡ i)
standing top g growth all i inst =
    let made = map made_of g.expansion.instances.items in
    let number : g.opened ≡ length made = all ∙ sym (length-map g.expansion.instances.items made_of) in
    let w = grown-complete (tree_of g.expansion.directory.unit.now) top made (subst (IsGrown (tree_of g.expansion.directory.unit.now) top made) number growth.grown) i inst in
    (w.0, w.1, omega (arith, number, slice_get_within made w.0 w.1 w.2), w.2, w.3)

is_opened :
    (top : Instance) (g : Growth) → IsGrowth top g → g.opened ≡ length g.expansion.instances.items → (i : Instance) → Inst (tree_of g.expansion.directory.unit.now) top i
    → IsWalkedClean (tree_of g.expansion.directory.unit.now) i
is_opened top g growth all i inst =
    let w = standing top g growth all i inst in
    subst (IsWalkedClean (tree_of g.expansion.directory.unit.now)) w.4 (growth.grown.clear w.0 w.1 w.2 w.3)

-- what an instance makes at a path has a number
made_at :
    (top : Instance) (g : Growth) → IsGrowth top g → g.opened ≡ length g.expansion.instances.items → (i : Instance) (path : Path)
    → Inst (tree_of g.expansion.directory.unit.now) top i → Contains (paths_in (tree_of g.expansion.directory.unit.now) i) path
    → (m : ℕ) × (n : ℕ) × (x : NumberedInstance) × (y : NumberedInstance) × (slice_get (map made_of g.expansion.instances.items) m ≡ Some x) × (x.instance ≡ i)
    × (slice_get (map made_of g.expansion.instances.items) (suc n) ≡ Some y) × (y.maker ≡ Some m) × (y.instance.path ≡ path)
made_at top g growth all i path inst has =
    let tree = tree_of g.expansion.directory.unit.now in
    let w = standing top g growth all i inst in
    let from = Contains-from_map (λ (x : Instance). x.path) (made_in tree i) path (subst (λ ps. Contains ps path) (is_opened top g growth all i inst).paths has) in
    let b = growth.grown.below w.0 w.1 from.0 w.2 w.3 (subst (λ z. Contains (made_in tree z) from.0) (sym w.4) from.1) in
    later b.0 w.0 w.1 from.0 w.3 w.4 b.1 from.2
  where
    later :
        (n m : ℕ) (x : NumberedInstance) (j : Instance) → slice_get (map made_of g.expansion.instances.items) m ≡ Some x → x.instance ≡ i
        → slice_get (map made_of g.expansion.instances.items) n ≡ Some (made_by m j) → path ≡ j.path
        → (m : ℕ) × (n : ℕ) × (x : NumberedInstance) × (y : NumberedInstance) × (slice_get (map made_of g.expansion.instances.items) m ≡ Some x) × (x.instance ≡ i)
        × (slice_get (map made_of g.expansion.instances.items) (suc n) ≡ Some y) × (y.maker ≡ Some m) × (y.instance.path ≡ path)
    later zero m x j at is there same = absurd (none-some m (ap (λ (z : NumberedInstance). z.maker) (one_at _ 0 _ _ growth.grown.first there)))
    later (suc n) m x j at is there same = (m, n, x, made_by m j, at, is, there, refl, sym same)

pub whole-clear :
    (top : Instance) (g : Growth) → IsGrowth top g → g.opened ≡ length g.expansion.instances.items → IsClear (tree_of g.expansion.directory.unit.now) top
whole-clear top g growth all =
    record {
      no_fault = λ i inst. (is_opened top g growth all i inst).no_fault;
      once = λ i path inst. (is_opened top g growth all i inst).once path;
      apart = λ i j path inst inst' has has'.
          let made = map made_of g.expansion.instances.items in
          let v = made_at top g growth all i path inst has in
          let w = made_at top g growth all j path inst' has' in
          let number = apart-mapped g.expansion growth.mapped (suc v.1) (suc w.1) v.3 w.3 (omega arith) (omega arith) v.6 w.6 (v.8 ∙ sym w.8) in
          let one = one_at made (suc w.1) v.3 w.3 (subst (λ n. slice_get made n ≡ Some v.3) number v.6) w.6 in
          let maker : v.0 ≡ w.0 = same_Some v.0 w.0 (sym v.7 ∙ ap (λ (z : NumberedInstance). z.maker) one ∙ w.7) in
          sym v.5 ∙ ap (λ (z : NumberedInstance). z.instance) (one_at made w.0 v.2 w.2 (subst (λ n. slice_get made n ≡ Some v.2) maker v.4) w.4) ∙ w.5;
      shallow = λ i inst. (is_opened top g growth all i inst).shallow;
      few =
          total-within (tree_of g.expansion.directory.unit.now) top (map instance_in g.expansion.instances.items) g.room
          (subst (λ n. IsSpread (tree_of g.expansion.directory.unit.now) top (map instance_in g.expansion.instances.items) n g.room) (all ∙ sym (length-map g.expansion.instances.items instance_in)) growth.spread);
    }

pub whole-kept :
    (top : Instance) (g : Growth) → IsGrowth top g → top.depth ≡ 0 → component_named (tree_of g.expansion.directory.unit.now) top.component.name ≡ Some top.component
    → is_primitive top.component ≡ false → g.opened ≡ length g.expansion.instances.items → IsNumbering g.expansion
whole-kept top g growth shallow named composite all =
    record {
      is_expanded = whole-expanded top g growth shallow named composite all;
      few = omega (arith, growth.few);
      primitive = λ n i at. growth.told n i at;
      bindings = λ n i at. (growth.shown n i (omega (arith, all, slice_get_within _ n i at)) at).bindings;
      sizes = λ n i at. (growth.shown n i (omega (arith, all, slice_get_within _ n i at)) at).sizes;
      mapped = growth.mapped;
      top = λ i at. ap (λ (z : NumberedInstance). z.maker) (sym (one_at _ 0 _ _ growth.grown.first (slice_get-map_at made_of g.expansion.instances.items 0 i at)));
    }

pub whole-of : (top : Instance) (g : Growth) → IsGrowth top g → g.opened ≡ length g.expansion.instances.items → IsOf (expanded_of g.expansion) top
whole-of top g growth all =
    record {
      sound = λ n i at. grown-sound _ top _ g.opened growth.grown n _ at.is_at;
      complete = λ i inst.
          let w = standing top g growth all i inst in
          (w.0, record { maker = w.1.maker; is_at = w.3 ∙ ap (λ j. Some (record { instance = j; maker = w.1.maker })) w.4 });
    }

pub whole :
    (unit : Description) (top : code.Instance) (g : Growth) → IsTop (tree_of unit) top → tree_of g.expansion.directory.unit.now ≡ tree_of unit → IsGrowth (instance_in top) g
    → length g.expansion.instances.items ≤ g.opened → IsWhole unit top g.expansion
whole unit top g is_top same growth all_opened =
    let all : g.opened ≡ length g.expansion.instances.items = omega (arith, all_opened, growth.within) in
    record {
      kept = whole-kept (instance_in top) g growth is_top.depth (subst (λ tree. component_named tree top.component.now.name ≡ Some (component_of top.component.now)) (sym same) is_top.named) is_top.composite all;
      same_tree = same;
      is_of = whole-of (instance_in top) g growth all;
      clear = subst (λ tree. IsClear tree (instance_in top)) same (whole-clear (instance_in top) g growth all);
    }

-- the top alone
pub growth-top :
    (t : Tree) (top : code.Instance) (g : Growth) → IsTop t top → g.expansion.instances.items ≡ top ∷ [] → g.opened ≡ 0 → g.room ≡ 65536 → g.expansion.numbers.before.items ≡ None ∷ []
    → g.expansion.numbers.last.entries ≡ [] → IsGrowth (instance_in top) g
growth-top t top g is_top alone none_opened all_room unled empty =
    record {
      at_top = is_top.depth;
      composite_top = is_top.composite;
      grown =
          subst (λ is. IsGrown tree (instance_in top) (map made_of is) g.opened) (sym alone)
          (subst (IsGrown tree (instance_in top) (made_of top ∷ [])) (sym none_opened)
          (subst (λ maker. IsGrown tree (instance_in top) (record { instance = instance_in top; maker = maker } ∷ []) 0) (sym is_top.unmade) (grown-top tree (instance_in top))));
      spread =
          subst (λ is. IsSpread tree (instance_in top) (map instance_in is) g.opened g.room) (sym alone)
          (subst (λ n. IsSpread tree (instance_in top) (instance_in top ∷ []) n g.room) (sym none_opened)
          (subst (IsSpread tree (instance_in top) (instance_in top ∷ []) 0) (sym all_room) (spread-top tree (instance_in top) is_top.depth)));
      mapped =
          record {
            hashed =
                hashed-top (paths_of g.expansion) g.expansion.numbers
                (omega (arith, length-map g.expansion.instances.items (λ (i : code.Instance). i.path), ap length alone)) unled empty;
            distinct = λ m n path positive positive' at at'.
                let w = slice_get-map_some (λ (i : code.Instance). i.path) g.expansion.instances.items m path at in
                absurd (alone_at m w.0 positive (ap (λ is. slice_get is m) (sym alone) ∙ w.1));
          };
      told = λ n i at. told n i (ap (λ is. slice_get is n) (sym alone) ∙ at);
      shown = λ n i lt at. absurd (omega (arith, lt, none_opened));
      few = omega (arith, ap length alone, all_room);
      within = omega (arith, none_opened);
    }
  where
    tree : Tree
    tree = tree_of g.expansion.directory.unit.now

    alone_at : (n : ℕ) (i : code.Instance) → 0 < n → slice_get (top ∷ []) n ≡ Some i → ⊥
    alone_at zero i positive at = absurd (omega (arith, positive))
    alone_at (suc n) i positive at = none-some i at

    told : (n : ℕ) (i : code.Instance) → slice_get (top ∷ []) n ≡ Some i → i.is_primitive ≡ is_primitive (component_of i.component.now)
    told zero i at = subst (λ (j : code.Instance). j.is_primitive ≡ is_primitive (component_of j.component.now)) (same_Some top i at) (is_top.noted ∙ sym is_top.composite)
    told (suc n) i at = absurd (none-some i at)

-- ---- the next instance

made_next : (g : Growth) (next : code.Instance) → slice_get g.expansion.instances.items g.opened ≡ Some next → slice_get (map made_of g.expansion.instances.items) g.opened ≡ Some (made_of next)
made_next g next at = slice_get-map_at made_of g.expansion.instances.items g.opened next at

seen_next : (g : Growth) (next : code.Instance) → slice_get g.expansion.instances.items g.opened ≡ Some next → slice_get (map instance_in g.expansion.instances.items) g.opened ≡ Some (instance_in next)
seen_next g next at = slice_get-map_at instance_in g.expansion.instances.items g.opened next at

next_inst :
    (top : Instance) (g : Growth) (next : code.Instance) → IsGrowth top g → slice_get g.expansion.instances.items g.opened ≡ Some next
    → Inst (tree_of g.expansion.directory.unit.now) top (instance_in next)
next_inst top g next growth at = grown-sound (tree_of g.expansion.directory.unit.now) top _ g.opened growth.grown g.opened (made_of next) (made_next g next at)

-- the ports of a node have no sizes
pub plain-next :
    (top : Instance) (g : Growth) (next : code.Instance) → IsGrowth top g → slice_get g.expansion.instances.items g.opened ≡ Some next
    → is_primitive (component_of next.component.now) ≡ true → AreSizes (instance_in next) []
plain-next top g next growth at primitive = by g.opened (made_next g next at)
  where
    by : (n : ℕ) → slice_get (map made_of g.expansion.instances.items) n ≡ Some (made_of next) → AreSizes (instance_in next) []
    by zero there =
        let one = ap (λ (z : NumberedInstance). is_primitive z.instance.component) (one_at _ 0 _ _ growth.grown.first there) in
        absurd (false≢true (sym growth.composite_top ∙ one ∙ primitive))
    by (suc n) there =
        let w = growth.grown.maker n _ there in
        plain-sizes (tree_of g.expansion.directory.unit.now) (instance_in next) _ g.expansion.directory.no_fault
        (made_named (tree_of g.expansion.directory.unit.now) w.1.instance (instance_in next) w.6) primitive

-- it is too deep
pub deep-fault :
    (top : Instance) (g : Growth) (next : code.Instance) (path : Path) → IsGrowth top g → slice_get g.expansion.instances.items g.opened ≡ Some next → 33 ≤ next.depth
    → path ≡ next.path → GrowthFault (tree_of g.expansion.directory.unit.now) top (error.TooDeep path)
deep-fault top g next path growth at deep is =
    subst (λ p. GrowthFault (tree_of g.expansion.directory.unit.now) top (error.TooDeep p)) (sym is)
    (too_deep (instance_in next) (next_inst top g next growth at)
    (omega (arith, deep, depth-next (tree_of g.expansion.directory.unit.now) top _ g.opened g.room (instance_in next) growth.spread (seen_next g next at))))

-- it counts for more than there is room for
counted-next :
    (top : Instance) (g : Growth) (next : code.Instance) → IsGrowth top g → slice_get g.expansion.instances.items g.opened ≡ Some next
    → g.room < count_in (instance_in next) → CountsMore (tree_of g.expansion.directory.unit.now) top 65536
counted-next top g next growth at many =
    record {
      counted = front.0;
      once = λ i two.
          let w = twice_places (map instance_in items) i (in_all i (λ is. Twice is i) (twice_before front.0 front.1 i two)) in
          let one = slice_get-map_some instance_in items w.0 i w.3 in
          let other = slice_get-map_some instance_in items w.1 i w.4 in
          let same = one.2 ∙ sym other.2 in
          omega (
            arith,
            w.2,
            grown-distinct tree top (map made_of items) g.opened growth.grown growth.at_top (apart-mapped g.expansion growth.mapped) w.0 w.1 (made_of one.0) (made_of other.0)
                (slice_get-map_at made_of items w.0 one.0 one.1) (slice_get-map_at made_of items w.1 other.0 other.1)
                (ap (λ (j : Instance). j.path) same) (ap (λ (j : Instance). j.depth) same),
          );
      each = λ i has.
          let w = at_some_place (map instance_in items) i (in_all i (λ is. Contains is i) (Contains-append_left front.0 front.1 i has)) in
          let one = slice_get-map_some instance_in items w.0 i w.1 in
          subst (Inst tree top) one.2 (grown-sound tree top (map made_of items) g.opened growth.grown w.0 (made_of one.0) (slice_get-map_at made_of items w.0 one.0 one.1));
      above = front.3;
    }
  where
    tree : Tree
    tree = tree_of g.expansion.directory.unit.now

    items : List code.Instance
    items = g.expansion.instances.items

    front : (front : List Instance) × (more : List Instance) × (map instance_in items ≡ front ++ more) × (65536 < sum_by count_in front)
    front = front-above tree top (map instance_in items) g.opened g.room (instance_in next) growth.spread (seen_next g next at) many

    in_all : (i : Instance) (P : List Instance → Type 0) → P (front.0 ++ front.1) → P (map instance_in items)
    in_all i P = subst P (sym front.2)

-- it is opened
pub judged-next :
    (top : Instance) (g : Growth) (next : code.Instance) (P : Found → Type 0) (r : Result Found ElabError) → IsGrowth top g → slice_get g.expansion.instances.items g.opened ≡ Some next
    → next.depth < 33 → JudgesAt next.path (own_faults (tree_of g.expansion.directory.unit.now) (instance_in next)) (g.room < count_in (instance_in next)) P r
    → Answers error.NoMemory (λ f. (next.depth < 33) × (own_faults (tree_of g.expansion.directory.unit.now) (instance_in next) ≡ []) × P f) (GrowthFault (tree_of g.expansion.directory.unit.now) top) r
judged-next top g next P r growth at shallow =
    Answers-weaker _ r (λ f told. (shallow, told.0, told.1))
    (λ e. named-fault (tree_of g.expansion.directory.unit.now) top (instance_in next) _ e (next_inst top g next growth at)
    (counted-next top g next growth at))

-- ---- the next instance is opened

noted_made : (k : ℕ) (js : List code.Instance) → All (IsNoted (Some k)) js → map made_of js ≡ map (made_by k) (map instance_in js)
noted_made k [] noted = refl
noted_made k (j ∷ js) noted =
    ap (λ maker. record { instance = instance_in j; maker = maker } ∷ map made_of js) (All-head (IsNoted (Some k)) j js noted).maker_is
    ∙ ap (λ is. made_by k (instance_in j) ∷ is) (noted_made k js (All-tail (IsNoted (Some k)) j js noted))

noted_at : (maker : Option ℕ) (js : List code.Instance) (a : ℕ) (j : code.Instance) → All (IsNoted maker) js → slice_get js a ≡ Some j → IsNoted maker j
noted_at maker js a j noted at = subst (IsNoted maker) (get_or_from_slice_get js a j j at) (noted a j (slice_get_within js a j at))

-- the instance with its bindings in the place of the one that was read, and behind all those that it makes
pub all_made :
    (tree : Tree) (items js : List code.Instance) (k : ℕ) (x y : code.Instance) → slice_get items k ≡ Some x → made_of y ≡ made_of x
    → map instance_in js ≡ made_in tree (instance_in x) → All (IsNoted (Some k)) js
    → map made_of (set items k y ++ js) ≡ map made_of items ++ map (made_by k) (made_in tree (instance_in x))
all_made tree items js k x y at same made noted =
    map-append made_of (set items k y) js
    ∙ ap (λ is. is ++ map made_of js) (map-set_same made_of items k y x (same ∙ ap made_of (sym (get_or_from_slice_get items k x x at))))
    ∙ ap (λ is. map made_of items ++ is) (noted_made k js noted ∙ ap (map (made_by k)) made)

-- two instances of one path
pub clash-next :
    (top : Instance) (g : Growth) (x y : code.Instance) (f : Found) (path : Path) → IsGrowth top g → slice_get g.expansion.instances.items g.opened ≡ Some x
    → made_of y ≡ made_of x → IsFound (tree_of g.expansion.directory.unit.now) (instance_in x) g.opened g.room f
    → IsClash (set g.expansion.instances.items g.opened y ++ f.made.items) (length (set g.expansion.instances.items g.opened y)) path
    → GrowthFault (tree_of g.expansion.directory.unit.now) top (error.TwoInstances path)
clash-next top g x y f path growth at same found clash =
    let items = g.expansion.instances.items in
    let lengths : length (set items g.opened y) ≡ length (map made_of items) = length-set items g.opened y ∙ sym (length-map items made_of) in
    clash-fault (tree_of g.expansion.directory.unit.now) top (map made_of items) g.opened (made_of x) (set items g.opened y ++ f.made.items) path
    growth.grown growth.at_top (apart-mapped g.expansion growth.mapped) (made_next g x at) found.paths
    (all_made (tree_of g.expansion.directory.unit.now) items f.made.items g.opened x y at same found.made found.noted)
    (subst (λ n. IsClash (set items g.opened y ++ f.made.items) n path) lengths clash)

-- the next instance x is now y, with its bindings, and the instances that it makes are added
pub record IsNext (top : Instance) (g : Growth) (x y : code.Instance) (f : Found) (new : Growth) : Type 0 where
  pub growth : IsGrowth top g
  pub at : slice_get g.expansion.instances.items g.opened ≡ Some x
  pub same : made_of y ≡ made_of x
  pub told : IsTold y
  pub shown : IsShown y
  pub shallow : x.depth < 33
  pub faultless : own_faults (tree_of g.expansion.directory.unit.now) (instance_in x) ≡ []
  pub found : IsFound (tree_of g.expansion.directory.unit.now) (instance_in x) g.opened g.room f
  pub same_unit : new.expansion.directory.unit ≡ g.expansion.directory.unit
  pub grown : new.expansion.instances.items ≡ set g.expansion.instances.items g.opened y ++ f.made.items
  pub mapped : IsMapped new.expansion
  pub opened : new.opened ≡ g.opened + 1
  pub room : f.count + new.room ≡ g.room

module _ (top : Instance) (g new : Growth) (x y : code.Instance) (f : Found) (s : IsNext top g x y f new) where
  abbrev tree : Tree
  tree = tree_of g.expansion.directory.unit.now

  abbrev items : List code.Instance
  items = g.expansion.instances.items

  abbrev next : Instance
  next = instance_in x

  within : g.opened < length items
  within = slice_get_within items g.opened x s.at

  lengths : length new.expansion.instances.items ≡ length items + length f.made.items
  lengths = omega (arith, ap length s.grown, length-append (set items g.opened y) f.made.items, length-set items g.opened y)

  all : map made_of new.expansion.instances.items ≡ map made_of items ++ map (made_by g.opened) (made_in tree next)
  all = ap (map made_of) s.grown ∙ all_made tree items f.made.items g.opened x y s.at s.same s.found.made s.found.noted

  all_seen : map instance_in new.expansion.instances.items ≡ map instance_in items ++ made_in tree next
  all_seen =
      ap (map instance_in) s.grown ∙ map-append instance_in (set items g.opened y) f.made.items
      ∙ ap (λ is. is ++ map instance_in f.made.items)
      (map-set_same instance_in items g.opened y x (ap (λ (z : NumberedInstance). z.instance) s.same ∙ ap instance_in (sym (get_or_from_slice_get items g.opened x x s.at))))
      ∙ ap (λ is. map instance_in items ++ is) s.found.made

  opened_next : IsWalkedClean tree next
  opened_next =
      record {
        no_fault = s.faultless;
        once =
            once-made tree next (map made_of items ++ map (made_by g.opened) (made_in tree next)) g.opened (length (map made_of items))
            (omega (arith, within, length-map items made_of)) s.found.paths
            (λ a j there. slice_get-behind (map made_of items) (map (made_by g.opened) (made_in tree next)) a _ (slice_get-map_at (made_by g.opened) _ a j there))
            (subst AreApart all (apart-mapped new.expansion s.mapped));
        paths = s.found.paths;
        shallow = s.shallow;
      }

  grown_next : IsGrown tree top (map made_of new.expansion.instances.items) new.opened
  grown_next =
      subst (λ is. IsGrown tree top is new.opened) (sym all)
      (subst (IsGrown tree top (map made_of items ++ map (made_by g.opened) (made_in tree next))) (sym s.opened)
      (grown-open tree top (map made_of items) g.opened (made_of x) s.growth.grown (made_next g x s.at) opened_next))

  spread_next : IsSpread tree top (map instance_in new.expansion.instances.items) new.opened new.room
  spread_next =
      subst (λ is. IsSpread tree top is new.opened new.room) (sym all_seen)
      (subst (λ n. IsSpread tree top (map instance_in items ++ made_in tree next) n new.room) (sym s.opened)
      (spread-open tree top (map instance_in items) g.opened g.room new.room next s.growth.spread (seen_next g x s.at) (ap (λ n. n + new.room) (sym s.found.count) ∙ s.room)))

  told_next : (n : ℕ) (i : code.Instance) → slice_get new.expansion.instances.items n ≡ Some i → IsTold i
  told_next n i there =
      elim (slice_get-append_cases (set items g.opened y) f.made.items n i (ap (λ is. slice_get is n) (sym s.grown) ∙ there)) [
        | inl front ↦
            elim (slice_get-set_cases items g.opened y n i front) [
              | inl here ↦ subst IsTold here.1 s.told
              | inr other ↦ s.growth.told n i other
            ]
        | inr behind ↦ (noted_at (Some g.opened) f.made.items behind.0 i s.found.noted behind.2).primitive
      ]

  shown_next : (n : ℕ) (i : code.Instance) → n < new.opened → slice_get new.expansion.instances.items n ≡ Some i → IsShown i
  shown_next n i lt there =
      let front =
      slice_get-before (set items g.opened y) f.made.items n i (omega (arith, lt, s.opened, within, length-set items g.opened y))
      (ap (λ is. slice_get is n) (sym s.grown) ∙ there) in
      elim (earlier_or_same n g.opened (omega (arith, lt, s.opened))) [
        | inl before ↦ s.growth.shown n i before (sym (slice_get-set_other items g.opened y n (λ same. absurd (omega (arith, before, same)))) ∙ front)
        | inr here ↦
            subst IsShown
            (same_Some y i (sym (slice_get-set_same items g.opened y within) ∙ ap (slice_get (set items g.opened y)) (sym here) ∙ front)) s.shown
      ]

  -- all that holds goes on to hold
  pub growth-next : IsGrowth top new
  growth-next =
      record {
        at_top = s.growth.at_top;
        composite_top = s.growth.composite_top;
        grown = subst (λ u. IsGrown (tree_of u) top (map made_of new.expansion.instances.items) new.opened) (sym (ap (λ r. r.now) s.same_unit)) grown_next;
        spread = subst (λ u. IsSpread (tree_of u) top (map instance_in new.expansion.instances.items) new.opened new.room) (sym (ap (λ r. r.now) s.same_unit)) spread_next;
        mapped = s.mapped;
        told = told_next;
        shown = shown_next;
        few = omega (arith, s.growth.few, s.room, s.found.few, lengths);
        within = omega (arith, within, s.opened, lengths);
      }
