-- The instances level by level, as they are opened one after another.
use Rattle.std.proofs.Common.{◌≡◌, ◌∙◌, ℕ, zero, suc, Bool, true, false, ◌&&◌, not, nat_lt, if◌then◌else◌, ◌+◌, ◌<◌, ◌≤◌, List, [], ◌∷◌, ◌++◌, length, Some, refl, sym, ap, subst, arith, append_assoc, append-nil, length-append, sum_by}
use Rattle.std.specs.List.{Contains, slice_get, flat_map}
use Rattle.std.proofs.lemmas.Bool.Decides.{nat_tests}
use Rattle.std.proofs.lemmas.Option.{none-some, same_Some}
use Rattle.std.proofs.lemmas.Grind.{flat_map-append}
use Rattle.std.proofs.lemmas.List.Sums.{sum_by-append, sum_by-cons}
use Rattle.std.proofs.lemmas.List.Elements.{Contains-append_left, Contains-append_right}
use Rattle.std.proofs.lemmas.List.{nil_from_length}
use Rattle.darwin_parser.specs.Tree.{Tree}
use Rattle.darwin_walk.specs.Instance.{Child, children}
use Rattle.elaborator.specs.Instances.{Instance, instance_of, is_expanded, children_in, made_in, levels, instances, count_in, total}
use Rattle.elaborator.specs.Growth.{IsSpread}
use Rattle.elaborator.proofs.ChildLaws.{depth-made}
use Rattle.base.proofs.ContainsLaws.{Contains-at, Contains-from_filter_map, Contains-from_flat_map, Contains-here, Contains-nil, Contains-one}
use Rattle.base.proofs.PlaceLaws.{slice_get-after}

-- ---- levels

pub levels-suc : (tree : Tree) (n : ℕ) (is : List Instance) → levels tree (suc n) is ≡ is ++ levels tree n (flat_map (made_in tree) is)
unfolding levels
levels-suc tree n is = refl

pub levels-zero : (tree : Tree) (is : List Instance) → levels tree 0 is ≡ is
unfolding levels
levels-zero tree is = refl

levels-nil : (tree : Tree) (n : ℕ) → levels tree n [] ≡ []
levels-nil tree zero = levels-zero tree []
levels-nil tree (suc n) = levels-suc tree n [] ∙ levels-nil tree n

levels-last : (tree : Tree) (n : ℕ) (is : List Instance) → flat_map (made_in tree) is ≡ [] → levels tree n is ≡ is
levels-last tree zero is last = levels-zero tree is
levels-last tree (suc n) is last =
    levels-suc tree n is ∙ ap (λ js. is ++ levels tree n js) last ∙ ap (λ js. is ++ js) (levels-nil tree n) ∙ append-nil is

pub levels-front : (tree : Tree) (n : ℕ) (is : List Instance) → (more : List Instance) × (levels tree n is ≡ is ++ more)
levels-front tree zero is = ([], levels-zero tree is ∙ sym (append-nil is))
levels-front tree (suc n) is = (levels tree n (flat_map (made_in tree) is), levels-suc tree n is)

-- only an instance that isn't too deep makes others
pub shallow-maker : (tree : Tree) (i j : Instance) → Contains (made_in tree i) j → i.depth < 33
shallow-maker tree i j there =
    let child = Contains-from_filter_map (instance_of tree i) (children_in i) j there in
    reached (is_expanded i) refl child.0 child.1
  where
    reached : (b : Bool) → is_expanded i ≡ b → (c : Child) → Contains (if b then children i.component i.env else []) c → i.depth < 33
    reached true is c has = below (not (Rattle.darwin_types.specs.Scope.is_primitive i.component)) i.depth is
      where
        below : (a : Bool) (n : ℕ) → a && nat_lt n 33 ≡ true → n < 33
        below a n is = grind (arith, nat_tests)
    reached false is c has = absurd (Contains-nil c has)

-- ---- the instance that is next

-- the level at hand is opened, and the next one begins
turned : (tree : Tree) (top : Instance) (made : List Instance) (k room : ℕ) (s : IsSpread tree top made k room) (d : ℕ) → s.left ≡ [] → s.deeper ≡ suc d → IsSpread tree top made k room
turned tree top made k room s d none deeper =
    let next = flat_map (made_in tree) s.done in
    record {
      before = s.before ++ s.done;
      done = [];
      left = next;
      deeper = d;
      made_is =
          s.made_is ∙ ap (λ ls. s.before ++ s.done ++ ls ++ next) none ∙ sym (append-nil (s.before ++ s.done ++ [] ++ next));
      opened_is = omega (arith, s.opened_is, length-append s.before s.done);
      all =
          s.all ∙ ap (λ ls. s.before ++ levels tree s.deeper (s.done ++ ls)) none ∙ ap (λ ls. s.before ++ levels tree s.deeper ls) (append-nil s.done)
          ∙ ap (λ n. s.before ++ levels tree n s.done) deeper ∙ ap (λ js. s.before ++ js) (levels-suc tree d s.done) ∙ sym (append_assoc s.before s.done (levels tree d next));
      depth = λ i has.
          let from = Contains-from_flat_map (made_in tree) s.done i has in
          omega (arith, s.depth from.0 (Contains-append_left s.done s.left from.0 from.1), deeper, depth-made tree from.0 i from.2);
      counted = ap (λ js. sum_by count_in js + room) (append-nil (s.before ++ s.done)) ∙ s.counted;
    }

-- the instance at the next place is the first of those of its level that aren't opened
pub record Facing (tree : Tree) (top : Instance) (made : List Instance) (k room : ℕ) (x : Instance) : Type 0 where
  pub spread : IsSpread tree top made k room
  pub rest : List Instance
  pub left_is : spread.left ≡ x ∷ rest

first_of : {A : Type 0} (xs : List A) (x : A) → slice_get xs 0 ≡ Some x → (rest : List A) × (xs ≡ x ∷ rest)
first_of [] x at = absurd (none-some x at)
first_of (y ∷ xs) x at = (xs, ap (λ z. z ∷ xs) (same_Some y x at))

pub facing : (tree : Tree) (top : Instance) (made : List Instance) (k room : ℕ) (x : Instance) → IsSpread tree top made k room → slice_get made k ≡ Some x → Facing tree top made k room x
unfolding turned
facing tree top made k room x s at = by s.left refl
  where
    next : List Instance
    next = flat_map (made_in tree) s.done

    behind : slice_get (s.left ++ flat_map (made_in tree) s.done) 0 ≡ Some x
    behind =
        slice_get-after (s.before ++ s.done) (s.left ++ flat_map (made_in tree) s.done) k 0 x (omega (arith, s.opened_is, length-append s.before s.done))
        (subst (λ is. slice_get is k ≡ Some x) (s.made_is ∙ append_assoc (s.before ++ s.done) s.left (flat_map (made_in tree) s.done)) at)

    turn : (d : ℕ) → s.left ≡ [] → slice_get (flat_map (made_in tree) s.done) 0 ≡ Some x → s.deeper ≡ d → Facing tree top made k room x
    turn zero none first is =
        let from = Contains-from_flat_map (made_in tree) s.done x (Contains-at _ 0 x first) in
        absurd (omega (arith, shallow-maker tree from.0 x from.2, s.depth from.0 (Contains-append_left s.done s.left from.0 from.1), is))
    turn (suc d) none first is =
        let w = first_of (flat_map (made_in tree) s.done) x first in
        record { spread = turned tree top made k room s d none is; rest = w.0; left_is = w.1 }

    by : (left : List Instance) → s.left ≡ left → Facing tree top made k room x
    by [] is = turn s.deeper is (subst (λ ls. slice_get (ls ++ flat_map (made_in tree) s.done) 0 ≡ Some x) is behind) refl
    by (y ∷ rest) is =
        let same = same_Some y x (subst (λ ls. slice_get (ls ++ flat_map (made_in tree) s.done) 0 ≡ Some x) is behind) in
        record { spread = s; rest = rest; left_is = is ∙ ap (λ z. z ∷ rest) same }

-- no instance is deeper than 33
pub depth-next : (tree : Tree) (top : Instance) (made : List Instance) (k room : ℕ) (x : Instance) → IsSpread tree top made k room → slice_get made k ≡ Some x → x.depth ≤ 33
depth-next tree top made k room x s at =
    let f = facing tree top made k room x s at in
    omega (arith, f.spread.depth x (Contains-append_right f.spread.done f.spread.left x (subst (λ ls. Contains ls x) (sym f.left_is) (Contains-here x f.rest))))

-- where the next instance counts for more than there is room for, those up to it count for too much
pub front-above :
    (tree : Tree) (top : Instance) (made : List Instance) (k room : ℕ) (x : Instance) → IsSpread tree top made k room → slice_get made k ≡ Some x
    → room < count_in x → (front : List Instance) × (more : List Instance) × (made ≡ front ++ more) × (65536 < sum_by count_in front)
front-above tree top made k room x s at many =
    let f = facing tree top made k room x s at in
    let t = f.spread in
    let next = flat_map (made_in tree) t.done in (
      t.before ++ (t.done ++ x ∷ []),
      f.rest ++ next,
      t.made_is ∙ ap (λ ls. t.before ++ t.done ++ ls ++ next) f.left_is ∙ parted t.before t.done f.rest next,
      omega (
        arith,
        many,
        t.counted,
        sum_by-append count_in t.before (t.done ++ x ∷ []),
        sum_by-append count_in t.done (x ∷ []),
        sum_by-cons count_in x [],
        sum_by-append count_in t.before t.done,
      ),
    )
  where
    parted : (before done rest next : List Instance) → before ++ done ++ (x ∷ rest) ++ next ≡ (before ++ (done ++ x ∷ [])) ++ (rest ++ next)
    parted before done rest next = simp append_assoc

-- the next instance is opened
pub spread-open :
    (tree : Tree) (top : Instance) (made : List Instance) (k room left : ℕ) (x : Instance) → IsSpread tree top made k room → slice_get made k ≡ Some x
    → count_in x + left ≡ room → IsSpread tree top (made ++ made_in tree x) (k + 1) left
spread-open tree top made k room left x s at counted =
    let f = facing tree top made k room x s at in
    let t = f.spread in
    let one_more : t.done ++ t.left ≡ (t.done ++ x ∷ []) ++ f.rest = ap (λ ls. t.done ++ ls) f.left_is ∙ sym (append_assoc t.done (x ∷ []) f.rest) in
    record {
      before = t.before;
      done = t.done ++ x ∷ [];
      left = f.rest;
      deeper = t.deeper;
      made_is = ap (λ is. is ++ made_in tree x) (t.made_is ∙ ap (λ ls. t.before ++ t.done ++ ls ++ flat_map (made_in tree) t.done) f.left_is) ∙ parted t.before t.done f.rest (flat_map (made_in tree) t.done) (made_in tree x) _ (flat_map-append (made_in tree) t.done (x ∷ []));
      opened_is = omega (arith, t.opened_is, length-append t.done (x ∷ []));
      all = t.all ∙ ap (λ is. t.before ++ levels tree t.deeper is) one_more;
      depth = λ i has. t.depth i (subst (λ is. Contains is i) (sym one_more) has);
      counted =
          omega (
            arith,
            t.counted,
            counted,
            sum_by-append count_in t.before (t.done ++ x ∷ []),
            sum_by-append count_in t.done (x ∷ []),
            sum_by-cons count_in x [],
            sum_by-append count_in t.before t.done,
          );
    }
  where
    parted :
        (before done rest found more all : List Instance) → all ≡ found ++ (more ++ [])
        → (before ++ done ++ (x ∷ rest) ++ found) ++ more ≡ before ++ (done ++ x ∷ []) ++ rest ++ all
    parted before done rest found more all is = simp (is, append_assoc, append-nil)

-- where all are opened, no more is counted than may be
pub total-within : (tree : Tree) (top : Instance) (made : List Instance) (room : ℕ) → IsSpread tree top made (length made) room → total tree top ≤ 65536
total-within tree top made room s =
    let next = flat_map (made_in tree) s.done in
    let lengths : length made ≡ length s.before + (length s.done + (length s.left + length next)) =
    omega (
      arith,
      ap length s.made_is,
      length-append (s.before ++ s.done ++ s.left) next,
      length-append (s.before ++ s.done) s.left,
      length-append s.before s.done,
    ) in
    let no_left : s.left ≡ [] = nil_from_length s.left (omega (arith, lengths, s.opened_is)) in
    let no_next : next ≡ [] = nil_from_length next (omega (arith, lengths, s.opened_is)) in
    let all : instances tree top ≡ s.before ++ s.done =
    s.all ∙ ap (λ ls. s.before ++ levels tree s.deeper (s.done ++ ls)) no_left ∙ ap (λ ls. s.before ++ levels tree s.deeper ls) (append-nil s.done)
    ∙ ap (λ js. s.before ++ js) (levels-last tree s.deeper s.done no_next) in
    omega (arith, ap (sum_by count_in) all, s.counted)

-- the top alone
pub spread-top : (tree : Tree) (top : Instance) → top.depth ≡ 0 → IsSpread tree top (top ∷ []) 0 65536
spread-top tree top shallow =
    record {
      before = [];
      done = [];
      left = top ∷ [];
      deeper = 33;
      made_is = refl;
      opened_is = refl;
      all = refl;
      depth = λ i has. ap (λ (j : Instance). j.depth + 33) (Contains-one top i has) ∙ ap (λ n. n + 33) shallow;
      counted = refl;
    }
