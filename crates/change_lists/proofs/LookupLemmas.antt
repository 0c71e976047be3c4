-- Look-ups by place that are filled entry by entry.
use Rattle.std.proofs.Common.{◌≡◌, ℕ, suc, ◌+◌, ◌<◌, Bool, true, false, cond, not, eqb, ◌||◌, ◌&&◌, List, [], ◌∷◌, ◌++◌, get_or, length, take, drop, ◌-◌, Option, Some, None, refl, sym, ap, ◌∙◌, arith}
use Rattle.std.specs.Prelude.{find, nat_lt, option_map, position}
use Rattle.std.specs.List.{list_any, position_or_len}
use Rattle.std.specs.Option.{option_or}
use Rattle.change_lists.specs.Lists.{is_link_at, is_port_at}
use Rattle.config_graph.specs.declared.node.Link.{Link}
use Rattle.config_graph.specs.declared.node.Port.{Port}
use Rattle.change_plan.specs.declared.plan_data.Shift.{Shift}
use Rattle.std.proofs.lemmas.Bool.Decides.{nat_tests}
use Rattle.std.proofs.lemmas.List.{length-take-le, take_more}
use Rattle.std.proofs.Math.Seq.{drop-cons}
use Rattle.std.proofs.lemmas.List.Folds.{list_any_more}
use Rattle.std.proofs.Math.Numerals.{one-add}
use Rattle.base.proofs.NumberLaws.{eqb_flips}
use Rattle.base.proofs.FindLaws.{find_more}

abbrev pub are_same_keys : ℕ × ℕ → ℕ × ℕ → Bool
are_same_keys a b = eqb a.0 b.0 && eqb a.1 b.1

shifted : (a b : ℕ) → nat_lt (suc a) (suc b) ≡ nat_lt a b
shifted a b = grind (arith, nat_tests)

some_there : (n : ℕ) → nat_lt 0 (suc n) ≡ true
some_there n = grind (arith, nat_tests)

position-cons : {A : Type 0} (p : A → Bool) (x : A) (xs : List A) → position p (x ∷ xs) ≡ cond (p x) (Some 0) (option_map suc (position p xs))
position-cons {A} p x xs = by (p x)
  where
    first : ℕ
    first = position_or_len p xs

    later : (b : Bool) → nat_lt (suc first) (suc (length xs)) ≡ b → nat_lt first (length xs) ≡ b → cond (nat_lt (suc first) (suc (length xs))) (Some (suc first)) None ≡ option_map suc (cond (nat_lt first (length xs)) (Some first) None)
    later b e f = ap (λ t. cond t (Some (suc first)) None) e ∙ both b ∙ ap (λ t. option_map suc (cond t (Some first) None)) (sym f)
      where
        both : (t : Bool) → cond t (Some (suc first)) None ≡ option_map suc (cond t (Some first) None)
        both true = refl
        both false = refl

    by : (b : Bool) → cond (nat_lt (cond (not b) (1 + first) 0) (suc (length xs))) (Some (cond (not b) (1 + first) 0)) None ≡ cond b (Some 0) (option_map suc (position p xs))
    by true = ap (λ t. cond t (Some 0) None) (some_there (length xs))
    by false = rw (one-add first) (later (nat_lt first (length xs)) (shifted first (length xs)) refl)

position-push : {A : Type 0} (p : A → Bool) (xs : List A) (y : A) → position p (xs ++ y ∷ []) ≡ option_or (position p xs) (cond (p y) (Some (length xs)) None)
position-push p [] y = position-cons p y []
position-push p (x ∷ xs) y = position-cons p x (xs ++ y ∷ []) ∙ by (p x) (position-push p xs y) ∙ ap (λ o. option_or o (cond (p y) (Some (suc (length xs))) None)) (sym (position-cons p x xs))
  where
    moved : (o : Option ℕ) (b : Bool) (n : ℕ) → option_map suc (option_or o (cond b (Some n) None)) ≡ option_or (option_map suc o) (cond b (Some (suc n)) None)
    moved None true n = refl
    moved None false n = refl
    moved (Some m) b n = refl

    by : (b : Bool) → position p (xs ++ y ∷ []) ≡ option_or (position p xs) (cond (p y) (Some (length xs)) None)
        → cond b (Some 0) (option_map suc (position p (xs ++ y ∷ []))) ≡ option_or (cond b (Some 0) (option_map suc (position p xs))) (cond (p y) (Some (suc (length xs))) None)
    by true rest = refl
    by false rest = ap (option_map suc) rest ∙ moved (position p xs) (p y) (length xs)

pub position_more : {A : Type 0} (p : A → Bool) (xs : List A) (k : ℕ) (d : A) → k < length xs
    → position p (take (k + 1) xs) ≡ option_or (position p (take k xs)) (cond (p (get_or xs k d)) (Some k) None)
position_more p xs k d low =
    ap (position p) (take_more xs k d low) ∙ position-push p (take k xs) (get_or xs k d)
    ∙ ap (λ n. option_or (position p (take k xs)) (cond (p (get_or xs k d)) (Some n) None)) (length-take-le k xs (omega (arith, low)))

-- from where a move leads to a place
abbrev pub old_of : List Shift → ℕ → Option ℕ
old_of moves j = option_map (λ (s : Shift). s.old) (find (λ (s : Shift). eqb s.new j) moves)

-- that, with one move more
pub source_more : (moves : List Shift) (k j : ℕ) (d : Shift) → k < length moves
    → option_map (λ (s : Shift). s.old) (find (λ (s : Shift). eqb s.new j) (take (k + 1) moves))
    ≡ option_or (option_map (λ (s : Shift). s.old) (find (λ (s : Shift). eqb s.new j) (take k moves))) (cond (eqb (get_or moves k d).new j) (Some (get_or moves k d).old) None)
source_more moves k j d low = ap (option_map (λ (s : Shift). s.old)) (find_more (λ (s : Shift). eqb s.new j) moves k d low) ∙ by (find (λ (s : Shift). eqb s.new j) (take k moves)) (eqb (get_or moves k d).new j)
  where
    by : (o : Option Shift) (b : Bool) → option_map (λ (s : Shift). s.old) (option_or o (cond b (Some (get_or moves k d)) None)) ≡ option_or (option_map (λ (s : Shift). s.old) o) (cond b (Some (get_or moves k d).old) None)
    by None true = refl
    by None false = refl
    by (Some s) b = refl

-- one port more
pub ports_more : (ports : List Port) (k i r : ℕ) (d : Port) (before after : Bool) → k < length ports
    → before ≡ list_any (λ (q : Port). eqb i q.node && eqb r q.require) (take k ports)
    → after ≡ cond (are_same_keys ((get_or ports k d).node, (get_or ports k d).require) (i, r)) true before
    → after ≡ list_any (λ (q : Port). eqb i q.node && eqb r q.require) (take (k + 1) ports)
ports_more ports k i r d before after low so_far grown =
    let x = get_or ports k d in
    let t : Port → Bool = λ (q : Port). eqb i q.node && eqb r q.require in
    grown ∙ ap (λ b. cond b true before) ((λ j. eqb_flips x.node i j && eqb_flips x.require r j)) ∙ or_first (t x) before ∙ ap (λ b. b || t x) so_far ∙ sym (list_any_more t ports k d low)
  where
    or_first : (b c : Bool) → cond b true c ≡ (c || b)
    or_first true true = refl
    or_first true false = refl
    or_first false true = refl
    or_first false false = refl

-- one link more, before those that were looked at
pub links_before : (links : List Link) (k i r : ℕ) (d : Link) (before after : Option Link) → k < length links
    → before ≡ find (λ (x : Link). eqb i x.from && eqb r x.require) (drop (length links - k) links)
    → after ≡ cond (are_same_keys ((get_or links (length links - 1 - k) d).from, (get_or links (length links - 1 - k) d).require) (i, r)) (Some (get_or links (length links - 1 - k) d)) before
    → after ≡ find (λ (x : Link). eqb i x.from && eqb r x.require) (drop (length links - (k + 1)) links)
links_before links k i r d before after low so_far grown =
    let n = length links - 1 - k in
    let x = get_or links n d in
    let t : Link → Bool = λ (y : Link). eqb i y.from && eqb r y.require in
    let place : length links - (k + 1) ≡ n = omega arith in
    let next : suc n ≡ length links - k = omega arith in
    let within : n < length links = omega arith in
    grown ∙ ap (λ b. cond b (Some x) before) ((λ j. eqb_flips x.from i j && eqb_flips x.require r j)) ∙ ap (λ o. cond (t x) (Some x) o) (so_far ∙ ap (λ m. find t (drop m links)) (sym next))
    ∙ ap (find t) (sym (drop-cons links n d within)) ∙ ap (λ m. find t (drop m links)) (sym place)

-- no node, no port and no link
pub no_port : (x : Port) (ports : List Port) → false ≡ list_any (is_port_at None x) ports
no_port x [] = refl
no_port x (q ∷ ports) = no_port x ports

pub no_link : (x : Port) (links : List Link) → None ≡ find (is_link_at None x) links
no_link x [] = refl
no_link x (l ∷ links) = no_link x links
