-- What becomes of a gate's number, and of the crowd at its port, as a root begins or ends there and as the gate is closed.
use Rattle.std.proofs.Common.{◌≡◌, ◌∙◌, ℕ, ◌+◌, ◌-◌, ◌<◌, ◌≤◌, Bool, true, false, cond, List, [], ◌∷◌, filter, refl, sym, ap, subst, arith, ⊎_elim}
use Rattle.std.specs.Prelude.{◌==◌, ◌&&◌, count_by, nat_le, nat_lt, not, None}
use Rattle.std.specs.List.{list_any}
use Rattle.std.proofs.lemmas.Bool.{both_ways, cases_Bool, cases_eq, eq-eqb, eqb-true, le-leb, leb-false, lt-leb, lt-ltb, ltb-false, ltb-true}
use Rattle.base.proofs.ListLaws.{count_by-cons, count_by-none, count_by-some}
use Rattle.quiesce_core.specs.Rules.{is_linked}
use Rattle.crowd_laws.specs.Crowds.{Transaction, Crowd, World, busy, idle, closed, is_busy, is_named, is_root_at, put}
use Rattle.crowd_laws.specs.Acts.{begins, ends, shuts, says, with_opened}
use Rattle.crowd_gate.specs.Gates.{EndsRoot, IsGateOf, IsOpenPort, LeadTo, acts_of_close, acts_of_leave, is_shut_by, roots_at, roots_by}

-- the number

pub open_low : (n : ℕ) → is_shut_by n ≡ false → n < 2147483648
open_low n h = leb-false 2147483648 n h

low_open : (n : ℕ) → n < 2147483648 → is_shut_by n ≡ false
low_open n h = lt-leb 2147483648 n h

high_shut : (n : ℕ) → 2147483648 ≤ n → is_shut_by n ≡ true
high_shut n h = le-leb 2147483648 n h

pub roots_open : (n : ℕ) → is_shut_by n ≡ false → roots_by n ≡ n
roots_open n h = ap (λ b. cond b (n - 2147483648) n) h

pub roots_shut : (n : ℕ) → is_shut_by n ≡ true → roots_by n ≡ n - 2147483648
roots_shut n h = ap (λ b. cond b (n - 2147483648) n) h

-- the crowd

put_here : {A : Type 0} (f : ℕ → A) (p : ℕ) (x : A) → put f p x p ≡ x
put_here f p x = ap (λ b. cond b x (f p)) (eq-eqb p p refl)

-- roots of a port but for those of a name, and those of the name
count_parts : (p name : ℕ) (ts : List Transaction)
    → count_by (is_root_at p) ts ≡ count_by (is_root_at p) (filter (λ t. not (is_named name t)) ts) + count_by (is_root_at p) (filter (is_named name) ts)
count_parts p name [] = refl
count_parts p name (t ∷ ts) = ⊎_elim
    (λ (here : is_named name t ≡ true).
    let rest = count_parts p name ts in
    let one = count_by-cons (is_root_at p) t ts in
    let there = count_by-cons (is_root_at p) t (filter (is_named name) ts) in
    let left : filter (λ (u : Transaction). not (is_named name u)) (t ∷ ts) ≡ filter (λ u. not (is_named name u)) ts =
    ap (λ b. cond (not b) (t ∷ filter (λ u. not (is_named name u)) ts) (filter (λ u. not (is_named name u)) ts)) here in
    let gone : filter (is_named name) (t ∷ ts) ≡ t ∷ filter (is_named name) ts = ap (λ b. cond b (t ∷ filter (is_named name) ts) (filter (is_named name) ts)) here in
    let l = ap (count_by (is_root_at p)) left in
    let g = ap (count_by (is_root_at p)) gone in
    omega (arith, rest, one, there, l, g))
    (λ (other : is_named name t ≡ false).
    let rest = count_parts p name ts in
    let one = count_by-cons (is_root_at p) t ts in
    let there = count_by-cons (is_root_at p) t (filter (λ u. not (is_named name u)) ts) in
    let left : filter (λ (u : Transaction). not (is_named name u)) (t ∷ ts) ≡ t ∷ filter (λ u. not (is_named name u)) ts =
    ap (λ b. cond (not b) (t ∷ filter (λ u. not (is_named name u)) ts) (filter (λ u. not (is_named name u)) ts)) other in
    let gone : filter (is_named name) (t ∷ ts) ≡ filter (is_named name) ts = ap (λ b. cond b (t ∷ filter (is_named name) ts) (filter (is_named name) ts)) other in
    let l = ap (count_by (is_root_at p)) left in
    let g = ap (count_by (is_root_at p)) gone in
    omega (arith, rest, one, there, l, g))
    (cases_Bool (is_named name t))

count_one : (p : ℕ) (t : Transaction) → is_root_at p t ≡ true → count_by (is_root_at p) (t ∷ []) ≡ 1
count_one p t h = count_by-cons (is_root_at p) t [] ∙ ap (λ b. cond b 1 0 + 0) h

-- one root less
pub one_less : (w : Crowd) (name p : ℕ) → EndsRoot w name p → roots_at w p ≡ count_by (is_root_at p) (filter (λ t. not (is_named name t)) w.opened) + 1
one_less w name p h =
    let parts = count_parts p name w.opened in
    let one = ap (count_by (is_root_at p)) h.alone ∙ count_one p h.root h.there in
    omega (arith, parts, one)

none_busy : (ts : List Transaction) (p : ℕ) → count_by (is_root_at p) ts ≡ 0 → is_busy ts p ≡ false
none_busy ts p h = ⊎_elim
    (λ (yes_ : is_busy ts p ≡ true). let some = count_by-some (is_root_at p) ts yes_ in absurd (omega (arith, some, h)))
    (λ (no_ : is_busy ts p ≡ false). no_)
    (cases_Bool (is_busy ts p))

some_busy : (ts : List Transaction) (p : ℕ) → 0 < count_by (is_root_at p) ts → is_busy ts p ≡ true
some_busy ts p h = ⊎_elim
    (λ (yes_ : is_busy ts p ≡ true). yes_)
    (λ (no_ : is_busy ts p ≡ false). let none_ = count_by-none (is_root_at p) ts no_ in absurd (omega (arith, none_, h)))
    (cases_Bool (is_busy ts p))

-- a root begins
pub entered : (w : World) (p name n : ℕ) → n < 2147483647 → IsGateOf w.crowd p n → list_any (is_named name) w.crowd.opened ≡ false
    → is_linked w.machine.config p ≡ true → LeadTo w p (begins name p ∷ []) (n + 1)
entered w p name n low g new_ linked =
    let open_ = low_open n (omega (arith, low)) in
    let still = low_open (n + 1) (omega (arith, low)) in
    let more_ = count_by-cons (is_root_at p) (record { name = name; port = p; within = None }) w.crowd.opened in
    let here = ap (λ b. cond b 1 0) (eq-eqb p p refl) in
    let before = g.roots ∙ roots_open n open_ in
    record {
      may = (record { new_name = new_; linked = linked; gate = g.shut ∙ open_ }, tt);
      is_gate = record {
        roots = more_ ∙ ap (λ k. k + count_by (is_root_at p) w.crowd.opened) here ∙ omega (arith, before) ∙ sym (roots_open (n + 1) still);
        shut = g.shut ∙ open_ ∙ sym still;
        said = g.said ∙ open_ ∙ sym still;
        up = g.up ∙ ap (λ b. b && nat_lt 0 (roots_by n)) open_ ∙ sym (ap (λ b. b && nat_lt 0 (roots_by (n + 1))) still);
      };
    }

-- a root ends at an open gate
left_open : (w : World) (p name n : ℕ) → is_shut_by n ≡ false → 0 < n → IsGateOf w.crowd p n → EndsRoot w.crowd name p → LeadTo w p (ends name ∷ []) (n - 1)
left_open w p name n open_ some g e =
    let low = open_low n open_ in
    let still = low_open (n - 1) (omega (arith, low)) in
    let less = one_less w.crowd name p e in
    let before = g.roots ∙ roots_open n open_ in
    record {
      may = (e.may, tt);
      is_gate = record {
        roots = omega (arith, less, before) ∙ sym (roots_open (n - 1) still);
        shut = g.shut ∙ open_ ∙ sym still;
        said = g.said ∙ open_ ∙ sym still;
        up = g.up ∙ ap (λ b. b && nat_lt 0 (roots_by n)) open_ ∙ sym (ap (λ b. b && nat_lt 0 (roots_by (n - 1))) still);
      };
    }

-- a root ends at a closed gate, and others are under way
left_some : (w : World) (p name n : ℕ) → 2147483649 < n → IsGateOf w.crowd p n → EndsRoot w.crowd name p → LeadTo w p (ends name ∷ []) (n - 1)
left_some w p name n high g e =
    let shut = high_shut n (omega (arith, high)) in
    let still = high_shut (n - 1) (omega (arith, high)) in
    let less = one_less w.crowd name p e in
    let before = g.roots ∙ roots_shut n shut in
    let behind = roots_shut (n - 1) still in
    record {
      may = (e.may, tt);
      is_gate = record {
        roots = omega (arith, less, before, high) ∙ sym behind;
        shut = g.shut ∙ shut ∙ sym still;
        said = g.said ∙ shut ∙ sym still;
        up = g.up ∙ ap (λ b. b && nat_lt 0 (roots_by n)) shut ∙ lt-ltb 0 (roots_by n) (omega (arith, roots_shut n shut, high))
            ∙ sym (ap (λ b. b && nat_lt 0 (roots_by (n - 1))) still ∙ lt-ltb 0 (roots_by (n - 1)) (omega (arith, behind, high)));
      };
    }

-- the last root ends at a closed gate
left_last : (w : World) (p name : ℕ) → IsGateOf w.crowd p 2147483649 → EndsRoot w.crowd name p → LeadTo w p (ends name ∷ says p idle ∷ []) 2147483648
left_last w p name g e =
    let less = one_less w.crowd name p e in
    let left = filter (λ (t : Transaction). not (is_named name t)) w.crowd.opened in
    let none_ : count_by (is_root_at p) left ≡ 0 = omega (arith, less, g.roots) in
    record {
      may = (e.may, (record { up = g.up; over = λ said. none_busy left p none_ }, tt));
      is_gate = record { roots = none_; shut = g.shut; said = g.said; up = put_here w.crowd.is_up p false };
    }

pub left_ : (w : World) (p name n : ℕ) → 0 < roots_by n → (last : Bool) → last ≡ (n - 1 == 2147483648) → IsGateOf w.crowd p n → EndsRoot w.crowd name p
    → LeadTo w p (acts_of_leave name p last) (n - 1)
left_ w p name n some true is g e =
    let at : n ≡ 2147483649 = omega (arith, eqb-true (n - 1) 2147483648 (sym is)) in
    subst (λ k. LeadTo w p (ends name ∷ says p idle ∷ []) (k - 1)) (sym at) (left_last w p name (subst (IsGateOf w.crowd p) at g) e)
left_ w p name n some false is g e = ⊎_elim
    (λ (shut : is_shut_by n ≡ true).
    let there = roots_shut n shut in
    left_some w p name n (⊎_elim (λ (at : n ≡ 2147483649). absurd (both_ways (n - 1 == 2147483648) (sym is) (ap (λ k. k - 1 == 2147483648) at))) (λ (other : n ≡ 2147483649 → ⊥). omega (arith, there, some, other)) (cases_eq n 2147483649)) g e)
    (λ (open_ : is_shut_by n ≡ false). left_open w p name n open_ (omega (arith, roots_open n open_, some)) g e)
    (cases_Bool (is_shut_by n))

-- the gate is closed
pub shut_busy : (w : World) (p n : ℕ) → n < 2147483648 → 0 < n → IsGateOf w.crowd p n → IsOpenPort w.machine.config w.crowd p
    → LeadTo w p (acts_of_close p true) (n + 2147483648)
shut_busy w p n low some g o =
    let open_ = low_open n low in
    let there = high_shut (n + 2147483648) (omega (arith)) in
    let before = g.roots ∙ roots_open n open_ in
    let behind = roots_shut (n + 2147483648) there in
    let here = some_busy w.crowd.opened p (omega (arith, before, some)) in
    record {
      may = (
        tt,
        (
          record { live = o.live; linked = o.linked here; down = g.up ∙ ap (λ b. b && nat_lt 0 (roots_by n)) open_; unsaid = g.said ∙ open_ },
          (record { live = o.live; shut = put_here w.crowd.is_shut p true; unsaid = g.said ∙ open_; told = λ b. put_here w.crowd.is_up p true }, tt),
        ),
      );
      is_gate = record {
        roots = omega (arith, before) ∙ sym behind;
        shut = put_here w.crowd.is_shut p true ∙ sym there;
        said = put_here w.crowd.is_said p true ∙ sym there;
        up = put_here w.crowd.is_up p true ∙ sym (ap (λ b. b && nat_lt 0 (roots_by (n + 2147483648))) there ∙ lt-ltb 0 (roots_by (n + 2147483648)) (omega (arith, behind, some)));
      };
    }

pub shut_free : (w : World) (p : ℕ) → IsGateOf w.crowd p 0 → IsOpenPort w.machine.config w.crowd p → LeadTo w p (acts_of_close p false) 2147483648
shut_free w p g o = record {
  may = (tt, (record { live = o.live; shut = put_here w.crowd.is_shut p true; unsaid = g.said; told = λ b. absurd (both_ways (is_busy w.crowd.opened p) (none_busy w.crowd.opened p g.roots) b) }, tt));
  is_gate = record { roots = g.roots; shut = put_here w.crowd.is_shut p true; said = put_here w.crowd.is_said p true; up = g.up };
}

pub shut_ : (w : World) (p n : ℕ) → is_shut_by n ≡ false → (some : Bool) → some ≡ nat_lt 2147483648 (n + 2147483648) → IsGateOf w.crowd p n
    → IsOpenPort w.machine.config w.crowd p → LeadTo w p (acts_of_close p some) (n + 2147483648)
shut_ w p n open_ true is g o = shut_busy w p n (open_low n open_) (let more_ = ltb-true 2147483648 (n + 2147483648) (sym is) in omega (arith, more_)) g o
shut_ w p n open_ false is g o =
    let none_ : n ≡ 0 = (let few = ltb-false 2147483648 (n + 2147483648) (sym is) in omega (arith, few)) in
    subst (λ k. LeadTo w p (acts_of_close p false) (k + 2147483648)) (sym none_) (shut_free w p (subst (IsGateOf w.crowd p) none_ g) o)
