-- Ways one behind the other, and that each member that comes leaves one less.
use Rattle.std.proofs.Common.{◌≡◌, ◌∙◌, ◌⊎◌, ℕ, zero, suc, ◌+◌, ◌*◌, ◌<◌, ◌≤◌, Bool, true, false, ◌||◌, cond, List, [], ◌∷◌, ◌++◌, length, refl, sym, ap, subst, ⊎_elim, inl, inr, arith}
use Rattle.std.specs.Prelude.{fold}
use Rattle.std.proofs.lemmas.Bool.{and_from, and_parts, both_ways, cases_lt}
use Rattle.std.proofs.lemmas.List.Sums.{fold-append}
use Rattle.quiesce_core.specs.declared.event.Event.{Event}
use Rattle.report_types.specs.declared.report.HistoryLine.{HistoryLine}
use Rattle.merge_laws.specs.Guarded.{Left, can_go, do_first, go, left, log_of, may_do_first, may_go, may_tell_first, tell_first}
use Rattle.merge_laws.proofs.GuardedLaws.{shorter}
use Rattle.report_check.specs.Going.{IsTried}
use Rattle.report_check.specs.Ways.{IsPassed, IsSwept, LeadsOn}

way_on : (x : Left) (cs ds : List ℕ) → can_go x cs ≡ true → can_go (fold go x cs) ds ≡ true → can_go x (cs ++ ds) ≡ true
way_on x [] ds h g = g
way_on x (c ∷ cs) ds h g =
    let w = and_parts (may_go x c) (can_go (go x c) cs) h in and_from (may_go x c) (can_go (go x c) (cs ++ ds)) w.0 (way_on (go x c) cs ds w.1 g)

pub ways_join : (x y z : Left) → LeadsOn x y → LeadsOn y z → LeadsOn x z
ways_join x y z a b =
    record {
      way = a.way ++ b.way;
      can = way_on x a.way b.way a.can (subst (λ u. can_go u b.way ≡ true) (sym a.to) b.can);
      to = fold-append go x a.way b.way ∙ ap (λ u. fold go u b.way) a.to ∙ b.to;
    }

pub tried_leads : (x : Left) (c : ℕ) (came : Bool) (y : Left) → IsTried x c came y → LeadsOn x y
tried_leads x c true y t = record { way = c ∷ []; can = and_from (may_go x c) true (sym t.came_is) refl; to = sym t.new_is }
tried_leads x c false y t = record { way = []; can = refl; to = sym t.new_is }

line_less : (x : Left) (ls : List HistoryLine) → x.lines ≡ ls → may_tell_first x.state ls ≡ true → left (tell_first x ls) + 1 ≡ left x
line_less x [] e h = absurd (both_ways false refl h)
line_less x (l ∷ rest) e h =
    let long = ap (λ (ls : List HistoryLine). length ls) e in let more_ : length (l ∷ rest) ≡ length rest + 1 = omega arith in omega (arith, long, more_)

event_less : (x : Left) (n : ℕ) (es : List Event) → log_of x n ≡ es → may_do_first x.state x.lines n es ≡ true → left (do_first x n es) + 1 ≡ left x
event_less x n [] e h = absurd (both_ways false refl h)
event_less x n (a ∷ rest) e h = omega (arith, shorter x.logs n a rest e)

one_less : (x : Left) (c : ℕ) → may_go x c ≡ true → left (go x c) + 1 ≡ left x
one_less x zero h = line_less x x.lines refl h
one_less x (suc n) h = event_less x n (log_of x n) refl h

pub fewer : (x : Left) (c : ℕ) (y : Left) → IsTried x c true y → left y + 1 ≡ left x
fewer x c y t = ap (λ u. left u + 1) t.new_is ∙ one_less x c (sym t.came_is)

-- where each member that comes adds three candidates at most, tries come to an end
pub tries_end : (x : Left) (c : ℕ) (came : Bool) (y : Left) (a b d : ℕ) → IsTried x c came y → b + 1 ≡ a → d ≤ b + cond came 3 0
    → 4 * left y + d < 4 * left x + a
tries_end x c true y a b d t one few = omega (arith, fewer x c y t, one, few)
tries_end x c false y a b d t one few = omega (arith, ap left t.new_is, one, few)

way_falls : (cs : List ℕ) (x : Left) → can_go x cs ≡ true → left (fold go x cs) ≤ left x
way_falls [] x h = omega arith
way_falls (c ∷ cs) x h =
    let w = and_parts (may_go x c) (can_go (go x c) cs) h in
    omega (arith, one_less x c w.0, way_falls cs (go x c) w.1)

pub falls : (x y : Left) → LeadsOn x y → left y ≤ left x
falls x y a = omega (arith, ap left a.to, way_falls a.way x a.can)

-- ---- a sweep over the chains

pub first_swept : (x : Left) (came : Bool) (y : Left) → IsTried x 0 came y → IsSwept x came y 0
first_swept x true y t =
    record { leads = tried_leads x 0 true y t; fewer = λ e. omega (arith, fewer x 0 y t); no_more = λ e. absurd (both_ways true e refl) }
first_swept x false y t =
    record {
      leads = tried_leads x 0 false y t;
      fewer = λ e. absurd (both_ways false refl e);
      no_more = λ e c le. let same : c ≡ 0 = omega arith in ap (may_go y) same ∙ ap (λ u. may_go u 0) t.new_is ∙ sym t.came_is;
    }

pub swept_on : (x : Left) (came : Bool) (y : Left) (n : ℕ) (one : Bool) (z : Left) → IsSwept x came y n → IsTried y (suc n) one z
    → IsSwept x (came || one) z (n + 1)
swept_on x true y n one z w t =
    record {
      leads = ways_join x y z w.leads (tried_leads y (suc n) one z t);
      fewer = λ e. omega (arith, w.fewer refl, falls y z (tried_leads y (suc n) one z t));
      no_more = λ e. absurd (both_ways true e refl);
    }
swept_on x false y n true z w t =
    record {
      leads = ways_join x y z w.leads (tried_leads y (suc n) true z t);
      fewer = λ e. omega (arith, fewer y (suc n) z t, falls x y w.leads);
      no_more = λ e. absurd (both_ways true e refl);
    }
swept_on x false y n false z w t =
    record {
      leads = ways_join x y z w.leads (tried_leads y (suc n) false z t);
      fewer = λ e. absurd (both_ways false refl e);
      no_more = λ e c le.
          ⊎_elim (λ (low : c < suc n). let less : c ≤ n = omega arith in ap (λ u. may_go u c) t.new_is ∙ w.no_more refl c less)
          (λ (high : suc n ≤ c). let same : c ≡ suc n = omega arith in ap (may_go z) same ∙ ap (λ u. may_go u (suc n)) t.new_is ∙ sym t.came_is)
          (cases_lt c (suc n));
    }

pub swept_all : (x : Left) (came : Bool) (y : Left) (n : ℕ) → IsSwept x came y n → ((m : ℕ) → n ≤ m → log_of y m ≡ []) → IsPassed x came y
swept_all x came y n w none =
    record {
      leads = w.leads;
      fewer = w.fewer;
      no_more = λ e c. by e c (cases_lt n c);
    }
  where
    beyond : (c : ℕ) → n < c → may_go y c ≡ false
    beyond zero h = absurd (omega arith)
    beyond (suc m) h = let le : n ≤ m = omega arith in ap (may_do_first y.state y.lines m) (none m le)

    by : came ≡ false → (c : ℕ) → (n < c) ⊎ (c ≤ n) → may_go y c ≡ false
    by e c (inl high) = beyond c high
    by e c (inr low) = w.no_more e c low
