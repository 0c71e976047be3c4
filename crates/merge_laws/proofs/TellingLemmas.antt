-- A history that follows a script tells of each port that it closes, before it is reopened, and tells a root only of one.
use Rattle.std.proofs.Common.{◌≡◌, ◌∙◌, ℕ, ◌+◌, ◌<◌, ◌≤◌, Bool, true, false, ◌||◌, cond, List, [], ◌∷◌, ◌++◌, append_assoc, length, map, refl, sym, ap, subst, ⊎_elim, inl, inr, arith}
use Rattle.std.specs.Prelude.{◌==◌, ◌⊎◌, ℤ}
use Rattle.std.specs.List.{count_by, list_any, range_with_len}
use Rattle.std.specs.List.Sorted.{IsStrictlyIncreasing}
use Rattle.std.proofs.lemmas.Bool.{both_ways, cases_Bool, eqb-true, or_left}
use Rattle.std.proofs.lemmas.List.{append_cancel_left}
use Rattle.std.proofs.lemmas.List.Kept.{IsStrictlyIncreasing-filter}
use Rattle.std.proofs.lemmas.List.Sums.{sum_by-cons}
use Rattle.base.specs.Each.{EachAfter}
use Rattle.base.proofs.MapLaws.{count_by-append, list_any-map}
use Rattle.base.proofs.PlaceLaws.{tails_are, parted_at}
use Rattle.config_graph.specs.Graph.{Graph}
use Rattle.change_plan.specs.declared.plan_data.Move.{Move}
use Rattle.change_plan.specs.declared.plan_data.Plan.{Plan}
use Rattle.quiesce_laws.specs.Steps.{change_all, live_ports}
use Rattle.change_plan_laws.specs.Commit.{ports_to_close}
use Rattle.quiesce_core.specs.Rules.{is_live_port}
use Rattle.quiesce_core.specs.State.{Configuration}
use Rattle.report_types.specs.declared.report.HistoryLine.{HistoryLine}
use Rattle.report_types.specs.declared.report.HistoryLine.TheVariants as to
use Rattle.change_spec.specs.Changes.{IsChange, IsCommitted, IsGivenUp, commit_lines, opening_lines, seen_in_all}
use Rattle.change_spec.specs.Follows.{Follows, IsRight, IsStop, Part, lines_of, skip_lines, start_lines}
use Rattle.change_spec.specs.Members.{is_close, is_pending, is_root}
use Rattle.change_spec.specs.Scene.{AreSeen, Seen, config_after, drained_line, root_line}
use Rattle.change_spec.specs.Statements.{Statement, start, change, run, finish, show}
use Rattle.base.proofs.ListLaws.{count_by-some, none_both, any_of_none, there, not_there, none_beside}
use Rattle.change_spec.proofs.ClosingLaws.{commit_lines_close_none, commit_roots_none, start_closes_none, start_roots_none}
use Rattle.change_spec.proofs.PortLaws.{closed_events, closing_rise, config_more, still_to_close}
use Rattle.change_spec.proofs.TestLaws.{range_rises}
use Rattle.merge_laws.specs.Guarded.{tells}
use Rattle.merge_laws.specs.Telling.{IsShutBy, IsTold, IsToldOf, reopens_there}
use Rattle.base.proofs.NumberLaws.{same_number}
use Rattle.base.proofs.RisingLaws.{rise_tail, rise_first}
use Rattle.base.proofs.CountLaws.{counted_some}

-- ---- lists

-- the first that passes a test
record FirstIn {A : Type 0} (t : A → Bool) (xs : List A) : Type 0 where
  before : List A
  one : A
  after : List A
  are : xs ≡ before ++ one ∷ after
  passes : t one ≡ true
  none : list_any t before ≡ false

first_in : {A : Type 0} (t : A → Bool) (xs : List A) → list_any t xs ≡ true → FirstIn t xs
first_in t [] h = absurd (both_ways false refl h)
first_in {A} t (x ∷ xs) h = by (t x) refl (first_in t xs)
  where
    by : (b : Bool) → t x ≡ b → (list_any t xs ≡ true → FirstIn t xs) → FirstIn t (x ∷ xs)
    by true e rest = record { before = []; one = x; after = xs; are = refl; passes = e; none = refl }
    by false e rest =
        let w = rest (sym (ap (λ b. b || list_any t xs) e) ∙ h) in
        record {
          before = x ∷ w.before;
          one = w.one;
          after = w.after;
          are = ap (λ ys. x ∷ ys) w.are;
          passes = w.passes;
          none = (λ i. e i || w.none i);
        }

-- the rest behind a place that stands in the first of two parts
rest_is : {A : Type 0} (a b c : List A) (x : A) (r z : List A) → a ++ b ≡ c ++ x ∷ r → a ≡ c ++ x ∷ z → r ≡ z ++ b
rest_is a b c x r z whole first =
    sym (tails_are x x (z ++ b) r (append_cancel_left c (x ∷ (z ++ b)) (x ∷ r) (sym (append_assoc c (x ∷ z) b) ∙ ap (λ ls. ls ++ b) (sym first) ∙ whole)))

-- ---- ports that rise are listed once

differs : (p q : ℕ) → p < q → (q == p) ≡ false
differs p q low = ⊎_elim
    (λ (same : (q == p) ≡ true). let e = eqb-true q p same in absurd (omega (arith, low, e)))
    (λ (other : (q == p) ≡ false). other)
    (cases_Bool (q == p))

none_above : (p x : ℕ) (xs : List ℕ) → p ≤ x → IsStrictlyIncreasing (x ∷ xs) → count_by (λ q. q == p) xs ≡ 0
none_above p x [] low rise = refl
none_above p x (y ∷ xs) low rise =
    let up : x < y = rise_first x y xs rise in
    sum_by-cons (λ q. cond (q == p) 1 0) y xs
    ∙ (λ i. cond (differs p y (omega (arith, low, up)) i) 1 0 + none_above p y xs (omega (arith, low, up)) (rise_tail x (y ∷ xs) rise) i)

listed_once : (xs : List ℕ) → IsStrictlyIncreasing xs → (p : ℕ) → count_by (λ q. q == p) xs ≤ 1
listed_once [] rise p = omega arith
listed_once (x ∷ xs) rise p = by (x == p) refl (listed_once xs (rise_tail x xs rise) p)
  where
    by : (b : Bool) → (x == p) ≡ b → count_by (λ q. q == p) xs ≤ 1 → count_by (λ q. q == p) (x ∷ xs) ≤ 1
    by true e few =
        let one = sum_by-cons (λ q. cond (q == p) 1 0) x xs ∙ ap (λ b. cond b 1 0 + count_by (λ q. q == p) xs) e in
        let same = eqb-true x p e in
        let none = none_above p x xs (omega (arith, same)) rise in
        omega (arith, one, none)
    by false e few =
        let one = sum_by-cons (λ q. cond (q == p) 1 0) x xs ∙ ap (λ b. cond b 1 0 + count_by (λ q. q == p) xs) e in
        omega (arith, one, few)

-- ---- what is told of parts

joined : (a b : List HistoryLine) → IsTold a → IsTold b → IsTold (a ++ b)
joined a b ta tb =
    record {
      closes = λ p c r e. ⊎_elim
          (λ (w : (z : List HistoryLine) × (a ≡ c ++ to.Close p ∷ z)).
          let t = ta.closes p c w.0 w.1 in
          record {
            between = t.between;
            line = t.line;
            later = t.later ++ b;
            parts = rest_is a b c (to.Close p) r w.0 e w.1 ∙ ap (λ ls. ls ++ b) t.parts ∙ append_assoc t.between (t.line ∷ t.later) b;
            tells_it = t.tells_it;
            untold = t.untold;
            shut = t.shut;
          })
          (λ (w : (z : List HistoryLine) × (b ≡ z ++ to.Close p ∷ r) × (c ≡ a ++ z)). tb.closes p w.0 r w.1)
          (parted_at c (to.Close p) r a b (sym e));
      roots = λ p k c r e. ⊎_elim
          (λ (w : (z : List HistoryLine) × (a ≡ c ++ to.Root p k ∷ z)). ta.roots p k c w.0 w.1)
          (λ (w : (z : List HistoryLine) × (b ≡ z ++ to.Root p k ∷ r) × (c ≡ a ++ z)).
          let t = tb.roots p k w.0 r w.1 in
          record {
            front = a ++ t.front;
            between = t.between;
            parts = w.2 ∙ ap (λ ls. a ++ ls) t.parts ∙ sym (append_assoc a t.front (to.Close p ∷ t.between));
            untold = t.untold;
            shut = t.shut;
          })
          (parted_at c (to.Root p k) r a b (sym e));
    }

calm : (ls : List HistoryLine) → list_any is_close ls ≡ false → list_any is_root ls ≡ false → IsTold ls
calm ls no_close no_root =
    record {
      closes = λ p c r e. absurd (not_there is_close ls c (to.Close p) r no_close refl e);
      roots = λ p k c r e. absurd (not_there is_root ls c (to.Root p k) r no_root refl e);
    }

-- ---- closes, and what is told of them behind

abbrev closes_there : ℕ → HistoryLine → Bool
closes_there p (to.Close q) = q == p
closes_there p _ = false

close_is : (p : ℕ) (l : HistoryLine) → closes_there p l ≡ true → l ≡ to.Close p
close_is p (to.Close q) h = ap to.Close (eqb-true q p h)
close_is p _ h = absurd (both_ways false refl h)

record IsHeard (closed : List ℕ) (heard : List HistoryLine) : Type 0 where
  counts : (p : ℕ) → count_by (tells p) heard ≡ count_by (λ q. q == p) closed
  shut : (p : ℕ) → list_any (reopens_there p) heard ≡ false
  no_close : list_any is_close heard ≡ false

module _ (closed : List ℕ) (heard : List HistoryLine) (once : (p : ℕ) → count_by (λ q. q == p) closed ≤ 1) (h : IsHeard closed heard) where
  abbrev cs : List HistoryLine
  cs = map to.Close closed

  untold_closes : (p : ℕ) → list_any (tells p) cs ≡ false
  untold_closes p = any_of_none (tells p) to.Close (λ q. refl) closed

  shut_closes : (p : ℕ) → list_any (reopens_there p) cs ≡ false
  shut_closes p = any_of_none (reopens_there p) to.Close (λ q. refl) closed

  told_behind : (p : ℕ) (c z r : List HistoryLine) → cs ++ heard ≡ c ++ to.Close p ∷ r → cs ≡ c ++ to.Close p ∷ z → IsToldOf p r
  told_behind p c z r whole first =
      let listed : list_any (λ q. q == p) closed ≡ true =
      sym (list_any-map (closes_there p) to.Close closed) ∙ ap (list_any (closes_there p)) first ∙ there (closes_there p) c (to.Close p) z (same_number p) in
      let w = first_in (tells p) heard (counted_some (tells p) heard (omega (arith, h.counts p, count_by-some (λ q. q == p) closed listed))) in
      record {
        between = z ++ w.before;
        line = w.one;
        later = w.after;
        parts = rest_is cs heard c (to.Close p) r z whole first ∙ ap (λ ls. z ++ ls) w.are ∙ sym (append_assoc z w.before (w.one ∷ w.after));
        tells_it = w.passes;
        untold = none_both (tells p) z w.before (none_beside (tells p) cs c (to.Close p) z (untold_closes p) first).1 w.none;
        shut = none_both (reopens_there p) z w.before (none_beside (reopens_there p) cs c (to.Close p) z (shut_closes p) first).1
            (none_beside (reopens_there p) heard w.before w.one w.after (h.shut p) w.are).0;
      }

  shut_before : (p k : ℕ) (c z r : List HistoryLine) → heard ≡ z ++ to.Root p k ∷ r → c ≡ cs ++ z → IsShutBy p c
  shut_before p k c z r at place =
      let all : count_by (tells p) heard ≡ count_by (tells p) z + count_by (tells p) (to.Root p k ∷ r) =
      ap (count_by (tells p)) at ∙ count_by-append (tells p) z (to.Root p k ∷ r) in
      let here : 1 ≤ count_by (tells p) (to.Root p k ∷ r) = count_by-some (tells p) (to.Root p k ∷ r) (or_left (p == p) (list_any (tells p) r) (same_number p)) in
      let none : list_any (tells p) z ≡ false = ⊎_elim
      (λ (some_ : list_any (tells p) z ≡ true). absurd (omega (arith, count_by-some (tells p) z some_, all, here, h.counts p, once p)))
      (λ (none : list_any (tells p) z ≡ false). none) (cases_Bool (list_any (tells p) z)) in
      let listed : list_any (λ q. q == p) closed ≡ true = counted_some (λ q. q == p) closed (omega (arith, all, here, h.counts p)) in
      let w = first_in (closes_there p) cs (list_any-map (closes_there p) to.Close closed ∙ listed) in
      record {
        front = w.before;
        between = w.after ++ z;
        parts = place ∙ ap (λ ls. ls ++ z) (w.are ∙ ap (λ l. w.before ++ l ∷ w.after) (close_is p w.one w.passes)) ∙ append_assoc w.before (to.Close p ∷ w.after) z;
        untold = none_both (tells p) w.after z (none_beside (tells p) cs w.before w.one w.after (untold_closes p) w.are).1 none;
        shut = none_both (reopens_there p) w.after z (none_beside (reopens_there p) cs w.before w.one w.after (shut_closes p) w.are).1
            (none_beside (reopens_there p) heard z (to.Root p k) r (h.shut p) at).0;
      }

  closing : IsTold (cs ++ heard)
  closing =
      record {
        closes = λ p c r e. ⊎_elim
            (λ (w : (z : List HistoryLine) × (cs ≡ c ++ to.Close p ∷ z)). told_behind p c w.0 r e w.1)
            (λ (w : (z : List HistoryLine) × (heard ≡ z ++ to.Close p ∷ r) × (c ≡ cs ++ z)). absurd (not_there is_close heard w.0 (to.Close p) r h.no_close refl w.1))
            (parted_at c (to.Close p) r cs heard (sym e));
        roots = λ p k c r e. ⊎_elim
            (λ (w : (z : List HistoryLine) × (cs ≡ c ++ to.Root p k ∷ z)). absurd (not_there is_root cs c (to.Root p k) w.0 (any_of_none is_root to.Close (λ q. refl) closed) refl w.1))
            (λ (w : (z : List HistoryLine) × (heard ≡ z ++ to.Root p k ∷ r) × (c ≡ cs ++ z)). shut_before p k c w.0 r w.1 w.2)
            (parted_at c (to.Root p k) r cs heard (sym e));
      }

-- ---- what was seen is heard

seen_counts : (f : Seen → HistoryLine) (p : ℕ) → ((d : Seen) → tells p (f d) ≡ (d.port == p)) → (seen : List Seen)
    → count_by (tells p) (map f seen) ≡ count_by (λ (d : Seen). d.port == p) seen
seen_counts f p h [] = refl
seen_counts f p h (d ∷ seen) =
    sum_by-cons (λ l. cond (tells p l) 1 0) (f d) (map f seen)
    ∙ (λ i. cond (h d i) 1 0 + seen_counts f p h seen i)
    ∙ sym (sum_by-cons (λ (x : Seen). cond (x.port == p) 1 0) d seen)

all_drained : (closed : List ℕ) (seen : List Seen) → AreSeen closed seen → IsHeard closed (map drained_line seen)
all_drained closed seen are =
    record {
      counts = λ p. seen_counts drained_line p (λ d. refl) seen ∙ are p;
      shut = λ p. any_of_none (reopens_there p) drained_line (λ d. refl) seen;
      no_close = any_of_none is_close drained_line (λ d. refl) seen;
    }

root_counts : (p within : ℕ) (left : List Seen) → count_by (tells p) (to.Pending within ∷ map root_line left) ≡ count_by (λ (d : Seen). d.port == p) left
root_counts p within left =
    let one = sum_by-cons (λ l. cond (tells p l) 1 0) (to.Pending within) (map root_line left) in
    let roots = seen_counts root_line p (λ d. refl) left in
    omega (arith, one, roots)

some_left : (closed : List ℕ) (within : ℕ) (seen left : List Seen) → AreSeen closed (seen ++ left) → IsHeard closed (map drained_line seen ++ to.Pending within ∷ map root_line left)
some_left closed within seen left are =
    record {
      counts = λ p.
          count_by-append (tells p) (map drained_line seen) (to.Pending within ∷ map root_line left)
          ∙ (λ i. seen_counts drained_line p (λ d. refl) seen i + root_counts p within left i)
          ∙ sym (count_by-append (λ (d : Seen). d.port == p) seen left) ∙ are p;
      shut = λ p.
          none_both (reopens_there p) (map drained_line seen) (to.Pending within ∷ map root_line left) (any_of_none (reopens_there p) drained_line (λ d. refl) seen)
          (any_of_none (reopens_there p) root_line (λ d. refl) left);
      no_close = none_both is_close (map drained_line seen) (to.Pending within ∷ map root_line left) (any_of_none is_close drained_line (λ d. refl) seen)
          (any_of_none is_close root_line (λ d. refl) left);
    }

-- ---- a change, and the other statements

pub still_closed : (before : List HistoryLine) (name : List ℕ) (args : List ℤ) (old : Graph) (plan : Plan)
    → ports_to_close old plan (config_after (before ++ opening_lines name args old plan (config_after before))) ≡ ports_to_close old plan (config_after before)
still_closed before name args old plan =
    let c = config_after before in
    ap (ports_to_close old plan) (config_more before (opening_lines name args old plan c) ∙ ap (change_all c) (closed_events (ports_to_close old plan c)))
    ∙ still_to_close old plan c

module _ (before : List HistoryLine) (name : List ℕ) (args : List ℤ) (new : Graph) (within : ℕ) (old : Graph) (plan : Plan) where
  abbrev c : Configuration
  c = config_after before

  abbrev closed : List ℕ
  closed = ports_to_close old plan c

  once : (p : ℕ) → count_by (λ q. q == p) closed ≤ 1
  once = listed_once closed (closing_rise old plan c)

  first : IsTold (to.Change name args ∷ [])
  first = calm (to.Change name args ∷ []) refl refl

  rest_told : (rest : List HistoryLine)
      → IsCommitted old new plan within (config_after (before ++ opening_lines name args old plan c)) rest ⊎ IsGivenUp closed within rest
      → IsTold (to.Change name args ∷ map to.Close closed ++ rest)
  rest_told rest (inl e) =
      let d = config_after (before ++ opening_lines name args old plan c) in
      let seen = seen_in_all e.looks in
      let lines = commit_lines old new plan d in
      let are = subst (λ ps. AreSeen ps seen) (still_closed before name args old plan) e.all_seen in
      let told = joined (to.Change name args ∷ []) ((map to.Close closed ++ map drained_line seen) ++ lines) first
      (joined (map to.Close closed ++ map drained_line seen) lines (closing closed (map drained_line seen) once (all_drained closed seen are))
      (calm lines (commit_lines_close_none old new plan d) (commit_roots_none old new plan d))) in
      subst IsTold (ap (λ ks. to.Change name args ∷ ks) (append_assoc (map to.Close closed) (map drained_line seen) lines ∙ ap (λ ks. map to.Close closed ++ ks) (sym e.are))) told
  rest_told rest (inr e) =
      let seen = map drained_line (seen_in_all e.looks) in
      let roots = to.Pending within ∷ map root_line e.left in
      let ends = map to.Reopen closed ++ to.Abandon ∷ [] in
      let told = joined (to.Change name args ∷ []) ((map to.Close closed ++ (seen ++ roots)) ++ ends) first
      (joined (map to.Close closed ++ (seen ++ roots)) ends (closing closed (seen ++ roots) once (some_left closed within (seen_in_all e.looks) e.left e.all_seen))
      (calm ends (none_both is_close (map to.Reopen closed) (to.Abandon ∷ []) (any_of_none is_close to.Reopen (λ p. refl) closed) refl)
      (none_both is_root (map to.Reopen closed) (to.Abandon ∷ []) (any_of_none is_root to.Reopen (λ p. refl) closed) refl))) in
      let same : (seen ++ roots) ++ ends ≡ rest =
      append_assoc seen roots ends ∙ ap (λ ks. seen ++ to.Pending within ∷ ks) (sym (append_assoc (map root_line e.left) (map to.Reopen closed) (to.Abandon ∷ []))) ∙ sym e.are in
      subst IsTold (ap (λ ks. to.Change name args ∷ ks) (append_assoc (map to.Close closed) (seen ++ roots) ends ∙ ap (λ ks. map to.Close closed ++ ks) same)) told

change_told : (before : List HistoryLine) (name : List ℕ) (args : List ℤ) (new : Graph) (within : ℕ) (moves : List Move) (ls : List HistoryLine)
    → IsChange before name args new within moves ls → IsTold ls
change_told before name args new within moves ls x = subst IsTold (sym x.are) (rest_told before name args new within x.old x.plan x.rest x.ends)

part_told : (before : List HistoryLine) (s : Statement) (ls : List HistoryLine) → IsRight before s ls → IsTold ls
part_told before (start name args g) ls right = subst IsTold (sym right) (calm (start_lines name args g) (start_closes_none name args g) (start_roots_none name args g))
part_told before (change name args g within moves) ls right = ⊎_elim
    (λ (skipped : list_any is_pending before ≡ true). subst IsTold (sym (right.0 skipped)) (calm (skip_lines name args) refl refl))
    (λ (tried : list_any is_pending before ≡ false). change_told before name args g within moves ls (right.1 tried))
    (cases_Bool (list_any is_pending before))
part_told before (run k) ls right = subst IsTold (sym right.are) (calm (to.Run k right.ended ∷ []) refl refl)
part_told before (finish n) ls right = subst IsTold (sym right.are) (calm (to.Finish n right.rounds ∷ []) refl refl)
part_told before show ls right = subst IsTold (sym right.are) (calm (to.Show right.graph ∷ []) refl refl)

parts_told : (done parts : List Part) → EachAfter (λ before (x : Part). IsRight (lines_of before) x.statement x.lines) done parts → IsTold (lines_of parts)
parts_told done [] right = calm [] refl refl
parts_told done (x ∷ parts) right = joined x.lines (lines_of parts) (part_told (lines_of done) x.statement x.lines right.0) (parts_told (done ++ x ∷ []) parts right.1)

stop_told : (before ls : List HistoryLine) → IsStop before ls → IsTold ls
stop_told before ls x =
    let c = config_after before in
    let ports = live_ports c in
    let rise : IsStrictlyIncreasing ports = IsStrictlyIncreasing-filter (is_live_port c) (range_with_len 0 (length c.gates)) (range_rises 0 (length c.gates)) in
    subst IsTold (sym x.are)
    (joined (to.Stop ∷ []) (map to.Close ports ++ map drained_line x.seen) (calm (to.Stop ∷ []) refl refl)
    (closing ports (map drained_line x.seen) (listed_once ports rise) (all_drained ports x.seen x.all_seen)))

pub histories_are_told : (statements : List Statement) (history : List HistoryLine) → Follows statements history → IsTold history
histories_are_told statements history f =
    subst IsTold f.history_is (joined (lines_of f.parts) f.stop (parts_told [] f.parts f.right) (stop_told (lines_of f.parts) f.stop f.stops))
