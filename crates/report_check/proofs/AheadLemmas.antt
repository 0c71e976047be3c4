-- Tables of what is told ahead, led over one line: from the end on when they are made, and on when it is passed.
use Rattle.std.proofs.Common.{◌≡◌, ◌∙◌, ℕ, ◌+◌, ◌<◌, ◌≤◌, true, false, cond, List, length, get_or, set, drop, replicate, Option, Some, None, refl, sym, ap, subst, ⊎_elim, arith, get_or-set_other, get_or-set_same}
use Rattle.std.specs.Prelude.{nat_lt, slice_get}
use Rattle.std.specs.Option.{option_and_then}
use Rattle.std.proofs.lemmas.Bool.{both_ways, cases_Bool, cases_eq, eq-eqb, eqb-true, false_from_ne_true, lt-ltb, ltb-true}
use Rattle.std.proofs.lemmas.List.{drop_all, get_or-replicate, length-replicate, length-set}
use Rattle.std.proofs.lemmas.Option.{get_or_from_slice_get, same_Some, slice_get_past, slice_get_read, slice_get_within}
use Rattle.config_graph.specs.declared.TheConstants.{MAX_PORTS}
use Rattle.report_types.specs.declared.report.HistoryLine.{HistoryLine}
use Rattle.report_types.specs.declared.report.HistoryLine.TheVariants as to
use Rattle.merge_laws.specs.Guarded.{tells, told}
use Rattle.report_check.specs.Ahead.{IsAhead, known_port, port_told_at, told_port}
use Rattle.report_check.specs.declared.ahead.Ahead.{Ahead}
use Rattle.base.proofs.PlaceLaws.{front_at}

-- ---- lines that tell

tells_if : (p : ℕ) (l : HistoryLine) → told_port l ≡ Some p → tells p l ≡ true
tells_if p (to.Drained q k) h = eq-eqb q p (same_Some q p h)
tells_if p (to.Root q k) h = eq-eqb q p (same_Some q p h)
tells_if p _ h = absurd (cc)

told_if : (p : ℕ) (l : HistoryLine) → tells p l ≡ true → told_port l ≡ Some p
told_if p (to.Drained q k) h = ap Some (eqb-true q p h)
told_if p (to.Root q k) h = ap Some (eqb-true q p h)
told_if p _ h = absurd (both_ways false refl h)

tells_not : (p : ℕ) (l : HistoryLine) → (told_port l ≡ Some p → ⊥) → tells p l ≡ false
tells_not p l no_ = false_from_ne_true (tells p l) (λ t. no_ (told_if p l t))

-- a port that a run can have
picked : (o : Option ℕ) (q : ℕ) → option_and_then (λ p. cond (nat_lt p MAX_PORTS) (Some p) None) o ≡ Some q → (o ≡ Some q) × (q < MAX_PORTS)
picked None q h = absurd (cc)
picked (Some p) q h =
    ⊎_elim
    (λ (t : nat_lt p MAX_PORTS ≡ true).
    let same : Some p ≡ Some q = sym (ap (λ b. cond b (Some p) None) t) ∙ h in
    let one : p ≡ q = same_Some p q same in (same, subst (λ x. x < MAX_PORTS) one (ltb-true p MAX_PORTS t)))
    (λ (f : nat_lt p MAX_PORTS ≡ false). let none : ◌≡◌ {A = Option ℕ} None (Some q) = sym (ap (λ b. cond b (Some p) None) f) ∙ h in absurd (cc))
    (cases_Bool (nat_lt p MAX_PORTS))

unpicked : (o : Option ℕ) (p : ℕ) → option_and_then (λ q. cond (nat_lt q MAX_PORTS) (Some q) None) o ≡ None → o ≡ Some p → p < MAX_PORTS → ⊥
unpicked o p h same low =
    let there = subst (λ (x : Option ℕ). option_and_then (λ q. cond (nat_lt q MAX_PORTS) (Some q) None) x ≡ None) same h in
    let some : ◌≡◌ {A = Option ℕ} (Some p) None = sym (ap (λ b. cond b (Some p) None) (lt-ltb p MAX_PORTS low)) ∙ there in
    cc

told_here : (p i : ℕ) (l : HistoryLine) (h : List HistoryLine) → slice_get h i ≡ Some l → tells p l ≡ true → told p (drop i h) ≡ Some l
told_here p i l h at t = ap (told p) (front_at h i l at) ∙ ap (λ b. cond b (Some l) (told p (drop (i + 1) h))) t

pub told_on : (p i : ℕ) (l : HistoryLine) (h : List HistoryLine) → slice_get h i ≡ Some l → tells p l ≡ false
    → told p (drop i h) ≡ told p (drop (i + 1) h)
told_on p i l h at f = ap (told p) (front_at h i l at) ∙ ap (λ b. cond b (Some l) (told p (drop (i + 1) h))) f

-- what an index reads
read_is : (xs : List ℕ) (i x : ℕ) → i < length xs → x ≡ get_or xs i x → get_or xs i 0 ≡ x
read_is xs i x low is = get_or_from_slice_get xs i x 0 (slice_get_read xs (length xs) i x refl low is)

-- ---- the tables over one line

-- a line of port q is noted
pub noted : (a b : Ahead) (h : List HistoryLine) (i q v : ℕ) (l : HistoryLine) → slice_get h i ≡ Some l → known_port l ≡ Some q → IsAhead a h (i + 1)
    → v ≡ get_or a.next.items q v → b.next.items ≡ set a.next.items q i → b.later.items ≡ set a.later.items i v → IsAhead b h i
noted a b h i q v l at known w read next_is later_set =
    record {
      ports = ap (λ (xs : List ℕ). length xs) next_is ∙ length-set a.next.items q i ∙ w.ports;
      lines = ap (λ (xs : List ℕ). length xs) later_is ∙ length-set a.later.items i (get_or a.next.items q 0) ∙ w.lines;
      next = next_at;
      later = later_at;
    }
  where
    is_told : (told_port l ≡ Some q) × (q < MAX_PORTS)
    is_told = picked (told_port l) q known

    later_is : b.later.items ≡ set a.later.items i (get_or a.next.items q 0)
    later_is = let low : q < length a.next.items = omega (arith, w.ports, is_told.1) in later_set ∙ ap (λ x. set a.later.items i x) (sym (read_is a.next.items q v low read))

    within : i < length h
    within = slice_get_within h i l at

    next_at : (p : ℕ) → p < MAX_PORTS → told p (drop i h) ≡ slice_get h (get_or b.next.items p 0)
    next_at p low =
        ⊎_elim
        (λ (same : p ≡ q).
        let room : p < length a.next.items = omega (arith, w.ports) in
        let now : get_or b.next.items p 0 ≡ i = ap (λ (xs : List ℕ). get_or xs p 0) next_is ∙ subst (λ x. get_or (set a.next.items x i) p 0 ≡ i) same (get_or-set_same a.next.items p i 0 room) in
        told_here p i l h at (tells_if p l (is_told.0 ∙ ap Some (sym same))) ∙ sym at ∙ ap (slice_get h) (sym now))
        (λ (other : p ≡ q → ⊥).
        let now : get_or b.next.items p 0 ≡ get_or a.next.items p 0 = ap (λ (xs : List ℕ). get_or xs p 0) next_is ∙ get_or-set_other a.next.items q p i 0 other in
        told_on p i l h at (tells_not p l (λ t. other (sym (same_Some q p (sym is_told.0 ∙ t))))) ∙ w.next p low ∙ ap (slice_get h) (sym now))
        (cases_eq p q)

    later_at : (j p : ℕ) → i ≤ j → p < MAX_PORTS → port_told_at h j ≡ Some p → told p (drop (j + 1) h) ≡ slice_get h (get_or b.later.items j 0)
    later_at j p le low told_ =
        ⊎_elim
        (λ (same : j ≡ i).
        let there : told_port l ≡ Some p = sym (ap (option_and_then told_port) at) ∙ subst (λ x. port_told_at h x ≡ Some p) same told_ in
        let one : q ≡ p = same_Some q p (sym is_told.0 ∙ there) in
        let room : i < length a.later.items = omega (arith, w.lines, within) in
        let now : get_or b.later.items i 0 ≡ get_or a.next.items q 0 = ap (λ (xs : List ℕ). get_or xs i 0) later_is ∙ get_or-set_same a.later.items i (get_or a.next.items q 0) 0 room in
        subst (λ x. told p (drop (x + 1) h) ≡ slice_get h (get_or b.later.items x 0)) (sym same)
        (w.next p low ∙ ap (λ x. slice_get h (get_or a.next.items x 0)) (sym one) ∙ ap (slice_get h) (sym now)))
        (λ (other : j ≡ i → ⊥).
        let now : get_or b.later.items j 0 ≡ get_or a.later.items j 0 = ap (λ (xs : List ℕ). get_or xs j 0) later_is ∙ get_or-set_other a.later.items i j (get_or a.next.items q 0) 0 other in
        let on : i + 1 ≤ j = omega (arith, other) in
        w.later j p on low told_ ∙ ap (slice_get h) (sym now))
        (cases_eq j i)

-- one that tells of no such port leaves them
pub unnoted : (a : Ahead) (h : List HistoryLine) (i : ℕ) (l : HistoryLine) → slice_get h i ≡ Some l → known_port l ≡ None → IsAhead a h (i + 1) → IsAhead a h i
unnoted a h i l at unknown w =
    record {
      ports = w.ports;
      lines = w.lines;
      next = λ p low. told_on p i l h at (tells_not p l (λ t. unpicked (told_port l) p unknown t low)) ∙ w.next p low;
      later = later_at;
    }
  where
    later_at : (j p : ℕ) → i ≤ j → p < MAX_PORTS → port_told_at h j ≡ Some p → told p (drop (j + 1) h) ≡ slice_get h (get_or a.later.items j 0)
    later_at j p le low told_ =
        ⊎_elim
        (λ (same : j ≡ i).
        let there : told_port l ≡ Some p = sym (ap (option_and_then told_port) at) ∙ subst (λ x. port_told_at h x ≡ Some p) same told_ in
        absurd (unpicked (told_port l) p unknown there low))
        (λ (other : j ≡ i → ⊥). let on : i + 1 ≤ j = omega (arith, other) in w.later j p on low told_)
        (cases_eq j i)

-- a line of port q is passed
pub led_past : (a b : Ahead) (h : List HistoryLine) (i q v : ℕ) (l : HistoryLine) → slice_get h i ≡ Some l → known_port l ≡ Some q → IsAhead a h i
    → v ≡ get_or a.later.items i v → b.next.items ≡ set a.next.items q v → b.later.items ≡ a.later.items → IsAhead b h (i + 1)
led_past a b h i q v l at known w read next_set later_is =
    record {
      ports = ap (λ (xs : List ℕ). length xs) next_is ∙ length-set a.next.items q (get_or a.later.items i 0) ∙ w.ports;
      lines = ap (λ (xs : List ℕ). length xs) later_is ∙ w.lines;
      next = next_at;
      later = λ j p le low told_. let on : i ≤ j = omega (arith, le) in w.later j p on low told_ ∙ ap (λ (xs : List ℕ). slice_get h (get_or xs j 0)) (sym later_is);
    }
  where
    is_told : (told_port l ≡ Some q) × (q < MAX_PORTS)
    is_told = picked (told_port l) q known

    next_is : b.next.items ≡ set a.next.items q (get_or a.later.items i 0)
    next_is = let low : i < length a.later.items = omega (arith, w.lines, slice_get_within h i l at) in next_set ∙ ap (λ x. set a.next.items q x) (sym (read_is a.later.items i v low read))

    next_at : (p : ℕ) → p < MAX_PORTS → told p (drop (i + 1) h) ≡ slice_get h (get_or b.next.items p 0)
    next_at p low =
        ⊎_elim
        (λ (same : p ≡ q).
        let room : p < length a.next.items = omega (arith, w.ports) in
        let now : get_or b.next.items p 0 ≡ get_or a.later.items i 0 = ap (λ (xs : List ℕ). get_or xs p 0) next_is ∙ subst (λ x. get_or (set a.next.items x (get_or a.later.items i 0)) p 0 ≡ get_or a.later.items i 0) same (get_or-set_same a.next.items p (get_or a.later.items i 0) 0 room) in
        let le : i ≤ i = omega arith in
        w.later i p le low (ap (option_and_then told_port) at ∙ is_told.0 ∙ ap Some (sym same)) ∙ ap (slice_get h) (sym now))
        (λ (other : p ≡ q → ⊥).
        let now : get_or b.next.items p 0 ≡ get_or a.next.items p 0 = ap (λ (xs : List ℕ). get_or xs p 0) next_is ∙ get_or-set_other a.next.items q p (get_or a.later.items i 0) 0 other in
        sym (told_on p i l h at (tells_not p l (λ t. other (sym (same_Some q p (sym is_told.0 ∙ t)))))) ∙ w.next p low ∙ ap (slice_get h) (sym now))
        (cases_eq p q)

pub unpassed : (a : Ahead) (h : List HistoryLine) (i : ℕ) (l : HistoryLine) → slice_get h i ≡ Some l → known_port l ≡ None → IsAhead a h i → IsAhead a h (i + 1)
unpassed a h i l at unknown w =
    record {
      ports = w.ports;
      lines = w.lines;
      next = λ p low. sym (told_on p i l h at (tells_not p l (λ t. unpicked (told_port l) p unknown t low))) ∙ w.next p low;
      later = λ j p le low told_. let on : i ≤ j = omega (arith, le) in w.later j p on low told_;
    }

-- at the end nothing is told
pub at_the_end : (a : Ahead) (h : List HistoryLine) (m : ℕ) → m ≡ MAX_PORTS → a.next.items ≡ replicate m (length h) → length a.later.items ≡ length h
    → IsAhead a h (length h)
at_the_end a h m all next_is lines_ =
    record {
      ports = ap (λ (xs : List ℕ). length xs) next_is ∙ length-replicate m (length h) ∙ all;
      lines = lines_;
      next = λ p low.
          let room : p < m = omega (arith, all) in
          let le : length h ≤ length h = omega arith in
          ap (told p) (drop_all (length h) h le) ∙ sym (slice_get_past h (length h) le)
          ∙ ap (slice_get h) (sym (ap (λ (xs : List ℕ). get_or xs p 0) next_is ∙ get_or-replicate m p (length h) 0 room));
      later = λ j p le low told_.
          let none : ◌≡◌ {A = Option ℕ} None (Some p) = sym (ap (option_and_then told_port) (slice_get_past h j le)) ∙ told_ in absurd (cc);
    }
