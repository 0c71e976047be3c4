-- The part of what is left that falls to some ports: at a node's event it falls by one where the event is of one of them.
use Rattle.std.proofs.Common.{◌≡◌, ℕ, ◌+◌, ◌<◌, ◌≤◌, Bool, true, false, cond, eqb, length, refl, sym, ap, subst, ⊎_elim, arith}
use Rattle.std.specs.Prelude.{◌==◌, sum_by}
use Rattle.std.specs.List.{range_with_len}
use Rattle.std.specs.Option.{option_map_or}
use Rattle.std.proofs.lemmas.Bool.{cases_eq, cond-true, cond-false, eq-eqb, ne_eqb}
use Rattle.quiesce_core.specs.declared.event.Event.{Event}
use Rattle.quiesce_core.specs.declared.event.Event.TheVariants.{Begin, Call}
use Rattle.quiesce_core.specs.State.{Traffic, State, exchange}
use Rattle.quiesce_word.specs.Phases.{is_idle}
use Rattle.quiesce_core.specs.Rest.{full, rest}
use Rattle.quiesce_laws.specs.Advances.{advanced_port}
use Rattle.quiesce_laws.specs.Drain.{rest_at, rest_where}
use Rattle.quiesce_laws.proofs.Falls.{Falls, Moves, Rises}
use Rattle.base.proofs.SumLaws.{sum_le, sum_place, sum_moves, sum_zero, masked}
use Rattle.quiesce_laws.proofs.Weights.{left_idle}

-- The ports that are marked after an event, where some were before: a port that begins is not, and one that is called is where the
-- port is that its owner services.
abbrev pub marked_after : (ℕ → Bool) → State → Event → ℕ → Bool
marked_after b s (Begin p k v) q = cond (q == p) false (b q)
marked_after b s (Call p k v) q = cond (q == p) (option_map_or b (advanced_port s (Call p k v)) false) (b q)
marked_after b s _ q = b q

-- whether an event is of a marked port
abbrev pub is_marked : (ℕ → Bool) → State → Event → Bool
is_marked b s e = option_map_or b (advanced_port s e) false

at_place : (b : Bool) (x y : ℕ) → x + 1 ≤ y → cond b x 0 + cond b 1 0 ≤ cond b y 0 + 0
at_place true x y h = omega arith
at_place false x y h = omega arith

same_if : (b : Bool) (x y : ℕ) → x ≡ y → cond b x 0 ≤ cond b y 0
same_if true x y h = omega arith
same_if false x y h = omega arith

pub falls_part : (s : State) (t' : Traffic) (p : ℕ) (b : ℕ → Bool) → Falls s t' p → cond (b p) 1 0 + rest_where b (record s { traffic = t' }) ≤ rest_where b s
falls_part s t' p b f =
    let all : rest_where b (record s { traffic = t' }) + cond (b p) 1 0 ≤ rest_where b s + 0 =
    sum_place (λ i. cond (b i) (rest_at (record s { traffic = t' }) i) 0) (λ i. cond (b i) (rest_at s i) 0) p (cond (b p) 1 0) 0 (length s.config.gates) (omega (arith, f.made))
    (λ i ne. same_if (b i) (rest_at (record s { traffic = t' }) i) (rest_at s i) (f.others i ne)) (at_place (b p) (rest_at (record s { traffic = t' }) p) (rest_at s p) f.here) in
    omega arith

call_served : (b b' : Bool) (x y z : ℕ) → b' ≡ b → y + (1 + x) ≤ z → cond b' y 0 + cond b (1 + x) 0 ≤ cond b z 0
call_served true b' x y z e h = rw e h
call_served false b' x y z e h = rw e (omega arith)

call_called : (b b' : Bool) (x y z : ℕ) → b' ≡ b → y ≡ x → cond b' y 0 + cond b 1 0 ≤ z + cond b (1 + x) 0
call_called true b' x y z e h = rw e (omega arith)
call_called false b' x y z e h = rw e (omega arith)

pub moves_part : (s : State) (t' : Traffic) (p r : ℕ) (b : ℕ → Bool) → Moves s t' p r → cond (b r) 1 0 + rest_where (λ q. cond (q == p) (b r) (b q)) (record s { traffic = t' }) ≤ rest_where b s
moves_part s t' p r b m =
    let b' : ℕ → Bool = λ q. cond (q == p) (b r) (b q) in
    let at_p : b' p ≡ b r = cond-true (eqb p p) (b r) (b p) (eq-eqb p p refl) in
    let else_ : (q : ℕ) → (q ≡ p → ⊥) → b' q ≡ b q = λ q ne. cond-false (eqb q p) (b r) (b q) (ne_eqb q p ne) in
    let all : rest_where b' (record s { traffic = t' }) + cond (b r) 1 0 ≤ rest_where b s =
    sum_moves (λ i. cond (b' i) (rest_at (record s { traffic = t' }) i) 0) (λ i. cond (b i) (rest_at s i) 0) p r (cond (b r) (1 + full s.config m.to.node m.to.provide) 0) (cond (b r) 1 0) (length s.config.gates) m.made m.made_served m.other
    (λ i ne nor. subst (λ v. cond v (rest_at (record s { traffic = t' }) i) 0 ≤ cond (b i) (rest_at s i) 0) (sym (else_ i ne)) (same_if (b i) (rest_at (record s { traffic = t' }) i) (rest_at s i) (m.others i ne nor)))
    (call_served (b r) (b' r) (full s.config m.to.node m.to.provide) (rest_at (record s { traffic = t' }) r) (rest_at s r) (else_ r (λ same. m.other (sym same))) m.there)
    (call_called (b r) (b' p) (full s.config m.to.node m.to.provide) (rest_at (record s { traffic = t' }) p) (cond (b p) (rest_at s p) 0) at_p m.here) in
    omega arith

pub rises_part : (s : State) (t' : Traffic) (p : ℕ) (b : ℕ → Bool) → Rises s t' p → rest_where (λ q. cond (q == p) false (b q)) (record s { traffic = t' }) ≤ rest_where b s
rises_part s t' p b r =
    let b' : ℕ → Bool = λ q. cond (q == p) false (b q) in
    sum_le (λ i. cond (b' i) (rest_at (record s { traffic = t' }) i) 0) (λ i. cond (b i) (rest_at s i) 0) 0 (length s.config.gates) (λ i. ⊎_elim
    (λ (same : i ≡ p). let off : b' i ≡ false = cond-true (eqb i p) false (b i) (eq-eqb i p same) in rw off (omega arith))
    (λ (other : i ≡ p → ⊥). let on : b' i ≡ b i = cond-false (eqb i p) false (b i) (ne_eqb i p other) in
    subst (λ v. cond v (rest_at (record s { traffic = t' }) i) 0 ≤ cond (b i) (rest_at s i) 0) (sym on) (same_if (b i) (rest_at (record s { traffic = t' }) i) (rest_at s i) (r.others i other)))
    (cases_eq i p))

-- all of what is left rises by all of one transaction
pub rises_all : (s : State) (t' : Traffic) (p : ℕ) → (r : Rises s t' p) → rest (record s { traffic = t' }) ≡ rest s + full s.config r.to.node r.to.provide
rises_all s t' p r =
    let up : rest (record s { traffic = t' }) + 0 ≤ rest s + full s.config r.to.node r.to.provide =
    sum_place (rest_at (record s { traffic = t' })) (rest_at s) p 0 (full s.config r.to.node r.to.provide) (length s.config.gates) (omega (arith, r.made))
    (λ i ne. omega (arith, r.others i ne)) (omega (arith, r.after, r.before)) in
    let down : rest s + full s.config r.to.node r.to.provide ≤ rest (record s { traffic = t' }) + 0 =
    sum_place (rest_at s) (rest_at (record s { traffic = t' })) p (full s.config r.to.node r.to.provide) 0 (length s.config.gates) (omega (arith, r.made))
    (λ i ne. omega (arith, r.others i ne)) (omega (arith, r.after, r.before)) in
    omega arith

-- fewer marks on busy ports leave less
pub part_le : (s : State) (b c : ℕ → Bool) → ((q : ℕ) → is_idle (exchange s q).phase ≡ false → b q ≡ true → c q ≡ true) → rest_where b s ≤ rest_where c s
part_le s b c h =
    sum_le (λ i. cond (b i) (rest_at s i) 0) (λ i. cond (c i) (rest_at s i) 0) 0 (length s.config.gates)
    (λ i. masked (is_idle (exchange s i).phase) (b i) (c i) (rest_at s i) (rest_at s i) (left_idle s i) (h i) (omega arith))

-- what is left of one port alone
pub part_of_port : (s : State) (p : ℕ) → p < length s.config.gates → rest_where (λ q. q == p) s ≤ rest_at s p
part_of_port s p made =
    let here : cond (p == p) (rest_at s p) 0 ≡ rest_at s p = ap (λ b. cond b (rest_at s p) 0) (eq-eqb p p refl) in
    let all : rest_where (λ q. q == p) s + 0 ≤ sum_by (λ i. 0) (range_with_len 0 (length s.config.gates)) + rest_at s p =
    sum_place (λ i. cond (i == p) (rest_at s i) 0) (λ i. 0) p 0 (rest_at s p) (length s.config.gates) (omega (arith, made))
    (λ i ne. let off : cond (i == p) (rest_at s i) 0 ≡ 0 = ap (λ b. cond b (rest_at s i) 0) (ne_eqb i p ne) in omega (arith, off)) (omega (arith, here)) in
    omega (arith, all, sum_zero (λ i. 0) 0 (length s.config.gates) (λ i l. refl))
