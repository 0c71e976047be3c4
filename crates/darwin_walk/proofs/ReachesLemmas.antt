-- What is reached is what the reached statements are.
use Rattle.std.proofs.Common.{◌≡◌, ◌≢◌, ◌∙◌, ℕ, zero, suc, ℤ, pos, negsuc, ◌+ℤ◌, ◌≤ℤ◌, Bool, true, false, not, cond, List, [], ◌∷◌, ◌++◌, map, refl, ap, sym, subst, inl, inr, ◌⊎◌, arith, int_eq}
use Rattle.std.specs.Prelude.{◌↔◌}
use Rattle.std.specs.List.{Contains, flat_map}
use Rattle.std.specs.Int.{int_gap}
use Rattle.std.proofs.lemmas.Int.{ints}
use Rattle.std.proofs.Math.IntN.{suc_ℤ, +ℤ_one}
use Rattle.std.proofs.lemmas.Bool.{cases_lt, cases_Bool, false≢true}
use Rattle.std.proofs.lemmas.Bool.Decides.{Decides-int_eq}
use Rattle.std.proofs.lemmas.List.Elements.{Contains-append_left, Contains-append_right, Contains-append_cases}
use Rattle.base.proofs.ContainsLaws.{Contains-here, Contains-there, Contains-one, Contains-nil, Contains-cons_cases, Contains-map, Contains-from_map, Contains-flat_map, Contains-from_flat_map}
use Rattle.darwin_parser.specs.Tree.{PortDecl, ArrayDecl, Stmt, inst, bind, forall, when, Stmts, end, then, Component}
use Rattle.darwin_walk.specs.Value.{Env, Value, integer, out_of_range, zero_divisor, is_true, value}
use Rattle.darwin_walk.specs.Reached.{Reached, valued, turn, integers_from, integers_to, range, holds, with_variable, reached_by, reached_in, port_size, array_size, reached_in_component}
use Rattle.darwin_walk.specs.Reaches.{Reaches, here, later, in_turn, in_when, reached_at, ReachedIn}

-- ---- the integers of a range

order : (a b : ℤ) → (a ≤ℤ b) ⊎ ((b +ℤ pos 1) ≤ℤ a)
order (pos a) (pos b) = elim (cases_lt b a) [ inl less ↦ inr (omega (arith, ints, less)) | inr more ↦ inl (omega (arith, ints, more)) ]
order (pos a) (negsuc b) = inr (omega (arith, ints))
order (negsuc a) (pos b) = inl (omega (arith, ints))
order (negsuc a) (negsuc b) = elim (cases_lt a b) [ inl less ↦ inr (omega (arith, ints, less)) | inr more ↦ inl (omega (arith, ints, more)) ]

from_integers : (a : ℤ) (n : ℕ) (z : ℤ) → Contains (integers_from a n) z → (a ≤ℤ z) × ((z +ℤ pos 1) ≤ℤ (a +ℤ pos n))
from_integers a zero z there = absurd (Contains-nil z there)
from_integers a (suc n) z there =
    elim (Contains-cons_cases a (integers_from (a +ℤ pos 1) n) z there) [
      | inl is ↦ (omega (arith, ints, is), omega (arith, ints, is))
      | inr rest ↦ let w = from_integers (a +ℤ pos 1) n z rest in (omega (arith, ints, w.0), omega (arith, ints, w.1))
    ]

to_integers : (a : ℤ) (n : ℕ) (z : ℤ) → a ≤ℤ z → (z +ℤ pos 1) ≤ℤ (a +ℤ pos n) → Contains (integers_from a n) z
to_integers a zero z low high = absurd (omega (arith, ints, low, high))
to_integers a (suc n) z low high =
    elim (order z a) [
      | inl first ↦
          let is : z ≡ a = omega (arith, ints, low, first) in
          subst (Contains (integers_from a (suc n))) (sym is) (Contains-here a (integers_from (a +ℤ pos 1) n))
      | inr next ↦ Contains-there a z (integers_from (a +ℤ pos 1) n) (to_integers (a +ℤ pos 1) n z next (omega (arith, ints, high)))
    ]

-- so many steps lead past the end of a range
gap_up : (a b : ℤ) → a ≤ℤ b → a +ℤ pos (int_gap a (suc_ℤ b)) ≡ b +ℤ pos 1
gap_up (pos a) (pos b) le = omega (arith, ints, le)
gap_up (pos a) (negsuc b) le = absurd (omega (arith, ints, le))
gap_up (negsuc a) (pos b) le = omega (arith, ints, le)
gap_up (negsuc a) (negsuc zero) le = omega (arith, ints, le)
gap_up (negsuc a) (negsuc (suc b)) le = omega (arith, ints, le)

gap_down : (a b : ℤ) → (b +ℤ pos 1) ≤ℤ a → int_gap a (suc_ℤ b) ≡ 0
gap_down (pos a) (pos b) less = omega (arith, ints, less)
gap_down (pos a) (negsuc zero) less = omega (arith, ints, less)
gap_down (pos a) (negsuc (suc b)) less = omega (arith, ints, less)
gap_down (negsuc a) (pos b) less = absurd (omega (arith, ints, less))
gap_down (negsuc a) (negsuc zero) less = omega (arith, ints, less)
gap_down (negsuc a) (negsuc (suc b)) less = omega (arith, ints, less)

pub integers_are : (a b z : ℤ) → Contains (integers_to a b) z ↔ ((a ≤ℤ z) × (z ≤ℤ b))
integers_are a b z = by (order a b)
  where
    gap : int_gap a (b +ℤ pos 1) ≡ int_gap a (suc_ℤ b)
    gap = ap (int_gap a) (+ℤ_one b)

    by : (a ≤ℤ b) ⊎ ((b +ℤ pos 1) ≤ℤ a) → Contains (integers_to a b) z ↔ ((a ≤ℤ z) × (z ≤ℤ b))
    by (inl up) = (
      λ there.
          let w = from_integers a (int_gap a (suc_ℤ b)) z (subst (λ n. Contains (integers_from a n) z) gap there) in
          (w.0, omega (arith, ints, w.1, gap_up a b up)),
      λ within.
          subst (λ n. Contains (integers_from a n) z) (sym gap) (to_integers a (int_gap a (suc_ℤ b)) z within.0 (omega (arith, ints, within.1, gap_up a b up))),
    )
    by (inr down) = (
      λ there. absurd (Contains-nil z (subst (λ n. Contains (integers_from a n) z) (gap ∙ gap_down a b down) there)),
      λ within. absurd (omega (arith, ints, down, within.0, within.1)),
    )

-- an integer of a range whose ends have these values
record InRange (v w : Value) (i : ℤ) : Type 0 where
  pub low : ℤ
  pub high : ℤ
  pub is_low : v ≡ integer low
  pub is_high : w ≡ integer high
  pub above : low ≤ℤ i
  pub below : i ≤ℤ high

in_range : (v w : Value) (i : ℤ) → Contains (range v w) i → InRange v w i
in_range (integer a) (integer b) i there =
    let within = (integers_are a b i).0 there in
    record { low = a; high = b; is_low = refl; is_high = refl; above = within.0; below = within.1 }
in_range (integer a) out_of_range i there = absurd (Contains-nil i there)
in_range (integer a) zero_divisor i there = absurd (Contains-nil i there)
in_range out_of_range w i there = absurd (Contains-nil i there)
in_range zero_divisor w i there = absurd (Contains-nil i there)

-- ---- tests

holds-true : (z : ℤ) → z ≢ pos 0 → is_true z ≡ true
holds-true z other = elim (cases_Bool (int_eq z (pos 0))) [ inl is ↦ absurd (other ((Decides-int_eq z (pos 0)).0 is)) | inr fails ↦ ap not fails ]

true-holds : (z : ℤ) → is_true z ≡ true → z ≢ pos 0
true-holds z is same = false≢true (sym (ap not ((Decides-int_eq z (pos 0)).1 same)) ∙ is)

in_when_test : (v : Value) (rs : List Reached) (r : Reached) → Contains (cond (holds v) rs []) r → (z : ℤ) × (v ≡ integer z) × (z ≢ pos 0) × Contains rs r
in_when_test (integer z) rs r there = by (is_true z) refl there
  where
    by : (b : Bool) → is_true z ≡ b → Contains (cond b rs []) r → (y : ℤ) × (integer z ≡ integer y) × (y ≢ pos 0) × Contains rs r
    by true is has = (z, refl, true-holds z is, has)
    by false is has = absurd (Contains-nil r has)
in_when_test out_of_range rs r there = absurd (Contains-nil r there)
in_when_test zero_divisor rs r there = absurd (Contains-nil r there)

-- ---- statements

itself : (s : Stmt) (rest : Stmts) (env : Env) (r : Reached) → Contains (reached_at s env) r → ReachedIn (then s rest) env r
itself s rest env r there = record { statement = s; variables = env; reaches = here rest; there = there }

mutual
  sound : (body : Stmts) (env : Env) (r : Reached) → Contains (reached_in body env) r → ReachedIn body env r
  sound end env r there = absurd (Contains-nil r there)
  sound (then s rest) env r there =
      elim (Contains-append_cases (reached_by s env) (reached_in rest env) r there) [
        | inl first ↦ sound_at s rest env r first
        | inr others ↦
            let w = sound rest env r others in
            record { statement = w.statement; variables = w.variables; reaches = later s rest env w.reaches; there = w.there }
      ]

  sound_at : (s : Stmt) (rest : Stmts) (env : Env) (r : Reached) → Contains (reached_by s env) r → ReachedIn (then s rest) env r
  sound_at (inst entry) rest env r there = itself (inst entry) rest env r there
  sound_at (bind entry) rest env r there = itself (bind entry) rest env r there
  sound_at (forall name low high body place) rest env r there =
      let s = forall name low high body place in
      let ends = valued low env place ∷ valued high env place ∷ [] in
      let integers = range (value low env) (value high env) in
      let turns = flat_map (λ i. turn ∷ reached_in body (with_variable env name i)) integers in
      elim (Contains-append_cases ends turns r there) [
        | inl at_end ↦ itself s rest env r (Contains-append_left ends (map (λ i. turn) integers) r at_end)
        | inr in_turns ↦
            let w = Contains-from_flat_map (λ i. turn ∷ reached_in body (with_variable env name i)) integers r in_turns in
            elim (Contains-cons_cases turn (reached_in body (with_variable env name w.0)) r w.2) [
              | inl is ↦
                  itself s rest env r
                  (Contains-append_right ends (map (λ i. turn) integers) r (subst (Contains (map (λ i. turn) integers)) (sym is) (Contains-map (λ i. turn) integers w.0 w.1)))
              | inr inner ↦
                  let within = in_range (value low env) (value high env) w.0 w.1 in
                  let x = sound body (with_variable env name w.0) r inner in
                  record {
                    statement = x.statement;
                    variables = x.variables;
                    reaches = in_turn name low high body place rest env within.low within.high w.0 within.is_low within.is_high within.above within.below x.reaches;
                    there = x.there;
                  }
            ]
      ]
  sound_at (when test body place) rest env r there =
      let s = when test body place in
      elim (Contains-cons_cases (valued test env place) (cond (holds (value test env)) (reached_in body env) []) r there) [
        | inl is ↦ itself s rest env r (subst (Contains (reached_at s env)) (sym is) (Contains-here (valued test env place) []))
        | inr inner ↦
            let w = in_when_test (value test env) (reached_in body env) r inner in
            let x = sound body env r w.3 in
            record { statement = x.statement; variables = x.variables; reaches = in_when test body place rest env w.0 w.1 w.2 x.reaches; there = x.there }
      ]

-- what a statement is by itself is reached with it
own : (s : Stmt) (env : Env) (r : Reached) → Contains (reached_at s env) r → Contains (reached_by s env) r
own (inst entry) env r there = there
own (bind entry) env r there = there
own (forall name low high body place) env r there =
    let ends = valued low env place ∷ valued high env place ∷ [] in
    let integers = range (value low env) (value high env) in
    let turns = flat_map (λ i. turn ∷ reached_in body (with_variable env name i)) integers in
    elim (Contains-append_cases ends (map (λ i. turn) integers) r there) [
      | inl at_end ↦ Contains-append_left ends turns r at_end
      | inr is_turn ↦
          let w = Contains-from_map (λ (i : ℤ). turn) integers r is_turn in
          Contains-append_right ends turns r
          (Contains-flat_map (λ i. turn ∷ reached_in body (with_variable env name i)) integers w.0 r w.1
          (subst (Contains (turn ∷ reached_in body (with_variable env name w.0))) (sym w.2) (Contains-here turn (reached_in body (with_variable env name w.0)))))
    ]
own (when test body place) env r there =
    subst (Contains (reached_by (when test body place) env)) (sym (Contains-one (valued test env place) r there))
    (Contains-here (valued test env place) (cond (holds (value test env)) (reached_in body env) []))

complete : (s : Stmt) (at : Env) (body : Stmts) (env : Env) (r : Reached) → Reaches s at body env → Contains (reached_at s at) r → Contains (reached_in body env) r
complete s at _ _ r (here rest) there = Contains-append_left (reached_by s at) (reached_in rest at) r (own s at r there)
complete s at _ _ r (later first rest env reaches) there =
    Contains-append_right (reached_by first env) (reached_in rest env) r (complete s at rest env r reaches there)
complete s at _ _ r (in_turn name low high body place rest env a b i is_low is_high above below reaches) there =
    let ends = valued low env place ∷ valued high env place ∷ [] in
    let step : ℤ → List Reached = λ j. turn ∷ reached_in body (with_variable env name j) in
    let integers = range (value low env) (value high env) in
    let within =
    subst (λ v. Contains (range v (value high env)) i) (sym is_low)
    (subst (λ w. Contains (range (integer a) w) i) (sym is_high) ((integers_are a b i).1 (above, below))) in
    let inner = Contains-there turn r (reached_in body (with_variable env name i)) (complete s at body (with_variable env name i) r reaches there) in
    Contains-append_left (reached_by (forall name low high body place) env) (reached_in rest env) r
    (Contains-append_right ends (flat_map step integers) r (Contains-flat_map step integers i r within inner))
complete s at _ _ r (in_when test body place rest env z is_test other reaches) there =
    let inner = complete s at body env r reaches there in
    let holds_ : holds (value test env) ≡ true = ap holds is_test ∙ holds-true z other in
    Contains-append_left (reached_by (when test body place) env) (reached_in rest env) r
    (Contains-there (valued test env place) r (cond (holds (value test env)) (reached_in body env) [])
    (subst (λ b. Contains (cond b (reached_in body env) []) r) (sym holds_) inner))

pub reached_statements : (body : Stmts) (env : Env) (r : Reached) → Contains (reached_in body env) r ↔ ReachedIn body env r
reached_statements body env r = (sound body env r, λ w. complete w.statement w.variables body env r w.reaches w.there)

-- the size of a port or of an array, or what a reached statement is
abbrev Parts : Component → Env → Reached → Type 0
Parts c env r =
    ((p : PortDecl) × Contains c.ports p × Contains (port_size env p) r)
    ⊎ ((a : ArrayDecl) × Contains c.arrays a × (r ≡ array_size env a))
    ⊎ ReachedIn c.body env r

pub reached_component : (c : Component) (env : Env) (r : Reached) → Contains (reached_in_component c env) r ↔ Parts c env r
reached_component c env r = (to, from)
  where
    ports : List Reached
    ports = flat_map (port_size env) c.ports

    arrays : List Reached
    arrays = map (array_size env) c.arrays

    to : Contains (reached_in_component c env) r → Parts c env r
    to there =
        elim (Contains-append_cases (ports ++ arrays) (reached_in c.body env) r there) [
          | inl sizes ↦
              elim (Contains-append_cases ports arrays r sizes) [
                | inl of_port ↦ inl (Contains-from_flat_map (port_size env) c.ports r of_port)
                | inr of_array ↦ inr (inl (Contains-from_map (array_size env) c.arrays r of_array))
              ]
          | inr in_body ↦ inr (inr (sound c.body env r in_body))
        ]

    from : Parts c env r → Contains (reached_in_component c env) r
    from (inl p) =
        Contains-append_left (ports ++ arrays) (reached_in c.body env) r
        (Contains-append_left ports arrays r (Contains-flat_map (port_size env) c.ports p.0 r p.1 p.2))
    from (inr (inl a)) =
        Contains-append_left (ports ++ arrays) (reached_in c.body env) r
        (Contains-append_right ports arrays r (subst (Contains arrays) (sym a.2) (Contains-map (array_size env) c.arrays a.0 a.1)))
    from (inr (inr w)) = Contains-append_right (ports ++ arrays) (reached_in c.body env) r ((reached_statements c.body env r).1 w)
