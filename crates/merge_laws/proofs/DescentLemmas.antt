-- Looks are found by counting where the ports don't rise.
use Rattle.std.proofs.Common.{◌≡◌, ◌∙◌, ℕ, zero, suc, ◌+◌, ◌≤◌, Bool, true, false, cond, List, [], ◌∷◌, ◌++◌, length, map, refl, sym, ap, subst, arith, lt-ltb}
use Rattle.std.specs.Prelude.{nat_lt, All}
use Rattle.std.specs.List.Sorted.{IsStrictlyIncreasing}
use Rattle.std.proofs.lemmas.Bool.{both_ways, ltb-true}
use Rattle.std.proofs.lemmas.List.Elements.{All-cons, All-head, All-nil, All-tail}
use Rattle.change_spec.specs.Changes.{AreLooks, PortsRise, seen_in_all}
use Rattle.change_spec.specs.Scene.{Seen}
use Rattle.merge_laws.specs.Descents.{descents, descents_from, pieces, pieces_from, put_first}
use Rattle.base.proofs.RisingLaws.{rise_tail, rise_more, rise_first}

-- ---- numbers that rise, one by one

pub rise_one : (a : ℕ) → IsStrictlyIncreasing (a ∷ [])
rise_one a = λ k low. absurd (omega (arith, low))

-- ---- the pieces are looks

-- of the pieces: none is lost, and how many there are
put_all : (d : Seen) (ps : List (List Seen)) → seen_in_all (put_first d ps) ≡ d ∷ seen_in_all ps
put_all d [] = refl
put_all d (p ∷ ps) = refl

all_from : (d : Seen) (seen : List Seen) → seen_in_all (pieces_from d seen) ≡ d ∷ seen
all_from d [] = refl
all_from d (e ∷ seen) = by (nat_lt d.port e.port) (all_from e seen)
  where
    by : (b : Bool) → seen_in_all (pieces_from e seen) ≡ e ∷ seen → seen_in_all (cond b (put_first d (pieces_from e seen)) ((d ∷ []) ∷ pieces_from e seen)) ≡ d ∷ (e ∷ seen)
    by true is = put_all d (pieces_from e seen) ∙ ap (λ xs. d ∷ xs) is
    by false is = ap (λ xs. d ∷ xs) is

pub all_in_pieces : (seen : List Seen) → seen_in_all (pieces seen) ≡ seen
all_in_pieces [] = refl
all_in_pieces (d ∷ seen) = all_from d seen

-- the first piece begins with the first that was seen
record Begun (d : Seen) (n : ℕ) (ps : List (List Seen)) : Type 0 where
  more_ : List Seen
  others : List (List Seen)
  are : ps ≡ (d ∷ more_) ∷ others
  rise : PortsRise (d ∷ more_)
  all_rise : All PortsRise others
  few : length others ≡ n

begun : (d : Seen) (seen : List Seen) → Begun d (descents_from d.port seen) (pieces_from d seen)
begun d [] = record { more_ = []; others = []; are = refl; rise = rise_one d.port; all_rise = All-nil PortsRise; few = refl }
begun d (e ∷ seen) = by (nat_lt d.port e.port) refl (begun e seen)
  where
    by : (b : Bool) → nat_lt d.port e.port ≡ b → Begun e (descents_from e.port seen) (pieces_from e seen)
        → Begun d (cond b (descents_from e.port seen) (suc (descents_from e.port seen))) (cond b (put_first d (pieces_from e seen)) ((d ∷ []) ∷ pieces_from e seen))
    by true low w =
        record {
          more_ = e ∷ w.more_;
          others = w.others;
          are = ap (put_first d) w.are;
          rise = rise_more d.port e.port (map (λ (x : Seen). x.port) w.more_) (ltb-true d.port e.port low) w.rise;
          all_rise = w.all_rise;
          few = w.few;
        }
    by false low w =
        record {
          more_ = [];
          others = pieces_from e seen;
          are = refl;
          rise = rise_one d.port;
          all_rise = subst (All PortsRise) (sym w.are) (All-cons PortsRise (e ∷ w.more_) w.others w.rise w.all_rise);
          few = ap length w.are ∙ ap suc w.few;
        }

pub pieces_are_looks : (within : ℕ) (seen : List Seen) → descents seen ≤ within → AreLooks within (pieces seen)
pieces_are_looks within [] low = record { few = omega arith; rise = All-nil PortsRise }
pieces_are_looks within (d ∷ seen) low =
    let w = begun d seen in
    let many : length (pieces_from d seen) ≡ suc (descents_from d.port seen) = ap length w.are ∙ ap suc w.few in
    record {
      few = omega (arith, many, low);
      rise = subst (All PortsRise) (sym w.are) (All-cons PortsRise (d ∷ w.more_) w.others w.rise w.all_rise);
    }

-- ---- and they are the fewest

-- one port more at the front is one descent more at most
from_first : (p : ℕ) (seen : List Seen) → descents_from p seen ≤ suc (descents seen)
from_first p [] = omega arith
from_first p (d ∷ seen) = by (nat_lt p d.port)
  where
    by : (b : Bool) → cond b (descents_from d.port seen) (suc (descents_from d.port seen)) ≤ suc (descents_from d.port seen)
    by true = omega arith
    by false = omega arith

-- behind a piece that rises there is one descent more at most
over_piece : (p : ℕ) (piece rest : List Seen) → IsStrictlyIncreasing (p ∷ map (λ (x : Seen). x.port) piece) → descents_from p (piece ++ rest) ≤ suc (descents rest)
over_piece p [] rest rise = from_first p rest
over_piece p (d ∷ piece) rest rise =
    by (nat_lt p d.port) refl (over_piece d.port piece rest (rise_tail p (d.port ∷ map (λ (x : Seen). x.port) piece) rise))
  where
    by : (b : Bool) → nat_lt p d.port ≡ b → descents_from d.port (piece ++ rest) ≤ suc (descents rest)
        → cond b (descents_from d.port (piece ++ rest)) (suc (descents_from d.port (piece ++ rest))) ≤ suc (descents rest)
    by true e low = low
    by false e low = absurd (both_ways (nat_lt p d.port) e (lt-ltb p d.port (rise_first p d.port (map (λ (x : Seen). x.port) piece) rise)))

-- a piece that rises has none
none_behind : (p : ℕ) (piece : List Seen) → IsStrictlyIncreasing (p ∷ map (λ (x : Seen). x.port) piece) → descents_from p (piece ++ []) ≤ 0
none_behind p [] rise = omega arith
none_behind p (d ∷ piece) rise =
    by (nat_lt p d.port) refl (none_behind d.port piece (rise_tail p (d.port ∷ map (λ (x : Seen). x.port) piece) rise))
  where
    by : (b : Bool) → nat_lt p d.port ≡ b → descents_from d.port (piece ++ []) ≤ 0
        → cond b (descents_from d.port (piece ++ [])) (suc (descents_from d.port (piece ++ []))) ≤ 0
    by true e low = low
    by false e low = absurd (both_ways (nat_lt p d.port) e (lt-ltb p d.port (rise_first p d.port (map (λ (x : Seen). x.port) piece) rise)))

abbrev pred : ℕ → ℕ
pred zero = zero
pred (suc n) = n

falls_by_looks : (looks : List (List Seen)) → All PortsRise looks → descents (seen_in_all looks) ≤ pred (length looks)
falls_by_looks [] rise = omega arith
falls_by_looks ([] ∷ looks) rise = by looks (falls_by_looks looks (All-tail PortsRise [] looks rise))
  where
    by : (ls : List (List Seen)) → descents (seen_in_all ls) ≤ pred (length ls) → descents (seen_in_all ls) ≤ length ls
    by [] low = low
    by (l ∷ ls) low = omega (arith, low)
falls_by_looks ((d ∷ piece) ∷ looks) rise =
    by looks (over_piece d.port piece (seen_in_all looks) (All-head PortsRise (d ∷ piece) looks rise)) (falls_by_looks looks (All-tail PortsRise (d ∷ piece) looks rise))
  where
    by : (ls : List (List Seen)) → descents_from d.port (piece ++ seen_in_all ls) ≤ suc (descents (seen_in_all ls)) → descents (seen_in_all ls) ≤ pred (length ls)
        → descents_from d.port (piece ++ seen_in_all ls) ≤ length ls
    by [] low rest = none_behind d.port piece (All-head PortsRise (d ∷ piece) looks rise)
    by (l ∷ ls) low rest = omega (arith, low, rest)

pub falls_are_few : (within : ℕ) (looks : List (List Seen)) → AreLooks within looks → descents (seen_in_all looks) ≤ within
falls_are_few within looks are = by looks are.few (falls_by_looks looks are.rise)
  where
    by : (ls : List (List Seen)) → length ls ≤ within + 1 → descents (seen_in_all ls) ≤ pred (length ls) → descents (seen_in_all ls) ≤ within
    by [] few low = omega arith
    by (l ∷ ls) few low = omega (arith, few, low)
