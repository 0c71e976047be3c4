-- What the looks of a passivation see: each port once, drained or in the end with a root; and in each look the ports rise.
use Rattle.std.proofs.Common.{◌≡◌, ◌∙◌, ℕ, ◌+◌, ◌<◌, Bool, true, false, not, cond, List, [], ◌∷◌, ◌++◌, append_assoc, length, map, refl, sym, ap, subst, arith}
use Rattle.std.specs.Prelude.{◌==◌, filter, flat_map, All}
use Rattle.std.specs.List.{AllPairs, count_by}
use Rattle.std.specs.List.Sorted.{IsStrictlyIncreasing}
use Rattle.std.proofs.lemmas.List.{append-nil, get_or-map, length-map}
use Rattle.std.proofs.lemmas.List.Elements.{All-cons, All-nil}
use Rattle.std.proofs.lemmas.List.Kept.{AllPairs-filter, AllPairs-from_increasing}
use Rattle.std.proofs.lemmas.List.Sums.{sum_by-cons}
use Rattle.base.specs.Each.{EachAfter}
use Rattle.base.proofs.MapLaws.{count_by-append}
use Rattle.change_spec.specs.Changes.{AreLooks, PortsRise, seen_in_all}
use Rattle.change_spec.specs.Scene.{AreSeen, Seen}
use Rattle.change_board.specs.Scans.{Found, ports_of}
use Rattle.change_engine.specs.Passivating.{IsPassivation, IsRound, Passivation, WaitingRound, is_busy, left_after, root_of, root_ports, roots_of}
use Rattle.change_engine.specs.declared.passivating.LeftRoot.{LeftRoot}
use Rattle.change_engine.proofs.PassivationLaws.{is_found, found_seen, drained_in, left_more, drained_by, looks_of, all_seen, seen_root}

-- ---- counts

module _ (p : ℕ) where
  abbrev at_port : Seen → Bool
  at_port d = d.port == p

  abbrev is_port : ℕ → Bool
  is_port q = q == p

  abbrev seen_so_often : List Seen → ℕ
  seen_so_often seen = count_by at_port seen

  abbrev listed_so_often : List ℕ → ℕ
  listed_so_often ports = count_by is_port ports

  one_more : (x : ℕ) (xs : List ℕ) → listed_so_often (x ∷ xs) ≡ cond (is_port x) 1 0 + listed_so_often xs
  one_more x xs = sum_by-cons (λ q. cond (is_port q) 1 0) x xs

  one_seen : (d : Seen) (ds : List Seen) → seen_so_often (d ∷ ds) ≡ cond (at_port d) 1 0 + seen_so_often ds
  one_seen d ds = sum_by-cons (λ e. cond (at_port e) 1 0) d ds

  -- a look parts its ports into drained ones and roots
  parted_here : (f : Found) (drained busy : List Found) (b : Bool)
      → seen_so_often (map found_seen (cond b (f ∷ drained) drained)) + listed_so_often (root_ports (map root_of (cond (not b) (f ∷ busy) busy)))
      ≡ cond (is_port f.port) 1 0 + (seen_so_often (map found_seen drained) + listed_so_often (root_ports (map root_of busy)))
  parted_here f drained busy true = omega (arith, one_seen (found_seen f) (map found_seen drained))
  parted_here f drained busy false = omega (arith, one_more f.port (root_ports (map root_of busy)))

  pub parted : (found : List Found) → seen_so_often (drained_in found) + listed_so_often (root_ports (roots_of found)) ≡ listed_so_often (ports_of found)
  parted [] = refl
  parted (f ∷ found) = omega (arith, parted_here f (filter is_found found) (filter is_busy found) (is_found f), parted found, one_more f.port (ports_of found))

  -- a round parts what was left
  parted_rounds : (first : List Found) (before rounds : List WaitingRound) → EachAfter (IsRound first) before rounds
      → seen_so_often (flat_map drained_by rounds) + listed_so_often (root_ports (left_after first (before ++ rounds))) ≡ listed_so_often (root_ports (left_after first before))
  parted_rounds first before [] each =
      let same = ap (λ ws. listed_so_often (root_ports (left_after first ws))) (append-nil before) in omega (arith, same)
  parted_rounds first before (w ∷ rounds) each =
      let first_part : seen_so_often (drained_by w) + listed_so_often (root_ports (roots_of w.found)) ≡ listed_so_often (root_ports (left_after first before)) =
      parted w.found ∙ ap listed_so_often each.0.at_left in
      let step : left_after first (before ++ w ∷ []) ≡ roots_of w.found = left_more first before w in
      let rest = parted_rounds first (before ++ w ∷ []) rounds each.1 in
      let same = ap (λ ws. listed_so_often (root_ports (left_after first ws))) (append_assoc before (w ∷ []) rounds) in
      let here = ap (λ xs. listed_so_often (root_ports xs)) step in
      omega (arith, first_part, rest, same, here, count_by-append at_port (drained_by w) (flat_map drained_by rounds))

  -- roots as they are told
  roots_told : (left : List LeftRoot) → seen_so_often (map seen_root left) ≡ listed_so_often (root_ports left)
  roots_told [] = refl
  roots_told (x ∷ left) = omega (arith, one_seen (seen_root x) (map seen_root left), one_more x.port (root_ports left), roots_told left)

  counted : (ports : List ℕ) (within : ℕ) (how : Passivation) → IsPassivation ports within how
      → seen_so_often (seen_in_all (looks_of how) ++ map seen_root (left_after how.first how.rounds)) ≡ listed_so_often ports
  counted ports within how is =
      let left = left_after how.first how.rounds in
      let first = parted how.first in
      let rest = parted_rounds how.first [] how.rounds is.each_round in
      let ports_are = ap listed_so_often is.at_ports in
      let whole = ap seen_so_often (all_seen how) in
      omega (
        arith,
        first,
        rest,
        ports_are,
        whole,
        roots_told left,
        count_by-append at_port (seen_in_all (looks_of how)) (map seen_root left),
        count_by-append at_port (drained_in how.first) (flat_map drained_by how.rounds),
      )

pub all_are_seen : (ports : List ℕ) (within : ℕ) (how : Passivation) → IsPassivation ports within how
    → AreSeen ports (seen_in_all (looks_of how) ++ map seen_root (left_after how.first how.rounds))
all_are_seen ports within how is = λ p. counted p ports within how is

-- where nothing is left
pub none_left_seen : (ports : List ℕ) (within : ℕ) (how : Passivation) → IsPassivation ports within how → left_after how.first how.rounds ≡ []
    → AreSeen ports (seen_in_all (looks_of how))
none_left_seen ports within how is none =
    subst (AreSeen ports) (append-nil (seen_in_all (looks_of how)))
    (subst (λ left. AreSeen ports (seen_in_all (looks_of how) ++ map seen_root left)) none (all_are_seen ports within how is))

-- ---- ports rise in each look

abbrev Rise : List Found → Type 0
Rise found = AllPairs (λ (f : Found) (g : Found). f.port < g.port) found

rise_from : (found : List Found) → IsStrictlyIncreasing (ports_of found) → Rise found
rise_from found h i j d lt within =
    let long = length-map found (λ (f : Found). f.port) in
    let here = get_or-map (λ (f : Found). f.port) found i d 0 (omega (arith, lt, within)) in
    let there = get_or-map (λ (f : Found). f.port) found j d 0 within in
    omega (arith, here, there, AllPairs-from_increasing (ports_of found) h i j 0 lt (omega (arith, long, within)))

rises_by : {A : Type 0} (f : A → ℕ) (xs : List A) → AllPairs (λ (x : A) (y : A). f x < f y) xs → IsStrictlyIncreasing (map f xs)
rises_by f [] h = λ k low. absurd (omega (arith, low))
rises_by f (x ∷ xs) h = λ k low.
    let long = length-map (x ∷ xs) f in
    let within : k + 1 < length (x ∷ xs) = omega (arith, long, low) in
    let here = get_or-map f (x ∷ xs) k x 0 (omega (arith, within)) in
    let there = get_or-map f (x ∷ xs) (k + 1) x 0 within in
    omega (arith, here, there, h k (k + 1) x (omega arith) within)

ports_seen : (found : List Found) → map (λ (d : Seen). d.port) (map found_seen found) ≡ ports_of found
ports_seen [] = refl
ports_seen (f ∷ found) = ap (λ ps. f.port ∷ ps) (ports_seen found)

ports_left : (found : List Found) → root_ports (map root_of found) ≡ ports_of found
ports_left [] = refl
ports_left (f ∷ found) = ap (λ ps. f.port ∷ ps) (ports_left found)

drained_rise : (found : List Found) → IsStrictlyIncreasing (ports_of found) → PortsRise (drained_in found)
drained_rise found h =
    subst IsStrictlyIncreasing (sym (ports_seen (filter is_found found)))
    (rises_by (λ (f : Found). f.port) (filter is_found found) (AllPairs-filter (λ (f : Found) (g : Found). f.port < g.port) is_found found (rise_from found h)))

left_rise : (found : List Found) → IsStrictlyIncreasing (ports_of found) → IsStrictlyIncreasing (root_ports (roots_of found))
left_rise found h =
    subst IsStrictlyIncreasing (sym (ports_left (filter is_busy found)))
    (rises_by (λ (f : Found). f.port) (filter is_busy found) (AllPairs-filter (λ (f : Found) (g : Found). f.port < g.port) is_busy found (rise_from found h)))

rounds_rise : (first : List Found) (before rounds : List WaitingRound) → EachAfter (IsRound first) before rounds → IsStrictlyIncreasing (root_ports (left_after first before))
    → All PortsRise (map drained_by rounds)
rounds_rise first before [] each rise = All-nil PortsRise
rounds_rise first before (w ∷ rounds) each rise =
    let here = subst IsStrictlyIncreasing (sym each.0.at_left) rise in
    All-cons PortsRise (drained_by w) (map drained_by rounds) (drained_rise w.found here)
    (rounds_rise first (before ++ w ∷ []) rounds each.1
    (subst (λ left. IsStrictlyIncreasing (root_ports left)) (sym (left_more first before w)) (left_rise w.found here)))

pub looks_are : (ports : List ℕ) (within : ℕ) (how : Passivation) → IsPassivation ports within how → IsStrictlyIncreasing ports → AreLooks within (looks_of how)
looks_are ports within how is rise =
    let first = subst IsStrictlyIncreasing (sym is.at_ports) rise in
    record {
      few = omega (arith, is.few, length-map how.rounds drained_by);
      rise = All-cons PortsRise (drained_in how.first) (map drained_by how.rounds) (drained_rise how.first first)
          (rounds_rise how.first [] how.rounds is.each_round (left_rise how.first first));
    }
