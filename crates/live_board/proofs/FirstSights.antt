-- The first sight of a node is that of its own line.
use Rattle.std.proofs.Common.{◌≡◌, ◌∙◌, ℕ, Bool, true, false, cond, List, [], ◌∷◌, ◌++◌, map, Option, Some, None, refl, ⊎_elim}
use Rattle.std.specs.Prelude.{◌==◌, ◌||◌, find}
use Rattle.std.specs.List.{AllByRecursion, IsDistinct, list_any}
use Rattle.std.specs.Option.{option_map}
use Rattle.std.proofs.lemmas.Bool.{both_ways, cases_Bool, eq-eqb, or_left, or_right}
use Rattle.std.proofs.lemmas.Option.{none-some}
use Rattle.std.proofs.lemmas.Map.Keys.{IsDistinct-head, IsDistinct-tail}
use Rattle.change_board.specs.Sights.{Sight, seen_in}
use Rattle.quiesce_core.specs.Sources.{SourcesAreGone}
use Rattle.quiesce_core.specs.State.{Configuration}
use Rattle.quiesce_core.specs.declared.event.Event.{Event}
use Rattle.change_spec.proofs.LowerLaws.{SourcesAreLower}
use Rattle.live_board.specs.Lines.{IsOfLiveNode, LineSight, WholeLine, is_in_slot, last_slot, line_nodes, line_sight, line_sights}
use Rattle.live_board.proofs.ApartLemmas.{share_none}
use Rattle.live_board.proofs.SeenLines.{all_seen}

abbrev of_sight : Bool → Sight → Option Sight → Option (List Event)
of_sight t s o = option_map (λ (x : Sight). x.events) (cond t (Some s) o)

-- what is seen of a line, whatever is sighted behind it
front_seen : (xs : List LineSight) (rest : List Sight) (n : ℕ) (es : List Event) → seen_in (map line_sight xs) n ≡ Some es → seen_in (map line_sight xs ++ rest) n ≡ Some es
front_seen [] rest n es at = absurd (none-some es at)
front_seen (x ∷ xs) rest n es at = by (front_seen xs rest n es) (is_in_slot n x) at
  where
    by : (seen_in (map line_sight xs) n ≡ Some es → seen_in (map line_sight xs ++ rest) n ≡ Some es) → (t : Bool)
        → of_sight t (line_sight x) (find (λ (s : Sight). s.slot == n) (map line_sight xs)) ≡ Some es
        → of_sight t (line_sight x) (find (λ (s : Sight). s.slot == n) (map line_sight xs ++ rest)) ≡ Some es
    by further true h = h
    by further false h = further h

-- behind a line that a node isn't of
back_seen : (xs : List LineSight) (rest : List Sight) (n : ℕ) → list_any (is_in_slot n) xs ≡ false → seen_in (map line_sight xs ++ rest) n ≡ seen_in rest n
back_seen [] rest n off = refl
back_seen (x ∷ xs) rest n off = by (back_seen xs rest n) (is_in_slot n x) off
  where
    by : (list_any (is_in_slot n) xs ≡ false → seen_in (map line_sight xs ++ rest) n ≡ seen_in rest n) → (t : Bool) → (t || list_any (is_in_slot n) xs) ≡ false
        → of_sight t (line_sight x) (find (λ (s : Sight). s.slot == n) (map line_sight xs ++ rest)) ≡ seen_in rest n
    by further true h = absurd (both_ways true h refl)
    by further false h = further h

abbrev IsSeenIn : List Sight → LineSight → Type 0
IsSeenIn sights x = seen_in sights x.slot ≡ Some x.log

further_all : (own more : List Sight) → ((n : ℕ) (es : List Event) → seen_in own n ≡ Some es → seen_in more n ≡ Some es) → (xs : List LineSight) → AllByRecursion (IsSeenIn own) xs → AllByRecursion (IsSeenIn more) xs
further_all own more h [] all = tt
further_all own more h (x ∷ xs) all = (h x.slot x.log all.0, further_all own more h xs all.1)

module _ (c : Configuration) (low : SourcesAreLower c) (gone : SourcesAreGone c) where
  abbrev of_line : WholeLine → List Sight
  of_line l = map line_sight (line_nodes l)

  abbrev IsSeenWith : List Sight → WholeLine → Type 0
  IsSeenWith sights l = AllByRecursion (IsSeenIn sights) (line_nodes l)

  abbrev Behind : WholeLine → WholeLine → Type 0
  Behind l m = (last_slot l == last_slot m) ≡ false

  apart : (l m : WholeLine) → IsOfLiveNode c l → IsOfLiveNode c m → Behind l m → (n : ℕ) → list_any (is_in_slot n) (line_nodes m) ≡ true → list_any (is_in_slot n) (line_nodes l) ≡ false
  apart l m a b other n among = ⊎_elim
      (λ (both : list_any (is_in_slot n) (line_nodes l) ≡ true).
      absurd (both_ways (last_slot l == last_slot m) other (eq-eqb (last_slot l) (last_slot m) (share_none c gone l.kind m.kind l.past m.past l.last m.last n a.made b.made a.live b.live both among))))
      (λ (off : list_any (is_in_slot n) (line_nodes l) ≡ false). off)
      (cases_Bool (list_any (is_in_slot n) (line_nodes l)))

  behind : (l : WholeLine) (rest : List Sight) → IsOfLiveNode c l → (ms : List WholeLine) → AllByRecursion (IsOfLiveNode c) ms → AllByRecursion (λ (k : ℕ). (last_slot l == k) ≡ false) (map last_slot ms)
      → AllByRecursion (IsSeenWith rest) ms → AllByRecursion (IsSeenWith (of_line l ++ rest)) ms
  behind l rest a [] bs others all = tt
  behind l rest a (m ∷ ms) bs others all = (by (line_nodes m) (λ n among. apart l m a bs.0 others.0 n among) all.0, behind l rest a ms bs.1 others.1 all.1)
    where
      by : (xs : List LineSight) → ((n : ℕ) → list_any (is_in_slot n) xs ≡ true → list_any (is_in_slot n) (line_nodes l) ≡ false) → AllByRecursion (IsSeenIn rest) xs → AllByRecursion (IsSeenIn (of_line l ++ rest)) xs
      by [] off seen = tt
      by (x ∷ xs) off seen = (
        back_seen (line_nodes l) rest x.slot (off x.slot (or_left (is_in_slot x.slot x) (list_any (is_in_slot x.slot) xs) (eq-eqb x.slot x.slot refl))) ∙ seen.0,
        by xs (λ n among. off n (or_right (is_in_slot n x) (list_any (is_in_slot n) xs) among)) seen.1,
      )

  pub first_sights : (lines : List WholeLine) → AllByRecursion (IsOfLiveNode c) lines → IsDistinct (λ (a b : ℕ). a == b) (map last_slot lines) → AllByRecursion (IsSeenWith (line_sights lines)) lines
  first_sights [] each once = tt
  first_sights (l ∷ ls) each once = (
    further_all (of_line l) (of_line l ++ line_sights ls) (λ n es at. front_seen (line_nodes l) (line_sights ls) n es at) (line_nodes l) (all_seen c low l.kind None (line_nodes l) each.0.made),
    behind l (line_sights ls) each.0 ls each.1 (IsDistinct-head (λ (a b : ℕ). a == b) (last_slot l) (map last_slot ls) once)
        (first_sights ls each.1 (IsDistinct-tail (λ (a b : ℕ). a == b) (last_slot l) (map last_slot ls) once)),
  )
