-- What is noted of a run are the counts of its graphs, and so are the lines of an observer by it.
use Rattle.std.proofs.Common.{◌≡◌, ◌==◌, ◌&&◌, ℕ, ◌+◌, ◌-◌, ◌<◌, ◌≤◌, Bool, true, false, nat_le, nat_lt, cond, List, [], ◌∷◌, All, length, refl, sym, subst, ap, ◌∙◌, ⊎_elim, arith}
use Rattle.std.specs.Prelude.{slice_get, Some}
use Rattle.std.specs.Option.{option_map_or}
use Rattle.std.proofs.lemmas.Bool.{and_parts, eqb-true, leb-true, ltb-true}
use Rattle.std.proofs.lemmas.List.Elements.{All-cons, All-nil}
use Rattle.std.proofs.lemmas.List.Kept.{AllPairs-cons}
use Rattle.std.proofs.lemmas.Option.{slice_get_within}
use Rattle.base.proofs.OptionLaws.{map_or_at, map_or_true}
use Rattle.base.proofs.PlaceLaws.{slice_get-push_cases, slice_get-there}
use Rattle.config_graph.specs.Graph.{Graph}
use Rattle.watch_lines.specs.Lists.{no_graph}
use Rattle.watch_lines.specs.Counts.{AreCountsOf, before_all, is_counted, is_next, lines_from, lines_of}
use Rattle.watch_lines.specs.Sightings.{AreSightingsOf, IsBelow, IsSightingOf}
use Rattle.watch_lines.specs.declared.sighting.Sighting.{Sighting}

pub counts_of_none : AreCountsOf [] (before_all ∷ [])
counts_of_none = record {
  count = refl;
  each = λ number s there. ⊎_elim (λ (none : slice_get [] number ≡ Some s). absurd (let low = slice_get_within [] number s none in omega (arith, low)))
      (λ (t : (number ≡ 0) × (before_all ≡ s)). subst (λ (x : Sighting). (x.commits ≡ number) × IsSightingOf [] x) t.1 (sym t.0, (no_graph, refl, (refl, refl))))
      (slice_get-push_cases [] before_all number s there);
}

-- ---- the lines of an observer

counted_as : (graphs : List Graph) (counts : List Sighting) (s : Sighting) → AreCountsOf graphs counts → is_counted counts s ≡ true → IsSightingOf graphs s
counted_as graphs counts s are there =
    let c = map_or_true (λ (c : Sighting). c.nodes == s.nodes && c.links == s.links) (slice_get counts s.commits) there in
    let noted = are.each s.commits c.0 c.1 in
    let same = and_parts (c.0.nodes == s.nodes) (c.0.links == s.links) c.2 in (
      noted.1.0,
      subst (λ (n : ℕ). slice_get (no_graph ∷ graphs) n ≡ Some noted.1.0) noted.0 noted.1.1,
      (sym (eqb-true c.0.nodes s.nodes same.0) ∙ noted.1.2.0, sym (eqb-true c.0.links s.links same.1) ∙ noted.1.2.1),
    )

-- lines whose numbers are this one or more
record AreLinesFrom (graphs : List Graph) (next : ℕ) (lines : List Sighting) : Type 0 where
  pub are : AreSightingsOf graphs lines
  pub above : All (λ s. next ≤ s.commits) lines

last_line : (graphs : List Graph) (last : Sighting) (next : ℕ) → IsSightingOf graphs last → last.commits ≡ length graphs → next ≤ length graphs → AreLinesFrom graphs next (last ∷ [])
last_line graphs last next is all low = record {
  are = record {
    each = All-cons (IsSightingOf graphs) last [] is (All-nil (IsSightingOf graphs));
    rising = AllPairs-cons IsBelow last [] (All-nil (IsBelow last)) (λ i j d below within. absurd (omega (arith, within)));
    earlier = [];
    last = last;
    ends = refl;
    all = all;
  };
  above = All-cons (λ (s : Sighting). next ≤ s.commits) last [] (omega (arith, all, low)) (All-nil (λ (s : Sighting). next ≤ s.commits));
}

sighting_before : (graphs : List Graph) (s : Sighting) (next : ℕ) (lines : List Sighting) → IsSightingOf graphs s → next ≤ s.commits → AreLinesFrom graphs (s.commits + 1) lines → AreLinesFrom graphs next (s ∷ lines)
sighting_before graphs s next lines is low rest = record {
  are = record {
    each = All-cons (IsSightingOf graphs) s lines is rest.are.each;
    rising = AllPairs-cons IsBelow s lines (λ k d within. let above = rest.above k d within in omega (arith, above)) rest.are.rising;
    earlier = s ∷ rest.are.earlier;
    last = rest.are.last;
    ends = ap (λ ls. s ∷ ls) rest.are.ends;
    all = rest.are.all;
  };
  above = All-cons (λ (x : Sighting). next ≤ x.commits) s lines low (λ k d within. let above = rest.above k d within in omega (arith, above, low));
}

next_or : (b : Bool) (graphs : List Graph) (s : Sighting) (next : ℕ) (lines others : List Sighting) → (b ≡ true → IsSightingOf graphs s × (next ≤ s.commits) × AreLinesFrom graphs (s.commits + 1) lines) → AreLinesFrom graphs next others → AreLinesFrom graphs next (cond b (s ∷ lines) others)
next_or true graphs s next lines others here rest = let t = here refl in sighting_before graphs s next lines t.0 t.1 t.2
next_or false graphs s next lines others here rest = rest

lines_are : (graphs : List Graph) (counts : List Sighting) (last : Sighting) (next : ℕ) (seen : List Sighting) → AreCountsOf graphs counts → IsSightingOf graphs last → last.commits ≡ length graphs → next ≤ length graphs → AreLinesFrom graphs next (lines_from counts last next seen)
lines_are graphs counts last next [] are is all low = last_line graphs last next is all low
lines_are graphs counts last next (s ∷ seen) are is all low = next_or (is_next counts last next s) graphs s next (lines_from counts last (s.commits + 1) seen) (lines_from counts last next seen)
    (λ passed. let two = and_parts (nat_le next s.commits && nat_lt s.commits last.commits) (is_counted counts s) passed in
    let ends = and_parts (nat_le next s.commits) (nat_lt s.commits last.commits) two.0 in
    let below : s.commits < last.commits = ltb-true s.commits last.commits ends.1 in (
      counted_as graphs counts s are two.1,
      leb-true next s.commits ends.0,
      lines_are graphs counts last (s.commits + 1) seen are is all (omega (arith, below, all)),
    ))
    (lines_are graphs counts last next seen are is all low)

pub lines_of_graphs : (graphs : List Graph) (counts seen : List Sighting) → AreCountsOf graphs counts → AreSightingsOf graphs (lines_of counts seen)
lines_of_graphs graphs counts seen are =
    let there = slice_get-there counts (length counts - 1) (let n = are.count in omega (arith, n)) in
    let noted = are.each (length counts - 1) there.0 there.1 in
    let last : option_map_or (λ s. s) (slice_get counts (length counts - 1)) before_all ≡ there.0 = map_or_at (λ s. s) (slice_get counts (length counts - 1)) before_all there.0 there.1 in
    subst (λ (s : Sighting). AreSightingsOf graphs (lines_from counts s 0 seen)) (sym last)
    (lines_are graphs counts there.0 0 seen are noted.1 (let n = are.count in noted.0 ∙ omega (arith, n)) (omega arith)).are
