-- What is noted of a list stays so as the list grows, and a look at the whole of it may be noted behind.
use Rattle.std.proofs.Common.{◌≡◌, ℕ, ◌-◌, ◌<◌, ◌≤◌, true, false, nat_lt, List, [], ◌∷◌, ◌++◌, All, AllPairs, length, get_or, refl, sym, subst, ap, ◌∙◌, ⊎_elim, arith}
use Rattle.std.specs.Prelude.{slice_get, Option, None, Some, fold}
use Rattle.std.specs.Option.{option_map_or}
use Rattle.std.proofs.lemmas.Bool.{cases_lt, ltb-true, ltb-false, true≢false}
use Rattle.std.proofs.lemmas.List.Elements.{All-get_or, All-from_get_or, All-push, All-weaker}
use Rattle.std.proofs.lemmas.List.Quantifiers.{all_pairs_push}
use Rattle.std.proofs.lemmas.Option.{get_or_from_slice_get, none-some, slice_get_within}
use Rattle.base.proofs.PlaceLaws.{slice_get-front, slice_get-there, parted_at_last}
use Rattle.config_graph.specs.Graph.{Graph}
use Rattle.watch_lines.specs.Sightings.{CountsOf, IsBelow, IsSightingOf}
use Rattle.watch_lines.specs.declared.sighting.Sighting.{Sighting}
use Rattle.watch_view.specs.Noted.{AreNoted, EndAt, is_new}
use Rattle.watch_lines.specs.Lists.{BeginsWith, last_of, no_graph}

sighting_on : (list start : List Graph) (s : Sighting) → BeginsWith list start → IsSightingOf start s → IsSightingOf list s
sighting_on list start s begins is =
    subst (λ (gs : List Graph). IsSightingOf gs s) (sym begins.1) (is.0, slice_get-front (no_graph ∷ start) begins.0 s.commits is.0 is.1, is.2)

pub noted_on : (list start : List Graph) (noted : List Sighting) → BeginsWith list start → AreNoted start noted → AreNoted list noted
noted_on list start noted begins are = record {
  each = All-weaker (IsSightingOf start) (IsSightingOf list) (λ s. sighting_on list start s begins) noted are.each;
  rising = are.rising;
}

-- the last graph of a list stands at its length, where the list is counted from another that stands before all
last_stands : (g : Graph) (list : List Graph) → slice_get (g ∷ list) (length list) ≡ Some (fold (λ _ h. h) g list)
last_stands g [] = refl
last_stands g (h ∷ list) = last_stands h list

last_sighting : (list : List Graph) (s : Sighting) (g : Graph) → s.commits ≡ length list → g ≡ last_of list → CountsOf s g → IsSightingOf list s
last_sighting list s g number graph counts = (
  g,
  subst (λ (n : ℕ). slice_get (no_graph ∷ list) n ≡ Some g) (sym number) (last_stands no_graph list ∙ ap Some (sym graph)),
  counts,
)

sighted_within : (list : List Graph) (s : Sighting) → IsSightingOf list s → s.commits ≤ length list
sighted_within list s is = let low = slice_get_within (no_graph ∷ list) s.commits is.0 is.1 in omega (arith, low)

at_place : {A : Type 0} (P : A → Type 0) (xs : List A) (i : ℕ) (x : A) → All P xs → slice_get xs i ≡ Some x → P x
at_place P xs i x all is = subst P (get_or_from_slice_get xs i x x is) (All-get_or P xs i x (slice_get_within xs i x is) all)

-- no number that was noted is above that of the last
rises_to : (noted : List Sighting) (last : Sighting) → slice_get noted (length noted - 1) ≡ Some last → AllPairs IsBelow noted → All (λ s. s.commits ≤ last.commits) noted
rises_to noted last is rising = All-from_get_or (λ (s : Sighting). s.commits ≤ last.commits) noted last up_to
  where
    there : get_or noted (length noted - 1) last ≡ last
    there = get_or_from_slice_get noted (length noted - 1) last last is

    up_to : (k : ℕ) → k < length noted → (get_or noted k last).commits ≤ last.commits
    up_to k within = ⊎_elim
        (λ (low : k < length noted - 1). subst (λ (s : Sighting). (get_or noted k last).commits ≤ s.commits) there (let below = rising k (length noted - 1) last low (omega (arith, within)) in omega (arith, below)))
        (λ (high : length noted - 1 ≤ k). let same : length noted - 1 ≡ k = omega (arith, high, within) in subst (λ (n : ℕ). (get_or noted n last).commits ≤ last.commits) same (subst (λ (s : Sighting). s.commits ≤ last.commits) (sym there) (omega arith)))
        (cases_lt k (length noted - 1))

all_below : (noted : List Sighting) (commits : ℕ) (o : Option Sighting) → slice_get noted (length noted - 1) ≡ o → AllPairs IsBelow noted → option_map_or (λ s. nat_lt s.commits commits) o true ≡ true → All (λ s. s.commits < commits) noted
all_below noted commits None is rising new = λ k d within. let there = slice_get-there noted (length noted - 1) (omega (arith, within)) in absurd (none-some there.0 (sym is ∙ there.1))
all_below noted commits (Some last) is rising new =
    All-weaker (λ (s : Sighting). s.commits ≤ last.commits) (λ (s : Sighting). s.commits < commits) (λ s low. let below = ltb-true last.commits commits new in omega (arith, low, below)) noted (rises_to noted last is rising)

-- what is new may be noted behind
pub noted_more : (list : List Graph) (noted : List Sighting) (s : Sighting) (g : Graph) → AreNoted list noted → is_new noted s.commits ≡ true → s.commits ≡ length list → g ≡ last_of list → CountsOf s g
    → AreNoted list (noted ++ s ∷ [])
noted_more list noted s g are new number graph counts = record {
  each = All-push (IsSightingOf list) noted s are.each (last_sighting list s g number graph counts);
  rising = all_pairs_push IsBelow noted s are.rising (λ k d within. All-get_or (λ (x : Sighting). x.commits < s.commits) noted k d within (all_below noted s.commits (slice_get noted (length noted - 1)) refl are.rising new));
}

-- what isn't new is noted already
pub noted_already : (list : List Graph) (noted : List Sighting) (commits : ℕ) → AreNoted list noted → is_new noted commits ≡ false → commits ≡ length list → EndAt list noted
noted_already list noted commits are old number = ends_at (slice_get noted (length noted - 1)) refl old
  where
    ends_at : (o : Option Sighting) → slice_get noted (length noted - 1) ≡ o → option_map_or (λ s. nat_lt s.commits commits) o true ≡ false → EndAt list noted
    ends_at None is old = absurd (true≢false old)
    ends_at (Some last) is old =
        let low = ltb-false last.commits commits old in
        let high = sighted_within list last (at_place (IsSightingOf list) noted (length noted - 1) last are.each is) in
        let within = slice_get_within noted (length noted - 1) last is in
        let parts = parted_at_last noted (length noted - 1) last is (omega (arith, within)) in
        (parts.0, last, parts.1, omega (arith, low, high, number))
