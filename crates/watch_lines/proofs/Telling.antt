-- What was noted of the graphs at commit lines is what the lines tell.
use Rattle.std.proofs.Common.{◌≡◌, ℕ, zero, suc, ◌+◌, ◌<◌, Bool, false, cond, List, [], ◌∷◌, ◌++◌, refl, sym, subst, ap, ◌∙◌, ⊎_elim, inl, inr, ◌⊎◌, arith, zero-add}
use Rattle.std.specs.Prelude.{slice_get, Some}
use Rattle.std.proofs.lemmas.List.Sums.{sum_by-cons}
use Rattle.std.proofs.lemmas.Option.{slice_get_within}
use Rattle.std.proofs.Math.Numerals.{one-add}
use Rattle.base.proofs.PlaceLaws.{one_at}
use Rattle.config_graph.specs.Graph.{Graph}
use Rattle.report_types.specs.declared.report.HistoryLine.{HistoryLine}
use Rattle.report_types.specs.declared.report.HistoryLine.TheVariants as to
use Rattle.change_spec.specs.Members.{is_commit}
use Rattle.change_spec.specs.Heard.{AreCommitted, commit_count}
use Rattle.watch_lines.specs.Lists.{no_graph}
use Rattle.watch_lines.specs.Observers.{AreToldOf, IsToldOf, StandsAt, at_none, at_commit}
use Rattle.watch_lines.specs.Sightings.{AreSightingsOf, IsSightingOf}
use Rattle.watch_lines.specs.declared.sighting.Sighting.{Sighting}

-- the commit line of this number, from 0
record CommitLine (history : List HistoryLine) (number : ℕ) : Type 0 where
  pub before : List HistoryLine
  pub after : List HistoryLine
  pub parts : history ≡ before ++ to.Commit ∷ after
  pub counted : commit_count before ≡ number

abbrev number_of : Bool → ℕ
number_of b = cond b 1 0

count_more : (l : HistoryLine) (history : List HistoryLine) → commit_count (l ∷ history) ≡ number_of (is_commit l) + commit_count history
count_more l history = sum_by-cons (λ x. cond (is_commit x) 1 0) l history

line_on : (l : HistoryLine) (history : List HistoryLine) (k : ℕ) → CommitLine history k → CommitLine (l ∷ history) (number_of (is_commit l) + k)
line_on l history k f = record {
  before = l ∷ f.before;
  after = f.after;
  parts = ap (λ ls. l ∷ ls) f.parts;
  counted = count_more l f.before ∙ ap (λ n. number_of (is_commit l) + n) f.counted;
}

commit_line_from : (history : List HistoryLine) (k : ℕ) → ((j : ℕ) → j < commit_count history → CommitLine history j) → k < commit_count (to.Commit ∷ history) → CommitLine (to.Commit ∷ history) k
commit_line_from history zero later low = record { before = []; after = history; parts = refl; counted = refl }
commit_line_from history (suc k) later low =
    let more : commit_count (to.Commit ∷ history) ≡ 1 + commit_count history = count_more to.Commit history in
    subst (CommitLine (to.Commit ∷ history)) (one-add k) (line_on to.Commit history k (later k (omega (arith, more, low))))

-- a line is `commit`, or none of those that are counted
commit_or : (l : HistoryLine) → (l ≡ to.Commit) ⊎ (is_commit l ≡ false)
commit_or to.Commit = inl refl
commit_or (to.Start name args) = inr refl
commit_or (to.Change name args) = inr refl
commit_or (to.Make slot node from) = inr refl
commit_or (to.Link port node provide) = inr refl
commit_or (to.Unlink port) = inr refl
commit_or (to.Remove node) = inr refl
commit_or (to.Close port) = inr refl
commit_or (to.Reopen port) = inr refl
commit_or (to.Drained port serial) = inr refl
commit_or to.Abandon = inr refl
commit_or to.Skipped = inr refl
commit_or (to.Pending rounds) = inr refl
commit_or (to.Root port serial) = inr refl
commit_or (to.Run k ended) = inr refl
commit_or (to.Finish n rounds) = inr refl
commit_or (to.Show graph) = inr refl
commit_or to.Stop = inr refl

-- another line counts nothing
line_behind : (l : HistoryLine) (history : List HistoryLine) (k : ℕ) → is_commit l ≡ false → (k < commit_count history → CommitLine history k) → k < commit_count (l ∷ history) → CommitLine (l ∷ history) k
line_behind l history k other later low =
    let more = count_more l history in
    let none : number_of (is_commit l) ≡ 0 = ap number_of other in
    subst (CommitLine (l ∷ history)) (ap (λ n. n + k) none ∙ zero-add k) (line_on l history k (later (omega (arith, more, none, low))))

commit_line_at : (history : List HistoryLine) (k : ℕ) → k < commit_count history → CommitLine history k
commit_line_at [] k low = absurd (omega (arith, low))
commit_line_at (l ∷ history) k low = ⊎_elim
    (λ (is : l ≡ to.Commit). subst (λ (x : HistoryLine). CommitLine (x ∷ history) k) (sym is)
    (commit_line_from history k (commit_line_at history) (subst (λ (x : HistoryLine). k < commit_count (x ∷ history)) is low)))
    (λ (other : is_commit l ≡ false). line_behind l history k other (commit_line_at history k) low)
    (commit_or l)

-- the graph of a number stands there
stands_at : (history : List HistoryLine) (graphs : List Graph) (number : ℕ) (graph : Graph) → AreCommitted history graphs → slice_get (no_graph ∷ graphs) number ≡ Some graph → StandsAt history number graph
stands_at history graphs zero graph are there = subst (StandsAt history 0) (one_at (no_graph ∷ graphs) 0 no_graph graph refl there) at_none
stands_at history graphs (suc k) graph are there =
    let line = commit_line_at history k (let low = slice_get_within graphs k graph there in let count = are.count in omega (arith, low, count)) in
    let heard = are.each line.before line.after line.parts in
    let same : heard.graph ≡ graph = one_at graphs (commit_count line.before) heard.graph graph heard.heard (subst (λ (n : ℕ). slice_get graphs n ≡ Some graph) (sym line.counted) there) in
    let number : commit_count line.before + 1 ≡ suc k = (let n = line.counted in omega (arith, n)) in
    subst (λ (n : ℕ). StandsAt history n graph) number
    (subst (StandsAt history (commit_count line.before + 1)) same (at_commit line.before line.after heard.graph line.parts heard.stands))

told_of : (history : List HistoryLine) (graphs : List Graph) (s : Sighting) → AreCommitted history graphs → IsSightingOf graphs s → IsToldOf history s
told_of history graphs s are sighting = record { graph = sighting.0; stands = stands_at history graphs s.commits sighting.0 are sighting.1; counts = sighting.2 }

pub are_told : (history : List HistoryLine) (graphs : List Graph) (lines : List Sighting) → AreCommitted history graphs → AreSightingsOf graphs lines → AreToldOf history lines
are_told history graphs lines are sightings = record {
  each = λ k d low. told_of history graphs _ are (sightings.each k d low);
  rising = sightings.rising;
  earlier = sightings.earlier;
  last = sightings.last;
  ends = sightings.ends;
  all = sightings.all ∙ are.count;
}
