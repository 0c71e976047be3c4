-- The graphs at the commit lines of a history, as it grows statement by statement.
use Rattle.std.proofs.Common.{◌≡◌, ◌∙◌, ℕ, ◌+◌, Bool, true, false, cond, List, [], ◌∷◌, ◌++◌, append_assoc, length, Option, Some, None, refl, sym, ap, subst, ⊎_elim, inl, inr, arith}
use Rattle.std.specs.Prelude.{◌⊎◌, ◌||◌, ℤ, filter_map, flat_map, option_to_list}
use Rattle.std.specs.List.{list_any}
use Rattle.std.proofs.lemmas.Bool.{both_ways, or_parts}
use Rattle.std.proofs.lemmas.List.{append-nil, length-append}
use Rattle.std.proofs.lemmas.List.Elements.{filter_map-append}
use Rattle.std.proofs.lemmas.List.Folds.{list_any-append}
use Rattle.std.proofs.lemmas.List.Sums.{sum_by-cons}
use Rattle.std.proofs.lemmas.Option.{slice_get_within}
use Rattle.base.proofs.MapLaws.{count_by-append}
use Rattle.base.proofs.PlaceLaws.{heads_are, slice_get-append_front, tails_are, slice_get-append_back}
use Rattle.config_graph.specs.Graph.{Graph}
use Rattle.quiesce_laws.specs.Steps.{change_all}
use Rattle.quiesce_core.specs.Live.{IsGraphOf}
use Rattle.quiesce_core.specs.State.{empty}
use Rattle.report_types.specs.declared.report.HistoryLine.{HistoryLine}
use Rattle.report_types.specs.declared.report.HistoryLine.TheVariants as to
use Rattle.change_spec.specs.Members.{event_of, is_commit}
use Rattle.change_spec.specs.Scene.{config_after}
use Rattle.txn_records.specs.declared.entry.Entry.{Entry}
use Rattle.change_board.specs.Steps.{Deed}
use Rattle.change_board.specs.Transcripts.{Item, said, lines}
use Rattle.change_engine.specs.Carrying.{deed_items}
use Rattle.change_engine.specs.Draining.{pending_items}
use Rattle.change_engine.specs.Passivating.{Passivation, silent_items}
use Rattle.change_engine.specs.Stopping.{stop_items}
use Rattle.change_engine.specs.declared.passivating.LeftRoot.{LeftRoot}
use Rattle.change_engine.proofs.ItemLaws.{lines_both}
use Rattle.change_spec.specs.Heard.{AreCommitted, IsHeardBehind, commit_count}
use Rattle.change_transcript_laws.specs.Hearing.{Commits, IsHeard}
use Rattle.change_transcript_laws.specs.Pieces.{AreDone, Piece, config_at, items_of, opening_items}
use Rattle.change_transcript_laws.proofs.FollowLaws.{fair_pieces, items_pushed}
use Rattle.change_transcript_laws.proofs.ItemLemmas.{fair_config, is_aside}
use Rattle.change_transcript_laws.proofs.LineLemmas.{none_both, none_deeds, none_passivation, none_roots, silent_line}

-- ---- lists of lines

none_counted : (ls : List HistoryLine) → list_any is_commit ls ≡ false → commit_count ls ≡ 0
none_counted [] h = refl
none_counted (l ∷ ls) h =
    let parts = or_parts (is_commit l) (list_any is_commit ls) h in
    let here : ◌≡◌ {A = ℕ} (cond (is_commit l) 1 0) 0 = ap {B = ℕ} (λ b. cond b 1 0) parts.0 in
    omega (arith, sum_by-cons (λ x. cond (is_commit x) 1 0) l ls, here, none_counted ls parts.1)

one_counted : (ls : List HistoryLine) → commit_count (ls ++ to.Commit ∷ []) ≡ commit_count ls + 1
one_counted ls = count_by-append is_commit ls (to.Commit ∷ []) ∙ omega arith

-- a commit line is found in the lines before those that have none
found_before : (history ls before after : List HistoryLine) → list_any is_commit ls ≡ false → history ++ ls ≡ before ++ to.Commit ∷ after
    → (behind : List HistoryLine) × (history ≡ before ++ to.Commit ∷ behind)
found_before [] ls before after none is =
    absurd (both_ways (list_any is_commit ls) none (ap (list_any is_commit) is ∙ list_any-append is_commit before (to.Commit ∷ after) ∙ or_true (list_any is_commit before)))
  where
    or_true : (b : Bool) → (b || true) ≡ true
    or_true true = refl
    or_true false = refl
found_before (l ∷ history) ls [] after none is = (history, ap (λ x. x ∷ history) (heads_are l to.Commit (history ++ ls) after is))
found_before (l ∷ history) ls (b ∷ before) after none is =
    let w = found_before history ls before after none (tails_are l b (history ++ ls) (before ++ to.Commit ∷ after) is) in
    (w.0, ap (λ x. x ∷ history) (heads_are l b (history ++ ls) (before ++ to.Commit ∷ after) is) ∙ ap (λ xs. b ∷ xs) w.1)

-- and where they end with one, it is that, or one before it
found_or_last : (history before after : List HistoryLine) → history ++ to.Commit ∷ [] ≡ before ++ to.Commit ∷ after
    → ((behind : List HistoryLine) × (history ≡ before ++ to.Commit ∷ behind)) ⊎ (before ≡ history)
found_or_last [] [] after is = inr refl
found_or_last [] (b ∷ before) after is =
    absurd (omega (arith, ap length (tails_are to.Commit b [] (before ++ to.Commit ∷ after) is), length-append before (to.Commit ∷ after)))
found_or_last (l ∷ history) [] after is = inl (history, ap (λ x. x ∷ history) (heads_are l to.Commit (history ++ to.Commit ∷ []) after is))
found_or_last (l ∷ history) (b ∷ before) after is =
    let head = heads_are l b (history ++ to.Commit ∷ []) (before ++ to.Commit ∷ after) is in
    ⊎_elim
    (λ (w : (behind : List HistoryLine) × (history ≡ before ++ to.Commit ∷ behind)). inl (w.0, ap (λ x. x ∷ history) head ∙ ap (λ xs. b ∷ xs) w.1))
    (λ (same : before ≡ history). inr (ap (λ x. x ∷ before) (sym head) ∙ ap (λ xs. l ∷ xs) same))
    (found_or_last history before after (tails_are l b (history ++ to.Commit ∷ []) (before ++ to.Commit ∷ after) is))

pub none_committed : AreCommitted [] []
none_committed = record { count = refl; each = λ before after is. absurd (omega (arith, ap length is, length-append before (to.Commit ∷ after))) }

quiet_more : (history : List HistoryLine) (graphs : List Graph) (ls : List HistoryLine) → AreCommitted history graphs → list_any is_commit ls ≡ false → AreCommitted (history ++ ls) graphs
quiet_more history graphs ls h none = record {
  count = omega (arith, h.count, count_by-append is_commit history ls, none_counted ls none);
  each = λ before after is. let w = found_before history ls before after none is in h.each before w.0 w.1;
}

commit_more : (history : List HistoryLine) (graphs : List Graph) (g : Graph) → AreCommitted history graphs → IsGraphOf (config_after history) g → AreCommitted (history ++ to.Commit ∷ []) (graphs ++ g ∷ [])
commit_more history graphs g h stands = record {
  count = omega (arith, length-append graphs (g ∷ []), h.count, one_counted history);
  each = λ before after is. ⊎_elim
      (λ (w : (behind : List HistoryLine) × (history ≡ before ++ to.Commit ∷ behind)).
      let x = h.each before w.0 w.1 in
      record { graph = x.graph; heard = slice_get-append_front graphs (g ∷ []) (commit_count before) (slice_get_within graphs (commit_count before) x.graph x.heard) ∙ x.heard; stands = x.stands })
      (λ (same : before ≡ history). subst (IsHeardBehind (graphs ++ g ∷ [])) (sym same)
      (record { graph = g; heard = slice_get-append_back graphs (g ∷ []) (commit_count history) 0 (omega (arith, h.count)); stands = stands }))
      (found_or_last history before after is);
}

-- ---- statement by statement

config_said : (ls : List HistoryLine) → config_after (ls ++ to.Commit ∷ []) ≡ config_after ls
config_said ls = ap (change_all empty.config) (filter_map-append event_of ls (to.Commit ∷ []) ∙ append-nil (filter_map event_of ls))

module _ (alone : Bool) (pieces : List Piece) (p : Piece) (graphs : List Graph) (done_ : AreDone alone (pieces ++ p ∷ [])) (so_far : AreCommitted (lines (items_of pieces)) graphs) where
  abbrev t : List Item
  t = items_of pieces

  abbrev all : List Item
  all = items_of (pieces ++ p ∷ [])

  heard_so : (o : Option Graph) → IsHeard t p.items o → AreCommitted (lines (t ++ p.items)) (graphs ++ option_to_list o)
  heard_so None h =
      subst (λ ls. AreCommitted ls (graphs ++ [])) (sym (lines_both t p.items))
      (subst (AreCommitted (lines t ++ lines p.items)) (sym (append-nil graphs)) (quiet_more (lines t) graphs (lines p.items) so_far h))
  heard_so (Some g) h =
      let front = lines t ++ lines h.front in
      let are : lines (t ++ p.items) ≡ front ++ to.Commit ∷ [] =
      lines_both t p.items ∙ ap (λ xs. lines t ++ lines xs) h.are ∙ ap (λ ls. lines t ++ ls) (lines_both h.front (said to.Commit ∷ []))
      ∙ sym (append_assoc (lines t) (lines h.front) (to.Commit ∷ [])) in
      let config : config_at (t ++ p.items) ≡ config_after front =
      ap config_at (sym (items_pushed pieces p)) ∙ fair_config all (fair_pieces alone [] (pieces ++ p ∷ []) tt done_) ∙ ap (λ xs. config_after (lines xs)) (items_pushed pieces p)
      ∙ ap config_after are ∙ config_said front in
      subst (λ ls. AreCommitted ls (graphs ++ g ∷ [])) (sym are)
      (commit_more front graphs g (quiet_more (lines t) graphs (lines h.front) so_far h.none_before) (subst (λ c. IsGraphOf c g) config h.stands))

  pub heard_next : (o : Option Graph) → IsHeard t p.items o → AreCommitted (lines all) (graphs ++ option_to_list o)
  heard_next o h = subst (λ xs. AreCommitted (lines xs) (graphs ++ option_to_list o)) (sym (items_pushed pieces p)) (heard_so o h)

-- ---- which items commit

none_aside : (l : HistoryLine) → is_aside l ≡ false → is_commit l ≡ false
none_aside to.Commit h = absurd (both_ways true h refl)
none_aside _ h = refl

pub quiet_commits_none : (es : List Entry) (l : HistoryLine) → is_commit l ≡ false → list_any is_commit (lines (silent_items es ++ said l ∷ [])) ≡ false
quiet_commits_none es l h = silent_line is_commit es l ∙ ap (λ b. b || false) h

module _ (name : List ℕ) (args : List ℤ) where
  pub opening_commits_none : (closed : List ℕ) (how : Passivation) → list_any is_commit (lines (opening_items name args closed how)) ≡ false
  opening_commits_none closed how = none_passivation is_commit none_aside closed how

  -- a start, and a change that is carried out, commit at their end
  pub start_commits : (before : List Item) (deeds : List Deed) (g : Graph) → IsGraphOf (config_at (before ++ (said (to.Start name args) ∷ (flat_map deed_items deeds ++ said to.Commit ∷ [])))) g
      → Commits before (said (to.Start name args) ∷ (flat_map deed_items deeds ++ said to.Commit ∷ [])) g
  start_commits before deeds g stands =
      record { front = said (to.Start name args) ∷ flat_map deed_items deeds; none_before = none_deeds is_commit none_aside deeds; are = refl; stands = stands }

  pub change_commits : (before : List Item) (closed : List ℕ) (how : Passivation) (deeds : List Deed) (g : Graph)
      → IsGraphOf (config_at (before ++ (opening_items name args closed how ++ (flat_map deed_items deeds ++ said to.Commit ∷ [])))) g
      → Commits before (opening_items name args closed how ++ (flat_map deed_items deeds ++ said to.Commit ∷ [])) g
  change_commits before closed how deeds g stands = record {
    front = opening_items name args closed how ++ flat_map deed_items deeds;
    none_before = none_both is_commit (opening_items name args closed how) (flat_map deed_items deeds) (opening_commits_none closed how) (none_deeds is_commit none_aside deeds);
    are = sym (append_assoc (opening_items name args closed how) (flat_map deed_items deeds) (said to.Commit ∷ []));
    stands = stands;
  }

  -- one that is given up doesn't
  pub given_up_commits_none : (closed : List ℕ) (how : Passivation) (within : ℕ) (left : List LeftRoot) (deeds : List Deed)
      → list_any is_commit (lines (opening_items name args closed how ++ (pending_items within left ++ flat_map deed_items deeds ++ said to.Abandon ∷ []))) ≡ false
  given_up_commits_none closed how within left deeds =
      let did = flat_map deed_items deeds in
      none_both is_commit (opening_items name args closed how) (pending_items within left ++ did ++ said to.Abandon ∷ []) (opening_commits_none closed how)
      (none_both is_commit (pending_items within left ++ did) (said to.Abandon ∷ [])
      (none_both is_commit (pending_items within left) did (none_roots is_commit (λ q k. refl) left) (none_deeds is_commit none_aside deeds)) refl)

-- ---- the stop

-- it commits nothing
pub stop_committed : (t : List Item) (closed : List ℕ) (how : Passivation) (graphs : List Graph) → AreCommitted (lines t) graphs → AreCommitted (lines (t ++ stop_items closed how)) graphs
stop_committed t closed how graphs h =
    subst (λ ls. AreCommitted ls graphs) (sym (lines_both t (stop_items closed how))) (quiet_more (lines t) graphs (lines (stop_items closed how)) h (none_passivation is_commit none_aside closed how))
