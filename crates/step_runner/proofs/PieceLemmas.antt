-- The parts that were carried out, the one that was given up and those behind it, as pieces of a transcript.
use Rattle.std.proofs.Common.{◌≡◌, ◌∙◌, ◌+◌, ℕ, ℤ, true, false, cond, List, [], ◌∷◌, ◌++◌, append_assoc, length, map, Some, refl, sym, ap, subst, arith}
use Rattle.std.specs.Prelude.{◌||◌}
use Rattle.std.proofs.lemmas.Bool.{both_ways}
use Rattle.std.proofs.lemmas.List.{append-nil}
use Rattle.base.specs.Each.{EachAfter}
use Rattle.change_board.specs.Transcripts.{Item, entries}
use Rattle.change_engine.specs.Calls.{skip_items}
use Rattle.change_engine.proofs.ItemLaws.{entries_both}
use Rattle.change_spec.specs.Statements.{Statement, change}
use Rattle.change_parts.specs.declared.part.Part.{Part}
use Rattle.step_runner.specs.Rolling.{IsRolled, Rolled}
use Rattle.step_runner.specs.Rolling as rolling
use Rattle.change_parts.specs.Rolls.{given_up_from}
use Rattle.change_transcript_laws.specs.Pieces.{AreChangeItems, Piece, items_of}
use Rattle.change_transcript_laws.proofs.FollowLaws.{items_pushed}
use Rattle.change_transcript_laws.proofs.PendingLaws.{is_one_given_up, pending_both}
use Rattle.step_runner.proofs.SerialLaws.{IsDonePiece, parts_of}

module _ (name : List ℕ) (args : List ℤ) (within : ℕ) where
  abbrev pub change_to : Part → Statement
  change_to p = change name args p.next within p.moves

  abbrev pub piece_of : Rolled → Piece
  piece_of r = record { statement = change_to r.part; items = r.items }

  abbrev pub skipped : Part → Piece
  skipped p = record { statement = change_to p; items = skip_items name args }

  -- a change that was tried behind pieces of which none was given up
  pub tried_behind : (before : List Piece) (p : Part) (t : List Item) → is_one_given_up (items_of before) ≡ false → AreChangeItems (items_of before) name args p.next within p.moves t
      → IsDonePiece before (record { statement = change_to p; items = t })
  tried_behind before p t none are = (λ given_up. absurd (both_ways (is_one_given_up (items_of before)) none given_up), λ h. are)

  -- parts that were carried out behind such pieces
  pub record AreTaken (t : List Item) (before : List Piece) (rs qs : List Rolled) : Type 0 where
    pub done : EachAfter IsDonePiece before (map piece_of qs)
    pub place : items_of (before ++ map piece_of qs) ≡ t ++ rolling.items_of (rs ++ qs)
    pub none : is_one_given_up (items_of (before ++ map piece_of qs)) ≡ false

  module _ (t : List Item) where
    pub taken : (before : List Piece) (rs qs : List Rolled) → items_of before ≡ t ++ rolling.items_of rs → is_one_given_up (items_of before) ≡ false → EachAfter (IsRolled name args within t) rs qs
        → AreTaken t before rs qs
    taken before rs [] place none each =
        let same : items_of (before ++ []) ≡ items_of before = ap items_of (append-nil before) in
        record { done = tt; place = same ∙ place ∙ ap (λ xs. t ++ rolling.items_of xs) (sym (append-nil rs)); none = ap is_one_given_up same ∙ none }
    taken before rs (q ∷ qs) place none each =
        let p = piece_of q in
        let pushed : items_of (before ++ p ∷ []) ≡ items_of before ++ q.items = items_pushed before p in
        let place_on : items_of (before ++ p ∷ []) ≡ t ++ rolling.items_of (rs ++ q ∷ []) =
        pushed ∙ ap (λ u. u ++ q.items) place ∙ append_assoc t (rolling.items_of rs) q.items ∙ ap (λ u. t ++ u) (sym (rolled_pushed rs q)) in
        let none_on : is_one_given_up (items_of (before ++ p ∷ [])) ≡ false =
        ap is_one_given_up pushed ∙ pending_both (items_of before) q.items ∙ ap (λ b. b || is_one_given_up q.items) none ∙ each.0.1 in
        let later = taken (before ++ p ∷ []) (rs ++ q ∷ []) qs place_on none_on each.1 in
        let same : items_of (before ++ p ∷ map piece_of qs) ≡ items_of ((before ++ p ∷ []) ++ map piece_of qs) = ap items_of (sym (append_assoc before (p ∷ []) (map piece_of qs))) in
        record {
          done = (tried_behind before q.part q.items none (subst (λ u. AreChangeItems u name args q.part.next within q.part.moves q.items) (sym place) each.0.0), later.done);
          place = same ∙ later.place ∙ ap (λ xs. t ++ rolling.items_of xs) (append_assoc rs (q ∷ []) qs);
          none = ap is_one_given_up same ∙ later.none;
        }
      where
        rolled_pushed : (rs : List Rolled) (r : Rolled) → rolling.items_of (rs ++ r ∷ []) ≡ rolling.items_of rs ++ r.items
        rolled_pushed [] r = append-nil r.items
        rolled_pushed (x ∷ rs) r = ap (λ u. x.items ++ u) (rolled_pushed rs r) ∙ sym (append_assoc x.items (rolling.items_of rs) r.items)

    -- none of these was given up
    pub none_given_up : (number : ℕ) (before : List Piece) (rs qs : List Rolled) (later : List Piece) → EachAfter (IsRolled name args within t) rs qs
        → given_up_from number (parts_of before (map piece_of qs ++ later)) ≡ given_up_from (number + length qs) (parts_of (before ++ map piece_of qs) later)
    none_given_up number before rs [] later each = λ i. given_up_from (sum i) (parts_of (nothing i) later)
      where
        sum : number ≡ number + 0
        sum = omega arith

        nothing : before ≡ before ++ []
        nothing = sym (append-nil before)
    none_given_up number before rs (q ∷ qs) later each =
        let p = piece_of q in
        let rest = parts_of (before ++ p ∷ []) (map piece_of qs ++ later) in
        let sum : (number + 1) + length qs ≡ number + length (q ∷ qs) = omega arith in
        let place : (before ++ p ∷ []) ++ map piece_of qs ≡ before ++ map piece_of (q ∷ qs) = append_assoc before (p ∷ []) (map piece_of qs) in
        ap (λ b. cond b (Some number) (given_up_from (number + 1) rest)) each.0.1
        ∙ none_given_up (number + 1) (before ++ p ∷ []) (rs ++ q ∷ []) qs later each.1 ∙ (λ i. given_up_from (sum i) (parts_of (place i) later))

  -- each part behind one that was given up is skipped
  pub skips_done : (before : List Piece) (ps : List Part) → is_one_given_up (items_of before) ≡ true → EachAfter IsDonePiece before (map skipped ps)
  skips_done before [] some = tt
  skips_done before (p ∷ ps) some =
      let q = skipped p in
      let some_on : is_one_given_up (items_of (before ++ q ∷ [])) ≡ true =
      ap is_one_given_up (items_pushed before q) ∙ pending_both (items_of before) q.items ∙ ap (λ b. b || is_one_given_up q.items) some in (
        (λ given_up. refl, λ none. absurd (both_ways (is_one_given_up (items_of before)) none some)),
        skips_done (before ++ q ∷ []) ps some_on,
      )

  -- and nothing is done for it
  pub skips_leave : (before : List Piece) (ps : List Part) → entries (items_of (before ++ map skipped ps)) ≡ entries (items_of before)
  skips_leave before [] = ap (λ qs. entries (items_of qs)) (append-nil before)
  skips_leave before (p ∷ ps) =
      let q = skipped p in
      ap (λ qs. entries (items_of qs)) (sym (append_assoc before (q ∷ []) (map skipped ps))) ∙ skips_leave (before ++ q ∷ []) ps
      ∙ ap entries (items_pushed before q) ∙ entries_both (items_of before) q.items ∙ append-nil (entries (items_of before))
