-- What was done and told of a roll is what the rounds of its statements are.
use Rattle.std.proofs.Common.{◌≡◌, ◌∙◌, ◌+◌, ◌-◌, ◌<◌, ℕ, suc, ℤ, true, false, cond, List, [], ◌∷◌, ◌++◌, append_assoc, drop, length, map, take, Option, Some, None, refl, sym, ap, subst, arith}
use Rattle.std.specs.Prelude.{◌||◌}
use Rattle.std.proofs.lemmas.List.{append-nil, length-map, length-take-le, map-append}
use Rattle.std.proofs.lemmas.Option.{slice_get_within}
use Rattle.base.specs.Each.{EachAfter}
use Rattle.base.proofs.EachLaws.{each_joined}
use Rattle.base.proofs.PlaceLaws.{parted}
use Rattle.change_board.specs.declared.board.Board.{Ghosts as BoardWords}
use Rattle.change_board.specs.Scans.{look_entry}
use Rattle.change_board.specs.Transcripts.{Item, entries}
use Rattle.change_engine.specs.Engines.{IsIdle}
use Rattle.change_engine.specs.Finishing.{all_entries}
use Rattle.change_engine.specs.declared.engine.Engine.{Engine}
use Rattle.change_engine.specs.declared.passivating.LeftRoot.{LeftRoot}
use Rattle.change_spec.specs.Asked.{after_start}
use Rattle.change_spec.specs.Statements.{Statement, run, start as starts}
use Rattle.change_spec.specs.declared.steps.Start.{Start}
use Rattle.change_parts.specs.Carrying.{CanCarryOutAll}
use Rattle.change_parts.specs.Parts.{stage_after}
use Rattle.change_plan_laws.specs.Committing.{made_in}
use Rattle.change_parts.specs.declared.part.Part.{Part}
use Rattle.step_runner.specs.Rolling as rolling
use Rattle.step_runner.specs.Rolling.{HasRolled, HasRolledUpTo, Rolled}
use Rattle.change_parts.specs.Rolls.{IsRoll, given_up_from, given_up_in, roll_statements, stage_left}
use Rattle.change_transcript_laws.specs.Pieces.{AreChangeItems, AreRunItems, Piece, config_at, items_of}
use Rattle.change_transcript_laws.proofs.FollowLaws.{items_pushed}
use Rattle.change_transcript_laws.proofs.PendingLaws.{is_one_given_up, none_in_both, pending_both, quiet_none, start_none}
use Rattle.report_types.specs.declared.report.HistoryLine.TheVariants as to
use Rattle.step_board.specs.Playing.{HasWholeRounds}
use Rattle.step_runner.specs.Behind.{AreByRounds}
use Rattle.step_runner.proofs.FinishLaws.{AreFolds, RestStays}
use Rattle.step_runner.proofs.SerialLaws.{IsDonePiece, all_played, parts_of, statements_of}
use Rattle.step_runner.specs.RoundRolling.{HasBegun, RollsTo}
use Rattle.step_runner.proofs.PieceLemmas.{AreTaken, change_to, none_given_up, piece_of, skipped, skips_done, skips_leave, taken, tried_behind}

abbrev asked_by : List Piece → List Statement
asked_by ps = map (λ (p : Piece). p.statement) ps

-- pieces that were done in rounds are played
rolled_by : RestStays → AreFolds → (statements : List Statement) (ps : List Piece) → EachAfter IsDonePiece [] ps → AreByRounds (items_of ps) → asked_by ps ≡ statements
    → (given_up : Option ℕ) → given_up ≡ given_up_in (parts_of [] ps) → IsRoll statements given_up
rolled_by stays folds statements ps done rounds asked given_up is = record {
  played = parts_of [] ps;
  statements_are = statements_of [] ps ∙ asked;
  are_played = all_played stays folds [] ps [] (record { lines_are = refl; world_is = refl }) rounds done;
  given_up_is = is;
}

module _ (name : List ℕ) (args : List ℤ) (within : ℕ) where
  asked_by_rolled : (rs : List Rolled) → asked_by (map (piece_of name args within) rs) ≡ map (change_to name args within) (map (λ (r : Rolled). r.part) rs)
  asked_by_rolled [] = refl
  asked_by_rolled (r ∷ rs) = ap (λ ss. change_to name args within r.part ∷ ss) (asked_by_rolled rs)

  asked_by_skipped : (ps : List Part) → asked_by (map (skipped name args within) ps) ≡ map (change_to name args within) ps
  asked_by_skipped [] = refl
  asked_by_skipped (p ∷ ps) = ap (λ ss. change_to name args within p ∷ ss) (asked_by_skipped ps)

-- ---- the start and the run

-- what may be carried out from the start's graph may be behind the run
pub may_roll : {B : Type 0} (W : BoardWords B) (start : Start) (k : ℕ) (e : Engine B) (x : HasBegun W e start k) (ps : List Part) → CanCarryOutAll start.graph (after_start start).made ps
    → CanCarryOutAll e.graph (made_in (config_at (x.begun ++ x.ran))) ps
may_roll W start k e x ps can = subst (λ m. CanCarryOutAll e.graph m ps) (sym x.made) (subst (λ g. CanCarryOutAll g (after_start start).made ps) (sym x.graph) can)

module _ {B : Type 0} (W : BoardWords B) (alone : W.alone ≡ true) (start : Start) (k : ℕ) (e : Engine B) (x : HasBegun W e start k) where
  abbrev first : Piece
  first = record { statement = starts start.name start.args start.graph; items = x.begun }

  abbrev second : Piece
  second = record { statement = run k; items = x.ran }

  abbrev both : List Piece
  both = first ∷ second ∷ []

  abbrev behind : List Item
  behind = x.begun ++ x.ran

  items_both : items_of both ≡ behind
  items_both = ap (λ u. x.begun ++ u) (append-nil x.ran)

  both_done : EachAfter IsDonePiece [] both
  both_done = (x.are_start, (subst (λ u. AreRunItems true u k x.ran) (sym (append-nil x.begun)) (subst (λ one. AreRunItems one x.begun k x.ran) alone x.are_run), tt))

  none_both : is_one_given_up (items_of both) ≡ false
  none_both =
      let s = x.are_start in
      let r = x.are_run in
      ap is_one_given_up items_both
      ∙ none_in_both x.begun x.ran (ap is_one_given_up s.are ∙ start_none start.name start.args s.deeds)
      (ap is_one_given_up r.are ∙ quiet_none (map look_entry r.looks ++ all_entries r.scans) (to.Run k r.ended) refl)

  -- ---- the parts

  module _ (name : List ℕ) (args : List ℤ) (within : ℕ) (f : Engine B) (by_rounds : (t : List Item) → IsIdle W f t → AreByRounds t) (stays : RestStays) (folds : AreFolds) (ps : List Part) where
    abbrev asked : List Statement
    asked = roll_statements start.name start.args start.graph k name args within ps

    abbrev pieces_of : List Rolled → List Piece
    pieces_of rs = map (piece_of name args within) rs

    took_all : (g : Engine B) (qs : List Part) (h : HasRolled W e g name args within behind qs) → AreTaken name args within behind both [] h.pieces
    took_all g qs h = taken name args within behind both [] h.pieces (items_both ∙ sym (append-nil behind)) none_both h.each

    all_carried_out : HasRolled W e f name args within behind ps → IsRoll asked None
    all_carried_out h =
        let rs = h.pieces in
        let took = took_all f ps h in
        rolled_by stays folds asked (both ++ pieces_of rs) (each_joined IsDonePiece [] both (pieces_of rs) both_done took.done)
        (subst AreByRounds (sym took.place) (by_rounds (behind ++ rolling.items_of rs) h.idle))
        (ap (λ ss. starts start.name start.args start.graph ∷ run k ∷ ss) (asked_by_rolled name args within rs ∙ ap (map (change_to name args within)) h.parts_are)) None
        (sym (ap (λ qs. given_up_from 1 (parts_of both qs)) (sym (append-nil (pieces_of rs))) ∙ none_given_up name args within behind 1 both [] rs [] h.each))

    module _ (number : ℕ) (left : List LeftRoot) (h : HasRolledUpTo W e f name args within behind ps number left) where
      abbrev rs : List Rolled
      rs = h.before.pieces

      abbrev last : Piece
      last = record { statement = change_to name args within h.part; items = h.gave_up.items }

      abbrev later : List Part
      later = drop (suc h.count) ps

      abbrev before : List Piece
      before = both ++ pieces_of rs

      abbrev behind_last : List Piece
      behind_last = last ∷ map (skipped name args within) later

      took : AreTaken name args within behind both [] rs
      took = took_all h.mid (take h.count ps) h.before

      last_done : IsDonePiece before last
      last_done =
          tried_behind name args within before h.part h.gave_up.items took.none
          (subst (λ u. AreChangeItems u name args h.part.next within h.part.moves h.gave_up.items) (sym took.place) h.gave_up.are)

      last_pending : is_one_given_up (items_of (before ++ last ∷ [])) ≡ true
      last_pending = ap is_one_given_up (items_pushed before last) ∙ pending_both (items_of before) last.items ∙ ap (λ b. b || is_one_given_up last.items) took.none ∙ h.gave_up.pending

      all_done : EachAfter IsDonePiece [] (before ++ behind_last)
      all_done =
          each_joined IsDonePiece [] before behind_last (each_joined IsDonePiece [] both (pieces_of rs) both_done took.done)
          (last_done, skips_done name args within (before ++ last ∷ []) later last_pending)

      by_rounds_all : AreByRounds (items_of (before ++ behind_last))
      by_rounds_all =
          subst HasWholeRounds
          (sym (ap (λ qs. entries (items_of qs)) (sym (append_assoc before (last ∷ []) (map (skipped name args within) later))) ∙ skips_leave name args within (before ++ last ∷ []) later
          ∙ ap entries (items_pushed before last ∙ ap (λ u. u ++ last.items) took.place)))
          (by_rounds ((behind ++ rolling.items_of rs) ++ last.items) h.gave_up.idle)

      abbrev changes : List Part → List Statement
      changes qs = map (change_to name args within) qs

      asked_all : asked_by (pieces_of rs ++ behind_last) ≡ changes ps
      asked_all =
          map-append (λ (p : Piece). p.statement) (pieces_of rs) behind_last
          ∙ (λ i. (asked_by_rolled name args within rs ∙ ap changes h.before.parts_are) i ++ change_to name args within h.part ∷ asked_by_skipped name args within later i)
          ∙ sym (map-append (change_to name args within) (take h.count ps) (h.part ∷ later)) ∙ ap changes (parted ps h.count h.part h.there)

      counted : length rs ≡ h.count
      counted =
          let within_ : h.count < length ps = slice_get_within ps h.count h.part h.there in
          sym (length-map rs (λ (r : Rolled). r.part)) ∙ ap length h.before.parts_are ∙ length-take-le h.count ps (omega (arith, within_))

      number_is : Some number ≡ given_up_from 1 (parts_of both (pieces_of rs ++ behind_last))
      number_is =
          let rest = given_up_from ((1 + length rs) + 1) (parts_of (before ++ last ∷ []) (map (skipped name args within) later)) in
          let same : number ≡ 1 + length rs = omega (arith, h.number_is, counted) in
          ap Some same ∙ sym (ap (λ b. cond b (Some (1 + length rs)) rest) h.gave_up.pending)
          ∙ sym (none_given_up name args within behind 1 both [] rs behind_last h.before.each)

      one_given_up : IsRoll asked (Some number)
      one_given_up =
          rolled_by stays folds asked (before ++ behind_last) all_done by_rounds_all
          (ap (λ ss. starts start.name start.args start.graph ∷ run k ∷ ss) asked_all) (Some number) number_is

    rolls_so : (given_up : Option ℕ) → RollsTo W e f name args within behind ps given_up → IsRoll asked given_up
    rolls_so None h = all_carried_out h
    rolls_so (Some number) h = one_given_up number h.0 h.1

    pub rolls : (xs : List ℤ) → xs ≡ args → (given_up : Option ℕ) → RollsTo W e f name xs within behind ps given_up → IsRoll asked given_up
    rolls xs same given_up h = rolls_so given_up (subst (λ ys. RollsTo W e f name ys within behind ps given_up) same h)

    pub leaves : (xs : List ℤ) (given_up : Option ℕ) → RollsTo W e f name xs within behind ps given_up → f.graph ≡ stage_left start.graph ps given_up
    leaves xs None h = h.graph ∙ ap (λ g. stage_after g ps (length ps)) x.graph
    leaves xs (Some number) h =
        let r = h.1 in
        let place : r.count ≡ number - 1 = omega (arith, r.number_is) in
        r.graph ∙ (λ i. stage_after (x.graph i) ps (place i))
