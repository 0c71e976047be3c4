-- What the parts of a roll wait for: each drains within what is left, and where that is no more than each may wait for
-- when the first begins, none is given up.
use Rattle.std.proofs.Common.{◌≡◌, ◌∙◌, ℕ, ℤ, ◌+◌, ◌≤◌, false, cond, List, [], ◌∷◌, ◌++◌, map, Option, Some, None, refl, sym, ap, subst, arith}
use Rattle.std.specs.Prelude.{All, take}
use Rattle.std.specs.List.{list_any}
use Rattle.std.proofs.lemmas.Bool.{or_parts}
use Rattle.std.proofs.lemmas.List.Elements.{All-cons, All-nil}
use Rattle.std.proofs.lemmas.List.Folds.{list_any-append}
use Rattle.base.specs.Each.{Each}
use Rattle.base.proofs.PlaceLaws.{heads_are, tails_are}
use Rattle.config_graph.specs.Graph.{Graph}
use Rattle.quiesce_core.specs.Rest.{rest}
use Rattle.quiesce_laws.specs.Starts.{start_of}
use Rattle.report_types.specs.declared.report.HistoryLine.TheVariants as to
use Rattle.report_types.specs.declared.report.Report.{Report}
use Rattle.change_spec.specs.Members.{is_pending, lines_of_events}
use Rattle.change_spec.specs.Serial.{IsPlayed, Played, Plays, Serial, lines_played, world_after}
use Rattle.change_spec.specs.Statements.{Statement, change, run, start}
use Rattle.change_spec.proofs.SerialLaws.{one_course}
use Rattle.change_round_laws.specs.SoundStatements.{AreSound}
use Rattle.change_round_laws.specs.Waits.{DrainsInTime, IsPatient, MayWait}
use Rattle.change_round_laws.proofs.TogetherLaws.{no_pending_both, no_pending_events}
use Rattle.change_parts.specs.Rolls.{IsRoll, given_up_from, given_up_in, roll_statements}
use Rattle.change_parts.specs.declared.part.Part.{Part}
use Rattle.change_parts.proofs.ExistenceLemmas.{HaveReports}

-- what laws of change_round_laws say
abbrev pub DrainInTime : Type 0
DrainInTime = (statements : List Statement) (report : Report) → AreSound statements → (serial : Serial statements report) → Each DrainsInTime serial.parts

abbrev pub DrainTogether : Type 0
DrainTogether = (k : ℕ) (before ps : List Played) → AreSound (map (λ (p : Played). p.statement) (before ++ ps)) → Each IsPlayed (before ++ ps) → list_any is_pending (lines_played before) ≡ false → rest (world_after before).machine ≤ k
    → All (MayWait k) ps → list_any is_pending (lines_played ps) ≡ false

pub each_drains : HaveReports → DrainInTime → (statements : List Statement) (given_up : Option ℕ) → AreSound statements → (roll : IsRoll statements given_up) → Each DrainsInTime roll.played
each_drains reports drain statements given_up sound roll =
    let w = reports statements sound in
    subst (λ ps. Each DrainsInTime ps) (one_course [] w.1.parts roll.played w.1.played roll.are_played (w.1.statements_are ∙ sym roll.statements_are)) (drain statements w.0 sound w.1)

none_given_up : (number : ℕ) (ps : List Played) → list_any is_pending (lines_played ps) ≡ false → given_up_from number ps ≡ None
none_given_up number [] h = refl
none_given_up number (p ∷ ps) h =
    let parts = or_parts (list_any is_pending p.lines) (list_any is_pending (lines_played ps)) (sym (list_any-append is_pending p.lines (lines_played ps)) ∙ h) in
    ap (λ b. cond b (Some number) (given_up_from (number + 1) ps)) parts.0 ∙ none_given_up (number + 1) ps parts.1

module _ (together : DrainTogether) (name : List ℕ) (args : List ℤ) (old : Graph) (k : ℕ) (new_name : List ℕ) (new_args : List ℤ) (within : ℕ) (parts : List Part) where
  abbrev said : Played → Statement
  said p = p.statement

  abbrev part_change : Part → Statement
  part_change p = change new_name new_args p.next within p.moves

  patient : (qs : List Played) (ps : List Part) → map said qs ≡ map part_change ps → All (MayWait within) qs
  patient [] ps h = All-nil (MayWait within)
  patient (q ∷ qs) [] h = absurd (cc h)
  patient (q ∷ qs) (p ∷ ps) h =
      All-cons (MayWait within) q qs (subst (IsPatient within) (sym (heads_are (said q) (part_change p) (map said qs) (map part_change ps) h)) (omega arith))
      (patient qs ps (tails_are (said q) (part_change p) (map said qs) (map part_change ps) h))

  -- neither the start nor the run is given up
  started : (x : Played) → said x ≡ start name args old → IsPlayed [] x → list_any is_pending x.lines ≡ false
  started x is played =
      let lines = (subst (λ s. Plays [] (world_after []) s x.lines x.world) is played).0 in
      ap (list_any is_pending) lines ∙ no_pending_both (lines_of_events (start_of old)) (to.Commit ∷ []) (no_pending_events (start_of old)) refl

  ran : (before : List Played) (y : Played) → said y ≡ run k → IsPlayed before y → list_any is_pending y.lines ≡ false
  ran before y is played = ap (list_any is_pending) (subst (λ s. Plays (lines_played before) (world_after before) s y.lines y.world) is played).are

  pub all_carried_out : (given_up : Option ℕ) → AreSound (roll_statements name args old k new_name new_args within parts) → (roll : IsRoll (roll_statements name args old k new_name new_args within parts) given_up)
      → rest (world_after (take 2 roll.played)).machine ≤ within → given_up ≡ None
  all_carried_out given_up sound roll low = roll.given_up_is ∙ by roll.played roll.statements_are roll.are_played low
    where
      by : (ps : List Played) → map said ps ≡ roll_statements name args old k new_name new_args within parts → Each IsPlayed ps → rest (world_after (take 2 ps)).machine ≤ within → given_up_in ps ≡ None
      by [] h played low = absurd (cc h)
      by (x ∷ []) h played low = absurd (cc (tails_are (said x) (start name args old) [] (run k ∷ map part_change parts) h))
      by (x ∷ y ∷ qs) h played low =
          let later = tails_are (said x) (start name args old) (said y ∷ map said qs) (run k ∷ map part_change parts) h in
          let front = x ∷ y ∷ [] in
          let calm : list_any is_pending (lines_played front) ≡ false =
          no_pending_both x.lines (y.lines ++ []) (started x (heads_are (said x) (start name args old) (said y ∷ map said qs) (run k ∷ map part_change parts) h) played.0)
          (no_pending_both y.lines [] (ran (x ∷ []) y (heads_are (said y) (run k) (map said qs) (map part_change parts) later) played.1.0) refl) in
          none_given_up 1 qs
          (together within front qs (subst AreSound (sym h) sound) played calm low (patient qs parts (tails_are (said y) (run k) (map said qs) (map part_change parts) later)))
