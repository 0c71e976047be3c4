-- Each log of what was carried out is of a node that the history makes once.
use Rattle.std.proofs.Common.{◌≡◌, ◌∙◌, ◌==◌, ◌+◌, ◌<◌, ℕ, zero, suc, false, List, [], ◌∷◌, length, map, refl, ap, subst, arith, inl, inr}
use Rattle.std.specs.Prelude.{All, filter, filter_map}
use Rattle.std.specs.List.{range_with_len}
use Rattle.std.proofs.lemmas.Bool.{cases_Bool, cond-false, cond-true, eq-eqb, eqb-true}
use Rattle.std.proofs.lemmas.List.Elements.{All-cons, All-nil}
use Rattle.base.proofs.PlaceLaws.{heads_are, tails_are}
use Rattle.report_writing.specs.Reports.{HasOneMake, LogsAreMade, SlotPath, makes}
use Rattle.report_types.specs.declared.report.HistoryLine.{HistoryLine}
use Rattle.report_types.specs.declared.report.HistoryLine.TheVariants as to
use Rattle.report_types.specs.declared.report.NodeLog.{NodeLog}
use Rattle.report_types.specs.declared.report.Report.{Report}
use Rattle.change_spec.specs.Members.{made_slot}
use Rattle.change_spec.specs.Statements.{Statement}
use Rattle.txn_records.specs.declared.entry.Entry.{Entry}
use Rattle.txn_records.specs.Records.{IsRecord}
use Rattle.change_board.specs.Transcripts.{entries}
use Rattle.change_transcript_laws.specs.Pieces.{config_at}
use Rattle.change_transcript_laws.proofs.FollowLaws.{fair_transcript}
use Rattle.change_transcript_laws.proofs.LawfulLaws.{join}
use Rattle.change_transcript_laws.proofs.MergeLaws.{slots_made}
use Rattle.change_board.specs.declared.board.Board.{Ghosts as BoardWords}
use Rattle.change_runner.specs.Ran.{HasCarriedOut}

-- ---- slots that are numbered from a on: each is that of one node

abbrev slots : List SlotPath → List ℕ
slots made = map (λ (m : SlotPath). m.slot) made

abbrev counted : ℕ → List SlotPath → List SlotPath
counted slot made = filter (λ (m : SlotPath). m.slot == slot) made

differ : (a b : ℕ) → (a ≡ b → ⊥) → (a == b) ≡ false
differ a b other =
    elim (cases_Bool (a == b)) [
      | inl same ↦ absurd (other (eqb-true a b same))
      | inr differs ↦ differs
    ]

none_above : (slot a n : ℕ) (made : List SlotPath) → slots made ≡ range_with_len a n → slot < a → counted slot made ≡ []
none_above slot a n [] so low = refl
none_above slot a zero (x ∷ xs) so low = absurd (cc so)
none_above slot a (suc n) (x ∷ xs) so low =
    let here = heads_are x.slot a (slots xs) (range_with_len (a + 1) n) so in
    let more = tails_are x.slot a (slots xs) (range_with_len (a + 1) n) so in
    cond-false _ _ _ (differ x.slot slot (λ e. omega (arith, here, e, low))) ∙ none_above slot (a + 1) n xs more (omega (arith, low))

one_of : (k a n : ℕ) (made : List SlotPath) → slots made ≡ range_with_len a n → k < n → length (counted (a + k) made) ≡ 1
one_of k a zero made so low = absurd (omega (arith, low))
one_of k a (suc n) [] so low = absurd (cc so)
one_of zero a (suc n) (x ∷ xs) so low =
    let here = heads_are x.slot a (slots xs) (range_with_len (a + 1) n) so in
    let more = tails_are x.slot a (slots xs) (range_with_len (a + 1) n) so in
    ap length (cond-true _ _ _ (eq-eqb x.slot (a + 0) (omega (arith, here))) ∙ ap (λ ms. x ∷ ms) (none_above (a + 0) (a + 1) n xs more (omega arith)))
one_of (suc k) a (suc n) (x ∷ xs) so low =
    let here = heads_are x.slot a (slots xs) (range_with_len (a + 1) n) so in
    let more = tails_are x.slot a (slots xs) (range_with_len (a + 1) n) so in
    let at : a + suc k ≡ (a + 1) + k = omega arith in
    ap length (cond-false _ _ _ (differ x.slot (a + suc k) (λ e. omega (arith, here, e)))) ∙ ap (λ s. length (counted s xs)) at
    ∙ one_of k (a + 1) n xs more (omega (arith, low))

-- ---- the nodes that lines make

same_more : (l : HistoryLine) (h : List HistoryLine) → slots (makes h) ≡ filter_map made_slot h → slots (makes (l ∷ h)) ≡ filter_map made_slot (l ∷ h)
same_more (to.Make n node from) h same = ap (λ ks. n ∷ ks) same
same_more _ h same = same

same_slots : (h : List HistoryLine) → slots (makes h) ≡ filter_map made_slot h
same_slots [] = refl
same_slots (l ∷ h) = same_more l h (same_slots h)

module _ (h : List HistoryLine) where
  all_made : (a n : ℕ) (logs : List NodeLog) → map (λ (l : NodeLog). l.slot) logs ≡ range_with_len a n → ((k : ℕ) → k < n → HasOneMake h (a + k))
      → All (λ (l : NodeLog). HasOneMake h l.slot) logs
  all_made a n [] so one = All-nil (λ (l : NodeLog). HasOneMake h l.slot)
  all_made a zero (l ∷ logs) so one = absurd (cc so)
  all_made a (suc n) (l ∷ logs) so one =
      let here = heads_are l.slot a (map (λ (x : NodeLog). x.slot) logs) (range_with_len (a + 1) n) so in
      let more = tails_are l.slot a (map (λ (x : NodeLog). x.slot) logs) (range_with_len (a + 1) n) so in
      All-cons (λ (x : NodeLog). HasOneMake h x.slot) l logs (subst (HasOneMake h) (omega (arith, here)) (one 0 (omega arith)))
      (all_made (a + 1) n logs more (λ k low. subst (HasOneMake h) (omega arith) (one (suc k) (omega (arith, low)))))

  made_once : (n : ℕ) (logs : List NodeLog) → filter_map made_slot h ≡ range_with_len 0 n → map (λ (l : NodeLog). l.slot) logs ≡ range_with_len 0 n
      → All (λ (l : NodeLog). HasOneMake h l.slot) logs
  made_once n logs made there = all_made 0 n logs there (λ k low. one_of k 0 n (makes h) (same_slots h ∙ made) low)

-- what the record of a run tells is made in the slots of its configuration, in their order
pub logs_are_made : {B : Type 0} (W : BoardWords B) (statements : List Statement) (report : Report) (board : B)
    → ((b : B) (r : List Entry) → W.stands_for b r → IsRecord r) → HasCarriedOut W statements report board → LogsAreMade report
logs_are_made W statements report board is_of_run x =
    let t = x.transcript in
    let run = is_of_run board (entries t) x.stands in
    let j = join t run.moments run.is_of in
    let made = slots_made t run.moments j.0 (fair_transcript W.alone statements t x.is_transcript) j.1 run.is_of in
    made_once report.history (length (config_at t).slots) report.logs (ap (filter_map made_slot) x.history_is ∙ made) x.slots
