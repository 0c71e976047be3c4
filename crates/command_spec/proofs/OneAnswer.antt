-- What bytes give is one: one graph, one plan, one outcome of events, and so one status and one text.
use Rattle.std.proofs.Common.{◌≡◌, ◌∙◌, ℕ, List, [], Option, refl, sym, ap, subst}
use Rattle.base.proofs.RisingLaws.{one_rising}
use Rattle.config_graph.specs.Graph.{Graph, IsGraph}
use Rattle.config_graph.specs.GraphText.{graph_text}
use Rattle.quiesce_core.specs.Start.{started}
use Rattle.quiesce_core.specs.State.{State}
use Rattle.quiesce_core.specs.declared.event.Event.{Event}
use Rattle.change_plan.proofs.PlanLaws.{one_plan}
use Rattle.change_plan.specs.PlanText.{plan_text}
use Rattle.change_plan.specs.declared.plan_data.Move.{Move}
use Rattle.change_parts.specs.Parts.{AreParts}
use Rattle.change_parts.specs.declared.part.Part.{Part}
use Rattle.change_spec.specs.Statements.{Statement}
use Rattle.change_parts.specs.Rolls.{IsRoll, roll_statements, stage_left}
use Rattle.quiesce_replay.specs.Replay.{AreSettled}
use Rattle.quiesce_replay.proofs.DenialLaws as replaying
use Rattle.quiesce_replay.specs.ReplayText.{replay_text}
use Rattle.command_answers.specs.Answers.{roll_status}
use Rattle.command_answers.specs.RefusalLines.{denied_line}
use Rattle.command_answers.specs.PartTexts.{parts_text, roll_text}
use Rattle.command_answers.specs.declared.status.Status.{Status}
use Rattle.command_spec.specs.Queries.{AnswersQuery, IsTextBy}
use Rattle.command_spec.specs.Replays.{Replays, one_denied, all_steps}
use Rattle.command_words.specs.declared.words.TopCall.{TopCall}
use Rattle.command_words.specs.declared.words.Cut.{Cut}
use Rattle.command_words.specs.declared.words.Cut.TheVariants as cuts
use Rattle.command_spec.specs.declared.query.Query.{Query}
use Rattle.command_spec.specs.declared.query.Query.TheVariants as queries
use Rattle.command_spec.proofs.Planning.{one_graph}

-- ---- changes

-- laws of changes in parts and of the elaborator, as they stand there
abbrev pub OneListOfParts : Type 0
OneListOfParts =
    (old new : Graph) (moves : List Move) (ps qs : List Part) → IsGraph old → IsGraph new → AreParts old new moves ps → AreParts old new moves qs → ps ≡ qs

abbrev pub OneRoll : Type 0
OneRoll = (statements : List Statement) (a b : Option ℕ) → IsRoll statements a → IsRoll statements b → a ≡ b

module _ (lists : OneListOfParts) (rolls : OneRoll) where
  pub one_change :
      (cut : Cut) (call target : TopCall) (old new : Graph) (own other : Status) (written also : List ℕ) → IsGraph old → IsGraph new → IsTextBy cut call target own old new written
      → IsTextBy cut call target other old new also → (own ≡ other) × (written ≡ also)
  one_change cuts.Whole call target old new own other written also old_graph new_graph x y =
      (x.0 ∙ sym y.0, x.1.2 ∙ ap (plan_text old new) (one_plan old new [] x.1.0 y.1.0 x.1.1 y.1.1) ∙ sym y.1.2)
  one_change cuts.InParts call target old new own other written also old_graph new_graph x y =
      (x.0 ∙ sym y.0, x.1.2 ∙ ap (parts_text old) (lists old new [] x.1.0 y.1.0 old_graph new_graph x.1.1 y.1.1) ∙ sym y.1.2)
  one_change (cuts.Rolled run within) call target old new own other written also old_graph new_graph x y =
      let statements : List Part → List Statement = λ ps. roll_statements call.top call.args old run target.top target.args within ps in
      let parts = lists old new [] x.parts y.parts old_graph new_graph x.are_parts y.are_parts in
      let ends = rolls (statements y.parts) x.given_up y.given_up (subst (λ ps. IsRoll (statements ps) x.given_up) parts x.is_roll) y.is_roll in
      (x.ended ∙ ap roll_status ends ∙ sym y.ended, x.is_text ∙ (λ i. roll_text old (parts i) (ends i) (stage_left old (parts i) (ends i))) ∙ sym y.is_text)

-- ---- events

one_settled : (s : State) (xs ys : List ℕ) → AreSettled s xs → AreSettled s ys → xs ≡ ys
one_settled s xs ys x y =
    one_rising xs ys x.rise y.rise (λ n held. (y.are n).1 ((x.are n).0 held)) (λ n held. (x.are n).1 ((y.are n).0 held))

one_replay :
    (s : State) (events : List Event) (own other : Status) (written also : List ℕ) → Replays s events own written → Replays s events other also
    → (own ≡ other) × (written ≡ also)
one_replay s events _ _ _ _ (one_denied n r is) (one_denied m q also) =
    let same = replaying.one_denial s events n m r q is also in
    (refl, ap (λ k. denied_line k r) same.0 ∙ ap (denied_line m) same.1)
one_replay s events _ _ _ _ (one_denied n r is) (all_steps t settled leads are) = absurd (replaying.never_both s t events n r leads is)
one_replay s events _ _ _ _ (all_steps t settled leads are) (one_denied n r is) = absurd (replaying.never_both s t events n r leads is)
one_replay s events _ _ _ _ (all_steps t xs leads are) (all_steps u ys goes also) =
    let end = replaying.one_end s t u events leads goes in (
      refl,
      ap (λ v. replay_text (Rattle.std.specs.Prelude.length events) v xs) end
          ∙ ap (replay_text (Rattle.std.specs.Prelude.length events) u) (one_settled u xs ys (subst (λ v. AreSettled v xs) end are) also),
    )

-- ---- one status and one text

pub one_answer :
    (query : Query) (text : List ℕ) (own other : Status) (written also : List ℕ) → AnswersQuery query text own written → AnswersQuery query text other also
    → (own ≡ other) × (written ≡ also)
one_answer (queries.Graph call) text own other written also x y =
    (x.0 ∙ sym y.0, x.1.2 ∙ ap graph_text (one_graph text call.top call.args x.1.0 y.1.0 x.1.1 y.1.1) ∙ sym y.1.2)
one_answer (queries.Replay events_file) text own other written also x y =
    let graph = one_graph text events_file.name events_file.args x.graph y.graph x.starts.has_graph y.starts.has_graph in
    one_replay (started y.graph) events_file.events own other written also
    (subst (λ g. Replays (started g) events_file.events own written) graph x.replays) y.replays
