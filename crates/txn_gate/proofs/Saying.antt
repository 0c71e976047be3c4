-- What the answers say of their words, by a run in which the port had them.
use Rattle.std.proofs.Common.{◌≡◌, ◌∙◌, ℕ, ◌<◌, Bool, true, false, cond, length, Some, None, refl, sym, ap, subst, arith}
use Rattle.std.specs.Prelude.{◌==◌, not}
use Rattle.std.specs.Option.{option_map_or}
use Rattle.std.proofs.lemmas.Bool.{and_parts, both_ways, eqb-true}
use Rattle.base.proofs.OptionLaws.{map_or_at, map_or_true, option_map_some}
use Rattle.config_graph.specs.Kinds.{row}
use Rattle.config_graph.specs.declared.node.Target.{Target}
use Rattle.quiesce_word.specs.Phases.{is_answered, is_asked, is_idle, is_in_more}
use Rattle.quiesce_word.specs.Words.{FitsWord, is_message_to, unpack}
use Rattle.quiesce_word.specs.declared.phase.Phase.{Phase}
use Rattle.quiesce_word.specs.declared.phase.Phase.TheVariants as phase
use Rattle.quiesce_word.specs.declared.word.Word.{Word}
use Rattle.quiesce_core.specs.Fields.{fields_of}
use Rattle.quiesce_core.specs.Runs.{state_after}
use Rattle.quiesce_core.specs.State.{provides, slot, target}
use Rattle.quiesce_core.specs.Words.{slot_fields_of}
use Rattle.quiesce_core.specs.declared.state.Slot.{Slot}
use Rattle.quiesce_core.proofs.RunLaws.{runs_are_well_formed}
use Rattle.quiesce_core.proofs.WordLaws.{port_words_decode, port_words_fit}
use Rattle.node_gate.specs.Answers.{HearSays, SeeSays, TakeSays}
use Rattle.node_gate.specs.Seats.{MayHear, MaySee}
use Rattle.node_gate.specs.declared.answers.HearAnswer.TheVariants as hear
use Rattle.node_gate.specs.declared.answers.SeeAnswer.TheVariants as see
use Rattle.node_gate.specs.declared.answers.TakeAnswer.TheVariants.{Stale, Taken}
use Rattle.node_gate.proofs.AllowedLaws.{not_yet_by_word}
use Rattle.txn_spec.specs.Steps.{WasShown, seen_in}
use Rattle.txn_spec.specs.Views.{node_at}
use Rattle.txn_spec.specs.declared.view.NodeView.{NodeView}
use Rattle.txn_spec.proofs.FittingLaws as fitting
use Rattle.txn_gate.specs.Calls.{heard_in, provision_in, taken_in}

module _ (n : NodeView) (p w : ℕ) (shown : WasShown n p w) where
  -- the word is that of a state
  word : unpack w ≡ fields_of (state_after shown.run) p
  word = ap unpack shown.shown ∙ port_words_decode (state_after shown.run) (runs_are_well_formed shown.run shown.runs) p

  fits : FitsWord (unpack w)
  fits = subst FitsWord (sym word) (port_words_fit (state_after shown.run) (runs_are_well_formed shown.run shown.runs) p)

  -- ---- take

  -- the provision that is asked is one of the node's
  provided : (t : Target) → (unpack w).target ≡ Some t → t.node ≡ n.slot → t.provide < length (row n.made.kind).provides
  provided t leads here =
      let s = state_after shown.run in
      let there : target s.config p ≡ Some t = sym (ap (λ (x : Word). x.target) word) ∙ leads in
      let m = option_map_some slot_fields_of (slot s.config n.slot) n.made shown.knows.made in
      subst (λ (x : _). t.provide < length (row x.kind).provides) m.2
      (subst (λ k. t.provide < k) (map_or_at (λ (x : Slot). length (row x.node.kind).provides) (slot s.config n.slot) 0 m.0 m.1)
      (subst (λ i. t.provide < provides s.config i) here ((runs_are_well_formed shown.run shown.runs).sound.targets p t there).provided))

  pub take_says : TakeSays None (node_at n) p (taken_in n.slot w)
  take_says = by (is_message_to n.slot (unpack w)) refl
    where
      by : (b : Bool) → is_message_to n.slot (unpack w) ≡ b → TakeSays None (node_at n) p (cond b (Taken (provision_in w) (unpack w).serial (unpack w).value) (Stale w))
      by false is = record { cause = ap not is; there = tt }
      by true is =
          let t = map_or_true (λ (t : Target). t.node == n.slot) (unpack w).target (and_parts (is_asked (unpack w).phase) (option_map_or (λ (t : Target). t.node == n.slot) (unpack w).target false) is).1 in (
            subst (λ k. k < length (row n.made.kind).provides) (sym (map_or_at (λ (u : Target). u.provide) (unpack w).target 0 t.0 t.1)) (provided t.0 t.1 (eqb-true t.0.node n.slot t.2)),
            (let few = fits.serial in omega (arith, few)),
            fits.value,
          )

  -- ---- see

  pub see_says : MaySee (node_at n) n.known p → SeeSays None p (seen_in w)
  see_says may = by (unpack w).phase refl (ap (λ (x : Word). is_idle x.phase) word ∙ sym (fitting.port_known_is shown.run shown.runs n shown.knows p may.own).idle ∙ may.busy)
    where
      by : (f : Phase) → (unpack w).phase ≡ f → is_idle (unpack w).phase ≡ false → SeeSays None p (cond (is_answered f) (see.Answer (unpack w).value) (cond (is_in_more f) (see.More (unpack w).value) (see.NotYet w)))
      by phase.Idle is not_idle = absurd (both_ways true (sym (ap is_idle is) ∙ not_idle) refl)
      by phase.Asked is not_idle = record { cause = ap is_asked is; there = tt }
      by phase.Answered is not_idle = (fits.value, tt)
      by phase.More is not_idle = (fits.value, tt)

  -- ---- hear

  -- what isn't asked again is in more
  waits : MayHear n.known p → is_asked (unpack w).phase ≡ false → is_in_more (unpack w).phase ≡ true
  waits may unasked =
      let s = state_after shown.run in
      let live = fitting.serving_lives shown.run shown.runs n shown.knows p may.serving in
      not_yet_by_word s (fitting.w shown.run shown.runs n shown.knows) (fitting.c shown.run shown.runs n shown.knows) n.slot n.known (fitting.fits_core shown.run shown.runs n shown.knows live) p (unpack w) word may unasked

  pub hear_says : MayHear n.known p → HearSays None p (heard_in w)
  hear_says may = by (is_asked (unpack w).phase) refl
    where
      by : (b : Bool) → is_asked (unpack w).phase ≡ b → HearSays None p (cond b (hear.Heard (unpack w).value) (hear.NotYet w))
      by false is = record { cause = waits may is; there = tt }
      by true is = fits.value
