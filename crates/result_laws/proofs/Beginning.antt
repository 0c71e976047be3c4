-- Where all nodes are sources, maps and sinks, sources alone begin transactions.
use Rattle.std.proofs.Common.{◌≡◌, ◌∙◌, ℕ, Bool, true, false, cond, List, [], ◌∷◌, ◌++◌, append_assoc, length, Option, Some, None, refl, sym, ap, subst, ⊎_elim}
use Rattle.std.specs.Prelude.{◌==◌, All, option_map}
use Rattle.std.proofs.lemmas.Bool.{and_parts, both_ways, cases_eq, eq-eqb, ne_eqb}
use Rattle.std.proofs.lemmas.List.{append-nil}
use Rattle.std.proofs.lemmas.Option.{none-some, same_Some}
use Rattle.base.proofs.ContainsLaws.{at_some_place}
use Rattle.base.proofs.OptionLaws.{map_or_true}
use Rattle.config_graph.specs.declared.kind.Kind.{Kind}
use Rattle.config_graph.specs.declared.kind.Kind.TheVariants.{Map, Sink, Source}
use Rattle.config_graph.specs.declared.node.Node.{Node}
use Rattle.component_trait.specs.Fold.{after_event}
use Rattle.component_trait.specs.States.{NodeState}
use Rattle.quiesce_core.specs.Alters.{slot_next}
use Rattle.quiesce_core.specs.Runs.{IsRun, state_after}
use Rattle.quiesce_core.specs.State.{State, is_live, owner, slot}
use Rattle.quiesce_core.specs.declared.event.Event.{Event}
use Rattle.quiesce_core.specs.declared.event.Event.TheVariants as event
use Rattle.quiesce_core.specs.declared.state.Slot.{Slot}
use Rattle.quiesce_core.proofs.AlterLaws.{reconfigured}
use Rattle.quiesce_core.proofs.InductionLaws.{IsNext, place}
use Rattle.report_types.specs.declared.report.Report.{Report}
use Rattle.change_spec.specs.Lawful.{Lawful}
use Rattle.change_spec.specs.Members.{Member, by_node, events, state_at}
use Rattle.change_spec.specs.Statements.{Statement}
use Rattle.change_spec.proofs.MemberLaws.{events_parts}
use Rattle.change_round_laws.proofs.FoldLaws.{StatesAreHanded}
use Rattle.result_laws.specs.Coming.{HasFolds, come}
use Rattle.result_laws.specs.Describing.{Describes}
use Rattle.result_laws.specs.Items.{IsOfSource}
use Rattle.result_laws.specs.Rows.{IsAlone, is_of_row}
use Rattle.result_laws.proofs.ComingLaws.{at_place, fits_of, folds_before, folds_on}
use Rattle.result_laws.proofs.FactLaws.{of_parts}
use Rattle.result_laws.proofs.Linking.{made_in_graph}
use Rattle.result_laws.proofs.StoppingLaws.{logs_fold}

-- of these three a source alone begins
begins_by : (k : Kind) (first p j v : ℕ) (n t : NodeState) → n.kind ≡ k → is_of_row k ≡ true → after_event first n (event.Begin p j v) ≡ Some t → k ≡ Source
begins_by Source first p j v n t kind of_row h = refl
begins_by Map first p j v n t kind of_row h = absurd (none-some t (sym (ap (λ x. after_event first x (event.Begin p j v)) (of_parts n Map n.service kind refl)) ∙ h))
begins_by Sink first p j v n t kind of_row h = absurd (none-some t (sym (ap (λ x. after_event first x (event.Begin p j v)) (of_parts n Sink n.service kind refl)) ∙ h))
begins_by _ first p j v n t kind of_row h = absurd (both_ways false refl of_row)

module _ (handed : StatesAreHanded) (statements : List Statement) (report : Report) (l : Lawful statements report) (alone : All (Describes IsAlone) statements) where
  abbrev es : List Event
  es = events l.members

  abbrev AllOfRow : List Event → Type 0
  AllOfRow before = (n : ℕ) (m : Slot) → slot (state_after before).config n ≡ Some m → is_of_row m.node.kind ≡ true

  all_next : (before after : List Event) (e : Event) → events l.members ≡ before ++ e ∷ after → AllOfRow before → AllOfRow (before ++ e ∷ [])
  all_next before after e parts old n m there = by e refl (sym ((reconfigured (state_after before) e here.legal).slots n) ∙ ap (λ (s : State). slot s.config n) (sym here.next) ∙ there)
    where
      here : IsNext before e
      here = place before after e (subst IsRun parts l.by_them.runs)

      by : (z : Event) → e ≡ z → slot_next (state_after before).config n z ≡ Some m → is_of_row m.node.kind ≡ true
      by (event.Make i node from) is at = ⊎_elim
          (λ (new_ : n ≡ length (state_after before).config.slots).
          let made : record { node = node; first_port = length (state_after before).config.gates; from = from; live = true } ≡ m =
          same_Some _ m (sym (ap (λ b. cond b (Some (record { node = node; first_port = length (state_after before).config.gates; from = from; live = true })) (slot (state_after before).config n)) (eq-eqb n (length (state_after before).config.slots) new_)) ∙ at) in
          let g = made_in_graph statements report l IsAlone alone before after i node from (parts ∙ ap (λ z. before ++ z ∷ after) is) in
          let listed = at_some_place g.0.nodes node g.2 in
          ap (λ (x : Slot). is_of_row x.node.kind) (sym made) ∙ g.1 listed.0 node.kind (ap (option_map (λ (x : Node). x.kind)) listed.1))
          (λ (other : n ≡ length (state_after before).config.slots → ⊥).
          old n m (sym (ap (λ b. cond b (Some (record { node = node; first_port = length (state_after before).config.gates; from = from; live = true })) (slot (state_after before).config n)) (ne_eqb n (length (state_after before).config.slots) other)) ∙ at))
          (cases_eq n (length (state_after before).config.slots))
      by (event.Remove i) is at = either (n == i) at
        where
          either : (b : Bool) → cond b (option_map (λ (x : Slot). record x { live = false }) (slot (state_after before).config n)) (slot (state_after before).config n) ≡ Some m → is_of_row m.node.kind ≡ true
          either false at' = old n m at'
          either true at' = gone (slot (state_after before).config n) refl at'
            where
              gone : (o : Option Slot) → slot (state_after before).config n ≡ o → option_map (λ (x : Slot). record x { live = false }) o ≡ Some m → is_of_row m.node.kind ≡ true
              gone None was h = absurd (none-some m h)
              gone (Some x) was h = ap (λ (y : Slot). is_of_row y.node.kind) (sym (same_Some _ m h)) ∙ old n x was
      by _ is at = old n m at

  all_from : (done_ xs after : List Event) → events l.members ≡ done_ ++ (xs ++ after) → AllOfRow done_ → AllOfRow (done_ ++ xs)
  all_from done_ [] after parts old = subst AllOfRow (sym (append-nil done_)) old
  all_from done_ (e ∷ xs) after parts old =
      subst AllOfRow (append_assoc done_ (e ∷ []) xs)
      (all_from (done_ ++ e ∷ []) xs after (parts ∙ sym (append_assoc done_ (e ∷ []) (xs ++ after))) (all_next done_ (xs ++ after) e parts old))

  pub begins : (before after : List Member) (p k v : ℕ) → l.members ≡ before ++ by_node (event.Begin p k v) ∷ after → IsOfSource (state_at before).config p
  begins before after p k v parts =
      let b = event.Begin p k v in
      let first = events before in
      let parts' : events l.members ≡ first ++ b ∷ events after = ap events parts ∙ events_parts before (by_node b ∷ after) in
      let run = l.by_them.runs in
      let folds : HasFolds (events l.members) = logs_fold l.members report l.by_them.merge run l.by_them.folds in
      let at = at_place handed (events l.members) run folds first (events after) b parts' in
      let here = place first (events after) b (subst IsRun parts' run) in
      let n = owner (state_after first).config p in
      let live = (and_parts _ (is_live (state_after first).config n) here.legal.live).1 in
      let m = map_or_true (λ (x : Slot). x.live) (slot (state_after first).config n) live in
      let of_row = all_from [] first (b ∷ events after) parts' (λ i s there. absurd (none-some s there)) n m.0 m.1 in
      let kind = (fits_of handed first here.run (folds_before handed first b here at.0 at.1)).kinds n m.0 m.1 in
      let on = folds_on handed first b here at.0 at.1 refl in
      let is = begins_by m.0.node.kind m.0.first_port p k v (come first n) (come (first ++ b ∷ []) n) kind of_row (on.mine n m.0 m.1 (eq-eqb n n refl)) in
      ap (option_map (λ (x : Slot). x.node.kind)) m.1 ∙ ap Some is
