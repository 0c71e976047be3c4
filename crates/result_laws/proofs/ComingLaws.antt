-- What nodes have come to in a run in which each has a fold: it agrees with the machine's state, and goes on by each
-- event with the fold of the node that does it.
use Rattle.std.proofs.Common.{◌≡◌, ◌∙◌, ◌<◌, ℕ, zero, suc, Bool, true, false, cond, List, [], ◌∷◌, ◌++◌, append_assoc, length, Option, Some, None, refl, sym, ap, subst, arith}
use Rattle.std.specs.Prelude.{◌==◌, is_some, option_and_then, option_map, unwrap_or}
use Rattle.std.specs.Option.{option_map_or}
use Rattle.std.proofs.lemmas.Bool.{both_ways, eq-eqb, ne_eqb, false_from_ne_true}
use Rattle.std.proofs.lemmas.List.{append-nil}
use Rattle.std.proofs.lemmas.List.Sums.{fold_push}
use Rattle.std.proofs.lemmas.Option.{none-some, slice_get_within}
use Rattle.base.proofs.OptionLaws.{map_or_at, map_or_true, Some-from_is_some}
use Rattle.base.proofs.PlaceLaws.{slice_get-there}
use Rattle.config_graph.specs.declared.kind.Kind.TheVariants.{Fork}
use Rattle.config_graph.specs.declared.node.Node.{Node}
use Rattle.component_trait.specs.Fold.{after_event, fold_next}
use Rattle.component_trait.specs.States.{Kept, NodeState, at_rest, nothing}
use Rattle.component_trait.specs.States as node
use Rattle.component_trait.specs.Tables.{opening}
use Rattle.component_trait.proofs.FoldLaws.{fold_keeps_argument, fold_keeps_kind}
use Rattle.quiesce_core.specs.Alters.{Reconfigures, slot_next}
use Rattle.quiesce_core.specs.Doers.{is_make, is_of_change}
use Rattle.quiesce_core.specs.Effect.{effect}
use Rattle.quiesce_core.specs.Knowledge.{KnowsService, OwnPort, own_port, own_port_after, served_after}
use Rattle.quiesce_core.specs.Reach.{IsPortOf}
use Rattle.quiesce_core.specs.Runs.{IsRun, done_by, is_doer, state_after}
use Rattle.quiesce_core.specs.State.{Configuration, State, is_live, service, slot}
use Rattle.quiesce_core.specs.declared.event.Event.{Event}
use Rattle.quiesce_core.specs.declared.event.Event.TheVariants.{Make, Remove}
use Rattle.quiesce_core.specs.declared.known.Served.{Served}
use Rattle.quiesce_core.specs.declared.state.Service.{Service}
use Rattle.quiesce_core.specs.declared.state.Slot.{Slot}
use Rattle.quiesce_core.proofs.AlterLaws.{reconfigured}
use Rattle.quiesce_core.proofs.InductionLaws.{IsNext, place}
use Rattle.quiesce_core.proofs.RunLaws.{done_by_more, fronts_are_runs, node_events_keep_the_configuration, nodes_know, runs_are_consistent, runs_are_well_formed, state_more}
use Rattle.quiesce_core.proofs.SourceLaws.{sources_are_gone}
use Rattle.quiesce_core.proofs.StateLaws.{busy_made}
use Rattle.node_turn_laws.specs.Agreement.{ServicesAgree, expects}
use Rattle.change_spec.specs.Opening.{argument_of, fold_at, fold_of_node, fold_within}
use Rattle.change_round_laws.proofs.FoldLaws.{StatesAreHanded}
use Rattle.change_spec.proofs.LowerLaws.{lower_after}
use Rattle.result_laws.specs.Coming.{HasFolds, come}
use Rattle.result_laws.proofs.AgreeingLaws.{agreed, change_does, doer_lives}
use Rattle.result_laws.proofs.FactLaws.{Facts, Fits, FoldsTo}

abbrev opening_of : List Event → Slot → Option Kept
opening_of es m = option_map_or (λ k. option_map (λ (s : NodeState). s.kept) (fold_of_node es k)) m.from (Some (opening m.node.kind (argument_of m)))

fold_is : StatesAreHanded → (es : List Event) → IsRun es → (n : ℕ) (m : Slot) → slot (state_after es).config n ≡ Some m → fold_of_node es n ≡ option_and_then (fold_at m (done_by n es)) (opening_of es m)
fold_is handed es run n m there = by m.from refl
  where
    unfolded : fold_of_node es n ≡ option_and_then (fold_at m (done_by n es)) (option_map_or (λ k. option_map (λ (s : NodeState). s.kept) (fold_within es n k)) m.from (Some (opening m.node.kind (argument_of m))))
    unfolded = ap (option_and_then (λ (x : Slot). option_and_then (fold_at x (done_by n es))
        (option_map_or (λ k. option_map (λ (s : NodeState). s.kept) (fold_within es n k)) x.from (Some (opening x.node.kind (argument_of x)))))) there

    by : (from : Option ℕ) → m.from ≡ from → fold_of_node es n ≡ option_and_then (fold_at m (done_by n es)) (opening_of es m)
    by None is =
        unfolded
        ∙ ap (λ o. option_and_then (fold_at m (done_by n es)) (option_map_or (λ k. option_map (λ (s : NodeState). s.kept) (fold_within es n k)) o (Some (opening m.node.kind (argument_of m))))) is
        ∙ sym (ap (λ o. option_and_then (fold_at m (done_by n es)) (option_map_or (λ k. option_map (λ (s : NodeState). s.kept) (fold_of_node es k)) o (Some (opening m.node.kind (argument_of m))))) is)
    by (Some k) is =
        handed es run n k m there is
        ∙ sym (ap (λ o. option_and_then (fold_at m (done_by n es)) (option_map_or (λ k. option_map (λ (s : NodeState). s.kept) (fold_of_node es k)) o (Some (opening m.node.kind (argument_of m))))) is)

-- ---- it agrees

pub record Came (es : List Event) (n : ℕ) (m : Slot) : Type 0 where
  pub kept : Kept
  pub is : fold_at m (done_by n es) kept ≡ Some (come es n)

pub came : StatesAreHanded → (es : List Event) → IsRun es → HasFolds es → (n : ℕ) (m : Slot) → slot (state_after es).config n ≡ Some m → Came es n m
came handed es run folds n m there = by (opening_of es m) refl
  where
    t : (x : NodeState) × (fold_of_node es n ≡ Some x)
    t = Some-from_is_some (fold_of_node es n) (folds.all n m there)

    by : (o : Option Kept) → opening_of es m ≡ o → Came es n m
    by None none_ = absurd (none-some _ (sym (ap (option_and_then (fold_at m (done_by n es))) none_) ∙ sym (fold_is handed es run n m there) ∙ t.1))
    by (Some kept) some_ = record {
      kept = kept;
      is = sym (ap (option_and_then (fold_at m (done_by n es))) some_) ∙ sym (fold_is handed es run n m there) ∙ t.1 ∙ ap (λ o. Some (unwrap_or o (at_rest Fork 0 nothing))) (sym t.1);
    }

served_if : (s : State) (ports : ℕ → OwnPort) (o : Option node.Service) (u : Option Served) (v : Option Service) → ServicesAgree ports o u → KnowsService s v u → (w : node.Service) → o ≡ Some w → (x : Service) × (v ≡ Some x)
served_if s ports None u v a k w is = absurd (none-some w is)
served_if s ports (Some z) None v a k w is = absurd a
served_if s ports (Some z) (Some u) None a k w is = absurd k
served_if s ports (Some z) (Some u) (Some x) a k w is = (x, refl)

serves_if : (s : State) (ports : ℕ → OwnPort) (o : Option node.Service) (u : Option Served) (v : Option Service) → ServicesAgree ports o u → KnowsService s v u → (x : Service) → v ≡ Some x → (w : node.Service) × (o ≡ Some w)
serves_if s ports o u None a k x is = absurd (none-some x is)
serves_if s ports o None (Some z) a k x is = absurd k
serves_if s ports None (Some u) (Some z) a k x is = absurd a
serves_if s ports (Some w) (Some u) (Some z) a k x is = (w, refl)

unmade_serves_nothing : (es : List Event) (n : ℕ) → slot (state_after es).config n ≡ None → fold_of_node es n ≡ None
unmade_serves_nothing es n none_ = ap (option_and_then (λ (x : Slot). option_and_then (fold_at x (done_by n es))
    (option_map_or (λ k. option_map (λ (s : NodeState). s.kept) (fold_within es n k)) x.from (Some (opening x.node.kind (argument_of x)))))) none_

pub facts : StatesAreHanded → (es : List Event) → IsRun es → HasFolds es → Facts (state_after es) (come es)
facts handed es run folds = record {
  well = runs_are_well_formed es run;
  traffic = runs_are_consistent es run;
  served = λ n w is. by_slot n (slot (state_after es).config n) refl w is;
  serves = λ n v is.
      let made = serving_made n v is in
      let c = came handed es run folds n made.0 made.1 in
      let a = (agreed es run).made n made.0 made.1 c.kept (come es n) c.is in
      serves_if (state_after es) _ (come es n).service (served_after (done_by n es)) (service (state_after es) n) a.services (nodes_know es run n).services v is;
  expected = λ n p m there owned busy.
      let c = came handed es run folds n m there in
      let a = (agreed es run).made n m there c.kept (come es n) c.is in
      let known : own_port_after p (done_by n es) ≡ own_port (state_after es) p =
      (nodes_know es run n).ports p (subst (λ i. IsPortOf (state_after es).config i p) owned ((runs_are_well_formed es run).sound.ports p (busy_made (state_after es) p (runs_are_consistent es run) busy))) in
      sym (ap (λ (x : OwnPort). expects x.consequent m.first_port (come es n) p) known) ∙ a.ports p (ap (λ (x : OwnPort). x.idle) known ∙ busy);
}
  where
    serving_made : (n : ℕ) (v : Service) → service (state_after es) n ≡ Some v → (m : Slot) × (slot (state_after es).config n ≡ Some m)
    serving_made n v is =
        let it = (runs_are_consistent es run).serving n v is in
        let live = ((runs_are_well_formed es run).sound.targets v.port (record { node = n; provide = it.provide }) it.linked).live in
        let m = map_or_true (λ (x : Slot). x.live) (slot (state_after es).config n) live in
        (m.0, m.1)

    by_slot : (n : ℕ) (o : Option Slot) → slot (state_after es).config n ≡ o → (w : node.Service) → (come es n).service ≡ Some w → (x : Service) × (service (state_after es) n ≡ Some x)
    by_slot n None none_ w is = absurd (none-some w (sym (ap (λ o. (unwrap_or o (at_rest Fork 0 nothing)).service) (unmade_serves_nothing es n none_)) ∙ is))
    by_slot n (Some m) there w is =
        let c = came handed es run folds n m there in
        let a = (agreed es run).made n m there c.kept (come es n) c.is in
        served_if (state_after es) _ (come es n).service (served_after (done_by n es)) (service (state_after es) n) a.services (nodes_know es run n).services w is

-- ---- it goes on

-- what was made stays, live or not
pub record Stays (d : Configuration) (n : ℕ) (m : Slot) : Type 0 where
  pub then_ : Slot
  pub there : slot d n ≡ Some then_
  pub node : then_.node ≡ m.node
  pub first : then_.first_port ≡ m.first_port
  pub from : then_.from ≡ m.from

pub stays : (c d : Configuration) (e : Event) → Reconfigures c e d → (n : ℕ) (m : Slot) → slot c n ≡ Some m → Stays d n m
stays c d (Make k node from) r n m at =
    record {
      then_ = m;
      there = r.slots n ∙ rw (ne_eqb n (length c.slots) (λ same. let low = slice_get_within c.slots n m at in omega (arith, low, same))) at;
      node = refl;
      first = refl;
      from = refl;
    }
stays c d (Remove k) r n m at = by (n == k) refl
  where
    by : (b : Bool) → (n == k) ≡ b → Stays d n m
    by true is = record {
      then_ = record m { live = false };
      there = r.slots n ∙ ap (λ b. cond b (option_map (λ (k : Slot). record k { live = false }) (slot c n)) (slot c n)) is ∙ ap (option_map (λ (k : Slot). record k { live = false })) at;
      node = refl;
      first = refl;
      from = refl;
    }
    by false is = record { then_ = m; there = r.slots n ∙ ap (λ b. cond b (option_map (λ (k : Slot). record k { live = false }) (slot c n)) (slot c n)) is ∙ at; node = refl; first = refl; from = refl }
stays c d _ r n m at = record { then_ = m; there = r.slots n ∙ at; node = refl; first = refl; from = refl }

fold_more : (m : Slot) (own : List Event) (e : Event) (o : Option Kept) → option_and_then (fold_at m (own ++ e ∷ [])) o ≡ fold_next m.first_port (option_and_then (fold_at m own) o) e
fold_more m own e None = refl
fold_more m own e (Some kept) = fold_push (fold_next m.first_port) (Some (at_rest m.node.kind (argument_of m) kept)) own e

module _ (handed : StatesAreHanded) (es : List Event) (e : Event) (here : IsNext es e) (run' : IsRun (es ++ e ∷ [])) where
  gone_does_not : (k : ℕ) (old : Slot) → slot (state_after es).config k ≡ Some old → old.live ≡ false → is_doer (state_after es) k e ≡ false
  gone_does_not k old there gone = by (is_of_change e) refl
    where
      by : (b : Bool) → is_of_change e ≡ b → is_doer (state_after es) k e ≡ false
      by true change = change_does (state_after es) e k change
      by false of_node = false_from_ne_true (is_doer (state_after es) k e) (λ does.
          both_ways (is_live (state_after es).config k) (map_or_at (λ (m : Slot). m.live) (slot (state_after es).config k) false old there ∙ gone) (doer_lives (state_after es) e k here.well here.legal of_node does))

  by_doer : (m : Slot) (own : List Event) (o : Option Kept) (b : Bool)
      → option_and_then (fold_at m (own ++ cond b (e ∷ []) [])) o ≡ cond b (fold_next m.first_port (option_and_then (fold_at m own) o) e) (option_and_then (fold_at m own) o)
  by_doer m own o true = fold_more m own e o
  by_doer m own o false = ap (λ xs. option_and_then (fold_at m xs) o) (append-nil own)

  same_made : (a m : Slot) (own : List Event) (o : Option Kept) → a.node ≡ m.node → a.first_port ≡ m.first_port → option_and_then (fold_at a own) o ≡ option_and_then (fold_at m own) o
  same_made a m own o node first = λ i. option_and_then (fold_at (record { node = node i; first_port = first i; from = a.from; live = a.live }) own) o

  -- the fold of a node goes on by its own event, and stays by another
  grown : (bound n : ℕ) → n < bound → (m : Slot) → slot (state_after es).config n ≡ Some m
      → fold_of_node (es ++ e ∷ []) n ≡ cond (is_doer (state_after es) n e) (fold_next m.first_port (fold_of_node es n) e) (fold_of_node es n)
  grown zero n low m there = absurd (omega (arith, low))
  grown (suc bound) n low m there = by m.from refl (λ k old less there_k gone. grown bound k less old there_k ∙ ap (λ b. cond b (fold_next old.first_port (fold_of_node es k) e) (fold_of_node es k)) (gone_does_not k old there_k gone))
    where
      after : Stays (effect (state_after es) e).config n m
      after = stays (state_after es).config (effect (state_after es) e).config e (reconfigured (state_after es) e here.legal) n m there

      own_kept : Option Kept
      own_kept = Some (opening m.node.kind (argument_of m))

      same_kept : (from : Option ℕ) → m.from ≡ from → ((k : ℕ) (old : Slot) → k < bound → slot (state_after es).config k ≡ Some old → old.live ≡ false → fold_of_node (es ++ e ∷ []) k ≡ fold_of_node es k)
          → opening_of (es ++ e ∷ []) after.then_ ≡ opening_of es m
      same_kept None is earlier =
          (λ i. option_map_or (λ k. option_map (λ (s : NodeState). s.kept) (fold_of_node (es ++ e ∷ []) k)) (after.from i) (Some (opening (after.node i).kind (argument_of (record after.then_ { node = after.node i })))))
          ∙ ap (λ o. option_map_or (λ k. option_map (λ (s : NodeState). s.kept) (fold_of_node (es ++ e ∷ []) k)) o own_kept) is
          ∙ sym (ap (λ o. option_map_or (λ k. option_map (λ (s : NodeState). s.kept) (fold_of_node es k)) o own_kept) is)
      same_kept (Some k) is earlier =
          let source = (sources_are_gone es here.run).gone n k m there is in
          let lower = (lower_after es here.run).lower n k m there is in
          (λ i. option_map_or (λ k. option_map (λ (s : NodeState). s.kept) (fold_of_node (es ++ e ∷ []) k)) (after.from i) (Some (opening (after.node i).kind (argument_of (record after.then_ { node = after.node i })))))
          ∙ ap (λ o. option_map_or (λ k. option_map (λ (s : NodeState). s.kept) (fold_of_node (es ++ e ∷ []) k)) o own_kept) is
          ∙ ap (option_map (λ (s : NodeState). s.kept)) (earlier k source.old (omega (arith, lower, low)) source.there source.removed)
          ∙ sym (ap (λ o. option_map_or (λ k. option_map (λ (s : NodeState). s.kept) (fold_of_node es k)) o own_kept) is)

      by : (from : Option ℕ) → m.from ≡ from → ((k : ℕ) (old : Slot) → k < bound → slot (state_after es).config k ≡ Some old → old.live ≡ false → fold_of_node (es ++ e ∷ []) k ≡ fold_of_node es k)
          → fold_of_node (es ++ e ∷ []) n ≡ cond (is_doer (state_after es) n e) (fold_next m.first_port (fold_of_node es n) e) (fold_of_node es n)
      by from is earlier =
          fold_is handed (es ++ e ∷ []) run' n after.then_ (ap (λ (x : State). slot x.config n) (state_more es e) ∙ after.there)
          ∙ same_made after.then_ m (done_by n (es ++ e ∷ [])) (opening_of (es ++ e ∷ []) after.then_) after.node after.first
          ∙ ap (option_and_then (fold_at m (done_by n (es ++ e ∷ [])))) (same_kept from is earlier)
          ∙ ap (λ xs. option_and_then (fold_at m xs) (opening_of es m)) (done_by_more n es e)
          ∙ by_doer m (done_by n es) (opening_of es m) (is_doer (state_after es) n e)
          ∙ ap (λ o. cond (is_doer (state_after es) n e) (fold_next m.first_port o e) o) (sym (fold_is handed es here.run n m there))

  grows : (n : ℕ) (m : Slot) → slot (state_after es).config n ≡ Some m → fold_of_node (es ++ e ∷ []) n ≡ cond (is_doer (state_after es) n e) (fold_next m.first_port (fold_of_node es n) e) (fold_of_node es n)
  grows n m there = grown (suc n) n (omega arith) m there

  -- where each has a fold then, each had one before
  pub folds_before : HasFolds (es ++ e ∷ []) → HasFolds es
  folds_before later = record { all = λ n m there. by n m there (fold_of_node es n) refl }
    where
      by : (n : ℕ) (m : Slot) → slot (state_after es).config n ≡ Some m → (o : Option NodeState) → fold_of_node es n ≡ o → is_some (fold_of_node es n) ≡ true
      by n m there (Some t) is = ap is_some is
      by n m there None is =
          let after = stays (state_after es).config (effect (state_after es) e).config e (reconfigured (state_after es) e here.legal) n m there in
          let some_ = later.all n after.then_ (ap (λ (x : State). slot x.config n) (state_more es e) ∙ after.there) in
          let none_ = grows n m there ∙ ap (λ o. cond (is_doer (state_after es) n e) (fold_next m.first_port o e) o) is ∙ either (is_doer (state_after es) n e) in
          absurd (both_ways false refl (sym (ap is_some none_) ∙ some_))
        where
          either : (b : Bool) → cond {A = Option NodeState} b None None ≡ None
          either true = refl
          either false = refl

  pub folds_on : HasFolds (es ++ e ∷ []) → is_of_change e ≡ false → FoldsTo (state_after es) e (come es) (come (es ++ e ∷ []))
  folds_on later of_node = record {
    mine = λ n m there does.
        let was = Some-from_is_some (fold_of_node es n) ((folds_before later).all n m there) in
        let after = stays (state_after es).config (effect (state_after es) e).config e (reconfigured (state_after es) e here.legal) n m there in
        let is = Some-from_is_some (fold_of_node (es ++ e ∷ []) n) (later.all n after.then_ (ap (λ (x : State). slot x.config n) (state_more es e) ∙ after.there)) in
        ap (λ o. after_event m.first_port (unwrap_or o (at_rest Fork 0 nothing)) e) was.1
        ∙ sym (ap (λ o. fold_next m.first_port o e) was.1)
        ∙ sym (ap (λ b. cond b (fold_next m.first_port (fold_of_node es n) e) (fold_of_node es n)) does)
        ∙ sym (grows n m there)
        ∙ is.1
        ∙ sym (ap (λ o. Some (unwrap_or o (at_rest Fork 0 nothing))) is.1);
    others = λ n other. by n other (slot (state_after es).config n) refl;
  }
    where
      by : (n : ℕ) → is_doer (state_after es) n e ≡ false → (o : Option Slot) → slot (state_after es).config n ≡ o → come (es ++ e ∷ []) n ≡ come es n
      by n other (Some m) there =
          ap (λ o. unwrap_or o (at_rest Fork 0 nothing)) (grows n m there ∙ ap (λ b. cond b (fold_next m.first_port (fold_of_node es n) e) (fold_of_node es n)) other)
      by n other None none_ =
          ap (λ o. unwrap_or o (at_rest Fork 0 nothing))
          (unmade_serves_nothing (es ++ e ∷ []) n
          (ap (λ (x : State). slot x.config n) (state_more es e) ∙ ap (λ (c : Configuration). slot c n) (node_events_keep_the_configuration (state_after es) e of_node) ∙ none_)
          ∙ sym (unmade_serves_nothing es n none_))

  -- and stays for all nodes by an event of the change that makes none
  pub folds_stay : is_of_change e ≡ true → is_make e ≡ false → (n : ℕ) → come (es ++ e ∷ []) n ≡ come es n
  folds_stay change none_made n = by (slot (state_after es).config n) refl
    where
      by : (o : Option Slot) → slot (state_after es).config n ≡ o → come (es ++ e ∷ []) n ≡ come es n
      by (Some m) there =
          ap (λ o. unwrap_or o (at_rest Fork 0 nothing))
          (grows n m there ∙ ap (λ b. cond b (fold_next m.first_port (fold_of_node es n) e) (fold_of_node es n)) (change_does (state_after es) e n change))
      by None none_ =
          ap (λ o. unwrap_or o (at_rest Fork 0 nothing))
          (unmade_serves_nothing (es ++ e ∷ []) n (ap (λ (x : State). slot x.config n) (state_more es e) ∙ unmade_stays ((reconfigured (state_after es) e here.legal).slots n))
          ∙ sym (unmade_serves_nothing es n none_))
        where
          unmade_stays : slot (effect (state_after es) e).config n ≡ slot_next (state_after es).config n e → slot (effect (state_after es) e).config n ≡ None
          unmade_stays is = is ∙ kept e none_made
            where
              kept : (z : Event) → is_make z ≡ false → slot_next (state_after es).config n z ≡ None
              kept (Make k node from) h = absurd (both_ways true h refl)
              kept (Remove k) h = either (n == k)
                where
                  either : (b : Bool) → cond b (option_map (λ (k : Slot). record k { live = false }) (slot (state_after es).config n)) (slot (state_after es).config n) ≡ None
                  either true = ap (option_map (λ (k : Slot). record k { live = false })) none_
                  either false = none_
              kept _ h = none_

  -- and stays for each node made before
  pub old_stays : is_of_change e ≡ true → (n : ℕ) (m : Slot) → slot (state_after es).config n ≡ Some m → come (es ++ e ∷ []) n ≡ come es n
  old_stays change n m there =
      ap (λ o. unwrap_or o (at_rest Fork 0 nothing))
      (grows n m there ∙ ap (λ b. cond b (fold_next m.first_port (fold_of_node es n) e) (fold_of_node es n)) (change_does (state_after es) e n change))

-- what nodes have come to is of their kinds and arguments
pub fits_of : StatesAreHanded → (es : List Event) → IsRun es → HasFolds es → Fits (state_after es).config (come es)
fits_of handed es run folds = record {
  kinds = λ n m there. let c = came handed es run folds n m there in fold_keeps_kind m.first_port (at_rest m.node.kind (argument_of m) c.kept) (come es n) (done_by n es) c.is;
  args = λ n m there. let c = came handed es run folds n m there in fold_keeps_argument m.first_port (at_rest m.node.kind (argument_of m) c.kept) (come es n) (done_by n es) c.is;
}

-- ---- at each place of a run

module _ (handed : StatesAreHanded) where
  pub fronts_fold : (es more_ : List Event) → IsRun (es ++ more_) → HasFolds (es ++ more_) → HasFolds es
  fronts_fold es [] run folds = subst HasFolds (append-nil es) folds
  fronts_fold es (e ∷ more_) run folds =
      let all = append_assoc es (e ∷ []) more_ in
      let run'' = subst (λ xs. IsRun xs) (sym all) run in
      folds_before handed es e (place es more_ e run) (fronts_are_runs (es ++ e ∷ []) more_ run'') (fronts_fold (es ++ e ∷ []) more_ run'' (subst (λ xs. HasFolds xs) (sym all) folds))

module _ (handed : StatesAreHanded) (all : List Event) (run : IsRun all) (folds : HasFolds all) where
  pub at_place : (before after : List Event) (e : Event) → all ≡ before ++ e ∷ after → IsRun (before ++ e ∷ []) × HasFolds (before ++ e ∷ [])
  at_place before after e parts =
      let whole = parts ∙ sym (append_assoc before (e ∷ []) after) in
      (fronts_are_runs (before ++ e ∷ []) after (subst IsRun whole run), fronts_fold handed (before ++ e ∷ []) after (subst IsRun whole run) (subst HasFolds whole folds))

-- what a node that is made has: its opening, or what the one had from which it was made
abbrev pub given_to : List Event → Node → Option ℕ → Kept
given_to es node None = opening node.kind (option_map_or (λ a. a) node.arg 0)
given_to es node (Some k) = (come es k).kept

module _ (handed : StatesAreHanded) (es : List Event) (i : ℕ) (node : Node) (from : Option ℕ) (here : IsNext es (Make i node from)) (run' : IsRun (es ++ Make i node from ∷ [])) (later : HasFolds (es ++ Make i node from ∷ [])) where
  abbrev new_one : Slot
  new_one = record { node = node; first_port = length (state_after es).config.gates; from = from; live = true }

  new_there : slot (state_after (es ++ Make i node from ∷ [])).config (length (state_after es).config.slots) ≡ Some new_one
  new_there =
      let k = length (state_after es).config.slots in
      ap (λ (x : State). slot x.config k) (state_more es (Make i node from)) ∙ (reconfigured (state_after es) (Make i node from) here.legal).slots k ∙ rw (eq-eqb k k refl) refl

  nothing_done : done_by (length (state_after es).config.slots) (es ++ Make i node from ∷ []) ≡ []
  nothing_done = let k = length (state_after es).config.slots in done_by_more k es (Make i node from) ∙ ap (λ xs. xs ++ []) ((agreed es here.run).unmade k (omega arith))

  pub made_has : (come (es ++ Make i node from ∷ []) (length (state_after es).config.slots)).kept ≡ given_to es node from
  made_has = by from refl
    where
      k : ℕ
      k = length (state_after es).config.slots

      folded : fold_of_node (es ++ Make i node from ∷ []) k ≡ option_and_then (fold_at new_one []) (opening_of (es ++ Make i node from ∷ []) new_one)
      folded = fold_is handed (es ++ Make i node from ∷ []) run' k new_one new_there ∙ ap (λ xs. option_and_then (fold_at new_one xs) (opening_of (es ++ Make i node from ∷ []) new_one)) nothing_done

      then_ : (kept : Kept) → opening_of (es ++ Make i node from ∷ []) new_one ≡ Some kept → (come (es ++ Make i node from ∷ []) k).kept ≡ kept
      then_ kept is = ap (λ o. (unwrap_or o (at_rest Fork 0 nothing)).kept) (folded ∙ ap (option_and_then (fold_at new_one [])) is)

      by : (o : Option ℕ) → from ≡ o → (come (es ++ Make i node from ∷ []) k).kept ≡ given_to es node o
      by None is = then_ (opening node.kind (argument_of new_one)) (ap (λ o. option_map_or (λ k. option_map (λ (s : NodeState). s.kept) (fold_of_node (es ++ Make i node from ∷ []) k)) o (Some (opening node.kind (argument_of new_one)))) is)
      by (Some j) is =
          let gone = (sources_are_gone (es ++ Make i node from ∷ []) run').gone k j new_one new_there is in
          let lower = (lower_after (es ++ Make i node from ∷ []) run').lower k j new_one new_there is in
          let was = slice_get-there (state_after es).config.slots j lower in
          let some_ = Some-from_is_some (fold_of_node (es ++ Make i node from ∷ []) j) (later.all j gone.old gone.there) in
          then_ some_.0.kept (ap (λ o. option_map_or (λ k. option_map (λ (s : NodeState). s.kept) (fold_of_node (es ++ Make i node from ∷ []) k)) o (Some (opening node.kind (argument_of new_one)))) is ∙ ap (option_map (λ (s : NodeState). s.kept)) some_.1)
          ∙ sym (ap (λ o. (unwrap_or o (at_rest Fork 0 nothing)).kept) some_.1)
          ∙ ap (λ (x : NodeState). x.kept) (old_stays handed es (Make i node from) here run' refl j was.0 was.1)
