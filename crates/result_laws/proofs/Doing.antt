-- The node that does an event, and systems of sources, maps, buffers and sinks alone.
use Rattle.std.proofs.Common.{◌≡◌, ◌∙◌, ℕ, Bool, true, false, cond, not, List, [], ◌∷◌, ◌++◌, append_assoc, length, Option, Some, None, refl, sym, ap, subst, arith}
use Rattle.std.specs.Prelude.{◌==◌, option_map}
use Rattle.std.specs.List.{list_any}
use Rattle.std.specs.Option.{option_map_or}
use Rattle.std.proofs.lemmas.Bool.{both_ways, eq-eqb, false_from_ne_true, ne_eqb, not-false, or_parts}
use Rattle.std.proofs.lemmas.List.{append-nil}
use Rattle.std.proofs.lemmas.Option.{none-some, same_Some}
use Rattle.base.proofs.OptionLaws.{map_or_true}
use Rattle.config_graph.specs.Kinds.{mores_of}
use Rattle.config_graph.specs.declared.kind.Kind.{Kind}
use Rattle.config_graph.specs.declared.kind.Kind.TheVariants.{Source, Map, Buffer, Sink}
use Rattle.component_trait.specs.Bounds.{IsBounded}
use Rattle.component_trait.specs.Fold.{after_event}
use Rattle.component_trait.specs.Moves as moves
use Rattle.component_trait.specs.States.{NodeState}
use Rattle.component_trait.specs.States as node
use Rattle.component_trait.proofs.FoldLaws.{fold_bounds}
use Rattle.quiesce_core.specs.Alters.{slot_next}
use Rattle.quiesce_core.specs.Doers.{is_of_change}
use Rattle.quiesce_core.specs.Runs.{IsRun, doer, done_by, is_doer, state_after}
use Rattle.quiesce_core.specs.State.{Configuration, State, owner, slot}
use Rattle.quiesce_core.specs.declared.event.Event.{Event}
use Rattle.quiesce_core.specs.declared.event.Event.TheVariants.{Make, Remove}
use Rattle.quiesce_core.specs.declared.state.Slot.{Slot}
use Rattle.quiesce_core.proofs.AlterLaws.{reconfigured}
use Rattle.quiesce_core.proofs.InductionLaws.{IsNext, place}
use Rattle.quiesce_core.proofs.RunLaws.{doer_there}
use Rattle.change_spec.specs.Opening.{argument_of}
use Rattle.change_round_laws.proofs.FoldLaws.{StatesAreHanded}
use Rattle.result_laws.specs.Coming.{HasFolds, come}
use Rattle.result_laws.proofs.AgreeingLaws.{doer_lives}
use Rattle.result_laws.proofs.ComingLaws.{came, fits_of, folds_before, folds_on}
use Rattle.result_laws.specs.Flows.{is_of_flow, same_side}
use Rattle.result_laws.proofs.Linking.{AllLinked}

-- an event that makes a node of another kind
abbrev pub is_strange : Event → Bool
is_strange (Make k made from) = not (is_of_flow made.kind)
is_strange _ = false

-- each node made is a source, a map, a buffer or a sink
abbrev pub AllFlow : Configuration → Type 0
AllFlow c = (n : ℕ) (m : Slot) → slot c n ≡ Some m → is_of_flow m.node.kind ≡ true

-- ---- no node of these kinds waits for a further message

mores_none : (k : Kind) → is_of_flow k ≡ true → mores_of k 0 ≡ 0
mores_none Source fl = refl
mores_none Map fl = refl
mores_none Buffer fl = refl
mores_none Sink fl = refl
mores_none _ fl = absurd (both_ways false refl fl)

pub waits_not : (n : NodeState) → mores_of n.kind 0 ≡ 0 → IsBounded n → moves.waits n ≡ false
waits_not n none_ bounded = by n.service refl
  where
    by : (o : Option node.Service) → n.service ≡ o → option_map_or (λ (w : node.Service). w.waits) n.service false ≡ false
    by None is = ap (λ (o : Option node.Service). option_map_or (λ (w : node.Service). w.waits) o false) is
    by (Some w) is =
        ap (λ (o : Option node.Service). option_map_or (λ (w : node.Service). w.waits) o false) is
        ∙ false_from_ne_true w.waits (λ h. let less = (bounded w is).waits h in omega (arith, less, none_))

pub waits_never : (n : NodeState) → is_of_flow n.kind ≡ true → IsBounded n → moves.waits n ≡ false
waits_never n fl bounded = waits_not n (mores_none n.kind fl) bounded

-- ---- who does it, and what it leads to

pub record Does (es : List Event) (e : Event) : Type 0 where
  pub at : ℕ
  pub does : is_doer (state_after es) at e ≡ true
  pub only_one : (n : ℕ) → (n ≡ at → ⊥) → is_doer (state_after es) n e ≡ false
  pub others : (n : ℕ) → (n ≡ at → ⊥) → come (es ++ e ∷ []) n ≡ come es n
  pub made : Slot
  pub there : slot (state_after es).config at ≡ Some made
  pub lives : made.live ≡ true
  pub kind : (come es at).kind ≡ made.node.kind
  pub bounded : IsBounded (come es at)
  pub led : after_event made.first_port (come es at) e ≡ Some (come (es ++ e ∷ []) at)

pub does_at : StatesAreHanded → (es : List Event) (e : Event) → IsNext es e → IsRun (es ++ e ∷ []) → HasFolds (es ++ e ∷ []) → is_of_change e ≡ false → Does es e
does_at handed es e here run' later of_node = record {
  at = named.0;
  does = does_so;
  only_one = others_do_not;
  others = λ n other. (folds_on handed es e here run' later of_node).others n (others_do_not n other);
  made = made_so.0;
  there = made_so.1;
  lives = made_so.2;
  kind = (fits_of handed es here.run now_folds).kinds named.0 made_so.0 made_so.1;
  bounded =
      let c = came handed es here.run now_folds named.0 made_so.0 made_so.1 in
      fold_bounds made_so.0.node.kind (argument_of made_so.0) made_so.0.first_port c.kept (done_by named.0 es) (come es named.0) c.is;
  led = (folds_on handed es e here run' later of_node).mine named.0 made_so.0 made_so.1 does_so;
}
  where
    named : (n : ℕ) × (doer (state_after es) e ≡ Some n)
    named = doer_there (state_after es) e here.traffic here.legal of_node

    does_so : is_doer (state_after es) named.0 e ≡ true
    does_so = ap (λ o. option_map_or (λ m. m == named.0) o false) named.1 ∙ eq-eqb named.0 named.0 refl

    others_do_not : (n : ℕ) → (n ≡ named.0 → ⊥) → is_doer (state_after es) n e ≡ false
    others_do_not n other = ap (λ o. option_map_or (λ m. m == n) o false) named.1 ∙ ne_eqb named.0 n (λ same. other (sym same))

    made_so : (m : Slot) × (slot (state_after es).config named.0 ≡ Some m) × (m.live ≡ true)
    made_so = map_or_true (λ (m : Slot). m.live) (slot (state_after es).config named.0) (doer_lives (state_after es) e named.0 here.well here.legal of_node does_so)

    now_folds : HasFolds es
    now_folds = folds_before handed es e here run' later

-- ---- each node stays of its kind

pub flows_then : (es : List Event) (e : Event) → IsNext es e → is_strange e ≡ false → AllFlow (state_after es).config → AllFlow (state_after (es ++ e ∷ [])).config
flows_then es e here strange flows n m there = by e refl (sym ((reconfigured (state_after es) e here.legal).slots n) ∙ sym (ap (λ (x : State). slot x.config n) here.next) ∙ there)
  where
    removed : (b : Bool) (o : Option Slot) → slot (state_after es).config n ≡ o → cond b (option_map (λ (k : Slot). record k { live = false }) o) o ≡ Some m → is_of_flow m.node.kind ≡ true
    removed true None is h = absurd (none-some m h)
    removed false None is h = absurd (none-some m h)
    removed true (Some k) is h = ap (λ (x : Slot). is_of_flow x.node.kind) (sym (same_Some (record k { live = false }) m h)) ∙ flows n k is
    removed false (Some k) is h = flows n m (is ∙ h)

    made_one : (b : Bool) (x : Slot) → is_of_flow x.node.kind ≡ true → cond b (Some x) (slot (state_after es).config n) ≡ Some m → is_of_flow m.node.kind ≡ true
    made_one true x fl h = ap (λ (y : Slot). is_of_flow y.node.kind) (sym (same_Some x m h)) ∙ fl
    made_one false x fl h = flows n m h

    by : (z : Event) → e ≡ z → slot_next (state_after es).config n e ≡ Some m → is_of_flow m.node.kind ≡ true
    by (Make k made from) at h =
        made_one (n == length (state_after es).config.slots) (record { node = made; first_port = length (state_after es).config.gates; from = from; live = true })
        (not-false (is_of_flow made.kind) (sym (ap is_strange at) ∙ strange)) (sym (ap (slot_next (state_after es).config n) at) ∙ h)
    by (Remove k) at h = removed (n == k) (slot (state_after es).config n) refl (sym (ap (slot_next (state_after es).config n) at) ∙ h)
    by _ at h = flows n m (sym (ap (slot_next (state_after es).config n) at) ∙ h)

-- so each link joins two of them
pub flows_are_apart : (c : Configuration) → AllFlow c → AllLinked same_side c
flows_are_apart c flows p t a b leads at_a at_b = by (is_of_flow a.node.kind) (is_of_flow b.node.kind) (flows (owner c p) a at_a) (flows t.node b at_b)
  where
    by : (x y : Bool) → x ≡ true → y ≡ true → cond x y (not y) ≡ true
    by true y h k = k
    by false y h k = absurd (both_ways false refl h)

pub flows_from : (done_ rest : List Event) → IsRun (done_ ++ rest) → list_any is_strange rest ≡ false → AllFlow (state_after done_).config → AllFlow (state_after (done_ ++ rest)).config
flows_from done_ [] run none_ flows = subst (λ xs. AllFlow (state_after xs).config) (sym (append-nil done_)) flows
flows_from done_ (e ∷ rest) run none_ flows =
    let all = append_assoc done_ (e ∷ []) rest in
    let parts = or_parts (is_strange e) (list_any is_strange rest) none_ in
    subst (λ xs. AllFlow (state_after xs).config) all (flows_from (done_ ++ e ∷ []) rest (subst (λ xs. IsRun xs) (sym all) run) parts.1 (flows_then done_ e (place done_ rest e run) parts.0 flows))
