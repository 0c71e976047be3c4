-- A weight that no map changes is fair.
use Rattle.std.proofs.Common.{◌≡◌, ◌∙◌, ℕ, ◌+◌, ◌%◌, ◌<◌, ◌≤◌, Bool, true, false, cond, List, [], ◌∷◌, ◌++◌, append_assoc, length, Option, Some, None, refl, sym, ap, subst, arith}
use Rattle.std.specs.Prelude.{◌==◌, ⊤, All, Contains, filter, option_map}
use Rattle.std.specs.Option.{option_map_or}
use Rattle.std.proofs.lemmas.Bool.{both_ways, eqb-true}
use Rattle.std.proofs.lemmas.List.{append-nil}
use Rattle.std.proofs.lemmas.List.Elements.{All-contains, All-weaker, Contains-append_left}
use Rattle.std.proofs.lemmas.Option.{none-some, same_Some}
use Rattle.base.proofs.ContainsLaws.{Contains-filter, Contains-from_filter_map, Contains-here, Contains-there}
use Rattle.config_graph.specs.Kinds.{row}
use Rattle.config_graph.specs.declared.TheConstants.{VALUE_LIMIT}
use Rattle.config_graph.specs.declared.kind.Kind.{Kind}
use Rattle.config_graph.specs.declared.kind.Kind.TheVariants.{Source, Map, Buffer, Sink}
use Rattle.config_graph.specs.declared.node.Target.{Target}
use Rattle.component_trait.specs.Making.{argument_or_0}
use Rattle.component_trait.specs.States.{Kept, NodeState}
use Rattle.component_trait.specs.States as node
use Rattle.quiesce_word.proofs.PhaseLaws.{answered_busy}
use Rattle.quiesce_core.specs.Alters.{slot_next}
use Rattle.quiesce_core.specs.Doers.{is_of_change}
use Rattle.quiesce_core.specs.Legal.{Legal}
use Rattle.quiesce_core.specs.Runs.{IsRun, is_doer, state_after}
use Rattle.quiesce_core.specs.State.{Configuration, State, exchange, owner, service, slot}
use Rattle.quiesce_core.specs.declared.event.Event.{Event}
use Rattle.quiesce_core.specs.declared.event.Event.TheVariants.{Give, End, Make, Remove}
use Rattle.quiesce_core.specs.declared.state.Slot.{Slot}
use Rattle.quiesce_core.proofs.AlterLaws.{reconfigured}
use Rattle.quiesce_core.proofs.InductionLaws.{IsNext, place}
use Rattle.quiesce_core.proofs.RunLaws.{fronts_are_runs}
use Rattle.quiesce_core.proofs.StateLaws.{busy_made, taken_is}
use Rattle.report_types.specs.declared.report.HistoryLine.{HistoryLine}
use Rattle.report_types.specs.declared.report.HistoryLine.TheVariants as to
use Rattle.change_spec.specs.Members.{event_of}
use Rattle.change_round_laws.proofs.LineLaws.{changes}
use Rattle.change_round_laws.proofs.FoldLaws.{StatesAreHanded}
use Rattle.result_laws.specs.Coming.{HasFolds, come}
use Rattle.result_laws.proofs.ComingLaws.{facts, fits_of, fronts_fold}
use Rattle.result_laws.proofs.EventLaws.{led_to}
use Rattle.result_laws.proofs.FactLaws.{Facts, Fits}
use Rattle.result_laws.specs.Flows.{AddsNothing, KeepsWeight, is_of_flow, same_side}
use Rattle.result_laws.proofs.Asking.{asked, asked_in}
use Rattle.result_laws.proofs.FlowBooks.{Fair}
use Rattle.result_laws.proofs.Ports.{last_sent}
use Rattle.result_laws.proofs.Stepping.{served, settled_in, settles}
use Rattle.result_laws.proofs.Values.{Values, keep_values}
use Rattle.result_laws.proofs.Linking.{AllLinked}

-- no map changes what a value weighs
abbrev pub MapsKeep : (ℕ → ℕ) → Configuration → Type 0
MapsKeep weight c = (n : ℕ) (m : Slot) → slot c n ≡ Some m → m.node.kind ≡ Map → (v : ℕ) → v < VALUE_LIMIT → weight ((v + argument_or_0 m.node.arg) % VALUE_LIMIT) ≡ weight v

-- what is settled weighs what is asked
settles_asked : (weight : ℕ → ℕ) (k : Kind) (a : ℕ) (s : Kept) (o : Option node.Service) → is_of_flow k ≡ true → (k ≡ Map → weight ((option_map_or (λ (w : node.Service). w.value) o 0 + a) % VALUE_LIMIT) ≡ weight (option_map_or (λ (w : node.Service). w.value) o 0))
    → (k ≡ Sink → ⊥) → weight (settled_in k s o) ≡ weight (asked_in k a s o)
settles_asked weight Source a s o fl maps plain = refl
settles_asked weight Buffer a s o fl maps plain = refl
settles_asked weight Map a s o fl maps plain = sym (maps refl)
settles_asked weight Sink a s o fl maps plain = absurd (plain refl)
settles_asked weight _ a s o fl maps plain = absurd (both_ways false refl fl)

module _ (handed : StatesAreHanded) (weight : ℕ → ℕ) (es : List Event) (e : Event) (here : IsNext es e) (folds : HasFolds es) (was : Values es) (maps : MapsKeep weight (state_after es).config) where
  abbrev s : State
  s = state_after es

  now_facts : Facts s (come es)
  now_facts = facts handed es here.run folds

  fits : Fits s.config (come es)
  fits = fits_of handed es here.run folds

  -- what a node took up is a value
  served_small : (n : ℕ) → is_of_flow (come es n).kind ≡ true → served (come es n) < VALUE_LIMIT
  served_small n fl = by (come es n).service refl
    where
      by : (o : Option node.Service) → (come es n).service ≡ o → served (come es n) < VALUE_LIMIT
      by None is = subst (λ o. option_map_or (λ (w : node.Service). w.value) o 0 < VALUE_LIMIT) (sym is) (omega arith)
      by (Some w) is = let v = now_facts.served n w is in subst (λ x. x < VALUE_LIMIT) (sym (was.serving n v.0 fl v.1)) (was.small v.0.port)

  given : (p k v n : ℕ) → is_of_flow (come es n).kind ≡ true → e ≡ Give p k v → is_doer s n e ≡ true → weight (served (come es n)) ≡ weight (last_sent p es)
  given p k v n fl at does =
      let l = subst (Legal s) at here.legal in
      let w = taken_is s p l.taken in
      let led = led_to s (come es) (come es) now_facts p n (subst (λ z. is_doer s n z ≡ true) at does) in
      let there = ap (λ (y : Target). y.node) (same_Some w.to led.0 (sym w.leads ∙ led.1)) ∙ led.2 in
      ap weight (was.serving n w.serving fl (ap (service s) (sym there) ∙ w.serviced) ∙ ap (λ i. last_sent i es) w.of_port)

  ended : (p k v n : ℕ) → is_of_flow (come es n).kind ≡ true → e ≡ End p k v → is_doer s n e ≡ true → weight (settles (come es n)) ≡ weight (last_sent p es)
  ended p k v n fl at does =
      let l = subst (Legal s) at here.legal in
      let owned : owner s.config p ≡ n = eqb-true (owner s.config p) n (subst (λ z. is_doer s n z ≡ true) at does) in
      let busy = answered_busy (exchange s p).phase l.answered in
      let made = busy_made s p here.traffic busy in
      let of_n = here.well.sound.ports p made in
      let there : slot s.config n ≡ Some of_n.node = ap (slot s.config) (sym owned) ∙ of_n.made in
      let kind = fits.kinds n of_n.node there in
      settles_asked weight (come es n).kind (come es n).arg (come es n).kept (come es n).service fl
      (λ map. ap (λ a. weight ((served (come es n) + a) % VALUE_LIMIT)) (fits.args n of_n.node there) ∙ maps n of_n.node there (sym kind ∙ map) (served (come es n)) (served_small n fl))
      (λ sink. no_port p n of_n.node (sym kind ∙ sink) of_n.from of_n.below)
      ∙ ap weight (ap (λ i. asked (come es i)) (sym owned) ∙ was.asking p (ap (λ i. is_of_flow (come es i).kind) owned ∙ fl) busy)
    where
      no_port : (p n : ℕ) (m : Slot) → m.node.kind ≡ Sink → m.first_port ≤ p → p < m.first_port + length (row m.node.kind).requires_ → ⊥
      no_port p n m kind from below =
          let none_ : length (row m.node.kind).requires_ ≡ 0 = ap (λ k. length (row k).requires_) kind in omega (arith, from, below, none_)

  pub weighs : Fair weight es e
  weighs = record { given = given; ended = ended }

-- ---- no map made changes it, where no line makes one that does

abbrev pub KeepsIt : (ℕ → ℕ) → Event → Type 0
KeepsIt weight (Make k made from) = made.kind ≡ Map → (v : ℕ) → v < VALUE_LIMIT → weight ((v + argument_or_0 made.arg) % VALUE_LIMIT) ≡ weight v
KeepsIt weight _ = ⊤

abbrev KeepsIn : (ℕ → ℕ) → Slot → Type 0
KeepsIn weight x = x.node.kind ≡ Map → (v : ℕ) → v < VALUE_LIMIT → weight ((v + argument_or_0 x.node.arg) % VALUE_LIMIT) ≡ weight v

maps_next : (weight : ℕ → ℕ) (es : List Event) (e : Event) → IsNext es e → KeepsIt weight e → MapsKeep weight (state_after es).config → MapsKeep weight (state_after (es ++ e ∷ [])).config
maps_next weight es e here keeps maps n m there = by e refl keeps (sym ((reconfigured (state_after es) e here.legal).slots n) ∙ sym (ap (λ (x : State). slot x.config n) here.next) ∙ there)
  where
    removed : (b : Bool) (o : Option Slot) → slot (state_after es).config n ≡ o → cond b (option_map (λ (k : Slot). record k { live = false }) o) o ≡ Some m → KeepsIn weight m
    removed true None is h = absurd (none-some m h)
    removed false None is h = absurd (none-some m h)
    removed true (Some k) is h = subst (λ (x : Slot). KeepsIn weight x) (same_Some (record k { live = false }) m h) (maps n k is)
    removed false (Some k) is h = maps n m (is ∙ h)

    made_one : (b : Bool) (x : Slot) → KeepsIn weight x → cond b (Some x) (slot (state_after es).config n) ≡ Some m → KeepsIn weight m
    made_one true x k h = subst (λ (y : Slot). KeepsIn weight y) (same_Some x m h) k
    made_one false x k h = maps n m h

    by : (z : Event) → e ≡ z → KeepsIt weight z → slot_next (state_after es).config n e ≡ Some m → KeepsIn weight m
    by (Make k made from) at keep h =
        made_one (n == length (state_after es).config.slots) (record { node = made; first_port = length (state_after es).config.gates; from = from; live = true }) keep (sym (ap (slot_next (state_after es).config n) at) ∙ h)
    by (Remove k) at keep h = removed (n == k) (slot (state_after es).config n) refl (sym (ap (slot_next (state_after es).config n) at) ∙ h)
    by _ at keep h = maps n m (sym (ap (slot_next (state_after es).config n) at) ∙ h)

maps_from : (weight : ℕ → ℕ) (done_ rest : List Event) → IsRun (done_ ++ rest) → ((e : Event) → Contains rest e → KeepsIt weight e) → MapsKeep weight (state_after done_).config → MapsKeep weight (state_after (done_ ++ rest)).config
maps_from weight done_ [] run keeps maps = subst (λ xs. MapsKeep weight (state_after xs).config) (sym (append-nil done_)) maps
maps_from weight done_ (e ∷ rest) run keeps maps =
    let all = append_assoc done_ (e ∷ []) rest in
    let next = maps_next weight done_ e (place done_ rest e run) (keeps e (Contains-here e rest)) maps in
    subst (λ xs. MapsKeep weight (state_after xs).config) all (maps_from weight (done_ ++ e ∷ []) rest (subst (λ xs. IsRun xs) (sym all) run) (λ z there. keeps z (Contains-there e z rest there)) next)

-- ---- at each place of a run

module _ (handed : StatesAreHanded) (weight : ℕ → ℕ) (es : List Event) (run : IsRun es) (folds : HasFolds es) (apart : (before after : List Event) → es ≡ before ++ after → AllLinked same_side (state_after before).config) (keeps : (e : Event) → Contains es e → KeepsIt weight e) where
  pub weighs_at : (before after : List Event) (e : Event) → es ≡ before ++ e ∷ after → Fair weight before e
  weighs_at before after e parts =
      let run' : IsRun (before ++ e ∷ after) = subst (λ xs. IsRun xs) parts run in
      let folds' : HasFolds (before ++ e ∷ after) = subst (λ xs. HasFolds xs) parts folds in
      let front = fronts_are_runs before (e ∷ after) run' in
      let front_folds = fronts_fold handed before (e ∷ after) run' folds' in
      weighs handed weight before e (place before after e run') front_folds
      (keep_values handed before front front_folds (λ xs ys is. apart xs (ys ++ (e ∷ after)) (parts ∙ ap (λ zs. zs ++ (e ∷ after)) is ∙ append_assoc xs ys (e ∷ after))))
      (maps_from weight [] before front (λ z there. keeps z (subst (λ xs. Contains xs z) (sym parts) (Contains-append_left before (e ∷ after) z there))) (λ n m there. absurd (cc there)))

-- ---- by the lines of a history

pub lines_keep : (weight : ℕ → ℕ) (history : List HistoryLine) (es : List Event) → filter is_of_change es ≡ changes history → All (KeepsWeight weight) history → (e : Event) → Contains es e → KeepsIt weight e
lines_keep weight history es same all e there = by (is_of_change e) refl
  where
    of_line : (l : HistoryLine) (z : Event) → event_of l ≡ Some z → KeepsWeight weight l → KeepsIt weight z
    of_line (to.Make n made from) z is k = subst (KeepsIt weight) (same_Some (Make n made from) z is) k
    of_line (to.Link p n x) z is k = subst (KeepsIt weight) (same_Some _ z is) k
    of_line (to.Unlink p) z is k = subst (KeepsIt weight) (same_Some _ z is) k
    of_line (to.Remove n) z is k = subst (KeepsIt weight) (same_Some _ z is) k
    of_line (to.Close p) z is k = subst (KeepsIt weight) (same_Some _ z is) k
    of_line (to.Reopen p) z is k = subst (KeepsIt weight) (same_Some _ z is) k
    of_line _ z is k = absurd (none-some z is)

    of_node : (z : Event) → is_of_change z ≡ false → KeepsIt weight z
    of_node (Make k made from) h = absurd (both_ways true h refl)
    of_node _ h = tt

    by : (b : Bool) → is_of_change e ≡ b → KeepsIt weight e
    by true h =
        let at = subst (λ xs. Contains xs e) same (Contains-filter is_of_change es e there h) in
        let l = Contains-from_filter_map event_of history e at in of_line l.0 e l.2 (All-contains (KeepsWeight weight) history l.0 all l.1)
    by false h = of_node e h

-- where maps add nothing, each weight is kept
added_0 : (v a : ℕ) → a ≡ 0 → v < VALUE_LIMIT → (v + a) % VALUE_LIMIT ≡ v
added_0 v a h small = ap (λ x. (v + x) % VALUE_LIMIT) h ∙ omega (arith, small)

pub nothing_added : (weight : ℕ → ℕ) (history : List HistoryLine) → All AddsNothing history → All (KeepsWeight weight) history
nothing_added weight history all = All-weaker AddsNothing (KeepsWeight weight) by history all
  where
    by : (l : HistoryLine) → AddsNothing l → KeepsWeight weight l
    by (to.Make n made from) h = λ map v small. ap weight (added_0 v (argument_or_0 made.arg) (h map) small)
    by _ h = tt
