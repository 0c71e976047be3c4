-- From rest to a row: at a reopen the graph that stands is a row, and its source and sink are the ones made last.
use Rattle.std.proofs.Common.{◌≡◌, ◌∙◌, ℕ, ◌<◌, ◌≤◌, true, List, [], ◌∷◌, length, Option, Some, None, refl, sym, ap, subst, arith, inl, inr, ⊎_elim}
use Rattle.std.specs.Prelude.{◌⊎◌, Contains, IfSome, option_map, slice_get}
use Rattle.std.specs.Option.{option_map_or}
use Rattle.std.proofs.lemmas.Bool.{both_ways}
use Rattle.quiesce_word.specs.Phases.{is_idle}
use Rattle.quiesce_word.specs.declared.word.TheConstants.{LAST_SERIAL}
use Rattle.config_graph.specs.declared.TheConstants.{VALUE_LIMIT}
use Rattle.std.proofs.lemmas.Option.{same_Some}
use Rattle.base.proofs.ContainsLaws.{Contains-at, at_some_place}
use Rattle.base.proofs.OptionLaws.{map_or_true, option_map_some}
use Rattle.config_graph.specs.Graph.{Graph}
use Rattle.config_graph.specs.Kinds.{row}
use Rattle.config_graph.specs.declared.kind.Kind.{Kind}
use Rattle.config_graph.specs.declared.kind.Kind.TheVariants.{Map, Sink, Source}
use Rattle.config_graph.specs.declared.node.Node.{Node}
use Rattle.component_trait.specs.States.{NodeState}
use Rattle.quiesce_core.specs.Live.{IsGraphOf, StandsAt}
use Rattle.quiesce_core.specs.Runs.{IsRun, state_after}
use Rattle.quiesce_core.specs.State.{Configuration, State, exchange, is_live, owner, slot}
use Rattle.quiesce_core.specs.WellFormed.{IsSound}
use Rattle.quiesce_core.specs.declared.event.Event.{Event}
use Rattle.quiesce_core.specs.declared.state.Slot.{Slot}
use Rattle.quiesce_core.proofs.RunLaws.{nodes_are_named, runs_are_consistent, runs_are_well_formed}
use Rattle.quiesce_core.proofs.SameWiringLaws.{alive_if}
use Rattle.change_round_laws.proofs.FoldLaws.{StatesAreHanded}
use Rattle.result_laws.specs.Describing.{kind_at}
use Rattle.result_laws.specs.Rows.{IsRow, is_of_row}
use Rattle.result_laws.specs.Coming.{HasFolds, come}
use Rattle.result_laws.proofs.Ends.{OneEach}
use Rattle.result_laws.proofs.Passing.{Few, Stop, Way}
use Rattle.result_laws.proofs.ComingLaws.{fits_of}
use Rattle.result_laws.proofs.Resting.{InRow, Rest}
use Rattle.result_laws.proofs.Rounds.{resting}
use Rattle.result_laws.proofs.RowLinks.{on_map, on_source}
use Rattle.result_laws.proofs.RowSlots.{row_port, row_slot, slot_is}
use Rattle.result_laws.proofs.RowWays.{one_stand, sink_ends, ways}

record Ended (c : Configuration) (t : ℕ) : Type 0 where
  made : Slot
  there : slot c t ≡ Some made
  live : made.live ≡ true
  kind : made.node.kind ≡ Sink

-- how often each map on a way began a transaction, by what is known of each live map
few_there : (s : State) (f : ℕ → NodeState) → IsSound s.config → (k : ℕ) (ms : List Stop) (p t : ℕ) → Way s.config f p ms t
    → ((q : ℕ) → is_live s.config (owner s.config q) ≡ true → (f (owner s.config q)).kind ≡ Map → (exchange s q).serial ≤ k) → Few s k ms
few_there s f sound k [] p t w each = tt
few_there s f sound k (m ∷ ms) p t w each =
    let live = (sound.targets p (record { node = m.at; provide = 0 }) w.0.to.leads).live in
    (each m.port (ap (is_live s.config) w.0.owned ∙ live) (ap (λ i. (f i).kind) w.0.owned ∙ w.0.kind), few_there s f sound k ms m.port t w.1 each)

argument_small : {n : ℕ} (o : Option ℕ) → n ≡ option_map_or (λ a. a) o 0 → IfSome o (λ a. a < VALUE_LIMIT) → n ≤ LAST_SERIAL
argument_small None is h = omega (arith, is)
argument_small (Some a) is h = omega (arith, is, h)

-- the end of a way is a live sink
way_ends : (c : Configuration) (f : ℕ → NodeState) → IsSound c → (ms : List Stop) (p t : ℕ) → Way c f p ms t → Ended c t
way_ends c f sound [] p t w =
    let live = (sound.targets p (record { node = t; provide = 0 }) w.to.leads).live in
    let m = map_or_true (λ (x : Slot). x.live) (slot c t) live in
    record { made = w.to.made; there = w.to.there; live = ap (λ (x : Slot). x.live) (same_Some w.to.made m.0 (sym w.to.there ∙ m.1)) ∙ m.2; kind = w.to.kind }
way_ends c f sound (m ∷ ms) p t w = way_ends c f sound ms m.port t w.1

-- the slot in which a node of the graph stands
pub stand_of : (c : Configuration) (g : Graph) → IsGraphOf c g → (i : ℕ) (n : Node) → slice_get g.nodes i ≡ Some n → (k : ℕ) × StandsAt c g.nodes k i
stand_of c g is i n h =
    let l = (is.nodes_are n).0 (Contains-at g.nodes i n h) in
    (l.0, record { made = l.1.made; there = l.1.there; live = l.1.live; stands = h ∙ ap Some (sym l.1.is_node) })

module _ (handed : StatesAreHanded) (es : List Event) (run : IsRun es) (folds : HasFolds es) (past : List ℕ) (g : Graph) (is : IsGraphOf (state_after es).config g) (r : IsRow g) (one_source : OneEach Source es) (one_sink : OneEach Sink es) where
  pub rises : Rest es past → InRow es past
  rises rest =
      let c = (state_after es).config in
      let f = come es in
      let sound = (runs_are_well_formed es run).sound in
      let named = nodes_are_named es run in
      let alive = alive_if (state_after es) sound (runs_are_consistent es run) in
      let fits = fits_of handed es run folds in
      let node = option_map_some (λ (n : Node). n.kind) (slice_get g.nodes r.source) Source r.is_source in
      let src = stand_of c g is r.source node.0 node.1 in
      let a = src.0 in
      let at = src.1 in
      let kind : at.made.node.kind ≡ Source = same_Some at.made.node.kind Source (sym (ap (option_map (λ (x : Node). x.kind)) at.stands) ∙ r.is_source) in
      let one_ : length (row at.made.node.kind).requires_ ≡ 1 = ap (λ (k : Kind). length (row k).requires_) kind in
      let p = at.made.first_port in
      let ends_ = sink_ends c sound named alive.from f fits g is r in
      let w = ways c sound named alive.from f fits g is r r.maps r.source a p (on_source g r.sink ends_ r.source r.maps r.leads) at refl r.leads
      (λ m there. (on_map g r.sink ends_ r.source r.maps m r.leads there, ap (kind_at g) (sym there.2) ∙ r.are_maps there.0 m there.1)) in
      let owned : owner c p ≡ a = ap (owner c) (omega arith) ∙ (sound.rows a at.made at.there).owned 0 (omega (arith, one_)) in
      let end_ = way_ends c f sound w.stops p w.end_ w.way in
      let last_source = one_source a at.made at.there at.live kind in
      let last_sink = one_sink w.end_ end_.made end_.there end_.live end_.kind in
      let of_port : row_port c p ≡ true = ap (row_slot c) owned ∙ slot_is c a at.made at.there ∙ ap is_of_row kind in
      record {
        a = a;
        p = p;
        ms = w.stops;
        t = w.end_;
        row = record {
          src = record { made = at.made; there = at.there; first = refl; owned = owned; kind = fits.kinds a at.made at.there ∙ kind; small = argument_small at.made.node.arg (fits.args a at.made at.there) (named.arguments a at.made at.there).below };
          way = w.way;
          stands = resting (rest.still.idle p of_port) (sym (ap (λ o. option_map_or (λ a. (come es a).kept.count) o 0) last_source) ∙ rest.ends.count)
              (sym (ap (λ o. option_map_or (λ t. (come es t).kept.items) o []) last_sink) ∙ rest.ends.items)
              (few_there (state_after es) (come es) sound (length past) w.stops p w.end_ w.way rest.few);
        };
        source = last_source;
        sink = last_sink;
        nodes = λ n m there live of_row.
            let listed = at_some_place g.nodes m.node ((is.nodes_are m.node).1 (n, record { made = m; there = there; live = live; is_node = refl })) in
            let here : StandsAt c g.nodes n listed.0 = record { made = m; there = there; live = live; stands = listed.1 } in
            ⊎_elim
            (λ (s : listed.0 ≡ r.source). inl (one_stand c sound named alive.from f fits g is r n a r.source (subst (StandsAt c g.nodes n) s here) at))
            (λ (others : Contains r.maps listed.0 ⊎ (listed.0 ≡ r.sink)). inr (w.on_way n listed.0 here others))
            (r.no_others listed.0 m.node.kind (ap (option_map (λ (x : Node). x.kind)) listed.1) of_row);
        begun = λ busy. absurd (both_ways (is_idle (exchange (state_after es) p).phase) busy (rest.still.idle p of_port));
      }
